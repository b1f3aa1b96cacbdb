use Rattle.std.proofs.Common.{arith}
use Rattle.std.proofs.lemmas.{Bool.Decides.Decides-eqb, Slice.Eq.slice_eq-Decides, Grind.common_steps}
use Rattle.const_oid.proofs.ByWords.{whole_eq}
use Rattle.const_oid.proofs.buffer.Buffer.eq.Goals as goal

pub returns-then-self-rhs-clause-value : goal.returns-then-self-rhs-clause-value
returns-then-self-rhs-clause-value g c = grind (arith, whole_eq)

pub returns-then-self-rhs-clause-meaning : goal.returns-then-self-rhs-clause-meaning
returns-then-self-rhs-clause-meaning g c = slice_eq-Decides Decides-eqb _ _ _ (returns-then-self-rhs-clause-value g c)

pub returns-else-self-rhs-clause-value : goal.returns-else-self-rhs-clause-value
returns-else-self-rhs-clause-value g c = grind (arith, common_steps)

pub returns-else-self-rhs-clause-meaning : goal.returns-else-self-rhs-clause-meaning
returns-else-self-rhs-clause-meaning g c = slice_eq-Decides Decides-eqb _ _ _ (returns-else-self-rhs-clause-value g c)
