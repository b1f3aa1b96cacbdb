use Rattle.std.proofs.Common.{refl}
use Rattle.const_oid.proofs.PlainNames.{all_fronts}
use Rattle.const_oid.proofs.tables.Tables.has_no_front.Goals as goal

pub returns : goal.returns
returns c = (λ _. all_fronts _ _ _ c.loop-end-test.false c.loop-end.invariant, λ _. refl)
