use Rattle.std.proofs.Common.{◌∷◌}
use Rattle.const_oid.proofs.Appended.{IsGivenTo}
use Rattle.const_oid.proofs.encoder.encode_inlined.Given as goal

abbrev pub invariant-loop-arc : goal.invariant-loop-arc
invariant-loop-arc g l = IsGivenTo l.capacity l.fn.out l.out l.used (l.first ∷ l.second ∷ l.yielded)
