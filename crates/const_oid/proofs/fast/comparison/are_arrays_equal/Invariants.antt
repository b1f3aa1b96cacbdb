use Rattle.std.proofs.Common.{◌≡◌, ◌-◌, ◌<◌, length, take, IsTrue}
use Rattle.const_oid.proofs.fast.comparison.are_arrays_equal.Given as goal

abbrev pub invariant-loop-at : goal.invariant-loop-at
invariant-loop-at l = record {
  same : IsTrue l.same → take l.at l.a ≡ take l.at l.b;
  equal : l.a ≡ l.b → IsTrue l.same;
  within : l.at < length l.a;
}

abbrev pub decreases-loop-at : goal.decreases-loop-at
decreases-loop-at l = length l.a - l.at
