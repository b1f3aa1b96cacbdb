use Rattle.std.proofs.Common.{length, ◌-◌, ◌≡◌, ◌≤◌, Bool, true}
use denote.Param.Always.{always_mut}
use Rattle.std.specs.{Fn.ComputesKey, List.AllWithin, List.Sorted.IsPartitionedBy}
use Rattle.const_oid.proofs.fast.steps.gallop.Given as goal

abbrev pub invariant-loop-place : goal.invariant-loop-place
invariant-loop-place g l = record {
  callable : always_mut g.P.FnMut l.initial.test → always_mut g.P.FnMut l.test;
  inside : l.start ≤ length l.items;
  upto : l.start ≤ l.place;
  passed : (p : g.row.T.Denot → Bool) → ComputesKey g.P.FnMut p l.initial.test → ComputesKey g.P.FnMut p l.test
      × (IsPartitionedBy p l.items → AllWithin (λ item. p item ≡ true) l.items 0 l.start);
}

abbrev pub decreases-loop-place : goal.decreases-loop-place
decreases-loop-place g l = length l.items - l.place
