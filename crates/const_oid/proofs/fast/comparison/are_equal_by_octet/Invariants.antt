use Rattle.std.proofs.Common.{◌≡◌, ◌≤◌, length, drop}
use Rattle.const_oid.proofs.fast.comparison.are_equal_by_octet.Given as goal

abbrev pub invariant-loop-left : goal.invariant-loop-left
invariant-loop-left l = record { same : drop l.left l.a ≡ drop l.left l.b; within : l.left ≤ length l.a }

abbrev pub decreases-loop-left : goal.decreases-loop-left
decreases-loop-left l = l.left
