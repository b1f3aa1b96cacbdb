use Rattle.std.proofs.Common.{◌≡◌, ◌-◌, ◌≤◌}
use Rattle.const_oid.specs.Private.Octets.{lens_cmp}
use Rattle.const_oid.proofs.compare.order_of_lens.Given as goal

abbrev pub invariant-loop-index : goal.invariant-loop-index
invariant-loop-index l =
    record { same : lens_cmp l.start l.a l.b ≡ lens_cmp l.index l.a l.b; within : l.index ≤ l.min_len }

abbrev pub decreases-loop-index : goal.decreases-loop-index
decreases-loop-index l = l.min_len - l.index
