use Rattle.std.proofs.Common.{◌≡◌, ◌-◌, ◌≤◌, length}
use Rattle.const_oid.specs.Private.Octets.{fault_at}
use Rattle.const_oid.proofs.valid.check_by_octet.Given as goal

-- the parts that are left have the fault of all from the start
abbrev pub invariant-loop-at : goal.invariant-loop-at
invariant-loop-at l = (l.at ≤ length l.octets) × (fault_at l.octets l.at ≡ fault_at l.octets l.fn.start)

abbrev pub decreases-loop-at : goal.decreases-loop-at
decreases-loop-at l = length l.octets - l.at
