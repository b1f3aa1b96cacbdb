use Rattle.std.proofs.Common.{◌≡◌, ◌+◌, ◌≤◌, length, count_by, nat_lt}
use Rattle.const_oid.proofs.fast.lanes.count_by_32.Given as goal

abbrev pub invariant-loop-rest : goal.invariant-loop-rest
invariant-loop-rest l = record {
  counted : l.count + count_by (λ x. nat_lt x l.limit) l.rest ≡ count_by (λ x. nat_lt x l.limit) l.octets;
  fits : l.count + length l.rest ≤ length l.octets;
}

abbrev pub decreases-loop-rest : goal.decreases-loop-rest
decreases-loop-rest l = length l.rest
