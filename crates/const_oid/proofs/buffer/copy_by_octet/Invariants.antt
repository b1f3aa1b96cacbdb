use Rattle.std.proofs.Common.{◌≡◌, ◌-◌, ◌≤◌, length, take, drop}
use Rattle.const_oid.proofs.buffer.copy_by_octet.Given as goal

abbrev pub invariant-loop-index : goal.invariant-loop-index
invariant-loop-index l = record {
  written : take l.index l.out ≡ take l.index l.octets;
  left : drop l.index l.out ≡ drop l.index l.initial.out;
  within : l.index ≤ length l.octets;
}

abbrev pub decreases-loop-index : goal.decreases-loop-index
decreases-loop-index l = length l.octets - l.index
