use Rattle.std.proofs.Common.{◌≡◌, ◌+◌, ◌-◌, ◌≤◌, length, drop}
use Rattle.const_oid.specs.Private.Octets.{ArePlain}
use Rattle.const_oid.proofs.fast.windows.first_odd.Given as goal

-- the octets are plain up to the fourth that is left
abbrev pub invariant-loop-rest : goal.invariant-loop-rest
invariant-loop-rest l = record {
  left : l.rest ≡ drop (length l.octets - length l.rest) l.octets;
  some : 3 ≤ length l.rest;
  fewer : length l.rest ≤ length l.octets;
  plain : ArePlain l.octets 0 (length l.octets - length l.rest + 3);
}

abbrev pub decreases-loop-rest : goal.decreases-loop-rest
decreases-loop-rest l = length l.rest
