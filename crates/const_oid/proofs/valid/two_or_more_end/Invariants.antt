use Rattle.std.proofs.Common.{◌+◌, ◌≤◌, length, take, drop}
use Rattle.std.specs.List.{AllByRecursion}
use Rattle.const_oid.proofs.valid.two_or_more_end.Given as goal

-- the octets so far do not end the part
abbrev pub invariant-loop-len : goal.invariant-loop-len
invariant-loop-len l = (l.start + l.len ≤ length l.octets)
    × AllByRecursion (λ octet. 128 ≤ octet) (take l.len (drop l.start l.octets))
