use Rattle.std.proofs.Common.{◌≡◌, drop}
use Rattle.const_oid.specs.Contents.{cut}
use Rattle.const_oid.proofs.parts.skip_parts.Given as goal

abbrev pub invariant-loop-i : goal.invariant-loop-i
invariant-loop-i l = drop l.left (cut (drop l.i l.octets)) ≡ drop l.parts (cut l.octets)
