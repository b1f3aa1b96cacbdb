use Rattle.std.proofs.Common.{◌≡◌, ◌+◌, ◌≤◌, ◌++◌, length, map, take, drop}
use Rattle.const_oid.specs.{Base128.value_of, Contents.{cut, later_fault, parts_fault, arcs_of_octets}}
use Rattle.const_oid.specs.{Identifier.{root_rule}}
use Rattle.const_oid.proofs.outputs.write_arcs.Given as goal

-- the rest has the fault of the whole; what is written, and the arcs of the rest, are all arcs
abbrev pub invariant-loop-rest : goal.invariant-loop-rest
invariant-loop-rest l = record {
  fault : later_fault (cut l.rest) ≡ parts_fault root_rule (cut l.ber);
  arcs : take l.len l.out ++ map value_of (cut l.rest) ≡ arcs_of_octets l.ber;
  after : drop l.len l.out ≡ drop l.len l.fn.out;
  room : l.len + length l.rest ≤ length l.ber + 1;
}

abbrev pub decreases-loop-rest : goal.decreases-loop-rest
decreases-loop-rest l = length l.rest
