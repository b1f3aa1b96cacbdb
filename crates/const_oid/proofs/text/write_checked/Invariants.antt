use Rattle.std.proofs.Common.{false, ◌≡◌, ◌+◌, ◌*◌, ◌≤◌, ◌++◌, length, map, take, drop}
use Rattle.const_oid.specs.{Base128.value_of, Contents.{cut, later_fault, parts_fault, arcs_of_octets}}
use Rattle.const_oid.specs.{Identifier.root_rule, Text.text_of}
use Rattle.const_oid.proofs.Texts.{text_left}
use Rattle.const_oid.proofs.text.write_checked.Given as goal

-- the rest has the fault of the whole; what is written, and the text of the rest, are the text of all
abbrev pub invariant-loop-rest : goal.invariant-loop-rest
invariant-loop-rest l = record {
  fault : later_fault (cut l.rest) ≡ parts_fault root_rule (cut l.octets);
  text : take l.at l.out ++ text_left false (map value_of (cut l.rest)) ≡ text_of (arcs_of_octets l.octets);
  after : drop l.at l.out ≡ drop l.at l.fn.out;
  room : l.at + 4 * length l.rest ≤ 4 * length l.octets;
}

abbrev pub decreases-loop-rest : goal.decreases-loop-rest
decreases-loop-rest l = length l.rest
