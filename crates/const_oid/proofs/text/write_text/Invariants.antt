use Rattle.std.proofs.Common.{false, ◌≡◌, ◌≤◌, ◌++◌, ◌∷◌, length, map, take, drop, None}
use Rattle.const_oid.specs.{Base128.value_of, Contents.{cut, later_fault, arcs_of_octets}}
use Rattle.const_oid.specs.{Identifier.max_arc, Text.text_of}
use Rattle.const_oid.proofs.Texts.{text_left}
use Rattle.const_oid.proofs.text.write_text.Given as goal

-- what is written, and the text of the arc and of those left, are the text of all
abbrev pub invariant-loop-rest : goal.invariant-loop-rest
invariant-loop-rest l = record {
  small : l.arc ≤ max_arc;
  valid : later_fault (cut l.rest) ≡ None;
  text : take l.at l.out ++ text_left false (l.arc ∷ map value_of (cut l.rest)) ≡ text_of (arcs_of_octets l.octets);
  within : l.at ≤ length l.out;
  after : drop l.at l.out ≡ drop l.at l.fn.out;
}

abbrev pub decreases-loop-rest : goal.decreases-loop-rest
decreases-loop-rest l = length (map value_of (cut l.rest))
