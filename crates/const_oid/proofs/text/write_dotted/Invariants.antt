use Rattle.std.proofs.Common.{◌≡◌, ◌+◌, ◌++◌, length, take, drop}
use Rattle.const_oid.specs.Typed.{dotted}
use Rattle.const_oid.proofs.text.write_dotted.Given as goal

-- what is written, and the text of the arcs left, are the text of all
abbrev pub invariant-loop-arc : goal.invariant-loop-arc
invariant-loop-arc l = record {
  count : l.end + length (dotted l.arc-iterator) ≡ l.at + length (dotted l.fn.arcs);
  text : take l.end l.out ++ dotted l.arc-iterator ≡ take l.at l.fn.out ++ dotted l.fn.arcs;
  after : drop l.end l.out ≡ drop l.end l.fn.out;
}
