use Rattle.std.proofs.Common.{◌≡◌, ◌+◌, ◌≤◌, length}
use Rattle.const_oid.specs.Private.Text.{arcs_text}
use Rattle.const_oid.proofs.text.text_len.Given as goal

-- what is taken off the limit is the length of what is passed
abbrev pub invariant-loop-arc : goal.invariant-loop-arc
invariant-loop-arc l = record {
  passed : l.left + length (arcs_text l.are_first l.fn.arcs) ≡ l.limit + length (arcs_text l.is_first l.arc-iterator);
  within : l.left ≤ l.limit;
}
