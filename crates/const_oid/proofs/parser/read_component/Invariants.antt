use Rattle.std.proofs.Common.{length, ◌-◌, ◌≤◌}
use Rattle.const_oid.specs.Identifier.{max_arc}
use Rattle.const_oid.proofs.Components.{AreDigits}
use Rattle.const_oid.proofs.parser.read_component.Given as goal

abbrev pub invariant-loop-index : goal.invariant-loop-index
invariant-loop-index l = AreDigits l.text l.start l.number l.index × (l.number ≤ max_arc)

abbrev pub decreases-loop-index : goal.decreases-loop-index
decreases-loop-index l = length l.text - l.index
