use Rattle.std.proofs.Common.{◌≡◌, ◌+◌}
use Rattle.const_oid.specs.Base128.{width}
use Rattle.const_oid.proofs.base128.count_group.Given as goal

abbrev pub invariant-loop-rest : goal.invariant-loop-rest
invariant-loop-rest l = l.end + width l.rest ≡ l.used + width l.number

abbrev pub decreases-loop-rest : goal.decreases-loop-rest
decreases-loop-rest l = l.rest
