use Rattle.std.proofs.Common.{arith}
use Rattle.const_oid.proofs.Groups.{width_on}
use Rattle.const_oid.proofs.base128.count_group.Goals as goal

pub loop-rest-preserved : goal.loop-rest-preserved
loop-rest-preserved c = omega (arith, c.loop-rest.invariant, width_on c.loop-rest.rest (omega arith))
