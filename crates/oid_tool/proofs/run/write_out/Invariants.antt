use Rattle.std.proofs.Common.{length}
use Rattle.oid_tool.proofs.Output.{AppendsAllBut}
use Rattle.oid_tool.proofs.run.write_out.Given as goal

abbrev pub invariant-loop-rest : goal.invariant-loop-rest
invariant-loop-rest g l =
    AppendsAllBut (g.W.Write.contents l.initial.output) (g.W.Write.contents l.output) l.rest l.bytes

abbrev pub decreases-loop-rest : goal.decreases-loop-rest
decreases-loop-rest g l = length l.rest
