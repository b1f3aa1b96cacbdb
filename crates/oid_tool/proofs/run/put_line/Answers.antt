use Rattle.oid_tool.proofs.Output.{written_joined}
use Rattle.oid_tool.proofs.run.put_line.Goals as goal

pub returns : goal.returns
returns c = written_joined _ _ _ c.in_ok-at.ensures c.in_ok-len.ensures
