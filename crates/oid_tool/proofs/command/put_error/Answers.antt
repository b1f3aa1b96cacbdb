use Rattle.std.specs.Prelude.{codes}
use Rattle.oid_tool.proofs.Output.{written_joined}
use Rattle.oid_tool.proofs.command.put_error.Goals as goal

pub returns : goal.returns
returns c = written_joined (codes "error: ") _ c.args.out.now c.in_ok-at.ensures c.in_ok-len.ensures.written
