use Rattle.std.proofs.Common.{ap, arith}
use Rattle.std.proofs.lemmas.Grind.{common_steps}
use Rattle.oid_tool.specs.Results.{parent_line, text_or_none}
use Rattle.oid_tool.proofs.Lines.{lines_read}
use Rattle.oid_tool.proofs.command.parent.Goals as goal

pub returns-in-Some : goal.returns-in-Some
unfolding parent_line
returns-in-Some c =
    let line = ap text_or_none c.in-Some.ensures in
    grind (arith, common_steps, lines_read)
