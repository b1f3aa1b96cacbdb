use Rattle.oid_tool.proofs.Names.{name_line_resolved}
use Rattle.oid_tool.proofs.command.name.Goals as goal

pub returns-in-Ok-resolve : goal.returns-in-Ok-resolve
returns-in-Ok-resolve c =
    let (same, utf8) = c.in-Ok.ensures.cases in
    let line = name_line_resolved c.args.table.entries.now c.in-Ok.text _ same utf8 in
    rw (← line, ← c.in-Ok-resolve.ensures) (rw c.as_bytes.ensures.value at c.put-in-Ok-resolve.ensures)

pub returns-in-Err : goal.returns-in-Err
returns-in-Err c =
    let (same, utf8) = c.in-Ok.ensures.cases in
    let line = name_line_resolved c.args.table.entries.now c.in-Ok.text _ same utf8 in
    rw (← line, ← c.in-Err.ensures) c.put_error.ensures
