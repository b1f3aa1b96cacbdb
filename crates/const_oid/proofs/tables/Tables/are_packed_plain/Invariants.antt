use Rattle.std.proofs.Common.{All, take}
use Rattle.const_oid.specs.{Rows.{row_name, rows_in}, Typed.IsPlain}
use Rattle.const_oid.proofs.tables.Tables.are_packed_plain.Given as goal

abbrev pub invariant-loop-row : goal.invariant-loop-row
invariant-loop-row l = All (λ row. IsPlain (rows_in l.self) (row_name l.table row)) (take l.row-index l.table.rows.now)
