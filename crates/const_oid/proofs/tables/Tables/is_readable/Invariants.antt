use Rattle.std.proofs.Common.{All, take}
use Rattle.const_oid.specs.Rows.{rows_in, rows_of}
use Rattle.const_oid.specs.Typed.{ArePlain}
use Rattle.const_oid.proofs.tables.Tables.is_readable.Given as goal

abbrev pub invariant-loop-table : goal.invariant-loop-table
invariant-loop-table l = All (λ table. ArePlain (rows_in l.self) (rows_of table)) (take l.table-index l.self.0.now)
