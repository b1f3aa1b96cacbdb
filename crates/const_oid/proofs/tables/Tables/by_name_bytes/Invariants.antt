use Rattle.std.proofs.Common.{◌≡◌, length}
use Rattle.std.specs.Prelude.{flat_map}
use Rattle.const_oid.specs.Rows.{led, rows_in, rows_of}
use Rattle.const_oid.proofs.tables.Tables.by_name_bytes.Given as goal

abbrev pub invariant-loop-left : goal.invariant-loop-left
invariant-loop-left l = led (flat_map rows_of l.left) l.name ≡ led (rows_in l.self) l.name

abbrev pub decreases-loop-left : goal.decreases-loop-left
decreases-loop-left l = length l.left
