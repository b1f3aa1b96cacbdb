use Rattle.std.proofs.Common.{◌≡◌, length}
use Rattle.std.specs.Prelude.{flat_map}
use Rattle.const_oid.specs.{Oid.oid_arcs, Rows.{named, rows_in, rows_of}}
use Rattle.const_oid.proofs.tables.Tables.entry_of.Given as goal

abbrev pub invariant-loop-left : goal.invariant-loop-left
invariant-loop-left l = named (flat_map rows_of l.left) (oid_arcs l.oid) ≡ named (rows_in l.self) (oid_arcs l.oid)

abbrev pub decreases-loop-left : goal.decreases-loop-left
decreases-loop-left l = length l.left
