use Rattle.std.proofs.Common.{length}
use Rattle.const_oid.specs.{OidRef.ref_arcs, Rows.rows_in, Tree.BeginsWith}
use Rattle.const_oid.proofs.NearestRows.{Comprises}
use Rattle.const_oid.proofs.tables.Tables.nearest.Given as goal

-- no row has a longer prefix
abbrev pub invariant-loop-entry : goal.invariant-loop-entry
invariant-loop-entry l = record {
  begins : BeginsWith (ref_arcs l.oid) (ref_arcs l.above);
  longest : Comprises (rows_in l.self) (ref_arcs l.oid) (ref_arcs l.above);
}

abbrev pub decreases-loop-entry : goal.decreases-loop-entry
decreases-loop-entry l = length (ref_arcs l.above)
