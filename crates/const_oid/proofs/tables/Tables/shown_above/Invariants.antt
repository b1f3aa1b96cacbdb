use Rattle.std.proofs.Common.{◌≡◌, length}
use Rattle.const_oid.specs.{OidRef.{ref_arcs, ref_octets}, Tree.BeginsWith, Rows.rows_in, Typed.{displayed, displayed_up_to}}
use Rattle.const_oid.proofs.tables.Tables.shown_above.Given as goal

-- no longer prefix has a name that is shown
abbrev pub invariant-loop-above : goal.invariant-loop-above
invariant-loop-above l = record {
  begins : BeginsWith (ref_octets l.oid) (ref_octets l.prefix);
  arcs : BeginsWith (ref_arcs l.oid) (ref_arcs l.prefix);
  shorter : displayed (rows_in l.self) (ref_arcs l.oid) ≡ displayed_up_to (rows_in l.self) (ref_arcs l.oid) (length (ref_arcs l.prefix));
}

abbrev pub decreases-loop-above : goal.decreases-loop-above
decreases-loop-above l = length (ref_arcs l.prefix)
