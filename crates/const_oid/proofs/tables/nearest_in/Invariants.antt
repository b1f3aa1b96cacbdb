use Rattle.std.proofs.Common.{take}
use Rattle.const_oid.specs.{Names.sorted_entries_in, OidRef.ref_arcs, Private.Nearest.IsNearestOrNone}
use Rattle.const_oid.proofs.tables.nearest_in.Given as goal

abbrev pub invariant-loop-table : goal.invariant-loop-table
invariant-loop-table l = IsNearestOrNone (sorted_entries_in (take l.table-index l.tables)) (ref_arcs l.oid) l.nearest
