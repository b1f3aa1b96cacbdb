use Rattle.const_oid.specs.{Names.{IsNearest, sorted_entries_of}, OidRef.ref_arcs}
use Rattle.const_oid.proofs.SortedNames.{holds_there, table_list}
use Rattle.const_oid.proofs.db_sorted.SortedDatabase.nearest.Goals as goal

pub returns-in_err-index-clause-none : goal.returns-in_err-index-clause-none
returns-in_err-index-clause-none c =
    rw c.from_residual.ensures (c.in_err-index.ensures.none (table_list _ c.args.self.now.sorted))

pub returns-clause-found : goal.returns-clause-found
returns-clause-found c =
    let near = c.in_ok-index.ensures.found (table_list _ c.args.self.now.sorted) in
    holds_there (IsNearest (sorted_entries_of c.args.self.now) (ref_arcs c.args.oid)) c.args.self.now.entries.now c.in_ok-index.index _
    c.in_ok-index.ensures.within near
