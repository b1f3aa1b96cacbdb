use Rattle.std.proofs.Common.{◌≡◌, take}
use Rattle.std.proofs.lemmas.List.{take_all}
use Rattle.const_oid.specs.{Names.{sorted_entries_in, sorted_entries_of}, OidRef.ref_arcs}
use Rattle.const_oid.proofs.Nearest.{either, if_none, if_some, more_tables}
use Rattle.const_oid.proofs.tables.nearest_in.Goals as goal

pub loop-table-preserved : goal.loop-table-preserved
loop-table-preserved c =
    let l = c.loop-table in
    let arcs = ref_arcs c.args.oid in
    let entries = sorted_entries_of c.table-item.result in
    rw (more_tables c.args.tables.now l.table-index c.table-item.result c.loop-table-test.true c.table-item.is)
    (c.nearer-nearest.ensures arcs (sorted_entries_in (take l.table-index c.args.tables.now)) entries l.invariant
    (either entries arcs c.nearest.result c.nearest.ensures.found c.nearest.ensures.none))

pub returns-clause-found : goal.returns-clause-found
returns-clause-found c =
    let l = c.loop-table in
    let tables = c.args.tables.now in
    let all : take l.table-index tables ≡ tables = take_all l.table-index tables c.loop-table-test.false in
    if_some (sorted_entries_in tables) (ref_arcs c.args.oid) l.nearest (rw all at l.invariant)

pub returns-clause-none : goal.returns-clause-none
returns-clause-none c =
    let l = c.loop-table in
    let tables = c.args.tables.now in
    let all : take l.table-index tables ≡ tables = take_all l.table-index tables c.loop-table-test.false in
    if_none (sorted_entries_in tables) (ref_arcs c.args.oid) l.nearest (rw all at l.invariant)
