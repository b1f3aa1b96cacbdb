use Rattle.std.proofs.Common.{ap, sym, ◌∙◌}
use Rattle.std.specs.{Option.option_map}
use Rattle.const_oid.specs.{Names.{has_arcs, name_of}, OidRef.ref_arcs}
use Rattle.const_oid.proofs.{SortedLists.{find_none, find_some}, SortedNames.{slice_get_there, table_list}}
use Rattle.const_oid.proofs.db_sorted.SortedDatabase.by_oid.Goals as goal

pub returns-in_err-index : goal.returns-in_err-index
returns-in_err-index c =
    let entries = c.args.self.now.entries.now in
    let none = c.in_err-index.ensures.found (table_list entries c.args.self.now.sorted) in
    let found = find_none (has_arcs ref_arcs (ref_arcs c.args.oid.now)) entries none in
    c.from_residual.ensures ∙ sym (ap (option_map name_of) found)

pub returns : goal.returns
returns c =
    let entries = c.args.self.now.entries.now in
    let index = c.in_ok-index.index in
    let some = c.in_ok-index.ensures.found (table_list entries c.args.self.now.sorted) in
    let found = find_some (has_arcs ref_arcs (ref_arcs c.args.oid.now)) entries index some in
    let there = slice_get_there entries index c.index-self-index.result c.in_ok-index.ensures.within in
    sym (ap (option_map name_of) (found ∙ there))
