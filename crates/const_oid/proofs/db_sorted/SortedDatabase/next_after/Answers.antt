use Rattle.std.proofs.Common.{◌∙◌, sym, rules}
use Rattle.const_oid.specs.OidRef.{ref_arcs}
use Rattle.const_oid.proofs.SortedNames.{item_is, find_after, table_list}
use Rattle.const_oid.proofs.db_sorted.SortedDatabase.next_after.Goals as goal

pub returns : goal.returns
returns c =
    let entries = c.args.self.now.entries.now in
    let list = table_list entries c.args.self.now.sorted in
    item_is entries _ c.get.result (search rules)
    ∙ sym (find_after entries (ref_arcs c.args.oid.now) c.end_of.result (c.end_of.ensures.cut list))
