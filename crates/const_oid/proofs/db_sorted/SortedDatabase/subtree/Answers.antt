use Rattle.const_oid.specs.OidRef.{ref_arcs}
use Rattle.const_oid.proofs.SortedNames.{subtree_is, table_list}
use Rattle.const_oid.proofs.db_sorted.SortedDatabase.subtree.Goals as goal

pub returns : goal.returns
returns c =
    let range = c.subtree_of-start.ensures in
    let list = table_list _ c.args.self.now.sorted in
    subtree_is _ (ref_arcs c.args.oid.now) _ _ range.bounds.0 range.bounds.1 (range.inside list)
