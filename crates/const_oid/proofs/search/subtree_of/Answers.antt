use Rattle.std.proofs.Common.{drop, rules}
use Rattle.std.proofs.lemmas.{List.take_rest, List.Sorted.IsPartitionPoint-from_clause}
use Rattle.const_oid.proofs.BeginsWith.{tells_under}
use Rattle.const_oid.specs.{OidRef.{ref_arcs, ref_octets}, SortedList.item_arcs}
use Rattle.const_oid.proofs.SortedLists.{parted_as, cut_as, is_inside, inside_same, range_is}
use Rattle.const_oid.proofs.Subtree.{key_before, key_under, cut_after, point_is_count}
use Rattle.const_oid.proofs.search.subtree_of.Goals as goal

pub returns-clause-start : goal.returns-clause-start
returns-clause-start g c = λ list.
    let start = c.start_of-start.ensures in
    point_is_count (key_before (item_arcs g.T.Contents.octets_of) (ref_arcs c.args.oid.now)) c.args.items.now _ start.within (start.cut list)

pub returns-clause-inside : goal.returns-clause-inside
returns-clause-inside g c = λ list.
    let octets_of = g.T.Contents.octets_of in
    let oid = c.args.oid.now in
    let items = c.args.items.now in
    let from = c.start_of-start.result in
    let first = c.start_of-start.ensures.cut list in
    let by_arcs = key_under (item_arcs octets_of) (ref_arcs oid) in
    let by_octets = is_inside octets_of oid items list in
    let same = inside_same octets_of oid items list from in
    let parted = parted_as by_arcs by_octets (drop from items) same (cut_after (item_arcs octets_of) items list.sorted (ref_arcs oid) from first) in
    let bound = rw (take_rest items from) at c.gallop-len.ensures.within in
    let rest = rw (take_rest items from) at c.gallop-len.ensures.cut in
    let second = cut_as by_arcs by_octets (drop from items) same _ bound
    (IsPartitionPoint-from_clause by_octets (drop from items) _ rest parted
    (λ args result after called. (tells_under (ref_octets oid) (octets_of args.0.now) result (search rules), search rules))) in
    range_is octets_of oid items list from _ first second
