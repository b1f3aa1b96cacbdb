use Rattle.std.proofs.Common.{rules}
use Rattle.std.proofs.lemmas.List.Sorted.{IsPartitionPoint-from_clause}
use Rattle.const_oid.specs.{OidRef.ref_arcs, SortedList.item_arcs}
use Rattle.const_oid.proofs.{SortedLists.{parted_as, cut_as, is_early, early_same}, Subtree.{key_before, cut_before}}
use Rattle.const_oid.proofs.search.start_of.Goals as goal

pub returns-clause-cut : goal.returns-clause-cut
returns-clause-cut g c = λ list.
    let octets_of = g.T.Contents.octets_of in
    let oid = c.args.oid.now in
    let items = c.args.items.now in
    let by_arcs = key_before (item_arcs octets_of) (ref_arcs oid) in
    let by_octets = is_early octets_of oid items list in
    let same = early_same octets_of oid items list in
    let parted = parted_as by_arcs by_octets items same (cut_before (item_arcs octets_of) items list.sorted (ref_arcs oid)) in
    cut_as by_arcs by_octets items same _ c.partition_point.ensures.bound
    (IsPartitionPoint-from_clause by_octets items _ c.partition_point.ensures.partitioned parted (λ args result after called. search rules))
