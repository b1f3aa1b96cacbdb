use Rattle.std.proofs.Common.{rules, arith}
use Rattle.std.proofs.lemmas.List.Sorted.{IsPartitionPoint-from_clause}
use Rattle.const_oid.proofs.SortedLists.{parted_as, cut_as, is_upto, upto_arcs, upto_same, cut_upto}
use Rattle.const_oid.proofs.search.end_of.Goals as goal

pub returns-clause-cut : goal.returns-clause-cut
returns-clause-cut g c = λ list.
    let octets_of = g.T.Contents.octets_of in
    let oid = c.args.oid.now in
    let items = c.args.items.now in
    let by_arcs = upto_arcs octets_of oid items list in
    let by_octets = is_upto octets_of oid items list in
    let same = upto_same octets_of oid items list in
    let parted = parted_as by_arcs by_octets items same (cut_upto octets_of oid items list) in
    let (early, late) = cut_as by_arcs by_octets items same _ c.partition_point.ensures.bound
    (IsPartitionPoint-from_clause by_octets items _ c.partition_point.ensures.partitioned parted (λ args result after called. search rules)) in
    (λ k below item found. grind (arith, early k below item found), λ k above within found. grind (arith, late k above within found))
