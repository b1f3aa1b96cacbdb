use Rattle.std.proofs.Common.{drop, rules}
use Rattle.std.proofs.lemmas.{List.take_rest, List.Sorted.IsPartitionPoint-from_clause}
use Rattle.const_oid.specs.OidRef.{ref_octets}
use Rattle.const_oid.proofs.Subtree.{key_before, key_under, cut_before, cut_after, point_is_count, range_between}
use Rattle.const_oid.proofs.oid_ref.ObjectIdentifierRef.subtree.Goals as goal

pub returns : goal.returns
returns c =
    let sorted = c.args.sorted.now in
    let prefix = ref_octets c.args.self.now in
    let point = c.partition_point-start in
    let cut = cut_before ref_octets sorted c.requires prefix in
    let first = IsPartitionPoint-from_clause (key_before ref_octets prefix) sorted _ point.ensures.partitioned cut
    (λ args result after called. search rules) in
    let rest = rw (take_rest sorted point.result) at c.gallop-len.ensures.cut in
    let cut = cut_after ref_octets sorted c.requires prefix point.result first in
    let second = IsPartitionPoint-from_clause (key_under ref_octets prefix) (drop point.result sorted) _ rest cut
    (λ args result after called. search rules) in
    record {
      bounds = search rules;
      start = point_is_count (key_before ref_octets prefix) sorted _ point.ensures.bound first;
      inside = range_between c.args.self.now sorted point.result _ first second;
    }
