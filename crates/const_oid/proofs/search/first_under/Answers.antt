use Rattle.std.proofs.Common.{◌-◌, arith, rules}
use Rattle.std.proofs.lemmas.{Bool.Decides.nat_tests, List.{get_or_read, length-take}}
use Rattle.std.proofs.lemmas.List.Sorted.{IsPartitionPoint-from_clause}
use Rattle.const_oid.proofs.BeginsWith.{tells_under}
use Rattle.const_oid.specs.OidRef.{ref_octets}
use Rattle.const_oid.proofs.SortedLists.{is_outside, parted_outside, start_outside, start_at_last, tells_outside}
use Rattle.const_oid.proofs.search.first_under.Goals.{then-last-eq0-via-then-last-eq0, then-last-eq0-via-else-last-eq0+then-not-is_under}
use Rattle.const_oid.proofs.search.first_under.Goals as goal

pub returns-then-last-eq0-clause-cut : goal.returns-then-last-eq0-clause-cut
returns-then-last-eq0-clause-cut g c = λ list under.
    let octets_of = g.T.Contents.octets_of in
    start_at_last octets_of c.args.oid.now c.args.items.now list c.args.last c.requires under
    (λ some default. elim c.then-last-eq0.branch [
      | then-last-eq0-via-then-last-eq0 w ↦ absurd (omega arith)
      | then-last-eq0-via-else-last-eq0+then-not-is_under w ↦
          let before = w.index-items-last in
          let told = tells_under (ref_octets c.args.oid.now) (octets_of before.result) w.is_under.result w.is_under.ensures in
          let read = get_or_read c.args.items.now (c.args.last - 1) before.result (omega arith) before.is default in
          grind (arith, nat_tests, told, read)
    ])

pub returns-clause-cut : goal.returns-clause-cut
returns-clause-cut g c = λ list under.
    let octets_of = g.T.Contents.octets_of in
    let oid = c.args.oid.now in
    let items = c.args.items.now in
    let by_octets = is_outside octets_of oid items list in
    let parted = parted_outside octets_of oid items list c.args.last c.requires under in
    start_outside octets_of oid items list c.args.last c.requires under _ (omega (arith, length-take c.args.last items))
    (IsPartitionPoint-from_clause by_octets _ _ c.partition_point.ensures.partitioned parted
    (λ args result after called. (tells_outside (ref_octets oid) (octets_of args.0.now) result (search rules), search rules)))
