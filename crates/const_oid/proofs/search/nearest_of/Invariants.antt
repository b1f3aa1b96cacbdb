use Rattle.std.proofs.Common.{◌≡◌, None, length, ◌≤◌}
use Rattle.std.specs.List.{position}
use Rattle.const_oid.specs.{OidRef.ref_arcs, SortedList.{IsSortedList, IsStart, has_item_arcs}}
use Rattle.const_oid.proofs.SortedLists.{IsReached}
use Rattle.const_oid.proofs.search.nearest_of.Given as goal

abbrev pub invariant-loop-last : goal.invariant-loop-last
invariant-loop-last g l = record {
  inside : l.start ≤ length l.items;
  reached : IsSortedList g.T.Contents.octets_of l.items
      → IsReached g.T.Contents.octets_of l.items (ref_arcs l.fn.oid) (ref_arcs l.above);
  cut : IsSortedList g.T.Contents.octets_of l.items
      → IsStart g.T.Contents.octets_of l.items (ref_arcs l.above) l.start;
  absent : IsSortedList g.T.Contents.octets_of l.items
      → None ≡ position (has_item_arcs g.T.Contents.octets_of (ref_arcs l.above)) l.items;
}

abbrev pub decreases-loop-last : goal.decreases-loop-last
decreases-loop-last g l = l.start
