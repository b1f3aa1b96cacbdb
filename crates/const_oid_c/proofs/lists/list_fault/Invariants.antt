use Rattle.std.proofs.Common.{◌≡◌, ◌-◌, ◌<◌, [], drop, get_or, nat_cmp}
use Rattle.std.specs.{Cmp.Lexicographic.slice_cmp, List.AllWithin, List.Sorted.IsSortedWithin, Ordering.is_lt}
use Rattle.const_oid.specs.{Identifier.{root_rule, IsEncoding}, SortedList.item_arcs}
use Rattle.const_oid_c.specs.{declared.lists.Octets.Octets, Lists.{arcs_before, octets_at, list_fault}}
use Rattle.const_oid_c.proofs.lists.list_fault.Given as goal

-- what is wrong with the rest is what is wrong with the list, which is valid and sorted so far
abbrev pub invariant-loop-index : goal.invariant-loop-index
invariant-loop-index l = record {
  status : list_fault l.index (arcs_before l.before) (drop l.index l.items) ≡ list_fault 0 [] l.items;
  valid : AllWithin (λ item. IsEncoding root_rule (item_arcs octets_at item) (octets_at item)) l.items 0 l.index;
  sorted : IsSortedWithin (λ item other. is_lt (slice_cmp nat_cmp (item_arcs octets_at item) (item_arcs octets_at other))) l.items 0 l.index;
  first : l.index ≡ 0 → arcs_before l.before ≡ [];
  last : (item : Octets) → 0 < l.index → item_arcs octets_at (get_or l.items (l.index - 1) item) ≡ arcs_before l.before;
}
