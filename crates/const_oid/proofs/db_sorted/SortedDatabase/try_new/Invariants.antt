use Rattle.std.proofs.Common.{◌-◌, ◌<◌, length}
use Rattle.std.specs.{Cmp.Lexicographic.slice_cmp, Ordering.{nat_cmp, is_lt}, List.Sorted.IsSortedWithin}
use Rattle.const_oid.specs.Names.{entry_arcs}
use Rattle.const_oid.proofs.db_sorted.SortedDatabase.try_new.Given as goal

abbrev pub invariant-loop-index : goal.invariant-loop-index
invariant-loop-index l = record {
  positive : 0 < l.index;
  sorted : IsSortedWithin (λ x y. is_lt (slice_cmp nat_cmp (entry_arcs x) (entry_arcs y))) l.entries 0 l.index;
}

abbrev pub decreases-loop-index : goal.decreases-loop-index
decreases-loop-index l = length l.entries - l.index
