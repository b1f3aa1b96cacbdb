use Rattle.std.proofs.Common.{Bool, rules, ◌≡◌, ◌≢◌, ◌<◌, ◌≤◌, ℕ, true, false, List, length, slice_index_or, Option}
use Rattle.std.proofs.Common.{Some, None, IfSome, IfNone, MatchOption, Bor, Less, sym, arith, ⊎_elim}
use Rattle.std.specs.{Cmp.Lexicographic.slice_cmp, List.{All, HoldsAt}, List.Sorted.{IsSortedByKey, IsPartitionedBy}}
use Rattle.std.specs.Ordering.{nat_cmp, is_lt, is_le}
use Rattle.std.proofs.lemmas.{Bool.cases_lt, Cmp.{nat_list_cmp_total, upto}}
use Rattle.std.proofs.lemmas.List.Sorted.{IsPartitionPoint-from_clause, sorted_far, ranks_by}
use Rattle.const_oid.specs.{OidRef.{key_arcs, ref_arcs}, declared.by_arcs.ByArcs.ByArcs}
use Rattle.const_oid.proofs.{BeginsWith.not_greater, Subtree.IsCut}
use Rattle.examples.specs.Walk.{IsNext}
use Rattle.examples.proofs.walk.next_after.Goals as goal

-- a list is up to arcs, or after them
upto_arcs : (arcs xs : List ℕ) → is_le (slice_cmp nat_cmp xs arcs) ≡ true → slice_cmp nat_cmp arcs xs ≢ Less
upto_arcs arcs xs t after = grind (arith, nat_list_cmp_total.antisymm xs arcs)

past_arcs : (arcs xs : List ℕ) → is_le (slice_cmp nat_cmp xs arcs) ≡ false → slice_cmp nat_cmp arcs xs ≡ Less
past_arcs arcs xs f = grind (arith, nat_list_cmp_total.antisymm arcs xs)

-- what is not after a list that is up to arcs is up to them
down : (arcs x z : List ℕ) → is_lt (slice_cmp nat_cmp z x) ≡ false → is_le (slice_cmp nat_cmp z arcs) ≡ true
    → is_le (slice_cmp nat_cmp x arcs) ≡ true
down arcs x z level t = grind (arith, upto nat_list_cmp_total x z arcs, nat_list_cmp_total.antisymm x z)

module _ (keys : List ByArcs) (arcs : List ℕ) (up : IsSortedByKey key_arcs (slice_cmp nat_cmp) keys) where
  abbrev is_upto : ByArcs → Bool
  is_upto key = is_le (slice_cmp nat_cmp (key_arcs key) arcs)

  far : (i j : ℕ) (d : ByArcs) → i ≤ j → j < length keys
      → is_lt (slice_cmp nat_cmp (key_arcs (slice_index_or keys j d)) (key_arcs (slice_index_or keys i d))) ≡ false
  far = sorted_far _ (ranks_by nat_list_cmp_total key_arcs) keys up

  partitioned : IsPartitionedBy is_upto keys
  partitioned i j d le l = down arcs _ _ (far i j d le l)

  module _ (index : ℕ) (cut : IsCut is_upto keys index) where
    -- the key at the index is the next one after the arcs
    at_index : (next : ByArcs) → index < length keys → HoldsAt (λ key. next ≡ key) keys index → IsNext keys arcs next
    at_index next inside is = record {
      inside = (index, inside, sym (is next));
      after = rw (is next) (past_arcs arcs _ (cut.1 index next (omega arith) inside));
      nearest = λ k default below after. ⊎_elim
          (λ (early : k < index). absurd (upto_arcs arcs _ (cut.0 k default (omega arith) early) after))
          (λ (from : index ≤ k).
          let level = far index k default from below in
          rw (is default)
          (not_greater (key_arcs (slice_index_or keys index default)) (key_arcs (slice_index_or keys k default)) level))
          (cases_lt k index);
    }

    -- what the list has at the index is the next key, or no key is after the arcs
    answered : (next : Option (Bor ByArcs))
        → MatchOption next (length keys ≤ index)
        (λ key. (index < length keys) × HoldsAt (λ other. key.now ≡ other) keys index)
        → IfSome next (λ key. IsNext keys arcs key.now)
        × IfNone next (All (λ key. slice_cmp nat_cmp arcs (key_arcs key) ≢ Less) keys)
    answered None past = (tt, λ k default inside. upto_arcs arcs _ (cut.0 k default (omega arith) (omega arith)))
    answered (Some key) (inside, is) = (at_index key.now inside is, tt)

pub returns : goal.returns
returns c =
    let keys = c.args.sorted.now in
    let arcs = ref_arcs c.args.oid.now in
    let point = c.partition_point-index in
    let cut = IsPartitionPoint-from_clause (is_upto keys arcs c.requires) keys point.result point.ensures.partitioned
    (partitioned keys arcs c.requires) (λ args result after called. search rules) in
    let (found, none) = answered keys arcs c.requires point.result cut c.get.result (search rules) in
    record { found = found; none = none }
