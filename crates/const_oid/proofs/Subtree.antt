-- Where a test cuts a sorted list, and where a sorted list holds the identifiers that begin with one.
use Rattle.std.proofs.Common.{◌≡◌, ◌+◌, ◌<◌, ℕ, suc, Bool, true, false, cond, List, [], ◌∷◌, length, get_or, count_by}
use Rattle.std.proofs.Common.{arith, ◌≤◌, nat_cmp, ◌-◌, drop}
use Rattle.std.specs.{Prelude.{◌↔◌, IfSome, slice_get}, List.Sorted.{IsPartitionedBy, IsPartitionPoint, IsSortedByKey}}
use Rattle.std.specs.Cmp.Lexicographic.{slice_cmp}
use Rattle.std.proofs.lemmas.{Bool.or_right, List.{get_or-drop, length-drop}, List.Sorted.{sorted_far, ranks_by}}
use Rattle.std.proofs.lemmas.{List.Sums.sum_by-cons, Cmp.nat_list_cmp_total, Option.slice_get_cases}
use Rattle.const_oid.specs.{declared.oid_ref.ObjectIdentifierRef.ObjectIdentifierRef, OidRef.{ref_octets, ref_arcs}}
use Rattle.const_oid.specs.Tree.{BeginsWith}
use Rattle.const_oid.proofs.{Encodings.ref_encoding, BeginsWith.{within_down, iff_begins}}
use Rattle.const_oid.proofs.BeginsWith.{is_before, is_under, is_within, under_iff, under_apart, before_down}

-- a test holds of the elements below an index, and of no other
abbrev pub IsCut : {X : Type 0} → (X → Bool) → List X → ℕ → Type 0
IsCut p xs i = IsPartitionPoint (λ x. p x ≡ true) (λ x. p x ≡ false) xs i

-- an index where a test cuts a list is the number of those that pass
pub point_is_count : {X : Type 0} (test : X → Bool) (xs : List X) (index : ℕ) → index ≤ length xs → IsCut test xs index
    → index ≡ count_by test xs
point_is_count test [] index within cut = omega arith
point_is_count test (x ∷ xs) index within cut =
    let rest = point_is_count test xs (index - 1) (omega arith) (
      λ k default above below. cut.0 (suc k) default (omega arith) (omega arith),
      λ k default above below. cut.1 (suc k) default (omega arith) (omega arith),
    ) in
    grind (arith, sum_by-cons (λ item. cond (test item) 1 0) x xs, rest, cut.0 0 x, cut.1 0 x)

-- ---- what comes before and is under a prefix, in a list by keys

module _ {X : Type 0} (key : X → List ℕ) (prefix : List ℕ) where
  abbrev pub key_before : X → Bool
  key_before x = is_before prefix (key x)

  abbrev pub key_under : X → Bool
  key_under x = is_under prefix (key x)

  -- the keys under it are from the cut of those before it to the cut of the rest
  pub under_between : (xs : List X) (from count : ℕ) → IsCut key_before xs from → IsCut key_under (drop from xs) count
      → (k : ℕ) (default : X) → k < length xs
      → (key_under (get_or xs k default) ≡ true) ↔ ((from ≤ k) × (k < from + count))
  under_between xs from count first second k default inside =
      let at = get_or-drop from xs (k - from) default in
      let long = length-drop from xs in
      let apart = under_apart prefix (key (get_or xs k default)) in
      grind (arith, at, long, first.0 k default, second.0 (k - from) default, second.1 (k - from) default, apart)

module _ {X : Type 0} (key : X → List ℕ) (sorted : List X) (up : IsSortedByKey key (slice_cmp nat_cmp) sorted) where
  -- a test that goes down the order cuts the list
  pub cut_by : (p : List ℕ → Bool) → ((x z : List ℕ) → is_before x z ≡ false → p z ≡ true → p x ≡ true)
      → IsPartitionedBy (λ x. p (key x)) sorted
  cut_by p down i j d le l = down _ _ (sorted_far _ (ranks_by nat_list_cmp_total key) sorted up i j d le l)

  module _ (prefix : List ℕ) where
    pub cut_before : IsPartitionedBy (key_before key prefix) sorted
    cut_before = cut_by (is_before prefix) (before_down prefix)

    -- after the cut of what comes before it, what is within it is what is under it
    pub cut_after : (from : ℕ) → IsCut (key_before key prefix) sorted from
        → IsPartitionedBy (key_under key prefix) (drop from sorted)
    cut_after from first i j d le l t =
        let within = cut_by (is_within prefix) (within_down prefix) (from + i) (from + j) d in
        grind (arith, get_or-drop, length-drop, or_right, first.1 (from + i) d, within)

-- which identifiers of a list begin with the prefix: those from the one cut to the other
pub range_between : (prefix : ObjectIdentifierRef) (sorted : List ObjectIdentifierRef) (from count : ℕ)
    → IsCut (key_before ref_octets (ref_octets prefix)) sorted from
    → IsCut (key_under ref_octets (ref_octets prefix)) (drop from sorted) count → (k : ℕ)
    → IfSome (slice_get sorted k)
    (λ oid. BeginsWith (ref_arcs oid) (ref_arcs prefix) ↔ ((from ≤ k) × (k < from + count)))
range_between prefix sorted from count first second k =
    let between = under_between ref_octets (ref_octets prefix) sorted from count first second k in
    let under = λ (oid : ObjectIdentifierRef). iff_begins _ (ref_encoding oid) (ref_encoding prefix)
    (under_iff (ref_octets prefix) (ref_octets oid)) in
    grind (arith, slice_get_cases sorted k, between, under)
