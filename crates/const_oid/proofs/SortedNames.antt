-- Sorted tables of names: lists in the order of arcs, whose items are entries.
use Rattle.std.proofs.Common.{◌≡◌, ◌+◌, ◌-◌, ◌<◌, ◌≤◌, ℕ, Bool, true, false, List, length}
use Rattle.std.proofs.Common.{take, drop, get_or, Option, Some, nat_cmp, sym, arith, Bor, slice_get}
use Rattle.std.specs.{Prelude.{◌↔◌, IfSome}, Cmp.Lexicographic.slice_cmp}
use Rattle.std.specs.List.{HoldsAt, IsFirstMatchOrLen, find}
use Rattle.std.specs.List.Sorted.{IsPartitionPoint, IsSortedByKey}
use Rattle.std.specs.Option.{MatchOption, option_copied}
use Rattle.std.proofs.lemmas.{List.take-append-drop, List.Folds.find_at}
use Rattle.std.proofs.lemmas.{List.Elements.All-append, Grind.common_steps}
use Rattle.std.proofs.lemmas.{List.Sums.{fails_before_first, passes_at_first}, Option.{gets, slice_get_cases}}
use Rattle.const_oid.specs.{declared.oid_ref.ObjectIdentifierRef.ObjectIdentifierRef, OidRef.ref_octets}
use Rattle.const_oid.specs.{Names.{Entry, oid_of, entry_arcs, IsSubtree}, SortedList.IsSortedList, Tree.BeginsWith}
use Rattle.const_oid.proofs.{BeginsWith.is_before, Encodings.ref_encoding}

-- the octets of an entry
abbrev pub entry_octets : Entry ObjectIdentifierRef → List ℕ
entry_octets entry = ref_octets (oid_of entry)

-- a sorted table is a sorted list, since its identifiers are valid
pub table_list : (entries : List (Entry ObjectIdentifierRef)) → IsSortedByKey entry_arcs (slice_cmp nat_cmp) entries
    → IsSortedList entry_octets entries
table_list entries up = record { valid = λ k d l. ref_encoding (oid_of (get_or entries k d)); sorted = up }

-- ---- the first element that passes a test

ruleset finds = (find_at, slice_get_cases, passes_at_first, fails_before_first)

-- it is where all before it fail
find_is : {X : Type 0} (p : X → Bool) (xs : List X) (i : ℕ) → IsFirstMatchOrLen p xs i → find p xs ≡ slice_get xs i
find_is p xs i first = grind (arith, finds, slice_get_cases xs i)

-- an item that is borrowed is that of the list
pub item_is : {X : Type 0} (xs : List X) (i : ℕ) (item : Option (Bor X))
    → MatchOption item (length xs ≤ i) (λ x. (i < length xs) × HoldsAt (λ other. x.now ≡ other) xs i)
    → option_copied item ≡ slice_get xs i
item_is xs i item got = grind (arith, slice_get_cases xs i)

-- what is at an index
pub slice_get_there : {X : Type 0} (xs : List X) (i : ℕ) (d : X) → i < length xs → slice_get xs i ≡ Some (get_or xs i d)
slice_get_there xs i d l = grind (arith, common_steps, gets)

-- what holds of the item at an index, if there is one, holds of what is there
pub holds_there : {X : Type 0} (P : X → Type 0) (xs : List X) (i : ℕ) (d : X) → i < length xs → IfSome (slice_get xs i) P
    → P (get_or xs i d)
holds_there P xs i d l at = rw (slice_get_there xs i d l) at at

-- ---- the entries of a table

module _ (entries : List (Entry ObjectIdentifierRef)) (arcs : List ℕ) where
  -- the first entry after arcs is where those up to them end
  pub find_after : (index : ℕ) → IsPartitionPoint (λ entry. is_before (entry_arcs entry) arcs ≡ false)
      (λ entry. is_before (entry_arcs entry) arcs ≡ true) entries index
      → find (λ entry. is_before (entry_arcs entry) arcs) entries ≡ slice_get entries index
  find_after index end = find_is _ entries index (end.0, λ l d. end.1 index d (omega arith) l)

  -- the entries of the range of those that begin with the arcs
  pub subtree_is : (from end : ℕ) → from ≤ end → end ≤ length entries
      → ((k : ℕ) → IfSome (slice_get entries k) (λ entry. BeginsWith (entry_arcs entry) arcs ↔ ((from ≤ k) × (k < end))))
      → IsSubtree entries arcs (take (end - from) (drop from entries))
  subtree_is from end order within between =
      let count = end - from in
      let rest = drop from entries in
      record {
        before = take from entries;
        after = drop count rest;
        joined = sym (rw (take-append-drop count rest) (take-append-drop from entries));
        inside = λ k default below. grind (arith, common_steps, slice_get_cases entries (from + k), between (from + k));
        outside = All-append (λ entry. BeginsWith (entry_arcs entry) arcs → ⊥) (take from entries) (drop count rest)
            (λ k default below begun. grind (arith, common_steps, slice_get_cases entries k, between k))
            (λ k default below begun.
            let index = from + (count + k) in
            grind (arith, common_steps, slice_get_cases entries index, between index));
      }
