-- Lists with an item that is wrong.
use Rattle.std.proofs.Common.{◌≡◌, ◌+◌, ◌-◌, ◌<◌, ◌≤◌, ℕ, List, [], ◌∷◌, get_or, length, take, true, false, nat_cmp}
use Rattle.std.proofs.Common.{refl, ⊎_elim, arith, Option, Some, None}
use Rattle.std.proofs.lemmas.Bool.{cases_lt}
use Rattle.std.proofs.lemmas.List.{get_or-take, length-take-le}
use Rattle.std.specs.Cmp.Lexicographic.{slice_cmp}
use Rattle.std.specs.List.{AllWithin}
use Rattle.std.specs.List.Sorted.{IsSortedWithin}
use Rattle.std.specs.Ordering.{is_lt}
use Rattle.const_oid.specs.Identifier.{root_rule, IsEncoding}
use Rattle.const_oid.specs.SortedList.{IsSortedList, item_arcs}
use Rattle.std.specs.Prelude.{IfNone}
use Rattle.const_oid_c.specs.Lists.{index_status, none_of}

-- nothing comes before no arcs
first_of_all : (arcs : List ℕ) → is_lt (slice_cmp nat_cmp arcs []) ≡ false
first_of_all [] = refl
first_of_all (arc ∷ arcs) = refl

-- an item that comes before the previous one, or before no arcs
pub unsorted : {Item : Type 0} (octets_of : Item → List ℕ) (items : List Item) (index : ℕ) (item : Item) (before : List ℕ)
    → index < length items → (index ≡ 0 → before ≡ [])
    → (0 < index → item_arcs octets_of (get_or items (index - 1) item) ≡ before)
    → is_lt (slice_cmp nat_cmp (item_arcs octets_of (get_or items index item)) before) ≡ true
    → IsSortedList octets_of items → ⊥
unsorted octets_of items index item before inside first last less list = ⊎_elim
    (λ (later : 0 < index). grind (arith, list.sorted (index - 1) item (omega arith) (omega arith), last later, less))
    (λ (none : index ≤ 0). grind (arith, first_of_all (item_arcs octets_of (get_or items index item)), first (omega arith), less))
    (cases_lt 0 index)

-- the items before an index, which are valid and sorted
pub sorted_before : {Item : Type 0} (octets_of : Item → List ℕ) (items : List Item) (index : ℕ) → index ≤ length items
    → AllWithin (λ item. IsEncoding root_rule (item_arcs octets_of item) (octets_of item)) items 0 index
    → IsSortedWithin (λ item other. is_lt (slice_cmp nat_cmp (item_arcs octets_of item) (item_arcs octets_of other))) items 0 index
    → IsSortedList octets_of (take index items)
sorted_before octets_of items index within valid sorted =
    let len = length-take-le index items within in
    record {
      valid = λ k item below.
          rw (get_or-take index items k item (omega (arith, len))) (valid k item (omega arith) (omega (arith, len)));
      sorted = λ k item low below.
          rw (get_or-take index items (k + 1) item (omega (arith, len)), get_or-take index items k item (omega (arith, len)))
          (sorted k item low (omega (arith, len)));
    }

-- where it is that of none, there is no index
pub none_from_status : (count : ℕ) (index : Option ℕ) (P : Type 0)
    → index_status count index ≡ none_of count → IfNone index P → P
none_from_status count None P e none = none
none_from_status count (Some index) P e none = absurd (grind (arith, e))
