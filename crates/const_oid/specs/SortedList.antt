-- Lists of items that have contents octets, sorted by arcs.
use Rattle.std.specs.Prelude.{◌≡◌, ℕ, Bool, true, false, List, nat_eq}
use Rattle.std.specs.Cmp.Lexicographic.{pointwise, slice_cmp}
use Rattle.std.specs.List.{All}
use Rattle.std.specs.List.Sorted.{IsPartitionPoint, IsSortedByKey}
use Rattle.std.specs.Ordering.{nat_cmp, is_lt}
use Rattle.const_oid.specs.Contents.{arcs_of_octets}
use Rattle.const_oid.specs.Identifier.{root_rule, IsEncoding}

-- the arcs of an item, by its octets
abbrev pub item_arcs : {Item : Type 0} → (Item → List ℕ) → Item → List ℕ
item_arcs octets_of item = arcs_of_octets (octets_of item)

-- the item has these arcs
abbrev pub has_item_arcs : {Item : Type 0} → (Item → List ℕ) → List ℕ → Item → Bool
has_item_arcs octets_of arcs item = pointwise nat_eq (item_arcs octets_of item) arcs

-- the items before an index, and no others, come before these arcs
abbrev pub IsStart : {Item : Type 0} → (Item → List ℕ) → List Item → List ℕ → ℕ → Type 0
IsStart octets_of items arcs = IsPartitionPoint (λ item. is_lt (slice_cmp nat_cmp (item_arcs octets_of item) arcs) ≡ true)
    (λ item. is_lt (slice_cmp nat_cmp (item_arcs octets_of item) arcs) ≡ false) items

-- each item is the encoding of an identifier, and the list is sorted in lexicographic order of arcs
pub record IsSortedList {Item : Type 0} (octets_of : Item → List ℕ) (items : List Item) : Type 0 where
  pub valid : All (λ item. IsEncoding root_rule (item_arcs octets_of item) (octets_of item)) items
  pub sorted : IsSortedByKey (item_arcs octets_of) (slice_cmp nat_cmp) items
