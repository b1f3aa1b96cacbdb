-- Lists of identifiers in lexicographic order of arcs.
use Rattle.std.specs.Prelude.{◌≡◌, ℕ, ◌+◌, ◌<◌, ◌⊎◌, List, [], ◌∷◌, if◌then◌else◌, Option, Some, None, unwrap_or, Result, Ok, Err, length, take}
use Rattle.std.specs.Cmp.Lexicographic.{slice_cmp}
use Rattle.std.specs.Option.{option_or, option_map_or}
use Rattle.std.specs.Ordering.{nat_cmp, is_lt}
use Rattle.const_oid.specs.declared.error.Error.{Error}
use Rattle.const_oid.specs.declared.oid_ref.ObjectIdentifierRef.{ObjectIdentifierRef}
use Rattle.const_oid.specs.OidRef.{ref_arcs}
use Rattle.const_oid.specs.SortedList.{IsSortedList, item_arcs}
use Rattle.const_oid_c.specs.declared.status.Status.{Status}
use Rattle.const_oid_c.specs.declared.lists.Octets.{Octets}
use Rattle.const_oid_c.specs.Status.{fault_at, len_status, none_status}
use Rattle.const_oid_c.specs.Results.{borrowed_answer}

-- the octets of an item
abbrev pub octets_at : Octets → List ℕ
octets_at item = item.octets.now

-- the arcs of the previous item, if there is one
abbrev pub arcs_before : Option ObjectIdentifierRef → List ℕ
arcs_before before = option_map_or ref_arcs before []

-- the status at an index, by what its octets are read as: their fault, or that their arcs come before the previous ones
abbrev pub read_fault : ℕ → List ℕ → Result (List ℕ) Error → Option Status
read_fault index before (Ok arcs) = if is_lt (slice_cmp nat_cmp arcs before) then Some (record { code = 13; detail = 0; len = index }) else None
read_fault index before (Err fault) = Some (fault_at index fault)

-- the status of the octets at an index, after the arcs of the previous index, if something is wrong
abbrev pub fault_after : ℕ → List ℕ → List ℕ → Option Status
fault_after index before octets = read_fault index before (borrowed_answer octets)

-- the status of the first item that is wrong, if there is one
abbrev pub list_fault : ℕ → List ℕ → List Octets → Option Status
list_fault index before [] = None
list_fault index before (item ∷ items) = option_or (fault_after index before (octets_at item)) (list_fault (index + 1) (item_arcs octets_at item) items)

-- the status of a list
abbrev pub list_status : List Octets → Status
list_status items = unwrap_or (list_fault 0 [] items) (len_status 0)

-- the items before the index are a sorted list, and with the item at the index they are not
pub record IsFirstUnsorted (items : List Octets) (index : ℕ) : Type 0 where
  pub within : index < length items
  pub sorted : IsSortedList octets_at (take index items)
  pub unsorted : IsSortedList octets_at (take (index + 1) items) → ⊥

-- none of `count` items
abbrev pub none_of : ℕ → Status
none_of count = record none_status { len = count }

-- the status of an index, if there is one, or that none of `count` items is found
abbrev pub index_status : ℕ → Option ℕ → Status
index_status count index = option_map_or len_status index (none_of count)

-- the status is that of an index of `count` items, or that none of them is found
abbrev pub IsIndexOrNone : ℕ → Status → Type 0
IsIndexOrNone count status = ((status ≡ len_status status.len) × (status.len < count)) ⊎ (status ≡ none_of count)
