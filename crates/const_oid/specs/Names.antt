-- Tables of identifiers and names.
use Rattle.std.specs.Prelude.{◌≡◌, ◌<◌, ◌++◌, ℕ, Bool, List, length, map, drop, filter, find, flat_map, nat_eq, Option, Some, unwrap_or, Result}
use Rattle.std.specs.Borrow.{Bor}
use Rattle.std.specs.Cmp.Lexicographic.{pointwise}
use Rattle.std.specs.List.{All}
use Rattle.std.specs.Option.{option_map}
use Rattle.std.specs.Result.{result_map_both}
use Rattle.std.specs.Str.{str_eq_ignore_ascii_case}
use Rattle.const_oid.specs.declared.db.Database.{Database}
use Rattle.const_oid.specs.declared.db.Names.{Names}
use Rattle.const_oid.specs.declared.db_sorted.SortedDatabase.{SortedDatabase}
use Rattle.const_oid.specs.declared.error.Error.{Error}
use Rattle.const_oid.specs.declared.oid.ObjectIdentifier.{ObjectIdentifier}
use Rattle.const_oid.specs.declared.oid_ref.ObjectIdentifierRef.{ObjectIdentifierRef}
use Rattle.const_oid.specs.Identifier.{root_rule, default_capacity}
use Rattle.const_oid.specs.Oid.{oid_arcs}
use Rattle.const_oid.specs.OidRef.{ref_arcs}
use Rattle.const_oid.specs.Text.{text_answer}
use Rattle.const_oid.specs.Tree.{BeginsWith}

-- an entry: an identifier of some form, and a reference to its name
abbrev pub Entry : Type 0 → Type 0
Entry Oid = Oid × Bor (List ℕ)

-- the identifier of an entry
abbrev pub oid_of : {Oid : Type 0} → Entry Oid → Oid
oid_of entry = entry.0

-- the name of an entry
abbrev pub name_of : {Oid : Type 0} → Entry Oid → Bor (List ℕ)
name_of entry = entry.1

-- its identifier has these arcs, by the arcs of an identifier of that form
abbrev pub has_arcs : {Oid : Type 0} → (Oid → List ℕ) → List ℕ → Entry Oid → Bool
has_arcs arcs_of arcs entry = pointwise nat_eq (arcs_of (oid_of entry)) arcs

-- its name is the same, ignoring ASCII case
abbrev pub has_name : {Oid : Type 0} → List ℕ → Entry Oid → Bool
has_name name entry = str_eq_ignore_ascii_case (name_of entry).now name

-- the name of the first entry with these arcs
abbrev pub first_name : {Oid : Type 0} → (Oid → List ℕ) → List (Entry Oid) → List ℕ → Option (Bor (List ℕ))
first_name arcs_of entries arcs = option_map name_of (find (has_arcs arcs_of arcs) entries)

-- the names of all entries with these arcs, in table order
abbrev pub all_names : {Oid : Type 0} → (Oid → List ℕ) → List (Entry Oid) → List ℕ → List (Bor (List ℕ))
all_names arcs_of entries arcs = map name_of (filter (has_arcs arcs_of arcs) entries)

-- the identifier in the first entry with this name
abbrev pub first_oid : {Oid : Type 0} → List (Entry Oid) → List ℕ → Option Oid
first_oid entries name = option_map oid_of (find (has_name name) entries)

-- the arcs of an owned identifier that is borrowed
abbrev pub lent_arcs : Bor (ObjectIdentifier 39) → List ℕ
lent_arcs oid = oid_arcs oid.now

-- the entries of a database, in table order
abbrev pub entries_of : Database → List (Entry (Bor (ObjectIdentifier 39)))
entries_of database = database.entries.now

-- it has an index by identifier, and one by name: links, more than entries
abbrev pub IsIndexed : Database → Type 0
IsIndexed database =
    let count = length (entries_of database) in
    (count < length database.oid_links.now) × (count < length database.name_links.now)

-- the names that an iterator has left
abbrev pub names_left : Names → List (Bor (List ℕ))
names_left names = all_names lent_arcs (drop names.index (entries_of names.database)) (oid_arcs names.oid)

-- the name in the first entry with these arcs, or a text if there is no such entry
abbrev pub name_or : List (Entry (Bor (ObjectIdentifier 39))) → Bor (List ℕ) → List ℕ → Bor (List ℕ)
name_or entries text arcs = unwrap_or (first_name lent_arcs entries arcs) text

-- what a text is resolved to: its fault, or the first name of the arcs that it denotes, or the text itself
abbrev pub resolve_answer : List (Entry (Bor (ObjectIdentifier 39))) → Bor (List ℕ) → Result (Bor (List ℕ)) Error
resolve_answer entries text =
    result_map_both (name_or entries text) (λ fault. fault) (text_answer root_rule text.now default_capacity)

-- the arcs of an entry of a borrowed identifier
abbrev pub entry_arcs : Entry ObjectIdentifierRef → List ℕ
entry_arcs entry = ref_arcs (oid_of entry)

-- the entries of a sorted database, in table order
abbrev pub sorted_entries_of : SortedDatabase → List (Entry ObjectIdentifierRef)
sorted_entries_of database = database.entries.now

-- the entries of sorted databases, those of one after those of the one before
abbrev pub sorted_entries_in : List SortedDatabase → List (Entry ObjectIdentifierRef)
sorted_entries_in databases = flat_map sorted_entries_of databases

-- the item has the longest prefix of the arcs: its own arcs are a prefix of them, it is the first item with its arcs,
-- and each item whose arcs are a prefix of them has a prefix of its own
pub record IsNearestBy {Item : Type 0} (arcs_of : Item → List ℕ) (items : List Item) (arcs : List ℕ) (item : Item) : Type 0 where
  pub begins : BeginsWith arcs (arcs_of item)
  pub first : find (λ other. pointwise nat_eq (arcs_of other) (arcs_of item)) items ≡ Some item
  pub longest : All (λ other. BeginsWith arcs (arcs_of other) → BeginsWith (arcs_of item) (arcs_of other)) items

-- the entry has the longest prefix of the arcs
abbrev pub IsNearest : List (Entry ObjectIdentifierRef) → List ℕ → Entry ObjectIdentifierRef → Type 0
IsNearest = IsNearestBy entry_arcs

-- these are the entries that begin with the arcs: they are adjacent in the table, and no other entry begins so
pub record IsSubtree (entries : List (Entry ObjectIdentifierRef)) (arcs : List ℕ) (subtree : List (Entry ObjectIdentifierRef)) : Type 0 where
  pub before : List (Entry ObjectIdentifierRef)
  pub after : List (Entry ObjectIdentifierRef)
  pub joined : entries ≡ before ++ (subtree ++ after)
  pub inside : All (λ entry. BeginsWith (entry_arcs entry) arcs) subtree
  pub outside : All (λ entry. BeginsWith (entry_arcs entry) arcs → ⊥) (before ++ after)
