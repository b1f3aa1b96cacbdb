-- Lookups in a table without pointers.
use Rattle.std.proofs.Common.{◌≡◌, All, ℕ, zero, suc, ◌+◌, ◌-◌, ◌<◌, Bool, true, false, List, [], ◌∷◌, ◌++◌, length, get_or, map, flat_map, find, nat_eq, slice_get, Option, refl, sym, ap, ◌∙◌, ⊎_elim, Some, None, arith}
use Rattle.std.specs.Borrow.{Bor}
use Rattle.std.specs.Cmp.Lexicographic.{pointwise}
use Rattle.std.specs.Option.{option_map, option_to_list}
use Rattle.std.specs.Str.{str_eq_ignore_ascii_case}
use Rattle.std.proofs.lemmas.{Bool.{cases_Bool}}
use Rattle.std.proofs.lemmas.List.Elements.{All-cons, All-head, All-nil, All-tail}
use Rattle.const_oid.specs.declared.db.Database.{Database}
use Rattle.const_oid.specs.declared.oid.ObjectIdentifier.{ObjectIdentifier}
use Rattle.const_oid.specs.declared.packed.{PackedDatabase.PackedDatabase, PackedRow.PackedRow}
use Rattle.const_oid.specs.Contents.{arcs_of_octets}
use Rattle.const_oid.specs.Identifier.{root_rule, IsIdentifier}
use Rattle.const_oid.specs.Names.{Entry, entries_of, first_name, first_oid, lent_arcs, oid_of, name_of as entry_name}
use Rattle.const_oid.specs.Oid.{oid_arcs, oid_octets}
use Rattle.const_oid.specs.Packed.{name_at, octets_at}
use Rattle.const_oid.specs.Private.Links.{hash_of, slot_of, AreLinks}
use Rattle.const_oid.specs.Private.Octets.{with_bits}
use Rattle.const_oid.specs.Rows.{Row, Rows, led, listed_rows_of, named, row_of, packed_rows_of, row_arcs, row_name, row_octets}
use Rattle.const_oid.proofs.Encodings.{oid_encoding, same_octets}
use Rattle.const_oid.proofs.Hashes.{same_bytes, same_cased}
use Rattle.const_oid.proofs.Linked.{goes_on, goes_past, starts, Leads}

-- ---- the rows that places make

module _ (oids : List (ObjectIdentifier 39)) (names : List ℕ) where
  abbrev made : PackedRow → Rows
  made row = map (λ oid. (oid, name_at names row)) (option_to_list (slice_get oids row.oid))

  -- a row is made, of the identifier with the octets at its place
  pub record Makes (row : PackedRow) : Type 0 where
    pub oid : ObjectIdentifier 39
    pub one : made row ≡ (oid, name_at names row) ∷ []
    pub octets : oid_octets oid ≡ octets_at oids row

  module _ {Z : Type 0} (test : Row → Bool) (passes : PackedRow → Bool) (shown : Row → Z) (shown_at : PackedRow → Z)
      (alike : (row : PackedRow) (oid : ObjectIdentifier 39) → oid_octets oid ≡ octets_at oids row
      → (test (oid, name_at names row) ≡ passes row) × (shown (oid, name_at names row) ≡ shown_at row)) where
    found_first : (row : PackedRow) (later : Rows) (rows : List PackedRow) → Makes row
        → option_map shown (find test later) ≡ option_map shown_at (find passes rows)
        → option_map shown (find test (made row ++ later)) ≡ option_map shown_at (find passes (row ∷ rows))
    found_first row later rows makes same =
        let (tested, here) = alike row makes.oid makes.octets in
        ⊎_elim
        (λ (is : passes row ≡ true). rw (makes.one, is) (simp (tested ∙ is) (ap Some here)))
        (λ (is : passes row ≡ false). rw (makes.one, is) (simp (tested ∙ is) same))
        (cases_Bool (passes row))

    pub found_made : (rows : List PackedRow) → ((k : ℕ) (d : PackedRow) → k < length rows → Makes (get_or rows k d))
        → option_map shown (find test (flat_map made rows)) ≡ option_map shown_at (find passes rows)
    found_made [] makes = refl
    found_made (row ∷ rows) makes =
        found_first row (flat_map made rows) rows (makes 0 row (omega arith)) (found_made rows (λ k d below. makes (suc k) d (omega arith)))

  module _ (P : List ℕ → Type 0) where
    abbrev Named : Row → Type 0
    Named row = P row.1

    abbrev NamedAt : PackedRow → Type 0
    NamedAt row = P (name_at names row)

    pub all_made : (rows : List PackedRow) → All Makes rows → All NamedAt rows → All Named (flat_map made rows)
    all_made [] makes each = All-nil Named
    all_made (row ∷ rows) makes each =
        let here = All-head Makes row rows makes in
        rw here.one (All-cons Named (here.oid, name_at names row) (flat_map made rows) (All-head NamedAt row rows each)
        (all_made rows (All-tail Makes row rows makes) (All-tail NamedAt row rows each)))

    pub each_made : (rows : List PackedRow) → All Makes rows → All Named (flat_map made rows) → All NamedAt rows
    each_made [] makes all = All-nil NamedAt
    each_made (row ∷ rows) makes all =
        let here = All-head Makes row rows makes in
        let first : Row = (here.oid, name_at names row) in
        let whole : All Named (first ∷ flat_map made rows) = rw here.one at all in
        All-cons NamedAt row rows (All-head Named first (flat_map made rows) whole)
        (each_made rows (All-tail Makes row rows makes) (All-tail Named first (flat_map made rows) whole))

placed : (oids : List (ObjectIdentifier 39)) (i : ℕ) (name : List ℕ) → i < length oids
    → (oid : ObjectIdentifier 39) × (map {B = Row} (λ oid. (oid, name)) (option_to_list (slice_get oids i)) ≡ (oid, name) ∷ [])
    × (oid_octets oid ≡ get_or (map oid_octets oids) i [])
placed [] i name below = absurd (omega arith)
placed (oid ∷ oids) zero name below = (oid, refl, refl)
placed (oid ∷ oids) (suc i) name below = placed oids i name (omega arith)

-- ---- the key of a row that passes

no_arcs : (oid : ObjectIdentifier 39) → pointwise nat_eq [] (oid_arcs oid) ≡ true → ⊥
no_arcs oid same = by (oid_arcs oid) (oid_encoding oid).identifier (same_bytes [] (oid_arcs oid) same)
  where
    by : (arcs : List ℕ) → IsIdentifier root_rule arcs → [] ≡ arcs → ⊥
    by [] identifier none = identifier
    by (arc ∷ arcs) identifier none = cc

same_key : (oid : ObjectIdentifier 39) (oids : List (ObjectIdentifier 39)) (i : ℕ)
    → pointwise nat_eq (arcs_of_octets (get_or (map oid_octets oids) i [])) (oid_arcs oid) ≡ true
    → hash_of (get_or (map oid_octets oids) i []) ≡ hash_of (oid_octets oid)
same_key oid [] i same = absurd (no_arcs oid same)
same_key oid (other ∷ oids) zero same =
    let arcs = same_bytes (oid_arcs other) (oid_arcs oid) same in
    ap hash_of (same_octets (rw arcs at (oid_encoding other)) (oid_encoding oid))
same_key oid (other ∷ oids) (suc i) same = same_key oid oids i same

module _ (database : PackedDatabase) where
  abbrev rows : List PackedRow
  rows = database.rows.now

  abbrev pub has_arcs : ObjectIdentifier 39 → PackedRow → Bool
  has_arcs oid row = pointwise nat_eq (row_arcs database row) (oid_arcs oid)

  abbrev pub has_name : List ℕ → PackedRow → Bool
  has_name name row = str_eq_ignore_ascii_case (row_name database row) name

  abbrev pub name_key : PackedRow → List ℕ
  name_key row = with_bits 32 (row_name database row)

  pub same_oids : (oid : ObjectIdentifier 39) (row : PackedRow) → has_arcs oid row ≡ true → hash_of (row_octets database row) ≡ hash_of (oid_octets oid)
  same_oids oid row same = same_key oid database.oids.now row.oid same

  pub same_names : (name : List ℕ) (row : PackedRow) → has_name name row ≡ true → hash_of (name_key row) ≡ hash_of (with_bits 32 name)
  same_names name row same = ap hash_of (same_cased (row_name database row) name same)

  -- ---- along links

  module _ (key : PackedRow → List ℕ) (test : PackedRow → Bool) (links bytes : List ℕ)
      (same : (row : PackedRow) → test row ≡ true → hash_of (key row) ≡ hash_of bytes) (right : AreLinks key rows links)
      (more : length rows < length links) where
    abbrev pub Reaches : ℕ → Type 0
    Reaches index = Leads key test rows links bytes 0 index

    pub begins : (to : ℕ) → to ≡ get_or links (length rows + slot_of (length links - length rows) bytes) 0 → Reaches to
    begins to is = starts key test rows links bytes same right to (λ _. is) (λ none. absurd (omega (arith, none, more)))

    module _ (index : ℕ) (below : index < length rows) (reached : Reaches index) where
      abbrev to : ℕ
      to = get_or links index 0

      next : Leads key test rows links bytes (index + 1) to
      next = goes_on key test rows links bytes same right index to below (λ _. refl) (λ none. absurd (omega (arith, none, more))) reached.there

      pub gets_nearer : index < to
      gets_nearer = omega (arith, next.after)

      pub passes_by : (row : PackedRow) → test (get_or rows index row) ≡ false → Reaches to
      passes_by row fails = goes_past key test rows links bytes same right 0 index to row below fails reached next

  -- ---- what is found

  makes : All (Makes database.oids.now database.names.now) rows
  makes k d below =
      let row = get_or rows k d in
      let (oid, one, octets) = placed database.oids.now row.oid (row_name database row) (database.packed k d below).oid in
      record { oid = oid; one = one; octets = octets }

  pub name_of : (oid : ObjectIdentifier 39) → named (packed_rows_of database) (oid_arcs oid) ≡ option_map (row_name database) (find (has_arcs oid) rows)
  name_of oid = found_made database.oids.now database.names.now (λ row. pointwise nat_eq (oid_arcs row.0) (oid_arcs oid)) (has_arcs oid) (λ row. row.1) (row_name database)
      (λ row other is. (ap (λ octets. pointwise nat_eq (arcs_of_octets octets) (oid_arcs oid)) is, refl)) rows makes

  pub arcs_of : (name : List ℕ) → led (packed_rows_of database) name ≡ option_map (row_arcs database) (find (has_name name) rows)
  arcs_of name = found_made database.oids.now database.names.now (λ row. str_eq_ignore_ascii_case row.1 name) (has_name name) (λ row. oid_arcs row.0) (row_arcs database)
      (λ row other is. (refl, ap arcs_of_octets is)) rows makes

  module _ (P : List ℕ → Type 0) where
    pub all_named : All (λ row. P (row_name database row)) rows → All (λ (row : Row). P row.1) (packed_rows_of database)
    all_named = all_made database.oids.now database.names.now P rows makes

    pub each_named : All (λ (row : Row). P row.1) (packed_rows_of database) → All (λ row. P (row_name database row)) rows
    each_named = each_made database.oids.now database.names.now P rows makes

-- likewise each row of a table with pointers
module _ (P : List ℕ → Type 0) where
  pub each_listed : (entries : List (Entry (Bor (ObjectIdentifier 39)))) → All (λ (row : Row). P row.1) (map row_of entries) → All (λ entry. P entry.1.now) entries
  each_listed [] all = All-nil (λ entry. P entry.1.now)
  each_listed (entry ∷ entries) all =
      All-cons (λ entry. P entry.1.now) entry entries (All-head (λ (row : Row). P row.1) (row_of entry) (map row_of entries) all)
      (each_listed entries (All-tail (λ (row : Row). P row.1) (row_of entry) (map row_of entries) all))

-- ---- in a table with pointers, what is found is what the first entry that passes points to

pub find_mapped : {X Y Z : Type 0} (f : X → Y) (g : Y → Z) (test : Y → Bool) (xs : List X)
    → option_map g (find test (map f xs)) ≡ option_map (λ x. g (f x)) (find (λ x. test (f x)) xs)
find_mapped f g test [] = refl
find_mapped f g test (x ∷ xs) = ⊎_elim
    (λ (passes : test (f x) ≡ true). simp passes)
    (λ (fails : test (f x) ≡ false). simp fails (find_mapped f g test xs))
    (cases_Bool (test (f x)))

twice_mapped : {X Y Z : Type 0} (f : X → Y) (g : Y → Z) (found : Option X) → option_map g (option_map f found) ≡ option_map (λ x. g (f x)) found
twice_mapped f g None = refl
twice_mapped f g (Some x) = refl

pub listed_name : (database : Database) (arcs : List ℕ) (found : Option (Entry (Bor (ObjectIdentifier 39))))
    → option_map entry_name found ≡ first_name lent_arcs (entries_of database) arcs
    → option_map (λ entry. entry.1.now) found ≡ named (listed_rows_of database) arcs
listed_name database arcs found is =
    sym (twice_mapped entry_name (λ name. name.now) found) ∙ ap (option_map (λ name. name.now)) is ∙
    twice_mapped entry_name (λ name. name.now) (find (λ entry. pointwise nat_eq (lent_arcs entry.0) arcs) (entries_of database))
    ∙ sym (find_mapped row_of (λ row. row.1) (λ (row : Row). pointwise nat_eq (oid_arcs row.0) arcs) (entries_of database))

pub listed_arcs : (database : Database) (name : List ℕ)
    → option_map lent_arcs (first_oid (entries_of database) name) ≡ led (listed_rows_of database) name
listed_arcs database name =
    twice_mapped oid_of lent_arcs (find (λ entry. str_eq_ignore_ascii_case entry.1.now name) (entries_of database))
    ∙ sym (find_mapped row_of (λ row. oid_arcs row.0) (λ (row : Row). str_eq_ignore_ascii_case row.1 name) (entries_of database))
