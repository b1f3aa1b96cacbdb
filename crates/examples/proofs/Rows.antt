-- What a table of borrowed identifiers finds, by its rows.
use Rattle.std.proofs.Common.{arith, ◌≡◌, ◌↔◌, ℕ, Bool, List, [], ◌∷◌, nat_eq, map, IsTrue, refl, ◌∙◌, sym}
use Rattle.std.proofs.Common.{Option, Bor}
use Rattle.std.specs.{Cmp.Lexicographic.{pointwise, bytes_decides}, List.{Any, list_any}, Option.{is_some}}
use Rattle.std.proofs.lemmas.List.Folds.{Any-from_list_any, list_any-from_Any}
use Rattle.const_oid.specs.{declared.oid_ref.ObjectIdentifierRef.ObjectIdentifierRef, OidRef.ref_arcs}
use Rattle.const_oid.specs.Names.{Entry, oid_of, name_of, first_name}
use Rattle.examples.specs.AttributeTypes.{Row}

-- the row of an entry
abbrev pub row_of : Entry ObjectIdentifierRef → Row
row_of entry = (ref_arcs (oid_of entry), (name_of entry).now)

-- a row has these arcs
abbrev row_has_arcs : List ℕ → Row → Bool
row_has_arcs arcs row = pointwise nat_eq row.0 arcs

-- the entries have a name for arcs exactly where some row has them
any-rows : (entries : List (Entry ObjectIdentifierRef)) (arcs : List ℕ)
    → is_some (first_name ref_arcs entries arcs) ≡ list_any (row_has_arcs arcs) (map row_of entries)
any-rows [] arcs = refl
any-rows (entry ∷ entries) arcs = grind (arith, any-rows entries arcs)

some_row : (entries : List (Entry ObjectIdentifierRef)) (arcs : List ℕ)
    → IsTrue (is_some (first_name ref_arcs entries arcs)) ↔ Any (λ row. row.0 ≡ arcs) (map row_of entries)
some_row entries arcs =
    let same = any-rows entries arcs in
    let test = row_has_arcs arcs in
    let rows = map row_of entries in (
      λ found. let (k, row, inside, at, has) = Any-from_list_any test rows (sym same ∙ found) in
          (k, row, inside, at, (bytes_decides row.0 arcs).0 has),
      λ (k, row, inside, at, is). same
          ∙ list_any-from_Any test rows (k, row, inside, at, (bytes_decides row.0 arcs).1 is),
    )

-- the entries of a table and its rows
module _ (entries : List (Entry ObjectIdentifierRef)) (rows : List Row) (made : map row_of entries ≡ rows) where
  -- the table finds a name by arcs exactly where some row has them
  pub row_found : (arcs : List ℕ) (found : Option (Bor (List ℕ))) (result : Bool)
      → found ≡ first_name ref_arcs entries arcs → result ≡ is_some found
      → IsTrue result ↔ Any (λ row. row.0 ≡ arcs) rows
  row_found arcs found result e f = rw (← made, f, e) (some_row entries arcs)
