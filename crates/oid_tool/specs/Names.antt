-- The table of names that the tool knows.
use Rattle.std.specs.Prelude.{ℕ, List, [], ◌∷◌, codes, nat_eq, map, find}
use Rattle.std.specs.Cmp.Lexicographic.{pointwise}
use Rattle.std.specs.Option.{option_map_or}
use Rattle.const_oid.specs.declared.db.Database.{Database}
use Rattle.const_oid.specs.Names.{oid_of, name_of, entries_of, lent_arcs}

-- a row of a table: arcs and their name
abbrev pub Row : Type 0
Row = List ℕ × List ℕ

-- the name of the first row with these arcs, or a text if there is none
abbrev pub row_name_or : List Row → List ℕ → List ℕ → List ℕ
row_name_or table text arcs = option_map_or (λ row. row.1) (find (λ row. pointwise nat_eq row.0 arcs) table) text

-- the rows of a database
abbrev pub rows_of : Database → List Row
rows_of database = map (λ entry. (lent_arcs (oid_of entry), (name_of entry).now)) (entries_of database)

-- the table that the tool knows
unfoldable pub known_names : List Row
known_names =
    (2 ∷ 5 ∷ 4 ∷ 3 ∷ [], codes "cn")
    ∷ (2 ∷ 5 ∷ 4 ∷ 6 ∷ [], codes "c")
    ∷ (2 ∷ 5 ∷ 4 ∷ 3 ∷ [], codes "commonName")
    ∷ (1 ∷ 2 ∷ 840 ∷ 113549 ∷ 1 ∷ 1 ∷ 1 ∷ [], codes "rsaEncryption")
    ∷ []
