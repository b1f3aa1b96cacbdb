-- The attribute types of a directory that the table has.
use Rattle.std.specs.Prelude.{ℕ, List, [], ◌∷◌, codes}

-- a row of a table: arcs and their name
abbrev pub Row : Type 0
Row = List ℕ × List ℕ

-- attribute types with their names (RFC 4519, section 2)
unfoldable pub attribute_types : List Row
attribute_types =
    (0 ∷ 9 ∷ 2342 ∷ 19200300 ∷ 100 ∷ 1 ∷ 25 ∷ [], codes "dc")
    ∷ (2 ∷ 5 ∷ 4 ∷ 3 ∷ [], codes "cn")
    ∷ (2 ∷ 5 ∷ 4 ∷ 4 ∷ [], codes "sn")
    ∷ (2 ∷ 5 ∷ 4 ∷ 6 ∷ [], codes "c")
    ∷ (2 ∷ 5 ∷ 4 ∷ 10 ∷ [], codes "o")
    ∷ []
