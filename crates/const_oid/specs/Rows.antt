-- Rows of tables: what lookups in a table of any form read.
use Rattle.std.specs.Prelude.{◌≡◌, ℕ, List, map, flat_map, find, nat_eq, All, Option, Some}
use Rattle.std.specs.Borrow.{Bor}
use Rattle.std.specs.Cmp.Lexicographic.{pointwise}
use Rattle.std.specs.Option.{option_map}
use Rattle.std.specs.Str.{str_eq_ignore_ascii_case}
use Rattle.const_oid.specs.declared.db.Database.{Database}
use Rattle.const_oid.specs.declared.oid.ObjectIdentifier.{ObjectIdentifier}
use Rattle.const_oid.specs.declared.packed.{PackedDatabase.PackedDatabase, PackedRow.PackedRow}
use Rattle.const_oid.specs.declared.tables.Table.{Table, TheVariants.{Listed, Packed}}
use Rattle.const_oid.specs.declared.tables.Tables.{Tables}
use Rattle.const_oid.specs.Contents.{arcs_of_octets}
use Rattle.const_oid.specs.Names.{Entry, entries_of, name_of, oid_of}
use Rattle.const_oid.specs.Oid.{oid_arcs}
use Rattle.const_oid.specs.Tree.{BeginsWith}
use Rattle.const_oid.specs.Packed.{name_at, octets_at, packed_rows, IsPacked}

-- a row: an identifier and its name
abbrev pub Row : Type 0
Row = ObjectIdentifier 39 × List ℕ

abbrev pub Rows : Type 0
Rows = List Row

-- the name of the first row with these arcs
abbrev pub named : Rows → List ℕ → Option (List ℕ)
named rows arcs = option_map (λ row. row.1) (find (λ row. pointwise nat_eq (oid_arcs row.0) arcs) rows)

-- the arcs that a name leads to: those of the first row with it, ignoring ASCII case
abbrev pub led : Rows → List ℕ → Option (List ℕ)
led rows name = option_map (λ row. oid_arcs row.0) (find (λ row. str_eq_ignore_ascii_case row.1 name) rows)

-- the rows of a table with pointers: what its entries point to
abbrev pub row_of : Entry (Bor (ObjectIdentifier 39)) → Row
row_of entry = ((oid_of entry).now, (name_of entry).now)

abbrev pub listed_rows_of : Database → Rows
listed_rows_of database = map row_of (entries_of database)

-- the rows of a table without pointers
abbrev pub packed_rows_of : PackedDatabase → Rows
packed_rows_of database = packed_rows database.oids.now database.names.now database.rows.now

-- the octets, the arcs and the name of one
abbrev pub row_octets : PackedDatabase → PackedRow → List ℕ
row_octets database = octets_at database.oids.now

abbrev pub row_arcs : PackedDatabase → PackedRow → List ℕ
row_arcs database row = arcs_of_octets (row_octets database row)

abbrev pub row_name : PackedDatabase → PackedRow → List ℕ
row_name database = name_at database.names.now

-- its places are those of an identifier and of a name
abbrev pub IsRow : PackedDatabase → PackedRow → Type 0
IsRow database = IsPacked database.oids.now database.names.now

-- the rows of a table
abbrev pub rows_of : Table → Rows
rows_of (Listed database) = listed_rows_of database
rows_of (Packed database) = packed_rows_of database

-- an identifier has the longest prefix of arcs in rows, and this is the name of its first row
pub record IsNearestRow (rows : Rows) (arcs prefix name : List ℕ) : Type 0 where
  pub begins : BeginsWith arcs prefix
  pub first : named rows prefix ≡ Some name
  pub longest : All (λ row. BeginsWith arcs (oid_arcs row.0) → BeginsWith prefix (oid_arcs row.0)) rows

-- the rows of tables, those of one table after those of the one before
abbrev pub rows_in : Tables → Rows
rows_in tables = flat_map rows_of tables.0.now
