-- A table without pointers: each identifier once, the names one after another, and for each row the places of both.
use Rattle.std.specs.Prelude.{◌≡◌, ℕ, ◌+◌, ◌<◌, ◌≤◌, true, List, [], drop, map, flat_map, length, slice_get, slice_index_or, take}
use Rattle.std.specs.Option.{option_to_list}
use Rattle.std.specs.Str.{is_utf8}
use Rattle.const_oid.specs.declared.oid.ObjectIdentifier.{ObjectIdentifier}
use Rattle.const_oid.specs.declared.packed.PackedRow.{PackedRow}
use Rattle.const_oid.specs.Oid.{oid_octets}

-- the octets of the identifier of a row
abbrev pub octets_at : List (ObjectIdentifier 39) → PackedRow → List ℕ
octets_at oids row = slice_index_or (map oid_octets oids) row.oid []

-- the name of a row
abbrev pub name_at : List ℕ → PackedRow → List ℕ
name_at names row = take row.len (drop row.start names)

-- the places of a row are places of an identifier and of a name, which is text
pub record IsPacked (oids : List (ObjectIdentifier 39)) (names : List ℕ) (row : PackedRow) : Type 0 where
  pub oid : row.oid < length oids
  pub within : row.start + row.len ≤ length names
  pub text : is_utf8 (name_at names row) ≡ true

-- what rows are: the identifier and the name at the places of each
abbrev pub packed_rows : List (ObjectIdentifier 39) → List ℕ → List PackedRow → List (ObjectIdentifier 39 × List ℕ)
packed_rows oids names rows = flat_map (λ row. map (λ oid. (oid, name_at names row)) (option_to_list (slice_get oids row.oid))) rows
