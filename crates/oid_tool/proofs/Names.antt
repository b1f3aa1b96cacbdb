-- The names of a table are those of its rows.
use Rattle.std.proofs.Common.{arith, ◌≡◌, ℕ, List, [], ◌∷◌, map, refl}
use Rattle.std.specs.{Borrow.Bor, Str.IsUtf8}
use Rattle.std.proofs.lemmas.Str.{is_utf8-from_IsUtf8}
use Rattle.const_oid.specs.declared.oid.ObjectIdentifier.{ObjectIdentifier}
use Rattle.const_oid.specs.Names.{Entry, lent_arcs, oid_of, name_of, name_or, resolve_answer}
use Rattle.oid_tool.specs.{Results.{line_of, name_line}, Names.{Row, row_name_or}}

abbrev Entries : Type 0
Entries = List (Entry (Bor (ObjectIdentifier 39)))

-- the rows of entries
abbrev rows : Entries → List Row
rows entries = map (λ entry. (lent_arcs (oid_of entry), (name_of entry).now)) entries

-- a name of the entries is that of their rows
name_or-rows : (entries : Entries) (text : Bor (List ℕ)) (arcs : List ℕ)
    → (name_or entries text arcs).now ≡ row_name_or (rows entries) text.now arcs
name_or-rows [] text arcs = refl
name_or-rows (entry ∷ entries) text arcs = grind (arith, name_or-rows entries text arcs)

-- the bytes of a reference
abbrev bytes_of : Bor (List ℕ) → List ℕ
bytes_of text = text.now

-- the line of a resolved text is the result of `name`
pub name_line_resolved : (entries : Entries) (text : Bor (List ℕ)) (bytes : List ℕ) → text.now ≡ bytes → IsUtf8 bytes
    → line_of bytes_of (resolve_answer entries text) ≡ name_line (rows entries) bytes
unfolding name_line
name_line_resolved entries text bytes same utf8 = grind (arith, is_utf8-from_IsUtf8, name_or-rows)
