-- Texts of identifiers by a name.
use Rattle.std.specs.Prelude.{◌≡◌, ℕ, List, [], ◌∷◌, ◌++◌, length, drop, decimal}
use Rattle.const_oid.specs.declared.oid_ref.ObjectIdentifierRef.{ObjectIdentifierRef}
use Rattle.const_oid.specs.Names.{Entry, entry_arcs, name_of, IsNearest}
use Rattle.const_oid.specs.Text.{dot}

-- arcs in decimal, each after a dot
abbrev pub dotted : List ℕ → List ℕ
dotted [] = []
dotted (arc ∷ arcs) = dot ∷ (decimal arc ++ dotted arcs)

-- the text is the name of the entry with the longest prefix of the arcs, and the arcs after that prefix
pub record IsLabel (entries : List (Entry ObjectIdentifierRef)) (arcs text : List ℕ) : Type 0 where
  pub entry : Entry ObjectIdentifierRef
  pub nearest : IsNearest entries arcs entry
  pub is : text ≡ (name_of entry).now ++ dotted (drop (length (entry_arcs entry)) arcs)
