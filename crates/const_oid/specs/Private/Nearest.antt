-- The entry with the longest prefix, of two lists.
use Rattle.std.specs.Prelude.{ℕ, List, ◌++◌, Option, MatchOption}
use Rattle.std.specs.Borrow.{Bor}
use Rattle.std.specs.List.{All}
use Rattle.const_oid.specs.declared.oid_ref.ObjectIdentifierRef.{ObjectIdentifierRef}
use Rattle.const_oid.specs.Names.{Entry, IsNearest, entry_arcs}
use Rattle.const_oid.specs.Tree.{BeginsWith}

-- the entry has the longest prefix of the arcs, or no entry has a prefix
abbrev pub IsNearestOrNone : List (Entry ObjectIdentifierRef) → List ℕ → Option (Bor (Entry ObjectIdentifierRef)) → Type 0
IsNearestOrNone entries arcs found = MatchOption found
    (All (λ entry. BeginsWith arcs (entry_arcs entry) → ⊥) entries) (λ entry. IsNearest entries arcs entry.now)

-- of what is nearest in each of two lists, it is what is nearest in both
abbrev pub IsNearer : (first later found : Option (Bor (Entry ObjectIdentifierRef))) → Type 0
IsNearer first later found = (arcs : List ℕ) (entries others : List (Entry ObjectIdentifierRef))
    → IsNearestOrNone entries arcs first → IsNearestOrNone others arcs later → IsNearestOrNone (entries ++ others) arcs found
