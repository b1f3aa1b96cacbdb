-- Arcs that an iterator passes over.
use Rattle.std.proofs.Common.{◌≡◌, ◌+◌, ◌≤◌, length, ℕ, List, [], ◌∷◌, ◌++◌, drop, sym, ap, ◌∙◌, arith, append-nil}
use Rattle.std.specs.{Iterator.{YieldsFirst, Yields, SkipsThenYields}, Option.MatchOption, Prelude.{Option, Some, None}}
use Rattle.std.proofs.{Math.ListN.drop_of_length-le, Math.Seq.drop-append-add}

abbrev Takes : List ℕ → Option ℕ → List ℕ → Type 0
Takes = YieldsFirst (λ arcs. arcs)

-- the arcs that came, and those that are left
came : (arcs before left : List ℕ) → Yields Takes arcs before left → arcs ≡ before ++ left
came arcs [] left y = y
came arcs (arc ∷ before) left (j, e, y) = e ∙ ap (λ xs. arc ∷ xs) (came j before left y)

-- after `count` arcs, and one more, or after all
skipped_then : (count : ℕ) (before left after : List ℕ) (arc : Option ℕ) → Takes left arc after
    → MatchOption arc (length before ≤ count) (λ _. length before ≡ count) → after ≡ drop (count + 1) (before ++ left)
skipped_then count before left after None (none, end) few =
    rw (none, end, append-nil) (sym (drop_of_length-le before (omega arith)))
skipped_then count before left after (Some arc) next is =
    sym (rw (← is, next) (drop-append-add before (arc ∷ after) 1))

pub skipped : (count : ℕ) (arcs after : List ℕ) (arc : Option ℕ)
    → SkipsThenYields Takes arcs count arc after → after ≡ drop (count + 1) arcs
skipped count arcs after arc (before, (left, y, next), few) =
    rw (came arcs before left y) (skipped_then count before left after arc next few)
