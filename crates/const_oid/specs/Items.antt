-- Lists of arcs as they come.
use Rattle.std.specs.Prelude.{◌≡◌, ℕ, List, [], ◌∷◌, ◌++◌, nat_lt, Option, Some, None, Result, MatchResult}
use Rattle.std.specs.Iterator.Runs.{SomeRun, WholeRun, ItemsAre}
use Rattle.std.specs.Option.{option_or}
use Rattle.const_oid.specs.declared.error.Error.{Error}
use Rattle.const_oid.specs.declared.error.Error.TheVariants.{ArcInvalid, Empty, Length}
use Rattle.const_oid.specs.Error.{fault_if, answer}
use Rattle.const_oid.specs.Identifier.{RootRule, max_second, size}

-- what is wrong with an arc that follows others, at a capacity in octets: its range, or the length of the encoding
abbrev pub arc_fault : RootRule → ℕ → List ℕ → ℕ → Option Error
arc_fault rule capacity [] arc = fault_if (nat_lt 2 arc) (ArcInvalid arc)
arc_fault rule capacity (first ∷ []) arc =
    option_or (fault_if (nat_lt (max_second rule first) arc) (ArcInvalid arc))
    (fault_if (nat_lt capacity (size (first ∷ arc ∷ []))) Length)
arc_fault rule capacity (first ∷ second ∷ later) arc = fault_if (nat_lt capacity (size (first ∷ second ∷ later ++ arc ∷ []))) Length

-- fewer than two arcs
abbrev pub too_few_fault : List ℕ → Option Error
too_few_fault [] = Some Empty
too_few_fault (arc ∷ []) = Some Empty
too_few_fault (first ∷ second ∷ later) = None

-- the fault of the first item that has one, at a capacity and after the arcs before it
abbrev pub items_fault : RootRule → ℕ → List ℕ → List ℕ → Option Error
items_fault rule capacity before [] = too_few_fault before
items_fault rule capacity before (item ∷ items) = option_or (arc_fault rule capacity before item) (items_fault rule capacity (before ++ item ∷ []) items)

-- the fault of the list at a capacity, if there is one
abbrev pub item_fault : RootRule → List ℕ → ℕ → Option Error
item_fault rule items capacity = items_fault rule capacity [] items

-- what the list is taken as at a capacity: its fault, or itself
abbrev pub item_answer : RootRule → List ℕ → ℕ → Result (List ℕ) Error
item_answer rule items capacity = answer (item_fault rule items capacity) items

-- what the iterator gave explains the result: `Ok` if it gave all its items and they are the arcs, without a fault;
-- `Err` if every list that begins with the items given has this fault, or, where it ended, the list of exactly these
abbrev pub TakesItems : {S : Type 0} → RootRule → ℕ → (S → Option ℕ → S → Type 0) → S → Result (List ℕ) Error → Type 0
TakesItems rule capacity steps iterator result = MatchResult result
    (λ arcs. WholeRun steps iterator (λ run. (run.items ≡ arcs) × (item_fault rule arcs capacity ≡ None)))
    (λ fault. SomeRun steps iterator (λ run. (items : List ℕ) → ItemsAre run items → item_fault rule items capacity ≡ Some fault))
