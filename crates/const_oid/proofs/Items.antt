-- Lists of arcs have no fault exactly where they are identifiers that fit.
use Rattle.std.proofs.Common.{◌≡◌, ℕ, ◌+◌, ◌*◌, ◌≤◌, List, [], ◌∷◌, ◌++◌, None, arith, append_assoc, append-nil, le-ltb}
use Rattle.std.proofs.Common.{nat_lt, rules}
use Rattle.std.specs.List.{AllByRecursion}
use Rattle.std.proofs.lemmas.{Bool.Decides.nat_tests, Grind.common_steps}
use Rattle.const_oid.specs.{declared.error.Error.TheVariants.ArcInvalid, Error.fault_if}
use Rattle.const_oid.specs.Identifier.{RootRule, max_arc, max_second, IsIdentifier, size}
use Rattle.const_oid.specs.Items.{arc_fault, too_few_fault, items_fault, item_fault}
use Rattle.const_oid.proofs.{Lists.{append-cons, all_append}, Faults.both_none}
use Rattle.const_oid.proofs.Lengths.{size-cons, size_prefix, root_short}

-- a second arc is rejected for its range alone
pub second_fits : (rule : RootRule) (capacity : ℕ) (first second : ℕ) → 5 ≤ capacity → first ≤ 2 → arc_fault rule capacity (first ∷ []) second ≡ fault_if (nat_lt (max_second rule first) second) (ArcInvalid second)
second_fits rule capacity first second fits low =
    grind (arith, nat_tests, root_short rule (40 * first + second), size-cons first second [])

-- ---- arcs so far

-- the arcs begin an identifier that fits
abbrev pub IsBegun : RootRule → ℕ → List ℕ → Type 0
IsBegun rule capacity [] = Unit {0}
IsBegun rule capacity (a ∷ []) = a ≤ 2
IsBegun rule capacity (a ∷ b ∷ later) = IsIdentifier rule (a ∷ b ∷ later) × (size (a ∷ b ∷ later) ≤ capacity)

-- one more arc without a fault
pub begun_more : (rule : RootRule) (capacity : ℕ) (before : List ℕ) (arc : ℕ) → IsBegun rule capacity before → arc ≤ max_arc → arc_fault rule capacity before arc ≡ None → IsBegun rule capacity (before ++ arc ∷ [])
begun_more rule capacity before arc b l h = grind (arith, all_append)

-- an arc of an identifier that fits has no fault
pub arc_none : (rule : RootRule) (capacity : ℕ) (before : List ℕ) (arc : ℕ) (rest : List ℕ) → IsIdentifier rule (before ++ arc ∷ rest) → size (before ++ arc ∷ rest) ≤ capacity → arc_fault rule capacity before arc ≡ None
arc_none rule capacity before arc rest i s = grind (arith, nat_tests, common_steps, size_prefix, le-ltb, append_assoc)

-- ---- whole lists

-- two arcs or more that begin an identifier are one
pub whole_from_begun : (rule : RootRule) (capacity : ℕ) (arcs : List ℕ) → IsBegun rule capacity arcs → too_few_fault arcs ≡ None → IsIdentifier rule arcs × (size arcs ≤ capacity)
whole_from_begun rule capacity arcs b h = search rules

-- an identifier has two arcs or more
pub few_none : (rule : RootRule) (arcs : List ℕ) → IsIdentifier rule arcs → too_few_fault arcs ≡ None
few_none rule arcs i = search rules

items_none : (rule : RootRule) (capacity : ℕ) (before items : List ℕ) → IsIdentifier rule (before ++ items)
    → size (before ++ items) ≤ capacity → items_fault rule capacity before items ≡ None
items_none rule capacity before [] identifier fits = few_none rule before (rw append-nil at identifier)
items_none rule capacity before (x ∷ xs) identifier fits =
    let joined = append-cons before x xs in
    rw (arc_none rule capacity before x xs identifier fits)
    (items_none rule capacity (before ++ x ∷ []) xs (rw (← joined) at identifier) (rw (← joined) at fits))

items_valid : (rule : RootRule) (capacity : ℕ) (before items : List ℕ) → IsBegun rule capacity before
    → AllByRecursion (λ n. n ≤ max_arc) items → items_fault rule capacity before items ≡ None
    → IsIdentifier rule (before ++ items) × (size (before ++ items) ≤ capacity)
items_valid rule capacity before [] begun small none = rw append-nil (whole_from_begun rule capacity before begun none)
items_valid rule capacity before (x ∷ xs) begun small none =
    let (first, later) = both_none (arc_fault rule capacity before x) _ none in
    let more = begun_more rule capacity before x begun small.0 first in
    rw (append-cons before x xs) at (items_valid rule capacity (before ++ x ∷ []) xs more small.1 later)

-- an identifier that fits has no fault
pub item_fault-none : (rule : RootRule) (capacity : ℕ) (arcs : List ℕ) → IsIdentifier rule arcs → size arcs ≤ capacity → item_fault rule arcs capacity ≡ None
item_fault-none rule capacity arcs = items_none rule capacity [] arcs

-- and a list of numbers of 32 bits without a fault is one
pub identifier_from_none : (rule : RootRule) (capacity : ℕ) (items : List ℕ) → AllByRecursion (λ n. n ≤ max_arc) items → item_fault rule items capacity ≡ None → IsIdentifier rule items × (size items ≤ capacity)
identifier_from_none rule capacity items = items_valid rule capacity [] items tt
