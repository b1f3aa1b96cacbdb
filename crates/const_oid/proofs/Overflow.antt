-- No fault is `Overflow`, and under the wide rule none of octets is an arc out of range.
use Rattle.std.proofs.Common.{◌≢◌, ℕ, List, [], ◌∷◌, ◌++◌, Some, arith}
use Rattle.std.proofs.lemmas.Bool.Decides.{nat_tests}
use Rattle.const_oid.specs.{declared.error.Error.Error, Identifier.{RootRule, Wide}, Items.{arc_fault, items_fault}}
use Rattle.const_oid.specs.declared.error.Error.TheVariants.{ArcInvalid, ArcTooBig, Base128, Overflow}
use Rattle.const_oid.specs.{Contents.{later_fault, octet_fault}, Text.{number_of, component_fault, components_fault}}

-- ---- octets

-- an error that is none of those of later parts
later_other : (other : Error) → ArcTooBig ≢ other → Base128 ≢ other → (parts : List (List ℕ))
    → later_fault parts ≢ Some other
later_other other big base [] = λ e. cc
later_other other big base (part ∷ parts) = grind (arith, later_other other big base parts)

pub octets_not_overflow : (rule : RootRule) (octets : List ℕ) (capacity : ℕ)
    → octet_fault rule octets capacity ≢ Some Overflow
octets_not_overflow rule octets capacity = grind (arith, nat_tests, later_other Overflow)

-- under the wide rule no arc of octets is out of range
pub octets_in_range : (arc : ℕ) (octets : List ℕ) (capacity : ℕ)
    → octet_fault Wide octets capacity ≢ Some (ArcInvalid arc)
octets_in_range arc octets capacity = grind (arith, nat_tests, later_other (ArcInvalid arc))

-- ---- lists and texts

module _ (rule : RootRule) (capacity : ℕ) where
  arc_other : (before : List ℕ) (arc : ℕ) → arc_fault rule capacity before arc ≢ Some Overflow
  arc_other before arc = grind (arith, nat_tests)

  pub items_other : (before items : List ℕ) → items_fault rule capacity before items ≢ Some Overflow
  items_other before [] = grind arith
  items_other before (item ∷ items) =
      grind (arith, nat_tests, arc_other before item, items_other (before ++ item ∷ []) items)

  component_other : (before component : List ℕ) (after : List (List ℕ))
      → component_fault rule capacity before component after ≢ Some Overflow
  component_other before component after = grind (arith, nat_tests, arc_other before (number_of component))

  pub components_other : (before : List ℕ) (components : List (List ℕ))
      → components_fault rule capacity before components ≢ Some Overflow
  components_other before [] = grind arith
  components_other before (component ∷ after) =
      grind (arith, component_other before component after, components_other (before ++ number_of component ∷ []) after)

pub ruleset no_overflow = (octets_not_overflow, components_other, items_other)
