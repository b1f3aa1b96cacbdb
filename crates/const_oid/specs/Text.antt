-- Dotted text. The components of a text stand between its dots.
use Rattle.std.specs.Prelude.{◌≡◌, ℕ, ◌-◌, ◌<◌, Bool, true, false, not, List, [], ◌∷◌, ◌++◌, length, map, decimal, nat_lt, slice_index, ◌==◌, if◌then◌else◌, Option, Result, take_while, find}
use Rattle.std.specs.List.{slice_split, join_with_byte, AllByRecursion}
use Rattle.std.specs.Str.{all_ascii_digits}
use Rattle.std.specs.Option.{option_or, option_map, option_map_or}
use Rattle.std.specs.Char.{is_ascii_digit}
use Rattle.std.specs.Str.Parse.{digits_value}
use Rattle.const_oid.specs.declared.error.Error.{Error}
use Rattle.const_oid.specs.declared.error.Error.TheVariants.{ArcTooBig, DigitExpected, Empty, RepeatedDot, TrailingDot}
use Rattle.const_oid.specs.Identifier.{RootRule, root_rule, max_arc, size, IsIdentifier}
use Rattle.const_oid.specs.Error.{fault_if, answer}
use Rattle.const_oid.specs.Items.{arc_fault, too_few_fault}

-- the byte between two arcs
abbrev pub dot : ℕ
dot = 46

-- the arcs' decimals, joined by dots
abbrev pub text_of : List ℕ → List ℕ
text_of arcs = join_with_byte dot (map decimal arcs)

-- nothing, or a dot and more: what may follow an arc
abbrev pub FollowsArc : List ℕ → Type 0
FollowsArc text = 0 < length text → slice_index text 0 ≡ dot

-- the components
abbrev pub components_of : List ℕ → List (List ℕ)
components_of text = slice_split (λ b. b == dot) text

-- the decimal number of a component's leading digits, 0 where there is none
abbrev pub number_of : List ℕ → ℕ
number_of component = digits_value 10 (take_while is_ascii_digit component)

abbrev pub is_empty : {X : Type 0} → List X → Bool
is_empty [] = true
is_empty (x ∷ xs) = false

-- exactly one component follows, and it is empty
abbrev pub is_one_empty : List (List ℕ) → Bool
is_one_empty [] = false
is_one_empty (component ∷ []) = is_empty component
is_one_empty (component ∷ next ∷ more) = false

-- the fault of an empty component, by the arcs before it and the components after it
abbrev pub empty_fault : List ℕ → List (List ℕ) → Error
empty_fault [] [] = Empty
empty_fault [] (next ∷ more) = DigitExpected dot
empty_fault (arc ∷ arcs) [] = TrailingDot
empty_fault (arc ∷ arcs) (next ∷ more) = RepeatedDot

-- what is wrong with a component at a capacity, by the arcs before it and the components after it: what applies first
abbrev pub component_fault : RootRule → ℕ → List ℕ → List ℕ → List (List ℕ) → Option Error
component_fault rule capacity before component after =
    option_or (fault_if (nat_lt max_arc (number_of component)) ArcTooBig)
    (option_or (option_map (λ b. DigitExpected b) (find (λ b. not (is_ascii_digit b)) component))
    (option_or (fault_if (is_empty component) (empty_fault before after))
    (option_or (fault_if (is_one_empty after) TrailingDot)
    (arc_fault rule capacity before (number_of component)))))

-- the fault of the first component that has one, or that there are fewer than two
abbrev pub components_fault : RootRule → ℕ → List ℕ → List (List ℕ) → Option Error
components_fault rule capacity before [] = too_few_fault before
components_fault rule capacity before (component ∷ after) =
    option_or (component_fault rule capacity before component after) (components_fault rule capacity (before ++ number_of component ∷ []) after)

-- the fault of the text at a capacity, if there is one
abbrev pub text_fault : RootRule → List ℕ → ℕ → Option Error
text_fault rule text capacity = components_fault rule capacity [] (components_of text)

-- the index of the first wrong component, by the arcs before it, at a capacity that is enough; or else of the last one
abbrev pub wrong_index : List ℕ → List (List ℕ) → ℕ
wrong_index before [] = length before - 1
wrong_index before (component ∷ after) =
    let arcs = before ++ number_of component ∷ [] in
    option_map_or (λ _. length before) (component_fault root_rule (size arcs) before component after) (wrong_index arcs after)

-- a component is a number in digits
abbrev pub IsNumber : List ℕ → Type 0
IsNumber component = (0 < length component) × (all_ascii_digits component ≡ true)

-- the text denotes the arcs
pub record Denotes (rule : RootRule) (text arcs : List ℕ) : Type 0 where
  pub numbers : AllByRecursion IsNumber (components_of text)
  pub values : arcs ≡ map number_of (components_of text)
  pub identifier : IsIdentifier rule arcs

-- a component without its leading zeros, one of zeros alone keeping one
-- a law ties it to text_of, by strip: laws::texts_denote
abbrev pub strip_component : List ℕ → List ℕ
strip_component [] = []
strip_component (b ∷ []) = b ∷ []
strip_component (b ∷ c ∷ bs) = if b == 48 then strip_component (c ∷ bs) else b ∷ c ∷ bs

-- the text without the leading zeros of its components
-- a law ties it to text_of: laws::texts_denote
abbrev pub strip : List ℕ → List ℕ
strip text = join_with_byte dot (map strip_component (components_of text))

-- what the text is read as at a capacity: its fault, or the numbers of its components
abbrev pub text_answer : RootRule → List ℕ → ℕ → Result (List ℕ) Error
text_answer rule text capacity = answer (text_fault rule text capacity) (map number_of (components_of text))
