-- Texts: what is printed is read back, and texts have no fault exactly where they denote arcs that fit.
use Rattle.std.proofs.Common.{◌≡◌, ℕ, ◌+◌, ◌≤◌, false, List, [], ◌∷◌, ◌++◌, length, map, None, refl, sym, ap, ◌∙◌}
use Rattle.std.proofs.Common.{arith, decimal, ◌==◌, append-nil, Bool, true, length-append, rules}
use Rattle.std.specs.{List.{AllByRecursion, join_with_byte}, Prelude.Ok, Str.IsAscii}
use Rattle.std.proofs.lemmas.{Str.IsAscii-append, List.Splits.{slice_split_at, slice_split_none}}
use Rattle.std.proofs.lemmas.Bool.Decides.{nat_tests}
use Rattle.const_oid.specs.Identifier.{RootRule, Narrow, Wide, max_arc, max_second, IsIdentifier, size}
use Rattle.const_oid.specs.{Items.arc_fault, Text.{Denotes, strip_component, strip, text_answer}}
use Rattle.const_oid.specs.Text.{dot, text_of, components_of, number_of, component_fault, components_fault, text_fault, IsNumber}
use Rattle.std.proofs.lemmas.List.Concat.{flat_map-cons}
use Rattle.const_oid.specs.Private.Text.{arc_text, arcs_text}
use Rattle.const_oid.specs.Typed.{dotted}
use Rattle.const_oid.proofs.{Decimals.arc_text_ascii, Lists.{append-cons, all_at}, Faults.both_none}
use Rattle.const_oid.proofs.Items.{IsBegun, begun_more, arc_none, few_none, whole_from_begun}
use Rattle.const_oid.proofs.Numbers.{find-none, digits_from_find, undotted, decimal_is, number_of-decimal}
use Rattle.const_oid.proofs.Numbers.{decimal-number_of}

-- ---- components joined and cut again

components_of-join : (component : List ℕ) (components : List (List ℕ)) → AllByRecursion IsNumber (component ∷ components)
    → components_of (join_with_byte 46 (component ∷ components)) ≡ component ∷ components
components_of-join component [] h = slice_split_none (λ b. b == 46) component (undotted component h.0.1)
components_of-join component (next ∷ more) h = search (slice_split_at, undotted, components_of-join next more h.1)

-- ---- what is printed is read back

abbrev pub AreArcs : List ℕ → Type 0
AreArcs arcs = AllByRecursion (λ n. n ≤ max_arc) arcs

decimals_are : (arcs : List ℕ) → AreArcs arcs → AllByRecursion IsNumber (map decimal arcs)
decimals_are [] l = tt
decimals_are (n ∷ ns) l = (decimal_is n l.0, decimals_are ns l.1)

numbers_of-decimals : (arcs : List ℕ) → AreArcs arcs → map number_of (map decimal arcs) ≡ arcs
numbers_of-decimals [] l = refl
numbers_of-decimals (n ∷ ns) l = let e = number_of-decimal n l.0 in let f = numbers_of-decimals ns l.1 in cc

pub second_small : (rule : RootRule) (a b : ℕ) → b ≤ max_second rule a → b ≤ max_arc
second_small Narrow a b h = omega arith
second_small Wide a b h = grind (arith, nat_tests)

pub arcs_small : (rule : RootRule) (arcs : List ℕ) → IsIdentifier rule arcs → AreArcs arcs
arcs_small rule arcs i = search rules

module _ (rule : RootRule) where
  components_of-text_of : (arcs : List ℕ) → IsIdentifier rule arcs → components_of (text_of arcs) ≡ map decimal arcs
  components_of-text_of arcs i = grind (arith, components_of-join, decimals_are)

  pub text_denotes : (arcs : List ℕ) → IsIdentifier rule arcs → Denotes rule (text_of arcs) arcs
  text_denotes arcs i = grind (arith, components_of-text_of, decimals_are, numbers_of-decimals)

  -- no text denotes two lists
  pub same_denoted : (text a b : List ℕ) → Denotes rule text a → Denotes rule text b → a ≡ b
  same_denoted text a b p q = p.values ∙ sym q.values

  pub same_text : (a b : List ℕ) → IsIdentifier rule a → IsIdentifier rule b → text_of a ≡ text_of b → a ≡ b
  same_text a b i j e = same_denoted (text_of b) a b (rw e at (text_denotes a i)) (text_denotes b j)

-- ---- a text is printed without its leading zeros

stripped_components : (components : List (List ℕ)) → AllByRecursion IsNumber components → AreArcs (map number_of components)
    → map decimal (map number_of components) ≡ map strip_component components
stripped_components [] p l = refl
stripped_components (component ∷ components) p l = search (decimal-number_of, stripped_components components p.1 l.1)

pub text_of-denoted : (rule : RootRule) (text arcs : List ℕ) → Denotes rule text arcs → text_of arcs ≡ strip text
text_of-denoted rule text arcs d = grind (arith, stripped_components)

module _ (rule : RootRule) (capacity : ℕ) where
  -- ---- components without a fault

  record IsValidComponent (before component : List ℕ) : Type 0 where
    number : IsNumber component
    small : number_of component ≤ max_arc
    arc : arc_fault rule capacity before (number_of component) ≡ None

  module _ (before component : List ℕ) (after : List (List ℕ)) where
    component_none : AllByRecursion IsNumber after → IsValidComponent before component
        → component_fault rule capacity before component after ≡ None
    component_none numbers valid = grind (arith, nat_tests, find-none)

    component_valid : component_fault rule capacity before component after ≡ None → IsValidComponent before component
    component_valid none = record {
      number = (grind (arith, nat_tests), grind (arith, nat_tests, digits_from_find));
      small = grind (arith, nat_tests);
      arc = grind (arith, nat_tests);
    }

  -- ---- whole texts

  -- an identifier that fits
  abbrev IsFitting : List ℕ → Type 0
  IsFitting arcs = IsIdentifier rule arcs × (size arcs ≤ capacity)

  components_none : (before : List ℕ) (components : List (List ℕ)) → AllByRecursion IsNumber components
      → IsFitting (before ++ map number_of components) → components_fault rule capacity before components ≡ None
  components_none before [] numbers fits = few_none rule before (rw append-nil at fits.0)
  components_none before (component ∷ after) numbers fits =
      let n = number_of component in
      let rest = map number_of after in
      let valid : IsValidComponent before component = record {
        number = numbers.0;
        small = all_at (λ n. n ≤ max_arc) before n rest (arcs_small rule (before ++ n ∷ rest) fits.0);
        arc = arc_none rule capacity before n rest fits.0 fits.1;
      } in
      let more = components_none (before ++ n ∷ []) after numbers.1 (rw (append-cons before n rest) fits) in
      rw (component_none before component after numbers.1 valid) more

  pub text_fault-none : (text arcs : List ℕ) → Denotes rule text arcs → size arcs ≤ capacity
      → text_fault rule text capacity ≡ None
  text_fault-none text arcs d s = grind (arith, components_none)

  components_valid : (before : List ℕ) (components : List (List ℕ)) → IsBegun rule capacity before
      → components_fault rule capacity before components ≡ None
      → IsFitting (before ++ map number_of components) × AllByRecursion IsNumber components
  components_valid before [] begun none = (rw append-nil (whole_from_begun rule capacity before begun none), tt)
  components_valid before (component ∷ after) begun none =
      let n = number_of component in
      let (first, later) = both_none (component_fault rule capacity before component after) _ none in
      let valid = component_valid before component after first in
      let more = begun_more rule capacity before n begun valid.small valid.arc in
      let (whole, numbers) = components_valid (before ++ n ∷ []) after more later in
      (rw (append-cons before n (map number_of after)) at whole, (valid.number, numbers))

  pub denoted_from_none : (text : List ℕ) → text_fault rule text capacity ≡ None
      → let arcs = map number_of (components_of text) in Denotes rule text arcs × (size arcs ≤ capacity)
  denoted_from_none text h =
      let (fits, numbers) = components_valid [] (components_of text) tt h in
      (record { numbers = numbers; values = refl; identifier = fits.0 }, fits.1)

  -- the arcs that a text is read as are those that it denotes
  pub denoted_from_answer : (text arcs : List ℕ) → Ok arcs ≡ text_answer rule text capacity → Denotes rule text arcs
  denoted_from_answer text arcs e = grind (arith, denoted_from_none)

-- ---- one arc printed after another

-- what arcs add to the text, by whether they are the first
abbrev pub text_left : Bool → List ℕ → List ℕ
text_left true arcs = text_of arcs
text_left false [] = []
text_left false (arc ∷ arcs) = dot ∷ text_of (arc ∷ arcs)

text_of-first : (arc : ℕ) (arcs : List ℕ) → text_of (arc ∷ arcs) ≡ decimal arc ++ text_left false arcs
text_of-first arc arcs = search rules

-- the next arc, and what follows it
pub text_left-cons : (is_first : Bool) (arc : ℕ) (arcs : List ℕ)
    → text_left is_first (arc ∷ arcs) ≡ arc_text is_first arc ++ text_left false arcs
text_left-cons true arc arcs = text_of-first arc arcs
text_left-cons false arc arcs = ap (λ l. 46 ∷ l) (text_of-first arc arcs)

pub length-text_left : (is_first : Bool) (arc : ℕ) (arcs : List ℕ)
    → length (text_left is_first (arc ∷ arcs)) ≡ length (arc_text is_first arc) + length (text_left false arcs)
length-text_left is_first arc arcs = search (text_left-cons, length-append)

pub text_left-nil : (is_first : Bool) → text_left is_first [] ≡ []
text_left-nil true = refl
text_left-nil false = refl

-- a dot and a decimal for each
pub dotted_is : (arcs : List ℕ) → dotted arcs ≡ text_left false arcs
dotted_is [] = refl
dotted_is (arc ∷ arcs) =
    flat_map-cons (λ n. 46 ∷ decimal n) arc arcs ∙ ap (λ l. (46 ∷ decimal arc) ++ l) (dotted_is arcs) ∙ sym (text_left-cons false arc arcs)

arcs_text_is : (is_first : Bool) (arcs : List ℕ) → arcs_text is_first arcs ≡ text_left is_first arcs
arcs_text_is true arcs = refl
arcs_text_is false arcs = dotted_is arcs

pub length-arcs_text : (is_first : Bool) (arc : ℕ) (arcs : List ℕ)
    → length (arcs_text is_first (arc ∷ arcs)) ≡ length (arc_text is_first arc) + length (arcs_text false arcs)
length-arcs_text is_first arc arcs = rw (arcs_text_is is_first (arc ∷ arcs), dotted_is arcs) (length-text_left is_first arc arcs)

pub arcs_text-nil : (is_first : Bool) → arcs_text is_first [] ≡ []
arcs_text-nil true = refl
arcs_text-nil false = refl

pub dotted-cons : (arc : ℕ) (arcs : List ℕ) → dotted (arc ∷ arcs) ≡ arc_text false arc ++ dotted arcs
dotted-cons arc arcs = flat_map-cons (λ n. 46 ∷ decimal n) arc arcs

texts_ascii : (is_first : Bool) (arcs : List ℕ) → AreArcs arcs → IsAscii (text_left is_first arcs)
texts_ascii is_first [] h = rw (text_left-nil is_first) (λ i. omega arith)
texts_ascii is_first (arc ∷ arcs) h =
    let ascii = arc_text_ascii is_first arc (omega (arith, h.0)) in
    rw (text_left-cons is_first arc arcs) (IsAscii-append _ _ ascii (texts_ascii false arcs h.1))

pub text_ascii : (rule : RootRule) (arcs : List ℕ) → IsIdentifier rule arcs → IsAscii (text_of arcs)
text_ascii rule arcs i = texts_ascii true arcs (arcs_small rule arcs i)
