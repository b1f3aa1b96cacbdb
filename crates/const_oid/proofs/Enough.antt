-- Octets that are enough: at a capacity of as many, neither arcs nor a text have the fault `Length`.
use Rattle.std.proofs.Common.{◌≡◌, ◌≢◌, ℕ, zero, suc, ◌+◌, ◌-◌, ◌*◌, ◌^◌, ◌<◌, ◌≤◌, List, [], ◌∷◌, ◌++◌, length, map, get_or, arith, Bool, true, false, cond, refl}
use Rattle.std.proofs.Common.{◌∙◌, ◌==◌, ap, nat_lt, take_while, sum_by, pow-suc}
use Rattle.std.specs.Prelude.{None, Some, Err}
use Rattle.std.specs.{List.{AllByRecursion, onto_first}, Option.option_or, Char.is_ascii_digit, Str.all_ascii_digits}
use Rattle.std.proofs.Math.Nat.{pow-le-pow_left}
use Rattle.std.proofs.lemmas.{Bool.Decides.nat_tests, Nat.pow-add, List.Splits.length-slice_split}
use Rattle.std.proofs.lemmas.{List.{Folds.length-prefix_len, Sums.{prefix_len-le-length, sum_by-cons, take_while-cons}}, Str.Parse.digits_value_short}
use Rattle.const_oid.specs.{Base128.width, declared.error.Error.TheVariants.{ArcInvalid, Length}, Error.fault_if}
use Rattle.const_oid.specs.Identifier.{RootRule, max_arc, max_second, size}
use Rattle.const_oid.specs.Items.{arc_fault, items_fault, item_answer}
use Rattle.const_oid.specs.Text.{components_of, number_of, component_fault, components_fault, text_answer}
use Rattle.const_oid.proofs.{Faults.{both_other, none_from_below}, Groups.width_is, Lengths.{size-cons, size_prefix}, Lists.append-cons, Numbers.numerals}

module _ (rule : RootRule) (capacity : ℕ) where
  -- ---- a capacity of their size

  second_other : (test : Bool) (arc : ℕ) → option_or (fault_if test (ArcInvalid arc)) None ≢ Some Length
  second_other true arc same = cc
  second_other false arc same = cc

  arc_enough : (before : List ℕ) (arc : ℕ) (rest : List ℕ) → size (before ++ arc ∷ rest) ≤ capacity
      → arc_fault rule capacity before arc ≢ Some Length
  arc_enough [] arc rest fits = grind (arith, nat_tests)
  arc_enough (first ∷ []) arc rest fits =
      let less = size_prefix first arc [] rest in
      let none = none_from_below capacity (size (first ∷ arc ∷ [])) Length (omega arith) in
      rw none (second_other (nat_lt (max_second rule first) arc) arc)
  arc_enough (first ∷ second ∷ later) arc rest fits =
      let less = rw (append-cons later arc rest) at (size_prefix first second (later ++ arc ∷ []) rest) in
      let none = none_from_below capacity (size (first ∷ second ∷ later ++ arc ∷ [])) Length (omega arith) in
      rw none (λ same. cc)

  items_enough : (before items : List ℕ) → size (before ++ items) ≤ capacity
      → items_fault rule capacity before items ≢ Some Length
  items_enough before [] fits = grind (arith, nat_tests)
  items_enough before (item ∷ items) fits =
      both_other (arc_fault rule capacity before item) (items_fault rule capacity (before ++ item ∷ []) items) Length
      (arc_enough before item items fits)
      (items_enough (before ++ item ∷ []) items (rw (append-cons before item items) fits))

  component_enough : (before component : List ℕ) (after : List (List ℕ)) → size (before ++ number_of component ∷ map number_of after) ≤ capacity
      → component_fault rule capacity before component after ≢ Some Length
  component_enough before component after fits = grind (arith, nat_tests, arc_enough before (number_of component) (map number_of after))

  pub components_enough : (before : List ℕ) (components : List (List ℕ)) → size (before ++ map number_of components) ≤ capacity
      → components_fault rule capacity before components ≢ Some Length
  components_enough before [] fits = grind (arith, nat_tests)
  components_enough before (component ∷ after) fits =
      let n = number_of component in
      both_other (component_fault rule capacity before component after) (components_fault rule capacity (before ++ n ∷ []) after) Length
      (component_enough before component after fits)
      (components_enough (before ++ n ∷ []) after (rw (append-cons before n (map number_of after)) fits))

  pub size_enough_items : (arcs : List ℕ) → size arcs ≤ capacity → item_answer rule arcs capacity ≢ Err Length
  size_enough_items arcs fits = grind (arith, nat_tests, items_enough [] arcs)

  pub size_enough_text : (text : List ℕ) → size (map number_of (components_of text)) ≤ capacity
      → text_answer rule text capacity ≢ Err Length
  size_enough_text text fits = grind (arith, nat_tests, components_enough [] (components_of text))

-- ---- five for each arc

width_arc : (arc : ℕ) → arc ≤ max_arc → width arc ≤ 5
width_arc arc small = (width_is arc).least 5 (omega arith) (omega arith)

-- numbers of 32 bits, whether or not the first two are in range
root_wide : (first second : ℕ) → first ≤ max_arc → second ≤ max_arc → width (40 * first + second) ≤ 10
root_wide first second small small' = (width_is (40 * first + second)).least 10 (omega arith) (omega arith)

widths_arcs : (arcs : List ℕ) → AllByRecursion (λ arc. arc ≤ max_arc) arcs → sum_by width arcs ≤ 5 * length arcs
widths_arcs [] small = omega arith
widths_arcs (arc ∷ arcs) small =
    omega (arith, sum_by-cons width arc arcs, width_arc arc small.0, widths_arcs arcs small.1)

pub size_arcs : (arcs : List ℕ) → AllByRecursion (λ arc. arc ≤ max_arc) arcs → size arcs ≤ 5 * length arcs
size_arcs [] small = omega arith
size_arcs (arc ∷ []) small = omega arith
size_arcs (first ∷ second ∷ later) small =
    omega (arith, size-cons first second later, root_wide first second small.0 small.1.0, widths_arcs later small.1.1)

pub all_small : (arcs : List ℕ) → ((k : ℕ) → get_or arcs k 0 < 2 ^ 32) → AllByRecursion (λ arc. arc ≤ max_arc) arcs
all_small [] small = tt
all_small (arc ∷ arcs) small = (omega (arith, small 0), all_small arcs (λ k. small (suc k)))

pub five_enough : (rule : RootRule) (arcs : List ℕ) (capacity : ℕ) → ((k : ℕ) → get_or arcs k 0 < 2 ^ 32)
    → 5 * length arcs ≤ capacity → item_answer rule arcs capacity ≢ Err Length
five_enough rule arcs capacity small room =
    size_enough_items rule capacity arcs (omega (arith, size_arcs arcs (all_small arcs small)))

-- ---- as many as the text has bytes

digits_first : (component : List ℕ) → all_ascii_digits (take_while is_ascii_digit component) ≡ true
digits_first [] = refl
digits_first (b ∷ bs) = rw take_while-cons (first (digits_first bs) (is_ascii_digit b) refl) where
  first : all_ascii_digits (take_while is_ascii_digit bs) ≡ true → (test : Bool) → is_ascii_digit b ≡ test
      → all_ascii_digits (cond test (b ∷ take_while is_ascii_digit bs) []) ≡ true
  first later true is = rw (is, later) refl
  first later false is = refl

fewer_digits : (component : List ℕ) → length (take_while is_ascii_digit component) ≤ length component
fewer_digits component = rw length-prefix_len (prefix_len-le-length is_ascii_digit component)

number_below : (component : List ℕ) → number_of component < 128 ^ length component
number_below component =
    let below : number_of component < 10 ^ length component = digits_value_short numerals (take_while is_ascii_digit component) (length component) (digits_first component) (fewer_digits component) in
    let powers : 10 ^ length component ≤ 128 ^ length component = pow-le-pow_left (omega arith) (length component) in
    omega arith

width_component : (component : List ℕ) → width (number_of component) ≤ 1 + length component
width_component component =
    let below = number_below component in
    let power = pow-suc 128 (length component) in
    omega (arith, (width_is (number_of component)).least (suc (length component)) (omega arith) (omega arith))

-- two numbers below powers, and one less than the product of these
sum_below : (a b p q : ℕ) → a < p → b < q → 40 * a + b < p * q * 128
sum_below a b zero q a_below b_below = absurd (omega arith)
sum_below a b (suc p) zero a_below b_below = absurd (omega arith)
sum_below a b (suc p) (suc q) a_below b_below = omega arith

root_components : (first second : List ℕ)
    → width (40 * number_of first + number_of second) ≤ 1 + length first + length second
root_components first second =
    let n = 40 * number_of first + number_of second in
    let k = length first + length second in
    let below = sum_below (number_of first) (number_of second) (128 ^ length first) (128 ^ length second) (number_below first) (number_below second) in
    let power : 128 ^ suc k ≡ 128 ^ length first * 128 ^ length second * 128 =
    pow-suc 128 k ∙ ap (λ p. p * 128) (pow-add 128 (length first) (length second)) in
    omega (arith, (width_is n).least (suc k) (omega arith) (omega arith))

-- the bytes of components, and a dot after each
abbrev pub bytes_of : List (List ℕ) → ℕ
bytes_of [] = 0
bytes_of (component ∷ components) = 1 + length component + bytes_of components

bytes_of-onto_first : (b : ℕ) (components : List (List ℕ)) → 0 < length components → bytes_of (onto_first b components) ≡ 1 + bytes_of components
bytes_of-onto_first b [] some = absurd (omega arith)
bytes_of-onto_first b (component ∷ components) some = omega arith

pub bytes_of-components : (text : List ℕ) → bytes_of (components_of text) ≡ 1 + length text
bytes_of-components [] = refl
bytes_of-components (b ∷ bs) =
    grind (arith, nat_tests, bytes_of-components bs, length-slice_split (λ b. b == 46) bs, bytes_of-onto_first b (components_of bs))

pub widths_components : (components : List (List ℕ)) → sum_by width (map number_of components) ≤ bytes_of components
widths_components [] = omega arith
widths_components (component ∷ components) =
    omega (arith, sum_by-cons width (number_of component) (map number_of components), width_component component, widths_components components)

size_components : (components : List (List ℕ)) → size (map number_of components) ≤ bytes_of components - 1
size_components [] = omega arith
size_components (component ∷ []) = omega arith
size_components (first ∷ second ∷ later) =
    omega (arith, size-cons (number_of first) (number_of second) (map number_of later), root_components first second, widths_components later)

pub size_text : (text : List ℕ) → size (map number_of (components_of text)) ≤ length text
size_text text = omega (arith, size_components (components_of text), bytes_of-components text)

pub bytes_enough : (rule : RootRule) (text : List ℕ) (capacity : ℕ) → length text ≤ capacity → text_answer rule text capacity ≢ Err Length
bytes_enough rule text capacity room = size_enough_text rule capacity text (omega (arith, size_text text))
