-- The first fault of a text at a capacity, and the index of its component.
use Rattle.std.proofs.Common.{◌≡◌, ◌≢◌, ℕ, ◌≤◌, List, [], ◌∷◌, ◌++◌, length, map, refl, sym, ap, ◌∙◌, arith, append-nil, Err}
use Rattle.std.specs.Prelude.{Option, Some, None, Result}
use Rattle.std.specs.{Option.{option_map_or}, Result.{result_map_both}}
use Rattle.std.proofs.lemmas.Bool.Decides.{nat_tests}
use Rattle.const_oid.specs.declared.error.Error.{Error}
use Rattle.const_oid.specs.declared.error.Error.TheVariants.{Length}
use Rattle.const_oid.specs.{Error.answer, Identifier.{root_rule, size}, Items.{arc_fault}}
use Rattle.const_oid.specs.Stop.{component_at}
use Rattle.const_oid.specs.Private.Parser.{or_later, components_found, text_found, IsFaultAt, IsFoundAt}
use Rattle.const_oid.specs.Text.{number_of, component_fault, components_fault, components_of, text_answer, wrong_index, Denotes}
use Rattle.const_oid.proofs.{Enough.{bytes_enough, size_text}, Lists.append-cons, Texts.text_fault-none}

-- without the index
abbrev pub without_index : Result (List ℕ) (Error × ℕ) → Result (List ℕ) Error
without_index found = result_map_both (λ arcs. arcs) (λ fault. fault.0) found

-- the first of two, by what is enough for its fault
first_index : (own enough : Option Error) (index next : ℕ) (later : Result (List ℕ) (Error × ℕ)) {fault : Error} {place : ℕ}
    → (own ≢ Some Length → own ≡ enough) → fault ≢ Length → (later ≡ Err (fault, place) → place ≡ next)
    → or_later own index later ≡ Err (fault, place) → place ≡ option_map_or (λ _. index) enough next
first_index None enough index next later same other rest found = rw (← same (λ e. cc)) (rest found)
first_index (Some own) enough index next later same other rest found =
    rw (← same (λ e. other (grind (arith)))) (grind (arith))

module _ (capacity : ℕ) where
  pub same_answer : (before : List ℕ) (components : List (List ℕ)) → without_index (components_found capacity before components)
      ≡ answer (components_fault root_rule capacity before components) (before ++ map number_of components)
  same_answer [] [] = refl
  same_answer (arc ∷ []) [] = refl
  same_answer (first ∷ second ∷ later) [] = rw append-nil refl
  same_answer before (component ∷ after) =
      let n = number_of component in
      let later = same_answer (before ++ n ∷ []) after in
      grind (arith, append-cons before n (map number_of after), later)

  pub same_text : (text : List ℕ) → without_index (text_found capacity text) ≡ text_answer root_rule text capacity
  same_text text = same_answer [] (components_of text)

  -- a fault but `Length` is one at each capacity
  arc_else : (before : List ℕ) (arc : ℕ) → arc_fault root_rule capacity before arc ≢ Some Length
      → arc_fault root_rule capacity before arc ≡ arc_fault root_rule (size (before ++ arc ∷ [])) before arc
  arc_else [] arc other = refl
  arc_else (first ∷ []) arc other = grind (arith, nat_tests)
  arc_else (first ∷ second ∷ later) arc other = grind (arith, nat_tests)

  component_else : (before component : List ℕ) (after : List (List ℕ)) → component_fault root_rule capacity before component after ≢ Some Length
      → component_fault root_rule capacity before component after
      ≡ component_fault root_rule (size (before ++ number_of component ∷ [])) before component after
  component_else before component after other = grind (arith, arc_else before (number_of component))

  pub index_from_found : (before : List ℕ) (components : List (List ℕ)) {fault : Error} {index : ℕ} → fault ≢ Length
      → components_found capacity before components ≡ Err (fault, index) → index ≡ wrong_index before components
  index_from_found [] [] other found = grind (arith)
  index_from_found (arc ∷ []) [] other found = grind (arith)
  index_from_found (first ∷ second ∷ later) [] other found = cc
  index_from_found before (component ∷ after) other found =
      first_index _ _ (length before) _ _ (component_else before component after) other
      (index_from_found (before ++ number_of component ∷ []) after other) found

  pub answer_from_found : (text : List ℕ) {fault : Error} {index : ℕ} → text_found capacity text ≡ Err (fault, index)
      → text_answer root_rule text capacity ≡ Err fault
  answer_from_found text found = sym (same_text text) ∙ ap without_index found

  pub fault_at : {text : List ℕ} {fault : Error} {place : ℕ} → IsFoundAt capacity text fault place
      → IsFaultAt capacity text fault place
  fault_at {text} is = record {
    answer = answer_from_found text is.found;
    within = is.within;
    component = λ other. omega (arith, is.component, index_from_found [] (components_of text) other is.found);
  }

-- at a capacity of as many octets as the text has bytes
module _ {capacity : ℕ} {text : List ℕ} {fault : Error} (room : length text ≤ capacity) where
  pub not_length : {place : ℕ} → IsFaultAt capacity text fault place → fault ≢ Length
  not_length is same = bytes_enough root_rule text capacity room (is.answer ∙ ap Err same)

  pub wrong_at : {place : ℕ} → IsFaultAt capacity text fault place → component_at text place ≡ wrong_index [] (components_of text)
  wrong_at is = is.component (not_length is)

  pub not_denoted : text_answer root_rule text capacity ≡ Err fault → (arcs : List ℕ) → Denotes root_rule text arcs → ⊥
  not_denoted answer arcs denotes =
      let fits : size arcs ≤ capacity = rw denotes.values (omega (arith, size_text text)) in
      let none = text_fault-none root_rule capacity text arcs denotes fits in
      cc
