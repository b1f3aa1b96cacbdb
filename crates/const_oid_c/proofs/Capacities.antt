-- A result at a capacity is the result at a greater one, unless it is the fault `Length`.
use Rattle.std.proofs.Common.{◌≡◌, ◌≢◌, ℕ, ◌≤◌, List, [], ◌∷◌, ◌++◌, length, map, true, refl, arith, Ok, Err, ap, sym, ◌∙◌}
use Rattle.std.specs.Prelude.{Option, None, Some, Result}
use Rattle.std.specs.Str.{is_utf8}
use Rattle.std.proofs.lemmas.Bool.Decides.{nat_tests}
use Rattle.const_oid.specs.declared.error.Error.{Error}
use Rattle.const_oid.specs.declared.error.Error.TheVariants.{Length}
use Rattle.const_oid.specs.{Contents.arcs_of_octets, Identifier.{root_rule, size, IsEncoding}, Output.IsEncodedIn}
use Rattle.const_oid.specs.Items.{arc_fault, items_fault, item_answer}
use Rattle.const_oid.specs.{declared.outputs.Stop.Stop, Stop.{component_at, error_at, IsWrongAt}}
use Rattle.const_oid.specs.Text.{component_fault, components_fault, components_of, number_of, text_answer}
use Rattle.const_oid.proofs.Ascii.{answer_utf8}
use Rattle.const_oid.proofs.{Encodings.encoding_of-encoded, Enough.{bytes_enough, size_enough_text}}
use Rattle.const_oid.proofs.{Lengths.length_is_size, Texts.denoted_from_answer}
use Rattle.const_oid_c.specs.Results.{octets_of_text}
use Rattle.const_oid_c.specs.Status.{fault_at, max_len}

module _ (low high : ℕ) (less : low ≤ high) where
  -- the fault at the low capacity is that at the high one, or `Length`
  abbrev IsSame : (ℕ → Option Error) → Type 0
  IsSame fault = fault low ≢ Some Length → fault low ≡ fault high

  -- an arc, after others
  same_arc : (before : List ℕ) (arc : ℕ) → IsSame (λ capacity. arc_fault root_rule capacity before arc)
  same_arc before arc other = grind (arith, nat_tests)

  -- arcs, after others
  same_items : (before items : List ℕ) → IsSame (λ capacity. items_fault root_rule capacity before items)
  same_items before [] other = refl
  same_items before (item ∷ items) other =
      grind (arith, same_arc before item, same_items (before ++ item ∷ []) items)

  -- a component of a text, between others
  same_component : (before component : List ℕ) (after : List (List ℕ))
      → IsSame (λ capacity. component_fault root_rule capacity before component after)
  same_component before component after other = grind (arith, same_arc before (number_of component))

  -- components of a text, after others
  same_components : (before : List ℕ) (components : List (List ℕ))
      → IsSame (λ capacity. components_fault root_rule capacity before components)
  same_components before [] other = refl
  same_components before (component ∷ after) other =
      grind (arith, same_component before component after, same_components (before ++ number_of component ∷ []) after)

  -- the result at the low capacity is that at the high one, or the fault `Length`
  abbrev IsSameAnswer : (ℕ → Result (List ℕ) Error) → Type 0
  IsSameAnswer result = result low ≢ Err Length → result low ≡ result high

  -- the result of a text
  pub same_text : (text : List ℕ) → IsSameAnswer (text_answer root_rule text)
  same_text text other = grind (arith, same_components [] (components_of text))

  -- the result of arcs
  pub same_arcs : (arcs : List ℕ) → IsSameAnswer (item_answer root_rule arcs)
  same_arcs arcs other = grind (arith, same_items [] arcs)

-- the error is `Length` only if that is the fault where the reading stops
pub not_length : (text : List ℕ) (fault : Option Error) (place : ℕ) → fault ≢ Some Length → error_at text (record { 0 = fault; 1 = place }) ≢ Length
not_length text None place other same = grind (arith, nat_tests, same)
not_length text (Some fault) place other same = grind (arith, nat_tests, same, other)

module _ (capacity : ℕ) (less : capacity ≤ max_len) (text : List ℕ) where
  -- the octets of a text that fit a capacity
  pub fitting_text : (arcs octets : List ℕ) → IsEncoding root_rule arcs octets → text_answer root_rule text capacity ≡ Ok arcs
      → Ok octets ≡ octets_of_text text
  fitting_text arcs octets encoding answer =
      let other : text_answer root_rule text capacity ≢ Err Length = λ same. cc in
      let large = sym (same_text capacity max_len less text other) ∙ answer in
      rw (answer_utf8 root_rule capacity text arcs answer, large) (ap Ok (sym (encoding_of-encoded encoding)))

  -- a fault but `Length`
  pub wrong_text : {fault : Error} → fault ≢ Length → text_answer root_rule text capacity ≡ Err fault
      → text_answer root_rule text max_len ≡ Err fault
  wrong_text other answer =
      let not_long : text_answer root_rule text capacity ≢ Err Length = λ same. other cc in
      sym (same_text capacity max_len less text not_long) ∙ answer

  -- where the reading stops, but by `Length`
  pub wrong_stop : (stop : Stop) → stop.0 ≢ Some Length → IsWrongAt capacity text stop → IsWrongAt max_len text stop
  wrong_stop stop other is =
      let rest = not_length text stop.0 stop.1 other in
      (wrong_text rest is.0, λ same. is.1 rest)

-- where the reading stops, the status has the error
pub stop_status : (text : List ℕ) (stop : Stop) → length text ≤ max_len → is_utf8 text ≡ true → IsWrongAt max_len text stop
    → octets_of_text text ≡ Err (fault_at (component_at text stop.1) (error_at text stop))
stop_status text stop within utf8 is =
    let index = is.1 (λ same. bytes_enough root_rule text max_len within (is.0 ∙ ap Err same)) in
    rw (utf8, is.0, index) refl

-- at a capacity of just the octets that were counted, a text has the same answer
pub same_counted : (len : ℕ) (text none nothing : List ℕ) → len ≤ max_len → IsEncodedIn max_len (text_answer root_rule text max_len) none nothing len
    → text_answer root_rule text len ≡ text_answer root_rule text max_len
same_counted len text none nothing less is =
    let denoted = denoted_from_answer root_rule max_len text (arcs_of_octets is.octets) (sym is.answer) in
    let count = length_is_size is.encoding in
    let fits : size (map number_of (components_of text)) ≤ len = rw (← denoted.values) (omega (arith, count, is.long)) in
    same_text len max_len less text (size_enough_text root_rule len text fits)
