-- What is displayed, and that it is read back.
use Rattle.std.proofs.Common.{◌≡◌, ℕ, zero, suc, ◌≤◌, true, false, List, [], ◌∷◌, ◌++◌, length, take, drop, nat_eq, nat_lt}
use Rattle.std.proofs.Common.{refl, sym, ap, ◌∙◌, ⊎_elim, if◌then◌else◌, Option, Some, None, Ok}
use Rattle.std.specs.Cmp.Lexicographic.{pointwise}
use Rattle.std.specs.Option.{option_and_then, option_map_or}
use Rattle.std.proofs.lemmas.{Bool.cases_Bool, List.take-append-drop}
use Rattle.const_oid.specs.Identifier.{root_rule, size, IsIdentifier}
use Rattle.const_oid.specs.Rows.{Rows, led, named}
use Rattle.const_oid.specs.Text.{text_answer, text_of}
use Rattle.const_oid.specs.Typed.{displayed, displayed_up_to, dotted, shown, typed_answer, AreReadable}
use Rattle.const_oid.proofs.{BareTexts.{bare_text_of, text_begins_with_digit}, Hashes.same_bytes, SpeltOut.name_answer}
use Rattle.const_oid.proofs.Texts.{arcs_small, text_denotes, text_fault-none, AreArcs}

-- ---- a shown name

abbrev shown_if : List ℕ → List ℕ → List ℕ → Option (List ℕ)
shown_if arcs name other = if pointwise nat_eq other arcs then Some name else None

leads_if : (arcs name shown other : List ℕ) → shown_if arcs shown other ≡ Some name → (shown ≡ name) × (other ≡ arcs)
leads_if arcs name shown other is = ⊎_elim
    (λ (same : pointwise nat_eq other arcs ≡ true). (let e = rw same at is in cc, same_bytes other arcs same))
    (λ (fails : pointwise nat_eq other arcs ≡ false). let e = rw fails at is in cc)
    (cases_Bool (pointwise nat_eq other arcs))

leads_by : (arcs name shown : List ℕ) (led : Option (List ℕ)) → option_and_then (shown_if arcs shown) led ≡ Some name → (shown ≡ name) × (led ≡ Some arcs)
leads_by arcs name shown None is = cc
leads_by arcs name shown (Some other) is = let (same, leads) = leads_if arcs name shown other is in (same, ap Some leads)

-- it is that of an entry, and leads to its arcs
pub record IsShown (entries : Rows) (arcs name : List ℕ) (found : Option (List ℕ)) : Type 0 where
  pub first : found ≡ Some name
  pub leads : led entries name ≡ Some arcs

shown_of : (entries : Rows) (arcs name : List ℕ) (found : Option (List ℕ))
    → option_and_then (λ shown. option_and_then (shown_if arcs shown) (led entries shown)) found ≡ Some name → IsShown entries arcs name found
shown_of entries arcs name None is = cc
shown_of entries arcs name (Some shown) is =
    let (same, leads) = leads_by arcs name shown (led entries shown) is in
    record { first = ap Some same; leads = rw same at leads }

pub is_shown : (entries : Rows) (arcs name : List ℕ) → shown entries arcs ≡ Some name → IsShown entries arcs name (named entries arcs)
is_shown entries arcs name is = shown_of entries arcs name (named entries arcs) is

-- ---- what is displayed

text_answer-text_of : (arcs : List ℕ) (capacity : ℕ) → IsIdentifier root_rule arcs → size arcs ≤ capacity
    → text_answer root_rule (text_of arcs) capacity ≡ Ok arcs
text_answer-text_of arcs capacity identifier fits =
    let denotes = text_denotes root_rule arcs identifier in
    rw (text_fault-none root_rule capacity (text_of arcs) arcs denotes fits) (ap Ok (sym denotes.values))

small_parts : (begun more : List ℕ) → AreArcs (begun ++ more) → AreArcs more
small_parts [] more small = small
small_parts (arc ∷ begun) more small = small_parts begun more small.1

dotted_answer : (entries : Rows) (arcs : List ℕ) (capacity : ℕ) → IsIdentifier root_rule arcs
    → typed_answer entries (text_of arcs) capacity ≡ text_answer root_rule (text_of arcs) capacity
dotted_answer entries [] capacity identifier = absurd identifier
dotted_answer entries (arc ∷ later) capacity identifier =
    let small = arcs_small root_rule (arc ∷ later) identifier in
    rw (bare_text_of arc later small, text_begins_with_digit arc later) refl

by_cases : (P : List ℕ → Type 0) (change : List ℕ → List ℕ) (found : Option (List ℕ)) (default : List ℕ)
    → ((name : List ℕ) → found ≡ Some name → P (change name)) → P default → P (option_map_or change found default)
by_cases P change None default there none = none
by_cases P change (Some name) default there none = there name refl

module _ (entries : Rows) (arcs : List ℕ) (capacity : ℕ) (readable : AreReadable entries) (identifier : IsIdentifier root_rule arcs) (fits : size arcs ≤ capacity) where
  abbrev IsRead : List ℕ → Type 0
  IsRead text = typed_answer entries text capacity ≡ Ok arcs

  dotted_read : IsRead (text_of arcs)
  dotted_read = dotted_answer entries arcs capacity identifier ∙ text_answer-text_of arcs capacity identifier fits

  name_read : (name begun later : List ℕ) → begun ++ later ≡ arcs → shown entries begun ≡ Some name → IsRead (name ++ dotted later)
  name_read name begun later joined is =
      let small = small_parts begun later (rw joined (arcs_small root_rule arcs identifier)) in
      name_answer entries name begun later (readable.names begun name is) (is_shown entries begun name is).leads small
      (λ arc more _ other _. readable.below begun name more other arc is) capacity
      ∙ rw joined (text_answer-text_of arcs capacity identifier fits)

  read_up_to : (n : ℕ) → IsRead (displayed_up_to entries arcs n)
  read_up_to zero = dotted_read
  read_up_to (suc n) = ⊎_elim
      (λ (few : nat_lt n 2 ≡ true). rw few dotted_read)
      (λ (more : nat_lt n 2 ≡ false). rw more (
      by_cases IsRead (λ name. name ++ dotted (drop (suc n) arcs)) (shown entries (take (suc n) arcs)) (displayed_up_to entries arcs n)
      (λ name is. name_read name (take (suc n) arcs) (drop (suc n) arcs) (take-append-drop (suc n) arcs) is) (read_up_to n)))
      (cases_Bool (nat_lt n 2))

  pub displayed_read : IsRead (displayed entries arcs)
  displayed_read = read_up_to (length arcs)
