-- Capacities that octets fit: each has the same answer.
use Rattle.std.proofs.Common.{◌≡◌, ℕ, ◌*◌, ◌^◌, ◌<◌, ◌≤◌, List, [], ◌∷◌, ◌++◌, length, map, get_or, min, arith, refl, ◌∙◌, sym, ⊎_elim}
use Rattle.std.proofs.lemmas.Bool.{cases_lt}
use Rattle.const_oid.specs.{Identifier.{RootRule, size}, Items.{arc_fault, items_fault, item_answer}}
use Rattle.const_oid.specs.declared.error.Error.TheVariants.{Length}
use Rattle.const_oid.specs.Text.{components_of, number_of, component_fault, components_fault, text_answer}
use Rattle.const_oid.proofs.{Enough.{all_small, size_arcs, size_text}, Faults.none_from_below, Lengths.size_prefix, Lists.append-cons}

module _ (rule : RootRule) (small large : ℕ) (less : small ≤ large) where
  arc_same : (before : List ℕ) (arc : ℕ) (rest : List ℕ) → size (before ++ arc ∷ rest) ≤ small
      → arc_fault rule small before arc ≡ arc_fault rule large before arc
  arc_same [] arc rest fits = refl
  arc_same (first ∷ []) arc rest fits =
      let prefix = size_prefix first arc [] rest in
      let n = size (first ∷ arc ∷ []) in
      rw (none_from_below small n Length (omega arith), none_from_below large n Length (omega arith)) refl
  arc_same (first ∷ second ∷ later) arc rest fits =
      let prefix = rw (append-cons later arc rest) at (size_prefix first second (later ++ arc ∷ []) rest) in
      let n = size (first ∷ second ∷ later ++ arc ∷ []) in
      none_from_below small n Length (omega arith) ∙ sym (none_from_below large n Length (omega arith))

  items_same : (before items : List ℕ) → size (before ++ items) ≤ small
      → items_fault rule small before items ≡ items_fault rule large before items
  items_same before [] fits = refl
  items_same before (item ∷ items) fits =
      rw (arc_same before item items fits, items_same (before ++ item ∷ []) items (rw (append-cons before item items) fits)) refl

  component_same : (before component : List ℕ) (after : List (List ℕ)) → size (before ++ number_of component ∷ map number_of after) ≤ small
      → component_fault rule small before component after ≡ component_fault rule large before component after
  component_same before component after fits = rw (arc_same before (number_of component) (map number_of after) fits) refl

  components_same : (before : List ℕ) (components : List (List ℕ)) → size (before ++ map number_of components) ≤ small
      → components_fault rule small before components ≡ components_fault rule large before components
  components_same before [] fits = refl
  components_same before (component ∷ after) fits =
      let n = number_of component in
      rw (component_same before component after fits, components_same (before ++ n ∷ []) after (rw (append-cons before n (map number_of after)) fits)) refl

-- ---- the lesser of the room and of a number that is enough

pub text_bounded : (rule : RootRule) (text : List ℕ) (capacity room bound : ℕ) → capacity ≡ min room bound
    → length text ≤ bound → text_answer rule text capacity ≡ text_answer rule text room
text_bounded rule text capacity room bound is short = ⊎_elim
    (λ (less : room < bound). let all : capacity ≡ room = omega arith in rw all refl)
    (λ (less : bound ≤ room).
    let fits = size_text text in
    rw (components_same rule capacity room (omega arith) [] (components_of text) (omega arith)) refl)
    (cases_lt room bound)

pub items_bounded : (rule : RootRule) (arcs : List ℕ) (capacity room bound : ℕ) → capacity ≡ min room bound
    → ((k : ℕ) → get_or arcs k 0 < 2 ^ 32) → 5 * length arcs ≤ bound
    → item_answer rule arcs capacity ≡ item_answer rule arcs room
items_bounded rule arcs capacity room bound is small few = ⊎_elim
    (λ (less : room < bound). let all : capacity ≡ room = omega arith in rw all refl)
    (λ (less : bound ≤ room).
    let fits = size_arcs arcs (all_small arcs small) in
    rw (items_same rule capacity room (omega arith) [] arcs (omega arith)) refl)
    (cases_lt room bound)
