-- What the items that an iterator gave say of each list that they begin.
use Rattle.std.proofs.Common.{◌≡◌, ℕ, ◌≤◌, List, [], ◌∷◌, ◌++◌, None, refl, arith, append_assoc, append-nil, true, false}
use Rattle.std.proofs.Common.{drop, length, Option, Some, sym, ap, ◌∙◌}
use Rattle.std.specs.{Prelude.{Result, Ok, Err, IsErrAnd}, Iterator.Yields, Iterator.Runs.{EachRunFrom, Run, ItemsAre}}
use Rattle.std.proofs.iter.runs.Made.{run, to_end, to_item}
use Rattle.std.proofs.lemmas.List.Prefix.{front_from_reads}
use Rattle.const_oid.specs.{declared.error.Error.Error, Identifier.{RootRule, root_rule}, Private.Encoder.EncodesItems}
use Rattle.const_oid.specs.Items.{arc_fault, too_few_fault, items_fault, item_answer, item_fault, TakesItems}
use Rattle.const_oid.specs.declared.error.Error.TheVariants.{ArcInvalid}
use Rattle.const_oid.proofs.{Lists.append-cons, Faults.none_from_below}

-- none of the items is rejected, whatever follows them
abbrev pub AreTaken : RootRule → ℕ → List ℕ → Type 0
AreTaken rule capacity given = (later : List ℕ) → item_fault rule (given ++ later) capacity ≡ items_fault rule capacity given later

-- one more item without a fault
pub taken_more : (rule : RootRule) (capacity : ℕ) (given : List ℕ) (arc : ℕ) → AreTaken rule capacity given → arc_fault rule capacity given arc ≡ None → AreTaken rule capacity (given ++ arc ∷ [])
taken_more rule capacity given arc taken fits = grind (arith, append_assoc)

-- the first item, in range
pub first_taken : {first : ℕ} (capacity : ℕ) → first ≤ 2 → AreTaken root_rule capacity (first ∷ [])
first_taken {first} capacity low =
    taken_more root_rule capacity [] first (λ later. refl) (none_from_below 2 first (ArcInvalid first) low)

-- a list begins with the items that a run gave of it
begins_with_run : {S : Type 0} {steps : S → Option ℕ → S → Type 0} (calls : Run steps) (items : List ℕ)
    → ItemsAre calls items → items ≡ calls.items ++ drop (length calls.items) items
begins_with_run calls items are = front_from_reads 0 items calls.items (omega (arith, are.0, calls.long)) (λ k below.
    let here = are.2 k 0 (omega (arith, calls.long)) in
    let there = calls.reads k 0 (omega (arith, calls.long)) in
    cc)

-- calls gave the items, and none of them is rejected
module _ {S : Type 0} (rule : RootRule) (capacity : ℕ) (steps : S → Option ℕ → S → Type 0) (start : S)
    (given : List ℕ) (reached after : S) (yielded : Yields steps start given reached)
    (taken : AreTaken rule capacity given) where
  whole : item_fault rule given capacity ≡ too_few_fault given
  whole = rw append-nil at (taken [])

  -- no item is left, and there are two or more
  pub takes_all : steps reached None after → too_few_fault given ≡ None → TakesItems rule capacity steps start (Ok given)
  takes_all none enough =
      let calls = run steps start given true (to_end steps start given (after, (reached, yielded, none))) in
      (calls, refl, refl, (refl, whole ∙ enough))

  -- no item is left, and there are too few
  pub takes_few : steps reached None after → (fault : Error) → too_few_fault given ≡ Some fault
      → TakesItems rule capacity steps start (Err fault)
  takes_few none fault few =
      let calls = run steps start given true (to_end steps start given (after, (reached, yielded, none))) in (
        calls,
        refl,
        λ items are. ap (λ items. item_fault rule items capacity) (sym (are.4 refl)) ∙ whole ∙ few,
      )

  -- the next item is rejected
  pub takes_prefix : (item : ℕ) (fault : Error) → steps reached (Some item) after
      → Some fault ≡ arc_fault rule capacity given item → TakesItems rule capacity steps start (Err fault)
  takes_prefix item fault next refused =
      let prefix = given ++ item ∷ [] in
      let calls = run steps start prefix false (to_item steps start after given item (reached, yielded, next)) in (
        calls,
        refl,
        λ items are.
            let later = drop (length prefix) items in
            let split : items ≡ given ++ item ∷ later =
            begins_with_run calls items are ∙ append-cons given item later in
            rw (split, taken (item ∷ later), ← refused) refl,
      )

-- the fault that `?` passes on
pub stopped : {S : Type 0} {steps : S → Option ℕ → S → Type 0} {start : S} (capacity : ℕ) (old new : List ℕ)
    (result : Result ℕ Error) (fault : Error) → IsErrAnd result (λ handed. handed ≡ fault)
    → TakesItems root_rule capacity steps start (Err fault) → EncodesItems capacity steps start old new result
stopped capacity old new (Ok x) fault handed takes = absurd handed
stopped capacity old new (Err error) fault handed takes = (Err fault, takes, ap Err (sym handed))

-- the answer of a list, where each run of the iterator reads it
pub list_answer : {S : Type 0} (rule : RootRule) (capacity : ℕ) (steps : S → Option ℕ → S → Type 0) (start : S)
    (items : List ℕ) → EachRunFrom steps start (λ run. ItemsAre run items) → (result : Result (List ℕ) Error)
    → TakesItems rule capacity steps start result → result ≡ item_answer rule items capacity
list_answer rule capacity steps start items each (Ok arcs) (calls, from, ended, is) =
    let all : calls.items ≡ items = (each calls calls.seen from).4 ended in
    let same : arcs ≡ items = sym is.0 ∙ all in
    rw same (rw (rw same at is.1) refl)
list_answer rule capacity steps start items each (Err fault) (calls, from, fails) =
    rw (fails items (each calls calls.seen from)) refl
