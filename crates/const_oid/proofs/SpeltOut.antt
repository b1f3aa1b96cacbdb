-- A name and arcs, spelt out: the arcs of the name in its place.
use Rattle.std.proofs.Common.{◌≡◌, ℕ, zero, suc, ◌+◌, ◌<◌, ◌≤◌, ◌==◌, ◌&&◌, ◌||◌, Bool, true, false, List, [], ◌∷◌, ◌++◌, length, take, get_or}
use Rattle.std.proofs.Common.{refl, sym, ap, ◌∙◌, ◌⊎◌, inl, inr, ⊎_elim, arith, add-one, add-suc, add-zero, append-nil, append_assoc, length-append, nat_lt, Option, Some, None}
use Rattle.std.specs.{List.find, Option.{option_map, option_or}, Str.str_eq_ignore_ascii_case}
use Rattle.std.proofs.lemmas.Bool.{and_parts, cases_Bool, eq-eqb, eqb-true, lt-ltb, or_cases, or_left, or_right}
use Rattle.std.proofs.lemmas.List.{get_or_append_left, get_or_at, get_or-append-add, take_at, drop_at}
use Rattle.std.proofs.Math.Seq.{take-append-add, drop-append-add}
use Rattle.const_oid.specs.Identifier.{root_rule, IsIdentifier}
use Rattle.const_oid.specs.{Oid.oid_arcs, Rows.{Row, Rows, led}}
use Rattle.const_oid.specs.Text.{dot, text_answer, text_of}
use Rattle.const_oid.specs.Typed.{dotted, spelt_at, spelt_out, spelt_up_to, typed_answer, IsReadable}
use Rattle.const_oid.proofs.{BareTexts.{bare_before_arcs, some_bytes}, Dotted.{dotted_cut, IsCut, text_of-append}, Encodings.oid_encoding, Texts.AreArcs}

-- a name leads to two arcs or more
some_arcs : (arcs : List ℕ) → IsIdentifier root_rule arcs → 0 < length arcs
some_arcs [] identifier = absurd identifier
some_arcs (arc ∷ arcs) identifier = omega arith

led_some : (found : Option Row) (arcs : List ℕ) → option_map (λ row. oid_arcs row.0) found ≡ Some arcs → 0 < length arcs
led_some None arcs is = cc
led_some (Some row) arcs is =
    let same : oid_arcs row.0 ≡ arcs = cc in
    rw same at (some_arcs (oid_arcs row.0) (oid_encoding row.0).identifier)

ends_or_dot : (name later : List ℕ)
    → (length name == length (name ++ dotted later) || get_or (name ++ dotted later) (length name) 0 == dot) ≡ true
ends_or_dot name [] = or_left _ _ (eq-eqb (length name) (length (name ++ [])) (ap length (sym (append-nil name))))
ends_or_dot name (arc ∷ later) = or_right _ _ (eq-eqb _ 46 (get_or_at name 46 _ 0 (length name) refl))

-- the longest of some fronts that are spelt out alike
same_or : (first second : Option (List ℕ)) (spelt : List ℕ) → (first ≡ None) ⊎ (first ≡ Some spelt) → second ≡ Some spelt
    → option_or first second ≡ Some spelt
same_or None second spelt alike is = is
same_or (Some other) second spelt (inl none) is = cc
same_or (Some other) second spelt (inr same) is = same

longest : (entries : Rows) (text spelt : List ℕ) (n : ℕ) → spelt_at entries text n ≡ Some spelt → spelt_up_to entries text n ≡ Some spelt
longest entries text spelt zero is = is
longest entries text spelt (suc n) is = rw is refl

spelt_or_not : (found : Option (List ℕ)) (rest spelt : List ℕ) → ((other : List ℕ) → found ≡ Some other → text_of other ++ rest ≡ spelt)
    → (option_map (λ arcs. text_of arcs ++ rest) found ≡ None) ⊎ (option_map (λ arcs. text_of arcs ++ rest) found ≡ Some spelt)
spelt_or_not None rest spelt alike = inl refl
spelt_or_not (Some other) rest spelt alike = inr (ap Some (alike other refl))

-- a name that leads to arcs, and if it is a name with some of the later arcs, too, then to these
module _ (entries : Rows) (name arcs later : List ℕ) (readable : IsReadable name) (leads : led entries name ≡ Some arcs) (small : AreArcs later)
    (alike : (arc : ℕ) (begun more other : List ℕ) → later ≡ arc ∷ begun ++ more
    → led entries (name ++ dotted (arc ∷ begun)) ≡ Some other → other ≡ arcs ++ arc ∷ begun) where
  abbrev text : List ℕ
  text = name ++ dotted later

  abbrev spelt : List ℕ
  spelt = text_of (arcs ++ later)

  some : 0 < length arcs
  some = led_some (find (λ row. str_eq_ignore_ascii_case row.1 name) entries) arcs leads

  spelt_here : spelt_at entries text (length name) ≡ Some spelt
  spelt_here =
      rw (
        ends_or_dot name later,
        lt-ltb (length name) 256 readable.short,
        take_at name (dotted later) (length name) refl,
        leads,
        drop_at name (dotted later) (length name) refl,
      ) (ap Some (text_of-append arcs later some))

  led_with : (begun more other : List ℕ) → later ≡ begun ++ more → led entries (name ++ dotted begun) ≡ Some other → other ≡ arcs ++ begun
  led_with [] more other joined is = let same : led entries name ≡ Some other = rw append-nil at is in rw append-nil cc
  led_with (arc ∷ begun) more other joined is = alike arc begun more other joined is

  spelt_more : (begun more other : List ℕ) → later ≡ begun ++ more → led entries (name ++ dotted begun) ≡ Some other
      → text_of other ++ dotted more ≡ spelt
  spelt_more begun more other joined is =
      let long = length-append arcs begun in
      let first = some in
      rw (led_with begun more other joined is, text_of-append (arcs ++ begun) more (omega arith), append_assoc, ← joined) refl

  abbrev may_end : ℕ → Bool
  may_end n = n == length text || get_or text n 0 == dot

  spelt_at_cut : (k : ℕ) → IsCut later k → (may_end (length name + k) && nat_lt (length name + k) 256) ≡ true
      → (spelt_at entries text (length name + k) ≡ None) ⊎ (spelt_at entries text (length name + k) ≡ Some spelt)
  spelt_at_cut k cut asked =
      rw (asked, take-append-add name (dotted later) k, cut.front, drop-append-add name (dotted later) k, cut.rest)
      (spelt_or_not (led entries (name ++ dotted cut.begun)) (dotted cut.more) spelt (λ other. spelt_more cut.begun cut.more other cut.joined))

  dot_at : (k : ℕ) → may_end (length name + k) ≡ true → k < length (dotted later) → get_or (dotted later) k 0 ≡ 46
  dot_at k ends below =
      let n = length name + k in
      let long = length-append name (dotted later) in
      ⊎_elim
      (λ (end : (n == length text) ≡ true). absurd (omega (arith, eqb-true n (length text) end)))
      (λ (here : (get_or text n 0 == dot) ≡ true). sym (get_or-append-add name (dotted later) k 0) ∙ eqb-true _ 46 here)
      (or_cases (n == length text) (get_or text n 0 == dot) ends)

  spelt_further : (k : ℕ) → k ≤ length (dotted later)
      → (spelt_at entries text (length name + k) ≡ None) ⊎ (spelt_at entries text (length name + k) ≡ Some spelt)
  spelt_further k within =
      let n = length name + k in
      ⊎_elim
      (λ (asked : (may_end n && nat_lt n 256) ≡ true).
      spelt_at_cut k (dotted_cut later k small within (dot_at k (and_parts (may_end n) (nat_lt n 256) asked).0)) asked)
      (λ (unasked : (may_end n && nat_lt n 256) ≡ false). inl (rw unasked refl))
      (cases_Bool (may_end n && nat_lt n 256))

  spelt_from : (k : ℕ) → k ≤ length (dotted later) → spelt_up_to entries text (length name + k) ≡ Some spelt
  spelt_from zero within = rw add-zero (longest entries text spelt (length name) spelt_here)
  spelt_from (suc k) within = rw add-suc (same_or _ _ spelt (rw add-suc at (spelt_further (suc k) within)) (spelt_from k (omega arith)))

  pub name_spelt : spelt_out entries text ≡ spelt
  name_spelt =
      let whole : spelt_up_to entries text (length text) ≡ Some spelt =
      rw (length-append name (dotted later)) (spelt_from (length (dotted later)) (omega arith)) in
      rw (get_or_append_left name (dotted later) 0 0 (some_bytes name readable.no_prefix), readable.named, whole) refl

  pub name_answer : (capacity : ℕ) → typed_answer entries text capacity ≡ text_answer root_rule spelt capacity
  name_answer capacity = rw (bare_before_arcs name later readable small, name_spelt) refl

-- a name and the first of some arcs, which are no name
pub no_name_with : (entries : Rows) (name later : List ℕ)
    → ((n : ℕ) → n < length later → led entries (name ++ dotted (take (n + 1) later)) ≡ None)
    → (arc : ℕ) (begun more other : List ℕ) → later ≡ arc ∷ begun ++ more → led entries (name ++ dotted (arc ∷ begun)) ≡ Some other → ⊥
no_name_with entries name later none arc begun more other joined is =
    let long = length-append (arc ∷ begun) more in
    let front : take (length begun + 1) later ≡ arc ∷ begun = rw (joined, add-one, take_at begun more (length begun) refl) refl in
    let unnamed = rw front at (none (length begun) (rw joined (omega arith))) in
    cc
