-- Arcs after a name: a dot and the decimal of each.
use Rattle.std.proofs.Common.{◌≡◌, ℕ, zero, suc, ◌+◌, ◌-◌, ◌/◌, ◌%◌, ◌==◌, ◌<◌, ◌≤◌, Bool, not, true, false, List, [], ◌∷◌, ◌++◌, length, take, drop, get_or}
use Rattle.std.proofs.Common.{refl, sym, ap, ◌∙◌, ⊎_elim, arith, append_assoc, append-nil, decimal, length-append}
use Rattle.std.specs.Char.{is_ascii_digit, is_ascii_whitespace}
use Rattle.std.specs.Fmt.{digit_glyph, digits, digits_onto}
use Rattle.std.specs.List.{list_all}
use Rattle.std.specs.Str.{all_ascii_digits}
use Rattle.std.proofs.lemmas.{Bool.{and_parts, cases_lt, cond_both, eqb-false, not-true, Decides.nat_tests}, Grind.{flat_map-append}, List.Folds.list_all-append}
use Rattle.std.proofs.lemmas.List.{get_or_append_left, get_or-append_right}
use Rattle.std.proofs.Math.Seq.{take-append-add, drop-append-add}
use Rattle.const_oid.specs.Text.{dot, text_of}
use Rattle.const_oid.specs.Typed.{begins_with_digit, dotted}
use Rattle.const_oid.proofs.{Numbers.{decimal_is, undotted}, Texts.AreArcs}

-- ---- dotted text

pub text_of_dotted : (arc : ℕ) (later : List ℕ) → text_of (arc ∷ later) ≡ decimal arc ++ dotted later
text_of_dotted arc [] = sym (append-nil (decimal arc))
text_of_dotted arc (next ∷ later) = rw (text_of_dotted next later) refl

pub text_of-append : (arcs later : List ℕ) → 0 < length arcs → text_of arcs ++ dotted later ≡ text_of (arcs ++ later)
text_of-append [] later some = absurd (omega arith)
text_of-append (arc ∷ arcs) later some =
    rw (text_of_dotted arc arcs, text_of_dotted arc (arcs ++ later), append_assoc) (ap (λ l. decimal arc ++ l) (sym (flat_map-append (λ arc. dot ∷ decimal arc) arcs later)))

-- a decimal begins with a digit
glyph_digit : (n : ℕ) → is_ascii_digit (digit_glyph false (n % 10)) ≡ true
glyph_digit n = grind (arith, nat_tests)

digit_onto : (k n : ℕ) (digits : List ℕ) → begins_with_digit (digits_onto (suc k) 10 false n digits) ≡ true
digit_onto zero n digits = cond_both (n / 10 == 0) _ _ (λ text. begins_with_digit text ≡ true) (λ _. glyph_digit n) (λ _. glyph_digit n)
digit_onto (suc k) n digits =
    cond_both (n / 10 == 0) _ _ (λ text. begins_with_digit text ≡ true) (λ _. glyph_digit n) (λ _. digit_onto k (n / 10) (digit_glyph false (n % 10) ∷ digits))

decimal_begins : (n : ℕ) → begins_with_digit (decimal n) ≡ true
unfolding digits
decimal_begins n = digit_onto 63 n []

digit_before : (text more : List ℕ) → begins_with_digit text ≡ true → begins_with_digit (text ++ more) ≡ true
digit_before [] more digit = cc
digit_before (b ∷ text) more digit = digit

pub digit_begins : (arc : ℕ) (more : List ℕ) → begins_with_digit (decimal arc ++ more) ≡ true
digit_begins arc more = digit_before (decimal arc) more (decimal_begins arc)

-- ---- no blank is in it

abbrev pub is_no_blank : ℕ → Bool
is_no_blank b = not (is_ascii_whitespace b)

digits_no_blank : (digits : List ℕ) → all_ascii_digits digits ≡ true → list_all is_no_blank digits ≡ true
digits_no_blank [] are = refl
digits_no_blank (b ∷ digits) are =
    let (digit, later) = and_parts (is_ascii_digit b) (all_ascii_digits digits) are in
    let here : is_no_blank b ≡ true = grind (arith, nat_tests) in
    rw (here) (digits_no_blank digits later)

pub dotted_no_blank : (arcs : List ℕ) → AreArcs arcs → list_all is_no_blank (dotted arcs) ≡ true
dotted_no_blank [] small = refl
dotted_no_blank (arc ∷ arcs) small =
    rw (list_all-append is_no_blank (decimal arc) (dotted arcs), digits_no_blank (decimal arc) (decimal_is arc small.0).1) (dotted_no_blank arcs small.1)

pub no_blank_at : (text : List ℕ) (index : ℕ) → list_all is_no_blank text ≡ true → is_ascii_whitespace (get_or text index 0) ≡ false
no_blank_at [] index none = refl
no_blank_at (b ∷ text) zero none = not-true _ (and_parts (is_no_blank b) (list_all is_no_blank text) none).0
no_blank_at (b ∷ text) (suc index) none = no_blank_at text index (and_parts (is_no_blank b) (list_all is_no_blank text) none).1

-- ---- at a dot, and where it ends

-- the first n bytes are arcs, and so are the others
pub record IsCut (arcs : List ℕ) (n : ℕ) : Type 0 where
  pub begun : List ℕ
  pub more : List ℕ
  pub joined : arcs ≡ begun ++ more
  pub front : take n (dotted arcs) ≡ dotted begun
  pub rest : drop n (dotted arcs) ≡ dotted more

cut_more : (arc : ℕ) (arcs : List ℕ) (n k : ℕ) → n ≡ length (decimal arc) + k → IsCut arcs k → IsCut (arc ∷ arcs) (suc n)
cut_more arc arcs n k is cut = record {
  begun = arc ∷ cut.begun;
  more = cut.more;
  joined = ap (λ l. arc ∷ l) cut.joined;
  front = rw (is, take-append-add (decimal arc) (dotted arcs) k, cut.front) refl;
  rest = rw (is, drop-append-add (decimal arc) (dotted arcs) k) cut.rest;
}

pub dotted_cut : (arcs : List ℕ) (n : ℕ) → AreArcs arcs → n ≤ length (dotted arcs)
    → (n < length (dotted arcs) → get_or (dotted arcs) n 0 ≡ 46) → IsCut arcs n
dotted_cut arcs zero small within at = record { begun = []; more = arcs; joined = refl; front = refl; rest = refl }
dotted_cut [] (suc n) small within at = absurd (omega arith)
dotted_cut (arc ∷ arcs) (suc n) small within at =
    let digits = decimal arc in
    let rest = dotted arcs in
    let long = length-append digits rest in
    ⊎_elim
    (λ (inside : n < length digits).
    let digit = undotted digits (decimal_is arc small.0).1 n 0 inside in
    absurd (eqb-false _ 46 digit (sym (get_or_append_left digits rest 0 n inside) ∙ at (omega arith))))
    (λ (past : length digits ≤ n).
    let k = n - length digits in
    let here = λ (below : k < length rest). sym (get_or-append_right digits rest (length digits) n 0 refl past) ∙ at (omega arith) in
    cut_more arc arcs n k (omega arith) (dotted_cut arcs k small.1 (omega arith) here))
    (cases_lt n (length digits))
