-- Texts that have no blanks around them, and no prefix.
use Rattle.std.proofs.Common.{◌≡◌, ℕ, ◌+◌, ◌-◌, ◌<◌, min, ◌==◌, ◌||◌, ◌&&◌, not, true, false, List, [], ◌∷◌, ◌++◌, length, take, drop, get_or}
use Rattle.std.proofs.Common.{refl, sym, ap, ◌∙◌, arith, codes, one-add, length-append, length-take, length-drop}
use Rattle.std.specs.Char.{is_ascii_whitespace}
use Rattle.std.specs.List.{list_all, prefix_len, suffix_len}
use Rattle.std.specs.Str.{str_eq_ignore_ascii_case}
use Rattle.std.proofs.lemmas.Bool.{and_parts, Decides.nat_tests}
use Rattle.std.proofs.lemmas.List.{append-nil, drop-append-le, get_or_append_left, get_or-append-add, length-take-le, take_all, take-append-drop, take-append-le}
use Rattle.std.proofs.lemmas.List.Sums.{prefix_len_is, prefix_len-le-length, prefix_len_stops, suffix_len_is}
use Rattle.const_oid.specs.Text.{is_empty, text_of}
use Rattle.const_oid.specs.Typed.{bare, begins_with, begins_with_digit, dotted, is_in_word, prefix_of, without_blanks, IsReadable}
use Rattle.const_oid.proofs.Dotted.{digit_begins, is_no_blank, no_blank_at, dotted_no_blank, text_of_dotted}
use Rattle.const_oid.proofs.{Texts.AreArcs}

-- ---- blanks

-- none is at the ends
pub no_blanks : (text : List ℕ) → is_ascii_whitespace (get_or text 0 0) ≡ false
    → is_ascii_whitespace (get_or text (length text - 1) 0) ≡ false → without_blanks text ≡ text
no_blanks text first last =
    let start : prefix_len is_ascii_whitespace text ≡ 0 =
    prefix_len_is is_ascii_whitespace text 0 0 (omega arith) (λ k below. absurd (omega arith)) (λ _. first) in
    let end : suffix_len is_ascii_whitespace text ≡ length text - length text =
    suffix_len_is is_ascii_whitespace text (length text) 0 (omega arith) (λ k after below. absurd (omega arith)) (λ _. last) in
    rw (start, end) (take_all _ text (omega arith))

-- ---- a prefix

-- bytes without a dot begin a text before a dot exactly where they begin the text
begins_before_dot : (start text more : List ℕ) → list_all (λ b. not (b == 46)) start ≡ true
    → begins_with start (text ++ 46 ∷ more) ≡ begins_with start text
begins_before_dot [] text more undotted = refl
begins_before_dot (a ∷ start) [] more undotted = grind (arith, nat_tests)
begins_before_dot (a ∷ start) (b ∷ text) more undotted =
    let (here, later) = and_parts (not (a == 46)) (list_all (λ b. not (b == 46)) start) undotted in
    rw (begins_before_dot start text more later) refl

-- a dot does after a word, unless the word and the dot are a prefix
dot_after_word : (word rest more : List ℕ) → (is_empty (word ++ rest) || str_eq_ignore_ascii_case (word ++ rest) (codes "OID")) ≡ false
    → (begins_with (codes ".") (rest ++ 46 ∷ more) && (is_empty word || str_eq_ignore_ascii_case word (codes "OID")))
    ≡ (begins_with (codes ".") rest && (is_empty word || str_eq_ignore_ascii_case word (codes "OID")))
dot_after_word word [] more none = rw append-nil at none
dot_after_word word (b ∷ rest) more none = refl

word_before_dot : (text more : List ℕ) → prefix_len is_in_word (text ++ 46 ∷ more) ≡ prefix_len is_in_word text
word_before_dot [] more = refl
word_before_dot (b ∷ text) more = rw (word_before_dot text more) refl

pub some_bytes : (text : List ℕ) → (is_empty text || str_eq_ignore_ascii_case text (codes "OID")) ≡ false → 0 < length text
some_bytes [] none = cc
some_bytes (b ∷ text) none = omega arith

pub prefix_before_dot : (text more : List ℕ) → (is_empty text || str_eq_ignore_ascii_case text (codes "OID")) ≡ false
    → prefix_of (text ++ 46 ∷ more) ≡ prefix_of text
prefix_before_dot text more none =
    let n = prefix_len is_in_word text in
    let word = take n text in
    let rest = drop (length word) text in
    let within = prefix_len-le-length is_in_word text in
    let begun : length word ≡ n = length-take-le n text within in
    let whole : word ++ rest ≡ text = rw begun (take-append-drop n text) in
    rw (
      word_before_dot text more,
      take-append-le n text (46 ∷ more) within,
      drop-append-le (length word) text (46 ∷ more) (omega arith),
      begins_before_dot (codes ":oid:") rest more refl,
      begins_before_dot (codes "::") rest more refl,
      get_or_append_left text (46 ∷ more) 0 0 (some_bytes text none),
      dot_after_word word rest more (rw whole none),
    ) refl

pub no_prefix_before_digit : (text : List ℕ) → begins_with_digit text ≡ true → prefix_of text ≡ 0
no_prefix_before_digit [] digit = cc
no_prefix_before_digit (b ∷ text) digit =
    let in_word : is_in_word b ≡ true = grind (arith, nat_tests) in
    rw (in_word, one-add) (grind (arith, nat_tests))

-- ---- a text that is bare

pub record IsBare (text : List ℕ) : Type 0 where
  pub begins : is_ascii_whitespace (get_or text 0 0) ≡ false
  pub whole : without_blanks text ≡ text
  pub no_prefix : prefix_of text ≡ 0

pub is_bare : (text : List ℕ) → 0 < length text → bare text ≡ text → IsBare text
is_bare text some is =
    let first = prefix_len is_ascii_whitespace text in
    let begun = drop first text in
    let end = length begun - suffix_len is_ascii_whitespace begun in
    let rest = without_blanks text in
    let within = prefix_len-le-length is_ascii_whitespace text in
    let left : length rest - prefix_of rest ≡ length text = sym (length-drop (prefix_of rest) rest) ∙ ap length is in
    let cut : length rest ≡ min end (length begun) = length-take end begun in
    let dropped : length begun ≡ length text - first = length-drop first text in
    let none : first ≡ 0 = omega arith in
    let whole : rest ≡ text = take_all end begun (omega arith) ∙ rw none refl in
    record {
      begins = rw none at (prefix_len_stops is_ascii_whitespace text 0 (omega arith));
      whole = whole;
      no_prefix = rw (← whole) (omega arith);
    }

pub bare_digits : (text : List ℕ) → without_blanks text ≡ text → begins_with_digit text ≡ true → bare text ≡ text
bare_digits text blanks digit = rw (blanks, no_prefix_before_digit text digit) refl

-- ---- names and arcs

pub bare_before_arcs : (name later : List ℕ) → IsReadable name → AreArcs later → bare (name ++ dotted later) ≡ name ++ dotted later
bare_before_arcs name [] readable small = rw append-nil readable.bare
bare_before_arcs name (arc ∷ later) readable small =
    let some = some_bytes name readable.no_prefix in
    let is = is_bare name some readable.bare in
    let added = dotted (arc ∷ later) in
    let text = name ++ added in
    let long : length text - 1 ≡ length name + (length added - 1) = omega (arith, length-append name added) in
    let first = rw (← get_or_append_left name added 0 0 some) at is.begins in
    let last : is_ascii_whitespace (get_or text (length text - 1) 0) ≡ false =
    rw (long, get_or-append-add name added (length added - 1) 0) (no_blank_at added (length added - 1) (dotted_no_blank (arc ∷ later) small)) in
    rw (no_blanks text first last, prefix_before_dot name _ readable.no_prefix, is.no_prefix) refl

-- ---- dotted text

pub text_begins_with_digit : (arc : ℕ) (later : List ℕ) → begins_with_digit (text_of (arc ∷ later)) ≡ true
text_begins_with_digit arc later = rw (text_of_dotted arc later) (digit_begins arc (dotted later))

pub bare_text_of : (arc : ℕ) (later : List ℕ) → AreArcs (arc ∷ later) → bare (text_of (arc ∷ later)) ≡ text_of (arc ∷ later)
bare_text_of arc later small =
    let text = text_of (arc ∷ later) in
    let none : list_all is_no_blank text ≡ true = rw (text_of_dotted arc later) (dotted_no_blank (arc ∷ later) small) in
    bare_digits text (no_blanks text (no_blank_at text 0 none) (no_blank_at text (length text - 1) none)) (text_begins_with_digit arc later)
