-- A text that denotes arcs is ASCII, and so UTF-8.
use Rattle.std.proofs.Common.{◌≡◌, ℕ, zero, suc, true, false, List, [], ◌∷◌, ◌++◌, length, Ok, arith, sym}
use Rattle.std.specs.{Char.is_ascii_digit, List.{AllByRecursion, join_with_byte}, Str.{IsAscii, IsUtf8, all_ascii_digits, is_utf8}}
use Rattle.std.proofs.lemmas.{Bool.{and_parts, false_from_ne_true, Decides.nat_tests}, Str.{IsAscii-append, IsAscii-drop, Ascii.IsAscii-nil}}
use Rattle.std.proofs.lemmas.{Str.{IsUtf8-from_ascii, IsUtf8-from_is_utf8, is_utf8-from_IsUtf8}, List.Splits.join_with_byte-slice_split}
use Rattle.std.proofs.Math.Seq.{drop-append_seam}
use Rattle.const_oid.specs.{Identifier.RootRule, Text.{IsNumber, components_of, text_answer}}
use Rattle.const_oid.proofs.Texts.{denoted_from_answer}

digits_ascii : (component : List ℕ) → all_ascii_digits component ≡ true → IsAscii component
digits_ascii [] are i = omega arith
digits_ascii (b ∷ bs) are zero = grind (arith, nat_tests)
digits_ascii (b ∷ bs) are (suc i) = digits_ascii bs (and_parts (is_ascii_digit b) (all_ascii_digits bs) are).1 i

dot_ascii : IsAscii (46 ∷ [])
dot_ascii zero = omega arith
dot_ascii (suc i) = omega arith

numbers_ascii : (components : List (List ℕ)) → AllByRecursion IsNumber components → IsAscii (join_with_byte 46 components)
numbers_ascii [] h = IsAscii-nil
numbers_ascii (component ∷ []) h = digits_ascii component h.0.1
numbers_ascii (component ∷ next ∷ more) h =
    IsAscii-append component _ (digits_ascii component h.0.1) (IsAscii-append (46 ∷ []) _ dot_ascii (numbers_ascii (next ∷ more) h.1))

answer_ascii : (rule : RootRule) (capacity : ℕ) (text arcs : List ℕ) → text_answer rule text capacity ≡ Ok arcs → IsAscii text
answer_ascii rule capacity text arcs e =
    let numbers = (denoted_from_answer rule capacity text arcs (sym e)).numbers in
    rw (join_with_byte-slice_split 46 text) at (numbers_ascii (components_of text) numbers)

ascii_utf8 : (text : List ℕ) → IsAscii text → is_utf8 text ≡ true
ascii_utf8 text ascii = is_utf8-from_IsUtf8 text (IsUtf8-from_ascii text ascii)

-- so it is UTF-8
pub answer_utf8 : (rule : RootRule) (capacity : ℕ) (text arcs : List ℕ) → text_answer rule text capacity ≡ Ok arcs
    → is_utf8 text ≡ true
answer_utf8 rule capacity text arcs e = ascii_utf8 text (answer_ascii rule capacity text arcs e)

-- and so is its end
pub answer_end_utf8 : (rule : RootRule) (capacity : ℕ) (front text arcs : List ℕ) → text_answer rule (front ++ text) capacity ≡ Ok arcs
    → is_utf8 text ≡ true
answer_end_utf8 rule capacity front text arcs e =
    let ascii = IsAscii-drop (front ++ text) (length front) (answer_ascii rule capacity (front ++ text) arcs e) in
    ascii_utf8 text (rw drop-append_seam at ascii)

-- bytes that are not UTF-8 fail its test
pub is_not_utf8 : (bytes : List ℕ) → ¬ IsUtf8 bytes → is_utf8 bytes ≡ false
is_not_utf8 bytes other = false_from_ne_true (is_utf8 bytes) (λ t. other (IsUtf8-from_is_utf8 bytes t))
