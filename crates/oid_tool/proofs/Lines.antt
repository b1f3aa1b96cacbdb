-- The first line and its result, and the lines after it.
use Rattle.std.proofs.Common.{◌≡◌, ◌≢◌, ℕ, ◌+◌, ◌<◌, ◌≤◌, ◌==◌, false, nat_eq, List, [], ◌∷◌, ◌++◌, length, ap, sym}
use Rattle.std.proofs.Common.{◌∙◌, refl, arith, ⊎_elim}
use Rattle.std.specs.List.{before_first, after_first, position_or_len, flat_map}
use Rattle.std.proofs.lemmas.{Bool.cases_lt, Bool.Decides.nat_tests, List.Concat.flat_map-cons}
use Rattle.std.proofs.lemmas.{List.{take_all, drop_all, length-append, nil_from_length}, List.Sums.fails_before_first}
use Rattle.std.proofs.lemmas.List.Splits.{slice_split_first, slice_split_none, length-slice_split}
use Rattle.std.proofs.lemmas.Str.{is_utf8-from_IsUtf8}
use Rattle.const_oid.proofs.{Ascii.is_not_utf8, Identifiers.octets_again}
use Rattle.oid_tool.specs.{Results.{without_empty_last, lines, output_line, answers}, Names.Row}

-- the text before the first newline
abbrev first_line : List ℕ → List ℕ
first_line text = before_first (λ b. b == 10) text

-- the text after the first newline
abbrev after_line : List ℕ → List ℕ
after_line text = after_first (λ b. b == 10) text

-- a piece that is not the last stays
without_empty_last-more : (piece : List ℕ) (pieces : List (List ℕ)) → 0 < length pieces
    → without_empty_last (piece ∷ pieces) ≡ piece ∷ without_empty_last pieces
without_empty_last-more piece pieces more = grind arith

-- the first line, and the lines after it
lines-first : (text : List ℕ) → 0 < length text → lines text ≡ first_line text ∷ lines (after_line text)
lines-first text some =
    let is_newline = λ (byte : ℕ). byte == 10 in
    ⊎_elim
    (λ (found : position_or_len is_newline text < length text).
    ap without_empty_last (slice_split_first is_newline text 0 found)
    ∙ without_empty_last-more (first_line text) _ (omega (arith, length-slice_split is_newline (after_line text))))
    (λ (none : length text ≤ position_or_len is_newline text).
    let one = slice_split_none is_newline text
    (λ k default below. fails_before_first is_newline text k default (omega arith)) in
    let first = take_all (position_or_len is_newline text) text none in
    let after = drop_all (position_or_len is_newline text + 1) text (omega arith) in
    grind arith)
    (cases_lt (position_or_len is_newline text) (length text))

-- an empty input has no results
pub answers-nil : (table : List Row) (text : List ℕ) → length text ≡ 0 → answers table text ≡ []
unfolding answers
answers-nil table text none = rw (nil_from_length text none) refl

-- the first result, and the results of the text after it
answers-first : (table : List Row) (text : List ℕ) → 0 < length text
    → answers table text ≡ output_line table (first_line text) ++ answers table (after_line text)
unfolding answers
answers-first table text some =
    ap (flat_map (output_line table)) (lines-first text some)
    ∙ flat_map-cons (output_line table) (first_line text) (lines (after_line text))

module _ (table : List Row) (text : List ℕ) (some : false ≡ nat_eq (length text) 0) where
  pub answers-next : (line after row : List ℕ) → line ≡ first_line text → after ≡ after_line text
      → row ≡ output_line table line → answers table text ≡ row ++ answers table after
  answers-next line after row first rest is = rw (is, first, rest) (answers-first table text (grind (arith, nat_tests)))

  -- an input that is not empty has a result
  pub answers_not_empty : answers table text ≢ []
  answers_not_empty none =
      let e = ap length (sym (answers-first table text (grind (arith, nat_tests))) ∙ none) in
      omega (arith, simp length-append at e)

-- a text is UTF-8 or not, and the octets of its arcs
pub ruleset lines_read = (is_utf8-from_IsUtf8, is_not_utf8, octets_again)
