use Rattle.std.proofs.Common.{◌≡◌, ◌-◌, ◌+◌, ◌<◌, ◌++◌, ℕ, [], length, take, drop, get_or, arith, refl, sym, ap, ◌∙◌, append_assoc, length-append, ⊎_elim}
use Rattle.std.proofs.lemmas.{Bool.cases_lt, Bool.Decides.nat_tests, List.{take_all, take-append-drop, get_or-drop, get_or_append_left, get_or-append-add}, Str.IsAscii-append}
use Rattle.const_oid.proofs.WordBytes.{low_from_none, low_of_both, low_word}
use Rattle.const_oid_c.proofs.texts.has_no_high_bit.Goals as goal

pub loop-word-init : goal.loop-word-init
loop-word-init c =
    let text = c.args.text.now in
    let last = c.in-Some.last.now in
    let (enough, whole) = c.in-Some.ensures.cases in
    let tail = drop (length text - 8) text in
    let first : last ≡ take 8 tail = whole.same ∙ sym (take_all 8 tail (omega (arith, whole.long))) in
    let fits : (i : ℕ) → get_or tail i 0 < 256 = λ i. rw (get_or-drop (length text - 8) text i 0) (omega (arith, c.type_inv.text (length text - 8 + i))) in
    ([], refl, λ low. (λ i. omega arith, rw whole.same at (low_word last tail _ first (omega (arith, whole.long)) fits c.from_le_bytes-bits.ensures low)))

pub loop-word-smaller : goal.loop-word-smaller
loop-word-smaller c = let cases = c.in-Some-split_first_chunk.ensures.cases in omega (arith, cases.2)

pub loop-word-preserved : goal.loop-word-preserved
loop-word-preserved c =
    let (read, all, told) = c.loop-word.invariant in
    let word = c.in-Some-split_first_chunk.word.now in
    let (first, after, long) = c.in-Some-split_first_chunk.ensures.cases in
    let rest = c.loop-word.rest.now in
    let fits : (i : ℕ) → get_or rest i 0 < 256 = λ i. rw (← get_or-append-add read rest i 0, ← all) (omega (arith, c.type_inv.text (length read + i))) in
    let joined : read ++ rest ≡ (read ++ word) ++ c.in-Some-split_first_chunk.after.now =
    rw (append_assoc, first, after, take-append-drop 8 rest) refl in (
      read ++ word,
      all ∙ joined,
      λ low.
          let (before, now) = low_of_both c.loop-word.bits c.from_le_bytes-bits-in-Some-split_first_chunk.result low in (
            IsAscii-append read word (told before).0
                (low_word word rest _ first (omega (arith, long)) fits c.from_le_bytes-bits-in-Some-split_first_chunk.ensures now),
            (told before).1,
          ),
    )

pub returns : goal.returns
returns c =
    let (read, all, told) = c.loop-word.invariant in
    let short = c.in_default-split_first_chunk.ensures.cases in
    λ none. let (before, last) = told (low_from_none c.loop-word.bits (grind (arith, nat_tests, none))) in
    λ i. ⊎_elim (λ less. rw (all, get_or_append_left read c.loop-word.rest.now 0 i less) (before i))
    (λ more.
    let from = length c.args.text.now - 8 in
    let same : from + (i - from) ≡ i = omega (arith, ap length all, length-append read c.loop-word.rest.now) in
    rw (get_or-drop from c.args.text.now (i - from) 0, same) at (last (i - from)))
    (cases_lt i (length read))
