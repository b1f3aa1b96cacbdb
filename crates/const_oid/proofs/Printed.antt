-- The length of printed text: four bytes an octet at most.
use Rattle.std.proofs.Common.{◌≡◌, ℕ, ◌+◌, ◌*◌, ◌^◌, ◌<◌, ◌≤◌, true, false, List, [], ◌∷◌, ◌++◌, length, arith}
use Rattle.std.proofs.Common.{decimal, sum_by, take, drop, ap, sym, ◌∙◌, append_assoc, append-nil, length-append}
use Rattle.std.specs.List.{AllByRecursion}
use Rattle.std.proofs.Math.Nat.{pow-le-pow_right}
use Rattle.std.proofs.Math.Seq.{take-append-add, drop-append-add}
use Rattle.std.proofs.lemmas.Grind.{common_steps}
use Rattle.std.proofs.lemmas.Bool.Decides.{nat_tests}
use Rattle.std.proofs.lemmas.Fmt.{length-decimal-le, decimal_digit}
use Rattle.std.proofs.lemmas.List.{take-append-le, length-take-le, take-append-drop, drop-append-le, drop-drop}
use borrow.Rule.Slice.PartMut.{put_mid, mid_of, post_of}
use Rattle.const_oid.specs.Base128.{width}
use Rattle.const_oid.specs.Identifier.{RootRule, max_arc, max_second, IsEncoding}
use Rattle.const_oid.specs.Text.{text_of}
use Rattle.const_oid.specs.Private.Text.{arc_text, detail_text}
use Rattle.const_oid.proofs.Subidentifiers.{second_low}
use Rattle.const_oid.proofs.Groups.{width_is}
use Rattle.const_oid.proofs.Lengths.{length_is_size}
use Rattle.const_oid.proofs.PartsFault.{parts_at}
use Rattle.const_oid.proofs.Texts.{second_small, text_left, text_left-cons, text_left-nil}
use Rattle.const_oid.specs.declared.error.Error.{Error}
use Rattle.const_oid.specs.Error.{message_of}

-- a number past a power is wider than its exponent
wider : (n k : ℕ) → 128 ^ k ≤ n → k < width n
wider n k h = grind (arith, nat_tests, pow-le-pow_right, width_is)

-- an arc, where the number that is encoded is at least the arc and takes two octets or more
long_printed : (arc n : ℕ) → arc ≤ max_arc → arc ≤ n → 128 ≤ n → length (decimal arc) + 2 ≤ 4 * width n
long_printed arc n small below two =
    let digits = length-decimal-le in
    grind (arith, digits 5 arc, digits 7 arc, digits 10 arc, wider n 1, wider n 2, wider n 3)

-- a later arc, with its dot
pub arc_printed : (n : ℕ) → n ≤ max_arc → length (decimal n) + 1 ≤ 4 * width n
arc_printed n h = grind (arith, nat_tests, long_printed, length-decimal-le)

later_printed : (later : List ℕ) → AllByRecursion (λ n. n ≤ max_arc) later
    → sum_by (λ n. length (decimal n) + 1) later ≤ 4 * sum_by width later
later_printed [] l = omega arith
later_printed (n ∷ ns) l = grind (arith, common_steps, arc_printed, later_printed ns l.1)

-- the first two arcs, with their dot
pub root_printed : (rule : RootRule) (a b : ℕ) → a ≤ 2 → b ≤ max_second rule a
    → length (decimal a) + (length (decimal b) + 1) ≤ 4 * width (40 * a + b)
root_printed rule a b p q =
    let n = 40 * a + b in
    let small = second_small rule a b q in
    grind (arith, second_low rule a b q, length-decimal-le 1 a, length-decimal-le 2 b, width_is n, long_printed b n)

length-text : (a : ℕ) (arcs : List ℕ)
    → length (text_of (a ∷ arcs)) ≡ length (decimal a) + sum_by (λ n. length (decimal n) + 1) arcs
length-text a [] = omega arith
length-text a (b ∷ arcs) = grind (arith, common_steps, length-text b arcs)

pub printed_short : (rule : RootRule) (arcs octets : List ℕ) → IsEncoding rule arcs octets
    → length (text_of arcs) ≤ 4 * length octets
printed_short rule [] octets e = absurd e.identifier
printed_short rule (a ∷ []) octets e = absurd e.identifier
printed_short rule (a ∷ b ∷ later) octets e =
    let i = e.identifier in
    grind (arith, common_steps, length-text, root_printed rule a b i.0 i.1, later_printed later i.2, length_is_size e)

-- ---- text as it is written

-- bytes at the start of a part
pub part_written : (at n k : ℕ) (xs ys piece : List ℕ) → at ≤ length xs → n ≤ length ys → take n ys ≡ piece
    → take (at + n) (put_mid at k xs ys) ≡ take at xs ++ piece
part_written at n k xs ys piece inside fits is =
    rw (length-take-le at xs inside, take-append-le n ys (post_of at k xs) fits, is)
    at (take-append-add (take at xs) (ys ++ post_of at k xs) n)

-- what lies after bytes at the start of a part
pub part_kept : (at n k : ℕ) (xs ys : List ℕ) → at ≤ length xs → n ≤ length ys → n ≤ length (mid_of at k xs)
    → drop n ys ≡ drop n (mid_of at k xs) → drop (at + n) (put_mid at k xs ys) ≡ drop (at + n) xs
part_kept at n k xs ys inside new old is =
    let rest = post_of at k xs in
    rw (length-take-le at xs inside) at (drop-append-add (take at xs) (ys ++ rest) n)
    ∙ drop-append-le n ys rest new ∙ ap (λ l. l ++ rest) is ∙ sym (drop-append-le n (mid_of at k xs) rest old)
    ∙ ap (drop n) (take-append-drop k (drop at xs)) ∙ drop-drop _ _ xs

-- the first two arcs
pub two_texts : (first second : ℕ) (later : List ℕ) → first < 10
    → ((48 + first) ∷ arc_text false second) ++ text_left false later ≡ text_of (first ∷ second ∷ later)
two_texts first second later small =
    let rest = ap (λ l. (48 + first) ∷ l) (text_left-cons false second later) in
    sym (text_left-cons true first (second ∷ later) ∙ rw (decimal_digit first small) rest)

-- an arc, written after other text
pub arc_written : (before begun piece : List ℕ) (arc : ℕ) (arcs : List ℕ) → piece ≡ begun ++ arc_text false arc
    → (before ++ piece) ++ text_left false arcs ≡ (before ++ begun) ++ text_left false (arc ∷ arcs)
arc_written before begun piece arc arcs is =
    let added = arc_text false arc in
    let left = text_left false arcs in
    ap (λ p. (before ++ p) ++ left) is ∙ append_assoc before (begun ++ added) left
    ∙ ap (λ l. before ++ l) (append_assoc begun added left) ∙ sym (append_assoc before begun (added ++ left))
    ∙ ap (λ l. (before ++ begun) ++ l) (sym (text_left-cons false arc arcs))

-- a pass over octets
pub ruleset printed_pass = (arc_printed, parts_at, text_left-cons, text_left-nil, append_assoc, append-nil)

-- the words before the number, and those after it
pub parts_long : (error : Error) (before after : List ℕ) → message_of error ≡ before ++ (detail_text error ++ after)
    → length before + length (detail_text error) + length after ≡ length (message_of error)
parts_long error before after e = rw e (simp length-append (omega arith))
