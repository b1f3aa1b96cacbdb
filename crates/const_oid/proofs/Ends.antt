-- Octets copied or set to zero by parts of one length.
use Rattle.std.proofs.Common.{◌≡◌, ◌∙◌, ℕ, ◌+◌, ◌-◌, ◌≤◌, List, [], ◌∷◌, ◌++◌, length, take, drop, replicate, arith, append_assoc, ap, sym, zero, suc, refl}
use Rattle.std.specs.List.{AllByRecursion}
use Rattle.std.proofs.lemmas.{Grind.common_steps, List.{drop-drop, drop-replicate, take-append-drop, replicate-append-replicate, length-take-le}}
use Rattle.std.proofs.Math.Seq.{drop-append-add}
use borrow.Rule.Slice.PartMut.{put_mid}

-- the first n octets and the last n, which are all if none is between them
pub ends_whole : (n last k : ℕ) (xs out front back : List ℕ) → last + n ≡ length xs → last ≤ n → length xs ≤ length out → k ≡ n
    → front ≡ take n xs → back ≡ drop last xs → put_mid last k (front ++ drop n out) back ≡ xs ++ drop (length xs) out
ends_whole n last k xs out front back whole few room is_n is_front is_back =
    let first : List ℕ = front ++ drop n out in
    let long : length front ≡ n = rw is_front (length-take-le n xs (omega (arith, whole))) in
    let begun : take last first ≡ take last xs = grind (arith, common_steps) in
    let reach : length front + last ≡ length xs = omega (arith, long, whole) in
    let left : drop k (drop last first) ≡ drop (length xs) out = grind (arith, common_steps, drop-drop, drop-append-add) in
    let rest = drop (length xs) out in
    ap (λ l. l ++ (back ++ drop k (drop last first))) begun
    ∙ ap (λ l. take last xs ++ (back ++ l)) left
    ∙ ap (λ l. take last xs ++ (l ++ rest)) is_back
    ∙ sym (append_assoc (take last xs) (drop last xs) rest)
    ∙ ap (λ l. l ++ rest) (take-append-drop last xs)

-- zeros after an index are zeros after a later one
pub zeros_after : (end more reach : ℕ) (xs : List ℕ) → end + more ≡ reach → drop end xs ≡ replicate (length xs - end) 0
    → drop reach xs ≡ replicate (length xs - reach) 0
zeros_after end more reach xs is after =
    let fewer : length xs - end - more ≡ length xs - (end + more) = omega arith in
    rw (← is, ← drop-drop more end xs, after, drop-replicate) (ap (λ m. replicate m 0) fewer)

-- k zeros from an index on, after which there are zeros
pub zeros_whole : (start end k : ℕ) (xs zeros : List ℕ) → start ≤ end → end ≤ start + k → start + k ≤ length xs
    → zeros ≡ replicate k 0 → drop end xs ≡ replicate (length xs - end) 0
    → take start xs ++ (zeros ++ drop k (drop start xs)) ≡ take start xs ++ replicate (length xs - start) 0
zeros_whole start end k xs zeros order near room is_zeros after =
    let left = length xs - (start + k) in
    let all : k + left ≡ length xs - start = omega (arith, room) in
    let kept = drop-drop k start xs ∙ zeros_after end (start + k - end) (start + k) xs (omega (arith, near)) after in
    rw (is_zeros, kept, replicate-append-replicate {A = ℕ} k left 0, all) refl

-- what holds of all octets holds of the first ones
pub all_take : (P : ℕ → Type 0) (n : ℕ) (xs : List ℕ) → AllByRecursion P xs → AllByRecursion P (take n xs)
all_take P zero xs h = tt
all_take P (suc n) [] h = tt
all_take P (suc n) (x ∷ xs) h = (h.0, all_take P n xs h.1)
