-- The bytes of words: their high bits, and sums that carry into no other byte.
use Rattle.std.proofs.Common.{◌≡◌, ℕ, zero, suc, ◌+◌, ◌-◌, ◌*◌, ◌/◌, ◌%◌, ◌^◌, ◌<◌, ◌≤◌, refl, ap, sym, ◌∙◌, arith, bit_or, w64, min, max, slice_index}
use Rattle.std.proofs.Common.{List, [], ◌∷◌, ◌++◌, length, take, drop, get_or, subst, ⊎_elim, w32}
use Rattle.std.proofs.Math.ListN.{get_or-append}
use Rattle.std.specs.Int.{from_le_bytes}
use Rattle.std.proofs.lemmas.{Bool.cases_lt, Nat.le_bytes_8, List.{length-take-le, length-drop, get_or-take, get_or-drop, get_or_past, get_or-append_right}}
use Rattle.std.specs.{Int.{bit_at, bit_not, Bits.bit_and}, Str.IsAscii}
use Rattle.const_oid.specs.Private.Octets.{window_of, ArePlain}
use Rattle.std.proofs.lemmas.Nat.{shr-shr, and_block, and_mask, and_le_r, or_lt, or_comm, or_shifted, Bits.{bit_at_and, bit_at_or, bit_at_not, bit_at-zero, bit_at-lt}}

-- an octet is plain
abbrev pub IsPlain : List ℕ → ℕ → Type 0
IsPlain octets at = (slice_index octets at ≡ 128 → (0 < at) × (128 ≤ slice_index octets (at - 1)))
    × (3 ≤ at → 128 ≤ slice_index octets at → 128 ≤ slice_index octets (at - 1) → 128 ≤ slice_index octets (at - 2)
    → slice_index octets (at - 3) < 128)

-- the byte that begins at bit k
abbrev byte_at_bit : ℕ → ℕ → ℕ
byte_at_bit k n = n / 2 ^ k % 256

byte_is : (n j : ℕ) → j < 8 → slice_index (window_of n) j ≡ byte_at_bit (8 * j) n
unfolding window_of
byte_is n zero inside = omega arith
byte_is n (suc zero) inside = refl
byte_is n (suc (suc zero)) inside = refl
byte_is n (suc (suc (suc zero))) inside = refl
byte_is n (suc (suc (suc (suc zero)))) inside = refl
byte_is n (suc (suc (suc (suc (suc zero))))) inside = refl
byte_is n (suc (suc (suc (suc (suc (suc zero)))))) inside = refl
byte_is n (suc (suc (suc (suc (suc (suc (suc zero))))))) inside = refl
byte_is n (suc (suc (suc (suc (suc (suc (suc (suc j)))))))) inside = absurd (omega arith)

high_bit : (n k : ℕ) → bit_at n (k + 7) ≡ byte_at_bit k n / 128
high_bit n k = rw (← shr-shr n k 7) (omega arith)

-- k bytes of seven ones each
abbrev low : ℕ → ℕ
low zero = 0
low (suc k) = low k * 256 + 127

low_step : (n k : ℕ) → bit_and n (low (suc k)) ≡ bit_and (n / 256) (low k) * 256 + n % 128
low_step n k =
    let split : n ≡ n / 256 * 256 + n % 256 = omega arith in
    let first : bit_and (n % 256) 127 ≡ n % 256 % 128 = and_mask (n % 256) 7 in
    let block = and_block 8 (n / 256) (low k) (n % 256) 127 (omega arith) (omega arith) in
    ap (λ m. bit_and m (low (suc k))) split ∙ block ∙ omega (arith, first)

sum_byte : (k n j : ℕ) → j < k → byte_at_bit (8 * j) (bit_and n (low k) + low k) ≡ byte_at_bit (8 * j) n % 128 + 127
sum_byte zero n j inside = absurd (omega arith)
sum_byte (suc k) n zero inside = omega (arith, low_step n k)
sum_byte (suc k) n (suc j) inside =
    let next : 8 * suc j ≡ 8 + 8 * j = omega arith in
    let sum = bit_and n (low (suc k)) + low (suc k) in
    let rest : sum / 256 ≡ bit_and (n / 256) (low k) + low k = omega (arith, low_step n k) in
    rw (next, ← shr-shr sum 8 (8 * j), ← shr-shr n 8 (8 * j), rest) (sum_byte k (n / 256) j (omega arith))

high_set : (j : ℕ) → j < 8 → bit_at 0x8080_8080_8080_8080 (8 * j + 7) ≡ 1
high_set zero inside = refl
high_set (suc zero) inside = refl
high_set (suc (suc zero)) inside = refl
high_set (suc (suc (suc zero))) inside = refl
high_set (suc (suc (suc (suc zero)))) inside = refl
high_set (suc (suc (suc (suc (suc zero))))) inside = refl
high_set (suc (suc (suc (suc (suc (suc zero)))))) inside = refl
high_set (suc (suc (suc (suc (suc (suc (suc zero))))))) inside = refl
high_set (suc (suc (suc (suc (suc (suc (suc (suc j)))))))) inside = absurd (omega arith)

abbrev pub sum_of : ℕ → ℕ
sum_of word = bit_and word 0x7F7F_7F7F_7F7F_7F7F + 0x7F7F_7F7F_7F7F_7F7F

pub sum_fits : (word : ℕ) → sum_of word < 2 ^ 64
sum_fits word = omega (arith, and_le_r word 0x7F7F_7F7F_7F7F_7F7F)

bits_tell : (w p q t : ℕ) {word before two sum : ℕ} → word ≡ w / 128 → before ≡ p / 128 → two ≡ q / 128 → sum ≡ t / 128
    → t ≡ w % 128 + 127 → w < 256 → p < 256 → q < 256 → min word (max (min before two) (1 - max sum before)) ≡ 0
    → (w ≡ 128 → 128 ≤ p) × (128 ≤ w → 128 ≤ p → q < 128)
bits_tell w p q t word before two sum sum_is w_fits p_fits q_fits none = (λ is. omega arith, λ high more. omega arith)

tested : (word before two sum : ℕ) {either neither both wrong test all high : ℕ} → all ≡ min test high → high ≡ 1 → test ≡ min word wrong
    → wrong ≡ max both neither → both ≡ min before two → neither ≡ 1 - either → either ≡ max sum before → word < 2 → all ≡ 0
    → min word (max (min before two) (1 - max sum before)) ≡ 0
tested word before two sum a b c d e f g small none = omega arith

-- what no high bit of the test says of each byte of the word, of the one before it, and of the two before that
pub byte_is_plain : (word before two : ℕ) → before < 2 ^ 64
    → bit_and (bit_and word (bit_or (bit_and before two) (bit_not w64 (bit_or (sum_of word) before)))) 0x8080_8080_8080_8080 ≡ 0
    → (j : ℕ) → j < 8 → (slice_index (window_of word) j ≡ 128 → 128 ≤ slice_index (window_of before) j)
    × (128 ≤ slice_index (window_of word) j → 128 ≤ slice_index (window_of before) j → slice_index (window_of two) j < 128)
byte_is_plain word before two fits none j inside =
    let bit = 8 * j + 7 in
    let sum = sum_of word in
    let either = bit_or sum before in
    let small : either < 2 ^ 64 = or_lt 64 sum before (sum_fits word) fits in
    let neither = bit_not w64 either in
    let wrong = bit_or (bit_and before two) neither in
    let zero_bit : bit_at (bit_and (bit_and word wrong) 0x8080_8080_8080_8080) bit ≡ 0 = ap (λ n. bit_at n bit) none ∙ bit_at-zero bit in
    rw (byte_is word j inside, byte_is before j inside, byte_is two j inside)
    (bits_tell (byte_at_bit (8 * j) word) (byte_at_bit (8 * j) before) (byte_at_bit (8 * j) two) (byte_at_bit (8 * j) sum)
    (high_bit word (8 * j)) (high_bit before (8 * j)) (high_bit two (8 * j)) (high_bit sum (8 * j)) (sum_byte 8 word j inside)
    (omega arith) (omega arith) (omega arith)
    (tested (bit_at word bit) (bit_at before bit) (bit_at two bit) (bit_at sum bit) (bit_at_and (bit_and word wrong) 0x8080_8080_8080_8080 bit) (high_set j inside) (bit_at_and word wrong bit)
    (bit_at_or (bit_and before two) neither bit) (bit_at_and before two bit) (bit_at_not w64 either bit small (omega arith))
    (bit_at_or sum before bit) (bit_at-lt word bit) zero_bit))

-- ---- words that are read

pub window_is : (xs : List ℕ) (at n : ℕ) → at + 8 ≤ length xs → ((i : ℕ) → get_or xs i 0 < 256)
    → n ≡ from_le_bytes w64 (take 8 (drop at xs)) → window_of n ≡ take 8 (drop at xs)
unfolding window_of
window_is xs at n inside octets is =
    let long = length-take-le 8 (drop at xs) (omega (arith, length-drop at xs)) in
    let small : (i : ℕ) → get_or (take 8 (drop at xs)) i 0 < 256 =
    λ i. grind (arith, get_or-take, get_or-drop, get_or_past, cases_lt, octets (at + i)) in
    le_bytes_8 (take 8 (drop at xs)) n long small is

-- ---- octets moved up in a word

moved : (n i : ℕ) → i < 7 → byte_at_bit (8 * suc i) (n * 256 % 2 ^ 64) ≡ byte_at_bit (8 * i) n
moved n zero inside = omega arith
moved n (suc zero) inside = omega arith
moved n (suc (suc zero)) inside = omega arith
moved n (suc (suc (suc zero))) inside = omega arith
moved n (suc (suc (suc (suc zero)))) inside = omega arith
moved n (suc (suc (suc (suc (suc zero))))) inside = omega arith
moved n (suc (suc (suc (suc (suc (suc zero)))))) inside = omega arith
moved n (suc (suc (suc (suc (suc (suc (suc i))))))) inside = absurd (omega arith)

moved_two : (n i : ℕ) → i < 6 → byte_at_bit (8 * suc (suc i)) (n * 65536 % 2 ^ 64) ≡ byte_at_bit (8 * i) n
moved_two n zero inside = omega arith
moved_two n (suc zero) inside = omega arith
moved_two n (suc (suc zero)) inside = omega arith
moved_two n (suc (suc (suc zero))) inside = omega arith
moved_two n (suc (suc (suc (suc zero)))) inside = omega arith
moved_two n (suc (suc (suc (suc (suc zero))))) inside = omega arith
moved_two n (suc (suc (suc (suc (suc (suc i)))))) inside = absurd (omega arith)

-- both bytes have the high bit, and so has their conjunction
both_high : (a b j : ℕ) → 128 ≤ byte_at_bit (8 * j) a → 128 ≤ byte_at_bit (8 * j) b → 128 ≤ byte_at_bit (8 * j) (bit_and a b)
both_high a b j high higher =
    by (bit_at_and a b (8 * j + 7)) (high_bit a (8 * j)) (high_bit b (8 * j)) (high_bit (bit_and a b) (8 * j)) high higher (omega arith) (omega arith)
  where
    by : {x y z p q r : ℕ} → z ≡ min x y → x ≡ p / 128 → y ≡ q / 128 → z ≡ r / 128 → 128 ≤ p → 128 ≤ q → p < 256 → q < 256 → 128 ≤ r
    by a b c d e f g h = omega arith

abbrev pub up_one : ℕ → ℕ
up_one word = word * 256 % 2 ^ 64

abbrev pub up_two : ℕ → ℕ
up_two word = word * 65536 % 2 ^ 64

first_empty : (word : ℕ) → slice_index (window_of (up_one word)) 0 ≡ 0
first_empty word = byte_is (up_one word) 0 (omega arith) ∙ omega arith

one_before : (word i : ℕ) → i < 7 → slice_index (window_of (up_one word)) (suc i) ≡ slice_index (window_of word) i
one_before word i inside =
    byte_is (up_one word) (suc i) (omega arith) ∙ moved word i inside ∙ sym (byte_is word i (omega arith))

two_before : (word i : ℕ) → i < 6 → slice_index (window_of (up_two word)) (suc (suc i)) ≡ slice_index (window_of word) i
two_before word i inside =
    byte_is (up_two word) (suc (suc i)) (omega arith) ∙ moved_two word i inside ∙ sym (byte_is word i (omega arith))

pub both_bytes : (a b j : ℕ) → j < 8 → 128 ≤ slice_index (window_of a) j → 128 ≤ slice_index (window_of b) j
    → 128 ≤ slice_index (window_of (bit_and a b)) j
both_bytes a b j inside high higher =
    rw (byte_is (bit_and a b) j inside) (both_high a b j (rw (byte_is a j inside) at high) (rw (byte_is b j inside) at higher))

pub start_is_plain : (word : ℕ) → ((k : ℕ) → k < 8 →
    (slice_index (window_of word) k ≡ 128 → 128 ≤ slice_index (window_of (up_one word)) k)
    × (128 ≤ slice_index (window_of word) k → 128 ≤ slice_index (window_of (up_one word)) k
    → slice_index (window_of (up_two (bit_and word (up_one word)))) k < 128))
    → (k : ℕ) → k < 8 → IsPlain (window_of word) k
start_is_plain word plain zero inside =
    (λ is. absurd (omega (arith, (plain 0 inside).0 is, first_empty word)), λ three. absurd (omega arith))
start_is_plain word plain (suc zero) inside =
    (λ is. (omega arith, rw (one_before word 0 (omega arith)) at ((plain 1 inside).0 is)), λ three. absurd (omega arith))
start_is_plain word plain (suc (suc zero)) inside =
    (λ is. (omega arith, rw (one_before word 1 (omega arith)) at ((plain 2 inside).0 is)), λ three. absurd (omega arith))
start_is_plain word plain (suc (suc (suc i))) inside =
    let one : suc (suc (suc i)) - 1 ≡ suc (suc i) = omega arith in
    let two : suc (suc (suc i)) - 2 ≡ suc i = omega arith in
    let three : suc (suc (suc i)) - 3 ≡ i = omega arith in
    rw (one, two, three) (
      λ is. (omega arith, rw (one_before word (suc (suc i)) (omega arith)) at ((plain (suc (suc (suc i))) inside).0 is)),
      λ after high next second.
          let none = (plain (suc (suc (suc i))) inside).1 high (rw (one_before word (suc (suc i)) (omega arith)) next) in
          let fewer : slice_index (window_of (bit_and word (up_one word))) (suc i) < 128 =
          rw (two_before (bit_and word (up_one word)) (suc i) (omega arith)) at none in
          ⊎_elim (λ low. low)
          (λ third. absurd (omega (arith, fewer, both_bytes word (up_one word) (suc i) (omega arith) second (rw (one_before word i (omega arith)) third))))
          (cases_lt (slice_index (window_of word) i) 128),
    )

-- ---- four octets and four

fours_are : (start end : List ℕ) (x y : ℕ) → length start ≡ 4 → length end ≡ 4 → ((i : ℕ) → get_or start i 0 < 256)
    → ((i : ℕ) → get_or end i 0 < 256) → x ≡ from_le_bytes w32 start → y ≡ from_le_bytes w32 end → x < 2 ^ 32 → y < 2 ^ 32
    → window_of (bit_or x (y * 2 ^ 32 % 2 ^ 64)) ≡ start ++ end
unfolding window_of
fours_are (a ∷ b ∷ c ∷ d ∷ []) (e ∷ f ∷ g ∷ h ∷ []) x y four more small smaller x_is y_is x_fits y_fits =
    let shift : y * 2 ^ 32 % 2 ^ 64 ≡ y * 2 ^ 32 = omega arith in
    let sum : bit_or x (y * 2 ^ 32 % 2 ^ 64) ≡ y * 2 ^ 32 + x = rw shift (or_comm x (y * 2 ^ 32) ∙ or_shifted y 32 x x_fits) in
    let first = a ∷ b ∷ c ∷ d ∷ [] in
    let last = e ∷ f ∷ g ∷ h ∷ [] in
    let bytes : (i : ℕ) → get_or (first ++ last) i 0 < 256 =
    λ i. ⊎_elim (λ inside. rw (get_or-append first last 0 i inside) (small i))
    (λ after. rw (get_or-append_right first last 4 i 0 refl after) (smaller (i - 4))) (cases_lt i 4) in
    le_bytes_8 (a ∷ b ∷ c ∷ d ∷ e ∷ f ∷ g ∷ h ∷ []) _ refl bytes (sum ∙ omega arith)
fours_are _ _ x y four more small smaller x_is y_is x_fits y_fits = absurd (omega arith)

pub ends_are : (xs : List ℕ) (x y : ℕ) → 4 ≤ length xs → ((i : ℕ) → get_or xs i 0 < 256) → x ≡ from_le_bytes w32 (take 4 xs)
    → y ≡ from_le_bytes w32 (drop (length xs - 4) xs) → x < 2 ^ 32 → y < 2 ^ 32
    → window_of (bit_or x (y * 2 ^ 32 % 2 ^ 64)) ≡ take 4 xs ++ drop (length xs - 4) xs
ends_are xs x y enough octets x_is y_is x_fits y_fits =
    fours_are (take 4 xs) (drop (length xs - 4) xs) x y (length-take-le 4 xs enough) (rw length-drop (omega arith))
    (λ i. grind (arith, get_or-take, get_or_past, cases_lt i 4, octets i)) (λ i. rw get_or-drop (octets (length xs - 4 + i)))
    x_is y_is x_fits y_fits

-- ---- windows of octets

pub window_reads : (xs : List ℕ) (n from k : ℕ) → window_of n ≡ take 8 (drop from xs) → k < 8
    → slice_index (window_of n) k ≡ slice_index xs (from + k)
window_reads xs n from k is inside = ap (λ bytes. get_or bytes k 0) is ∙ get_or-take 8 (drop from xs) k 0 inside ∙ get_or-drop from xs k 0

module _ (xs : List ℕ) (word one two three : ℕ) (word_is : window_of word ≡ take 8 (drop 3 xs)) (one_is : window_of one ≡ take 8 (drop 2 xs))
    (two_is : window_of two ≡ take 8 (drop 1 xs)) (three_is : window_of three ≡ take 8 xs) where
  pub later_are_plain : ((k : ℕ) → k < 8 →
      (slice_index (window_of word) k ≡ 128 → 128 ≤ slice_index (window_of one) k)
      × (128 ≤ slice_index (window_of word) k → 128 ≤ slice_index (window_of one) k
      → slice_index (window_of (bit_and two three)) k < 128)) → ArePlain xs 3 11
  later_are_plain plain at from inside =
      let k = at - 3 in
      let fits : k < 8 = omega arith in
      let given = plain k fits in
      let at_is : 3 + k ≡ at = omega arith in
      let one_at : 2 + k ≡ at - 1 = omega arith in
      let two_at : 1 + k ≡ at - 2 = omega arith in
      let here = rw at_is at (window_reads xs word 3 k word_is fits) in
      let before = rw one_at at (window_reads xs one 2 k one_is fits) in
      let second = rw two_at at (window_reads xs two 1 k two_is fits) in
      let three_at : 0 + k ≡ at - 3 = omega arith in
      let third = rw three_at at (window_reads xs three 0 k three_is fits) in (
        λ is. (omega arith, rw before at (given.0 (here ∙ is))),
        λ after high next more.
            let none = given.1 (rw here high) (rw before next) in
            ⊎_elim (λ low. low) (λ last. absurd (omega (arith, none, both_bytes two three k fits (rw second more) (rw third last)))) (cases_lt (slice_index xs (at - 3)) 128),
      )

-- ---- no byte of a word has the high bit

abbrev pub IsLow : ℕ → Type 0
IsLow word = (j : ℕ) → j < 8 → bit_at word (8 * j + 7) ≡ 0

pub low_from_none : (word : ℕ) → bit_and word 0x8080_8080_8080_8080 ≡ 0 → IsLow word
low_from_none word none j inside =
    by (bit_at_and word 0x8080_8080_8080_8080 (8 * j + 7)) (high_set j inside) (ap (λ n. bit_at n (8 * j + 7)) none ∙ bit_at-zero (8 * j + 7))
  where
    by : {x y z : ℕ} → z ≡ min x y → y ≡ 1 → z ≡ 0 → x ≡ 0
    by a b c = omega arith

pub low_of_both : (a b : ℕ) → IsLow (bit_or a b) → IsLow a × IsLow b
low_of_both a b none =
    (λ j inside. omega (arith, bit_at_or a b (8 * j + 7), none j inside), λ j inside. omega (arith, bit_at_or a b (8 * j + 7), none j inside))

window_length : (word : ℕ) → length (window_of word) ≡ 8
unfolding window_of
window_length word = refl

pub low_bytes : (word : ℕ) → IsLow word → IsAscii (window_of word)
low_bytes word none i = ⊎_elim
    (λ inside. rw (byte_is word i inside) (omega (arith, high_bit word (8 * i), none i inside)))
    (λ past. rw (get_or_past (window_of word) i 0 (omega (arith, window_length word))) (omega arith))
    (cases_lt i 8)

-- eight bytes whose word has none are ASCII
pub low_word : (bytes rest : List ℕ) (word : ℕ) → bytes ≡ take 8 rest → 8 ≤ length rest → ((i : ℕ) → get_or rest i 0 < 256)
    → word ≡ from_le_bytes w64 bytes → IsLow word → IsAscii bytes
low_word bytes rest word first enough small is none =
    let same = window_is rest 0 word (omega arith) small (rw first at is) in
    rw first (subst (λ xs. IsAscii xs) same (low_bytes word none))
