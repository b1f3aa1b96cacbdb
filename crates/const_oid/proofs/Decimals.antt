-- The digits of a number.
use Rattle.std.proofs.Common.{◌≡◌, Bool, ℕ, zero, suc, ◌+◌, ◌-◌, ◌/◌, ◌^◌, ◌<◌, ◌≤◌, List, ◌∷◌, ◌++◌, length, drop}
use Rattle.std.proofs.Common.{ap, append_assoc, ◌∙◌, ◌%◌, arith, decimal, nat_lt, if◌then◌else◌, length-append}
use Rattle.std.proofs.Common.{pow-suc, ◌*◌, [], set, get_or, map, refl, sym}
use Rattle.std.specs.Str.{IsAscii}
use Rattle.std.proofs.lemmas.Grind.{common_steps}
use Rattle.std.proofs.lemmas.Bool.Decides.{nat_tests}
use Rattle.std.proofs.lemmas.List.{drop-drop, drop-set-lt, take_more_set}
use Rattle.std.proofs.lemmas.Fmt.{decimal_digit, decimal_step, length-decimal-le, IsAscii-decimal}
use Rattle.const_oid.specs.Private.Text.{arc_text, pair_text, four_text}
use Rattle.const_oid.proofs.Lists.{append-cons}
use Rattle.std.specs.List.{range_with_len}
use Rattle.std.proofs.lemmas.Slice.{take-put_mid, drop-put_mid}
use Rattle.std.proofs.lemmas.List.FromFn.{get_or-map-range_with_len}
use Rattle.const_oid.specs.declared.digits.TheConstants.{PAIRS}

pub length_digit : (n : ℕ) → n < 10 → length (decimal n) ≡ 1
length_digit n h = ap length (decimal_digit n h)

pub length_step : (n : ℕ) → 10 ≤ n → n < 2 ^ 64 → length (decimal n) ≡ length (decimal (n / 10)) + 1
length_step n low high = ap length (decimal_step n low high) ∙ length-append _ _

-- a number between two powers of ten
pub length_between : (k n : ℕ) → 10 ^ k ≤ n → n < 10 ^ suc k → n < 2 ^ 64 → length (decimal n) ≡ k + 1
length_between zero n low below high = length_digit n (omega arith)
length_between (suc k) n low below high =
    let p = pow-suc 10 k in
    let q = pow-suc 10 (suc k) in
    let shorter = length_between k (n / 10) (omega arith) (omega arith) (omega arith) in
    omega (arith, length_step n (omega arith) high)

-- the length in digits, by tests
abbrev digits_by_tests : ℕ → ℕ
digits_by_tests n =
    if nat_lt n 10 then 1
    else (if nat_lt n 100 then 2
    else (if nat_lt n 10000 then (if nat_lt n 1000 then 3 else 4)
    else (if nat_lt n 1000000 then (if nat_lt n 100000 then 5 else 6)
    else (if nat_lt n 100000000 then (if nat_lt n 10000000 then 7 else 8)
    else (if nat_lt n 1000000000 then 9 else 10)))))

pub decimal_lengths : (n : ℕ) → n < 2 ^ 32 → length (decimal n) ≡ digits_by_tests n
decimal_lengths n h =
    let is = λ (k : ℕ). length_between k n in
    grind (arith, nat_tests, length_digit n, is 1, is 2, is 3, is 4, is 5, is 6, is 7, is 8, is 9)

-- the last digit before other bytes
pub decimal-last : (n : ℕ) (bytes : List ℕ) → 10 ≤ n → n < 2 ^ 64
    → decimal n ++ bytes ≡ decimal (n / 10) ++ (48 + n % 10) ∷ bytes
decimal-last n bytes low high = ap (λ l. l ++ bytes) (decimal_step n low high) ∙ append-cons _ _ bytes

-- one digit put into bytes
pub ruleset digit_put = (take_more_set, drop-set-lt)

pub decimal_two : (n : ℕ) → 10 ≤ n → n < 100 → decimal n ≡ pair_text n
decimal_two n low high = grind (arith, nat_tests, decimal_digit, decimal_step)

pub decimal_pair : (n : ℕ) → 100 ≤ n → n < 2 ^ 64 → decimal n ≡ decimal (n / 100) ++ pair_text (n % 100)
decimal_pair n low high = grind (arith, common_steps, decimal_step)

pub decimal_three : (n : ℕ) → 100 ≤ n → n < 1000 → decimal n ≡ (48 + n / 100) ∷ pair_text (n % 100)
decimal_three n low high = grind (arith, decimal_digit, decimal_pair)

pub decimal_four : (n : ℕ) → 1000 ≤ n → n < 10000 → decimal n ≡ four_text n
decimal_four n low high = grind (arith, decimal_two, decimal_pair)

pub decimal_many : (n : ℕ) → 10000 ≤ n → n < 2 ^ 64 → decimal n ≡ decimal (n / 10000) ++ four_text (n % 10000)
decimal_many n low high =
    let p : n / 100 / 100 ≡ n / 10000 = omega arith in
    let q : n / 100 % 100 ≡ n % 10000 / 100 = omega arith in
    let r : n % 100 ≡ n % 10000 % 100 = omega arith in
    let first = decimal_pair n (omega arith) high in
    let second = rw (p, q) at (decimal_pair (n / 100) (omega arith) (omega arith)) in
    rw (second, append_assoc, r) at first

pub length_many : (n : ℕ) → 10000 ≤ n → n < 2 ^ 64 → length (decimal n) ≡ length (decimal (n / 10000)) + 4
length_many n low high = ap length (decimal_many n low high) ∙ length-append _ _

pub arc_text_short : (is_first : Bool) (arc : ℕ) → arc < 2 ^ 32 → length (arc_text is_first arc) ≤ 11
arc_text_short is_first arc h = grind (arith, nat_tests, length-decimal-le 10 arc)

pub arc_text_ascii : (is_first : Bool) (arc : ℕ) → arc < 2 ^ 32 → IsAscii (arc_text is_first arc)
arc_text_ascii is_first arc h = grind (arith, nat_tests, IsAscii-decimal)

pub drop_more : (n m : ℕ) (xs ys : List ℕ) → n ≤ m → drop n xs ≡ drop n ys → drop m xs ≡ drop m ys
drop_more n m xs ys h e = let f : n + (m - n) ≡ m = omega arith in rw (drop-drop, drop-drop, f) at (ap (drop (m - n)) e)

-- up to four digits
pub ruleset few_digits = (decimal_digit, decimal_two, decimal_three, decimal_four, drop_more, append-cons)

-- five digits or more
pub ruleset many_digits = (decimal_digit, length_digit, decimal_many, length_many, drop_more, append_assoc)

-- functions whose first hundred values are one list, as `refl` computes, agree at each number below a hundred
agree_at : (f g : ℕ → ℕ) → map f (range_with_len 0 100) ≡ map g (range_with_len 0 100) → (p : ℕ) → p < 100 → f p ≡ g p
agree_at f g e p h =
    let at = λ (f : ℕ → ℕ). get_or-map-range_with_len f 0 100 p p 0 h (omega arith) in
    sym (at f) ∙ ap (λ xs. get_or xs p 0) e ∙ at g

pub tens_at : (p : ℕ) → p < 100 → get_or PAIRS (2 * p) 0 ≡ 48 + p / 10
tens_at = agree_at (λ p. get_or PAIRS (2 * p) 0) (λ p. 48 + p / 10) refl

pub ones_at : (p : ℕ) → p < 100 → get_or PAIRS (2 * p + 1) 0 ≡ 48 + p % 10
ones_at = agree_at (λ p. get_or PAIRS (2 * p + 1) 0) (λ p. 48 + p % 10) refl

pub set_two : (xs : List ℕ) (x y : ℕ) → length xs ≡ 2 → set (set xs 0 x) 1 y ≡ x ∷ y ∷ []
set_two [] x y h = absurd (omega (arith, h))
set_two (a ∷ []) x y h = absurd (omega (arith, h))
set_two (a ∷ b ∷ []) x y h = refl
set_two (a ∷ b ∷ c ∷ xs) x y h = absurd (omega (arith, h))

-- a pair put into bytes
pub ruleset pairs_put = (tens_at, ones_at, set_two, take-put_mid, drop-put_mid)
