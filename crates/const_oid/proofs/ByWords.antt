-- Words of eight octets: they are the same where their octets are, and have their lexicographic order.
use Rattle.std.proofs.Common.{◌≡◌, ◌≢◌, ℕ, zero, suc, ◌+◌, ◌*◌, ◌%◌, ◌^◌, ◌<◌, ◌≤◌, List, [], ◌∷◌, length, take, drop}
use Rattle.std.proofs.Common.{get_or, refl, arith, min, Bool, true, false, nat_eq, IsTrue, Less, Equal}
use Rattle.std.proofs.Common.{Greater, nat_cmp, w64, pow-suc, rules}
use Rattle.std.specs.{Int.{from_be_bytes, byte_at, bytes_high_first}, Cmp.nat_cmp_is}
use Rattle.std.specs.Cmp.Lexicographic.{pointwise, slice_cmp, texts_ties}
use Rattle.std.proofs.{Math.Seq.take-add, Math.Arith.mod-mul, Math.Nat.{mul_comm, one-le-pow}}
use Rattle.std.proofs.lemmas.{Bool.cases_lt, Bool.Decides.nat_tests, Cmp.{nat_list_cmp_total, tied_itself}}
use Rattle.std.proofs.lemmas.List.{length-take-le, take-take, take_all, length-drop, get_or-take, get_or-drop}
use Rattle.std.proofs.lemmas.{List.get_or_past, Nat.{from_be_bytes-to_be_bytes_8, be_bytes_8}}
use Rattle.const_oid.specs.Private.Octets.{bytes_of, IsWord}
use Rattle.const_oid.proofs.Shortlex.{digits_cmp, split_cmp, after_same, shortlex_cmp-level}

-- ---- the order of numbers by their bytes

byte_first : (k n : ℕ) → n % 256 ^ suc k ≡ byte_at k n * 256 ^ k + n % 256 ^ k
byte_first zero n = omega arith
byte_first (suc k) n =
    rw (pow-suc 256 (suc k), mul_comm (256 ^ suc k) 256)
    (mod-mul n (omega arith) (one-le-pow (suc k) 256 (omega arith)))

bytes_cmp : (k left right : ℕ)
    → slice_cmp nat_cmp (bytes_high_first k left) (bytes_high_first k right)
    ≡ nat_cmp (left % 256 ^ k) (right % 256 ^ k)
bytes_cmp zero left right = nat_cmp_is (left % 256 ^ 0) (right % 256 ^ 0) Equal (omega arith)
bytes_cmp (suc k) left right =
    let some : 1 ≤ 256 ^ k = one-le-pow k 256 (omega arith) in
    let rest = bytes_cmp k left right in
    rw (byte_first k left, byte_first k right)
    (digits_cmp (byte_at k left) (byte_at k right) _ _ (left % 256 ^ k) (right % 256 ^ k) rest
    (omega arith) (omega arith))

-- ---- the word at an index

pub word_is : (xs : List ℕ) (at n : ℕ) → at + 8 ≤ length xs → ((i : ℕ) → get_or xs i 0 < 256) → n < 2 ^ 64
    → n ≡ from_be_bytes w64 (take 8 (drop at xs)) → IsWord xs at n
unfolding bytes_of
word_is xs at n inside octets fits is =
    let long = length-take-le 8 (drop at xs) (omega (arith, length-drop at xs)) in
    let small : (i : ℕ) → get_or (take 8 (drop at xs)) i 0 < 256 =
    λ i. grind (arith, get_or-take, get_or-drop, get_or_past, cases_lt, octets (at + i)) in
    record { fits = fits; value = be_bytes_8 (take 8 (drop at xs)) n long small is }

chunks_cmp : {xs ys : List ℕ} {at left right : ℕ} → IsWord xs at left → IsWord ys at right
    → slice_cmp nat_cmp (take 8 (drop at xs)) (take 8 (drop at ys)) ≡ nat_cmp left right
unfolding bytes_of
chunks_cmp {left} {right} word other =
    let fits : left % 256 ^ 8 ≡ left = omega arith in
    let fits' : right % 256 ^ 8 ≡ right = omega arith in
    rw (← word.value, ← other.value) (rw (fits, fits') at (bytes_cmp 8 left right))

-- equal words are the same octets
pub same_more : {xs ys : List ℕ} {at m n : ℕ} → IsWord xs at m → IsWord ys at n
    → take at xs ≡ take at ys → m ≡ n → take (at + 8) xs ≡ take (at + 8) ys
same_more {xs} {ys} {at} v w same e =
    let p = take-add at 8 xs in let q = take-add at 8 ys in cc

-- unequal words have the order of the lists
pub unequal_cmp : {xs ys : List ℕ} {at m n : ℕ} → IsWord xs at m → IsWord ys at n
    → take at xs ≡ take at ys → m ≢ n → nat_cmp m n ≡ slice_cmp nat_cmp xs ys
unequal_cmp {xs} {ys} {at} {m} {n} v w same u =
    grind (arith, nat_tests, after_same xs ys at same, split_cmp 8 (drop at xs) (drop at ys), chunks_cmp v w)

-- the same lists have equal words
pub equal_words : {xs ys : List ℕ} {at m n : ℕ} → IsWord xs at m → IsWord ys at n → xs ≡ ys → m ≡ n
unfolding bytes_of
equal_words {m} {n} v w e = grind (arith, from_be_bytes-to_be_bytes_8)

-- equal last words end the same lists
pub last_words : {xs ys : List ℕ} {at m n : ℕ} → IsWord xs at m → IsWord ys at n
    → take at xs ≡ take at ys → m ≡ n → length xs ≡ at + 8 → length ys ≡ at + 8 → xs ≡ ys
last_words {xs} {ys} {at} v w same e k l = grind (arith, same_more v w, take_all)

-- where lists are the same as far as both go, their lengths decide
pub ended_at : (xs ys : List ℕ) (at : ℕ) → at ≡ min (length xs) (length ys) → take at xs ≡ take at ys
    → slice_cmp nat_cmp xs ys ≡ nat_cmp (length xs) (length ys)
ended_at [] [] at is_end same = refl
ended_at [] (y ∷ ys) at is_end same = nat_cmp_is 0 (suc (length ys)) Less (omega arith)
ended_at (x ∷ xs) [] at is_end same = nat_cmp_is (suc (length xs)) 0 Greater (omega arith)
ended_at (x ∷ xs) (y ∷ ys) zero is_end same = absurd (omega arith)
ended_at (x ∷ xs) (y ∷ ys) (suc at) is_end same = grind (arith, nat_tests, ended_at xs ys at (omega arith) (cc))

pub ended_cmp : (xs ys : List ℕ) → (let end = min (length xs) (length ys) in take end xs ≡ take end ys)
    → slice_cmp nat_cmp xs ys ≡ nat_cmp (length xs) (length ys)
ended_cmp xs ys same = ended_at xs ys (min (length xs) (length ys)) refl same

-- a test that is true exactly where lists are the same
pub tells_same : (test : Bool) (xs ys : List ℕ) → (IsTrue test → xs ≡ ys) → (xs ≡ ys → IsTrue test)
    → test ≡ pointwise nat_eq xs ys
tells_same true xs ys same equal = search rules
tells_same false xs ys same equal = search rules

-- the same up to an earlier index
pub same_less : (xs ys : List ℕ) (at less : ℕ) → less ≤ at → take at xs ≡ take at ys → take less xs ≡ take less ys
same_less xs ys at less h same = grind (arith, take-take less at xs h, take-take less at ys h)

pub ruleset word_by_word = (same_more, same_less, unequal_cmp, equal_words)

-- ---- arrays that have the same after them

pub whole_cmp : (xs ys : List ℕ) (used : ℕ) → drop used xs ≡ drop used ys
    → slice_cmp nat_cmp xs ys ≡ slice_cmp nat_cmp (take used xs) (take used ys)
whole_cmp xs ys used same =
    grind (arith, nat_tests, split_cmp used xs ys, tied_itself nat_list_cmp_total (drop used ys))

pub whole_eq : (xs ys : List ℕ) (used : ℕ) → drop used xs ≡ drop used ys
    → pointwise nat_eq xs ys ≡ pointwise nat_eq (take used xs) (take used ys)
whole_eq xs ys used same = grind (arith, texts_ties, whole_cmp)

pub ruleset arrays_cmp = (whole_cmp, shortlex_cmp-level, length-take-le)
