-- The hash of bytes, by words of eight bytes in which bits are set.
use Rattle.std.proofs.Common.{◌≡◌, ℕ, zero, suc, ◌+◌, ◌-◌, ◌*◌, ◌<◌, ◌≤◌, List, [], ◌∷◌, ◌++◌, length, take, drop, get_or, map}
use Rattle.std.proofs.Common.{refl, sym, ap, ◌∙◌, arith, bit_or, w64, drop-cons, replicate}
use Rattle.std.proofs.Common.{◌≢◌, true, false, nat_eq, ⊎_elim}
use Rattle.std.specs.{Char.to_ascii_lowercase, Cmp.Lexicographic.pointwise, Int.{from_be_bytes, Bits.{or_add_and, or_zero_r}}, List.fold}
use Rattle.std.specs.Str.{str_eq_ignore_ascii_case, str_to_ascii_lowercase}
use Rattle.std.proofs.lemmas.{Bool.{cases_Bool, cases_lt, Decides.nat_tests}, Grind.common_steps, Nat.{or_block, Bits.and_pow}}
use Rattle.std.proofs.lemmas.{Slice.Eq.bytes_eq-Decides, Str.Ascii.lowercase_is}
use Rattle.std.proofs.lemmas.List.{drop-map, length-map, map-append, take-map}
use Rattle.const_oid.specs.Private.Links.{hash_step, hash_words}
use Rattle.const_oid.specs.Private.Octets.{last_of, number_of, with_bits}

abbrev more : ℕ → ℕ → ℕ
more number byte = number * 256 + byte

-- the bits of case are set in all bytes of a number at once
cased : (bits : ℕ) → bits < 256 → (bytes : List ℕ) (number mask : ℕ) → ((i : ℕ) → get_or bytes i 0 < 256)
    → bit_or (fold more number bytes) (fold more mask (map (λ _. bits) bytes)) ≡ fold more (bit_or number mask) (with_bits bits bytes)
cased bits fits [] number mask small = refl
cased bits fits (byte ∷ bytes) number mask small =
    let here : bit_or (more number byte) (more mask bits) ≡ more (bit_or number mask) (bit_or byte bits) =
    or_block 8 number mask byte bits (small 0) fits in
    cased bits fits bytes (more number byte) (more mask bits) (λ i. small (suc i)) ∙ ap (λ start. fold more start (with_bits bits bytes)) here

pub word_cased : (bits a b c d e f g h : ℕ) → bits < 256 → (let bytes = a ∷ b ∷ c ∷ d ∷ e ∷ f ∷ g ∷ h ∷ [] in
    ((i : ℕ) → get_or bytes i 0 < 256)
    → bit_or (from_be_bytes w64 bytes) (from_be_bytes w64 (replicate 8 bits)) ≡ number_of (with_bits bits bytes))
word_cased bits a b c d e f g h fits small =
    let bytes = a ∷ b ∷ c ∷ d ∷ e ∷ f ∷ g ∷ h ∷ [] in
    let number : from_be_bytes w64 bytes ≡ number_of bytes = omega arith in
    let mask : from_be_bytes w64 (replicate 8 bits) ≡ number_of (map (λ _. bits) bytes) = omega arith in
    rw (number, mask) (cased bits fits bytes 0 0 small)

pub no_bits : (bytes : List ℕ) → with_bits 0 bytes ≡ bytes
no_bits [] = refl
no_bits (byte ∷ bytes) = rw (or_zero_r byte, no_bits bytes) refl

-- ---- names that are the same

pub same_bytes : (a b : List ℕ) → pointwise nat_eq a b ≡ true → a ≡ b
same_bytes a b same = grind (arith, bytes_eq-Decides a b)

-- the bit of case is set in both
case_of : (byte : ℕ) → bit_or byte 32 ≡ bit_or (to_ascii_lowercase byte) 32
case_of byte =
    let lower = to_ascii_lowercase byte in
    grind (arith, cases_lt byte 65, cases_lt 90 byte, lowercase_is byte, or_add_and byte 32, and_pow byte 5, or_add_and lower 32, and_pow lower 5)

same_case : (bytes : List ℕ) → with_bits 32 bytes ≡ with_bits 32 (str_to_ascii_lowercase bytes)
same_case [] = refl
same_case (byte ∷ bytes) = rw (case_of byte, same_case bytes) refl

pub same_cased : (a b : List ℕ) → str_eq_ignore_ascii_case a b ≡ true → with_bits 32 a ≡ with_bits 32 b
same_cased a b same =
    same_case a ∙ ap (with_bits 32) (same_bytes (str_to_ascii_lowercase a) (str_to_ascii_lowercase b) same) ∙ sym (same_case b)

-- names whose last words differ are not
pub other_name : (a b : List ℕ) → number_of (last_of (with_bits 32 a)) ≢ number_of (last_of (with_bits 32 b))
    → false ≡ str_eq_ignore_ascii_case a b
other_name a b other = ⊎_elim
    (λ (same : str_eq_ignore_ascii_case a b ≡ true). absurd (other (ap (λ bytes. number_of (last_of bytes)) (same_cased a b same))))
    (λ (fails : str_eq_ignore_ascii_case a b ≡ false). sym fails)
    (cases_Bool (str_eq_ignore_ascii_case a b))

-- ---- the last bytes

abbrev pub last_at : ℕ → List ℕ → List ℕ
last_at zero bytes = []
last_at (suc k) bytes = get_or bytes (length bytes - suc k) 0 ∷ last_at k bytes

last_are : (k : ℕ) (bytes : List ℕ) → k ≤ length bytes → drop (length bytes - k) bytes ≡ last_at k bytes
last_are zero bytes enough = grind (arith, common_steps)
last_are (suc k) bytes enough =
    let at = length bytes - suc k in
    let next : suc at ≡ length bytes - k = omega arith in
    drop-cons bytes at 0 (omega arith) ∙ ap (λ rest. get_or bytes at 0 ∷ rest) (rw next (last_are k bytes (omega arith)))

abbrev pub first_four : List ℕ → List ℕ
first_four bytes = get_or bytes 0 0 ∷ get_or bytes 1 0 ∷ get_or bytes 2 0 ∷ get_or bytes 3 0 ∷ []

first_are : (bytes : List ℕ) → 4 ≤ length bytes → take 4 bytes ≡ first_four bytes
first_are [] enough = absurd (omega arith)
first_are (a ∷ []) enough = absurd (omega arith)
first_are (a ∷ b ∷ []) enough = absurd (omega arith)
first_are (a ∷ b ∷ c ∷ []) enough = absurd (omega arith)
first_are (a ∷ b ∷ c ∷ d ∷ bytes) enough = refl

pub last_eight : (bits : ℕ) (bytes : List ℕ) → 8 ≤ length bytes → last_of (with_bits bits bytes) ≡ with_bits bits (last_at 8 bytes)
last_eight bits bytes enough =
    let is = drop-map (λ byte. bit_or byte bits) (length bytes - 8) bytes ∙ ap (with_bits bits) (last_are 8 bytes enough) in
    grind (arith, nat_tests, length-map bytes (λ byte. bit_or byte bits))

pub last_four : (bits : ℕ) (bytes : List ℕ) → 4 ≤ length bytes → length bytes < 8
    → last_of (with_bits bits bytes) ≡ with_bits bits (first_four bytes ++ last_at 4 bytes)
last_four bits bytes enough few =
    let end = drop-map (λ byte. bit_or byte bits) (length bytes - 4) bytes ∙ ap (with_bits bits) (last_are 4 bytes enough) in
    let start = take-map (λ byte. bit_or byte bits) 4 bytes ∙ ap (with_bits bits) (first_are bytes enough) in
    grind (arith, nat_tests, length-map bytes (λ byte. bit_or byte bits), map-append (λ byte. bit_or byte bits))

pub last_few : (bits : ℕ) (bytes : List ℕ) → length bytes < 4 → last_of (with_bits bits bytes) ≡ with_bits bits bytes
last_few bits bytes few = grind (arith, nat_tests, length-map bytes (λ byte. bit_or byte bits))

-- ---- the words before them

abbrev pub first_at : List ℕ → List ℕ
first_at bytes = get_or bytes 0 0 ∷ get_or bytes 1 0 ∷ get_or bytes 2 0 ∷ get_or bytes 3 0
    ∷ get_or bytes 4 0 ∷ get_or bytes 5 0 ∷ get_or bytes 6 0 ∷ get_or bytes 7 0 ∷ []

pub words_step : (bits hash : ℕ) (bytes : List ℕ) → 9 ≤ length bytes
    → hash_words hash (with_bits bits bytes)
    ≡ hash_words (hash_step hash (number_of (with_bits bits (first_at bytes)))) (with_bits bits (drop 8 bytes))
unfolding hash_words
words_step bits hash [] enough = absurd (omega arith)
words_step bits hash (a ∷ []) enough = absurd (omega arith)
words_step bits hash (a ∷ b ∷ []) enough = absurd (omega arith)
words_step bits hash (a ∷ b ∷ c ∷ []) enough = absurd (omega arith)
words_step bits hash (a ∷ b ∷ c ∷ d ∷ []) enough = absurd (omega arith)
words_step bits hash (a ∷ b ∷ c ∷ d ∷ e ∷ []) enough = absurd (omega arith)
words_step bits hash (a ∷ b ∷ c ∷ d ∷ e ∷ f ∷ []) enough = absurd (omega arith)
words_step bits hash (a ∷ b ∷ c ∷ d ∷ e ∷ f ∷ g ∷ []) enough = absurd (omega arith)
words_step bits hash (a ∷ b ∷ c ∷ d ∷ e ∷ f ∷ g ∷ h ∷ []) enough = absurd (omega arith)
words_step bits hash (a ∷ b ∷ c ∷ d ∷ e ∷ f ∷ g ∷ h ∷ i ∷ bytes) enough = refl

pub words_end : (bits hash : ℕ) (bytes : List ℕ) → length bytes < 9 → hash_words hash (with_bits bits bytes) ≡ hash
unfolding hash_words
words_end bits hash [] few = refl
words_end bits hash (a ∷ []) few = refl
words_end bits hash (a ∷ b ∷ []) few = refl
words_end bits hash (a ∷ b ∷ c ∷ []) few = refl
words_end bits hash (a ∷ b ∷ c ∷ d ∷ []) few = refl
words_end bits hash (a ∷ b ∷ c ∷ d ∷ e ∷ []) few = refl
words_end bits hash (a ∷ b ∷ c ∷ d ∷ e ∷ f ∷ []) few = refl
words_end bits hash (a ∷ b ∷ c ∷ d ∷ e ∷ f ∷ g ∷ []) few = refl
words_end bits hash (a ∷ b ∷ c ∷ d ∷ e ∷ f ∷ g ∷ h ∷ []) few = refl
words_end bits hash (a ∷ b ∷ c ∷ d ∷ e ∷ f ∷ g ∷ h ∷ i ∷ bytes) few = absurd (omega arith)
