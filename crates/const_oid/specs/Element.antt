-- Elements of object identifiers in DER: identifier octet, length and contents (ITU-T X.690, 8.1, 8.19.1 and 10.1).
use Rattle.std.specs.Prelude.{◌≡◌, ◌≢◌, ℕ, ◌+◌, ◌*◌, ◌^◌, ◌<◌, ◌≤◌, List, [], ◌∷◌, ◌++◌, length, nat_lt, ◌==◌, if◌then◌else◌}
use Rattle.std.specs.Int.{w64, to_be_bytes}
use Rattle.const_oid.specs.Base128.{AreOctets}

-- the number that octets are in base 256, the most significant first
abbrev pub value_256 : List ℕ → ℕ
value_256 [] = 0
value_256 (x ∷ xs) = x * 256 ^ length xs + value_256 xs

-- the octets are the length octets of n: below 128, the one octet n; else the first one is 128 plus the number of those
-- that follow, and not 255, and these are n in base 256, and do not begin with 0, so they are the fewest
abbrev pub IsLength : ℕ → List ℕ → Type 0
IsLength n [] = ⊥
IsLength n (x ∷ []) = (n < 128) × (x ≡ n)
IsLength n (x ∷ y ∷ ys) =
    (128 ≤ n) × (x ≡ 128 + length (y ∷ ys)) × (x < 255) × (y ≢ 0) × AreOctets (y ∷ ys) × (n ≡ value_256 (y ∷ ys))

-- the octets from the first one on that is not 0
abbrev pub without_zeros : List ℕ → List ℕ
without_zeros [] = []
without_zeros (x ∷ xs) = if x == 0 then without_zeros xs else x ∷ xs

-- a number below 2^64 in base 256, the most significant octet first, and the first one not 0
-- a law ties it to IsLength, by length_octets: laws::unique_lengths
unfoldable pub base_256 : ℕ → List ℕ
base_256 n = without_zeros (to_be_bytes w64 n)

-- the length octets of a number below 2^64, which no slice's length exceeds
-- a law ties it to IsLength: laws::unique_lengths
unfoldable pub length_octets : ℕ → List ℕ
length_octets n = if nat_lt n 128 then n ∷ [] else (128 + length (base_256 n)) ∷ base_256 n

-- the identifier octet: class universal, primitive, number 6
abbrev pub tag : ℕ
tag = 6

-- the element of contents octets
-- for length_octets read IsLength, to which a law ties it: laws::unique_lengths
abbrev pub element : List ℕ → List ℕ
element contents = tag ∷ (length_octets (length contents) ++ contents)
