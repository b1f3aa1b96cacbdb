-- Octets by their first subidentifier.
use Rattle.std.specs.Prelude.{◌≡◌, ◌≢◌, ℕ, ◌<◌, ◌≤◌, List, ◌∷◌, length, map, slice_index, take, None}
use Rattle.std.specs.List.{AllByRecursion}
use Rattle.const_oid.specs.Base128.{value_of}
use Rattle.const_oid.specs.Contents.{cut, later_fault, max_first}
use Rattle.const_oid.specs.Identifier.{root_rule}

-- the first subidentifier does not end within four octets, and does not begin with 128
abbrev pub IsPastFour : List ℕ → Type 0
IsPastFour octets =
    (slice_index octets 0 ≢ 128) × (slice_index octets 0 < 256) × AllByRecursion (λ x. 128 ≤ x) (take 4 octets)

-- the first subidentifier begins with 128, does not end, or has a number above the limit
abbrev pub IsFaulty : ℕ → List ℕ → Type 0
IsFaulty limit octets = slice_index octets 0 ≢ 128
    → IsPastFour octets × (5 ≤ length octets → slice_index octets 4 < 128 → limit < value_of (take 5 octets))

-- a number and octets are what valid octets begin with and what is after it
abbrev pub IsFirst : List ℕ → ℕ → List ℕ → Type 0
IsFirst octets number after =
    (map value_of (cut octets) ≡ number ∷ map value_of (cut after)) × (number ≤ max_first root_rule)
    × (later_fault (cut after) ≡ None)
