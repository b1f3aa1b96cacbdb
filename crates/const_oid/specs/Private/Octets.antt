-- Octets as they are read and written, one subidentifier after another.
use Rattle.std.specs.Prelude.{◌≡◌, ℕ, ◌+◌, ◌<◌, ◌≤◌, List, [], ◌∷◌, ◌++◌, length, map, take, drop, Option, None}
use Rattle.std.specs.Prelude.{slice_index, Result, MatchResult, ◌==◌, if◌then◌else◌, Some, ◌^◌, ◌-◌, ◌*◌, nat_lt}
use Rattle.std.specs.declared.cmp.Ordering.{Ordering}
use Rattle.std.specs.Option.{option_or}
use Rattle.std.specs.Ordering.{nat_cmp}
use Rattle.const_oid.specs.declared.error.Error.{Error}
use Rattle.const_oid.specs.declared.error.Error.TheVariants.{Length}
use Rattle.const_oid.specs.declared.arcs.Next.{Next}
use Rattle.const_oid.specs.declared.arcs.Next.TheVariants.{First, Second, Later}
use Rattle.const_oid.specs.Base128.{IsGroup, value_of, width}
use Rattle.const_oid.specs.Identifier.{root_rule, max_arc}
use Rattle.const_oid.specs.Contents.{cut, part_fault, later_fault, parts_fault, arcs_of_octets, max_first}
use Rattle.std.specs.Int.{w64, to_be_bytes, to_le_bytes}
use Rattle.std.specs.Int.RustNames.{bit_or}
use Rattle.std.specs.List.{fold}

-- the arcs that an iterator has left, by what comes next of the octets
abbrev pub arcs_left : Next → List ℕ → List ℕ
arcs_left First octets = arcs_of_octets octets
arcs_left (Second arc) octets = arc ∷ map value_of (cut octets)
arcs_left Later octets = map value_of (cut octets)

-- the fault of the octets that it has left
abbrev pub fault_left : Next → List ℕ → Option Error
fault_left First octets = parts_fault root_rule (cut octets)
fault_left (Second arc) octets = later_fault (cut octets)
fault_left Later octets = later_fault (cut octets)

-- how many octets the first part has
abbrev pub first_length : List (List ℕ) → ℕ
first_length [] = 0
first_length (part ∷ parts) = length part

-- how many octets the part has that begins at an index
abbrev pub length_at : List ℕ → ℕ → ℕ
length_at octets index = first_length (cut (drop index octets))

-- the order of the lengths of the parts that begin at an index
abbrev pub lens_cmp : ℕ → List ℕ → List ℕ → Ordering
lens_cmp index a b = nat_cmp (length_at a index) (length_at b index)

-- the first fault of parts; the first part has a limit of its own
abbrev pub fault_from : ℕ → List (List ℕ) → Option Error
fault_from limit [] = None
fault_from limit (part ∷ parts) = option_or (part_fault limit part) (later_fault parts)

-- the octets go on by the subidentifier of the number
abbrev pub GoesOn : ℕ → List ℕ → List ℕ → Type 0
GoesOn number octets longer = (group : List ℕ) × IsGroup number group × (longer ≡ octets ++ group)

-- the first `used` octets of a slice go on by the subidentifier of a number if it fits a capacity that the slice has;
-- the result is how many there are then, or `Length` if it does not fit
abbrev pub AppendsTo : ℕ → ℕ → ℕ → List ℕ → List ℕ → Result ℕ Error → Type 0
AppendsTo capacity number used out longer result = MatchResult result
    (λ end. (end ≡ used + width number) × (end ≤ capacity)
    × (capacity ≤ length out → (group : List ℕ) × IsGroup number group × (longer ≡ take used out ++ (group ++ drop end out))))
    (λ fault. (fault ≡ Length) × (capacity < used + width number))

-- the greatest number of a subidentifier that starts at an index
abbrev pub limit_at : ℕ → ℕ
limit_at start = if start == 0 then max_first root_rule else max_arc

-- the first fault of the parts from an index on, at which a part starts
abbrev pub fault_at : List ℕ → ℕ → Option Error
fault_at octets start = fault_from (limit_at start) (cut (drop start octets))

-- the part that starts at an index has no fault and ends before another index, or the fault is its own
abbrev pub EndsAt : List ℕ → ℕ → Result ℕ Error → Type 0
EndsAt octets start result = MatchResult result
    (λ end. (start < end) × (end ≤ length octets) × (fault_at octets start ≡ fault_at octets end))
    (λ fault. fault_at octets start ≡ Some fault)

-- the bytes of a number, the most significant first
unfoldable pub bytes_of : ℕ → List ℕ
bytes_of number = to_be_bytes w64 number

-- the eight octets from an index on, as a number
pub record IsWord (octets : List ℕ) (at number : ℕ) : Type 0 where
  pub fits : number < 2 ^ 64
  pub value : bytes_of number ≡ take 8 (drop at octets)

-- the bytes of a number, the least significant first
unfoldable pub window_of : ℕ → List ℕ
window_of number = to_le_bytes w64 number

-- from an index on and below another, no octet begins a part with 128, or is the fourth in a row of 128 or more
abbrev pub ArePlain : List ℕ → ℕ → ℕ → Type 0
ArePlain octets start end = (at : ℕ) → start ≤ at → at < end → (slice_index octets at ≡ 128 → (0 < at) × (128 ≤ slice_index octets (at - 1)))
    × (3 ≤ at → 128 ≤ slice_index octets at → 128 ≤ slice_index octets (at - 1) → 128 ≤ slice_index octets (at - 2) → slice_index octets (at - 3) < 128)

-- bytes in which bits are set
abbrev pub with_bits : ℕ → List ℕ → List ℕ
with_bits bits bytes = map (λ byte. bit_or byte bits) bytes

-- the number of bytes, the first the most significant
abbrev pub number_of : List ℕ → ℕ
number_of bytes = fold (λ number byte. number * 256 + byte) 0 bytes

-- the last word: the last eight bytes, of fewer the first four and the last four, or all of fewer than four
abbrev pub last_of : List ℕ → List ℕ
last_of bytes =
    if nat_lt (length bytes) 4 then bytes
    else if nat_lt (length bytes) 8 then take 4 bytes ++ drop (length bytes - 4) bytes
    else drop (length bytes - 8) bytes
