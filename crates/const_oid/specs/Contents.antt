-- Contents octets: the parts, which in valid octets are the subidentifiers, and the first fault (ITU-T X.690, 8.19).
use Rattle.std.specs.Prelude.{ℕ, ◌+◌, ◌-◌, ◌*◌, ◌^◌, ◌/◌, ◌%◌, Bool, false, List, [], ◌∷◌, length, map, nat_lt, ◌==◌, if◌then◌else◌, Option, Some, None, Result, not}
use Rattle.std.specs.List.{onto_first}
use Rattle.std.specs.Option.{option_or}
use Rattle.std.specs.Result.{result_map_both}
use Rattle.const_oid.specs.declared.error.Error.{Error}
use Rattle.const_oid.specs.declared.error.Error.TheVariants.{ArcInvalid, ArcTooBig, Base128, Empty, Length}
use Rattle.const_oid.specs.Base128.{value_of}
use Rattle.const_oid.specs.Error.{fault_if, answer}
use Rattle.const_oid.specs.Identifier.{RootRule, Narrow, Wide, max_arc, max_second, size}

-- an octet put before the parts that follow it
abbrev pub cut_after : ℕ → List (List ℕ) → List (List ℕ)
cut_after x parts = if nat_lt x 128 then (x ∷ []) ∷ parts else onto_first x parts

-- the parts of octets: each ends with its first octet below 128, and what is left after the last such one is a part
abbrev pub cut : List ℕ → List (List ℕ)
cut [] = []
cut (x ∷ xs) = cut_after x (cut xs)

-- a part ends with an octet below 128
abbrev pub is_finished : List ℕ → Bool
is_finished [] = false
is_finished (x ∷ []) = nat_lt x 128
is_finished (x ∷ y ∷ ys) = is_finished (y ∷ ys)

abbrev pub begins_with_128 : List ℕ → Bool
begins_with_128 [] = false
begins_with_128 (x ∷ xs) = x == 128

-- what is wrong with a part, of a number that may be at most the limit
abbrev pub part_fault : ℕ → List ℕ → Option Error
part_fault limit part =
    option_or (fault_if (begins_with_128 part) Base128)
    (option_or (fault_if (nat_lt limit (value_of part)) ArcTooBig)
    (fault_if (not (is_finished part)) Base128))

-- the first fault of parts that hold later arcs
abbrev pub later_fault : List (List ℕ) → Option Error
later_fault [] = None
later_fault (part ∷ parts) = option_or (part_fault max_arc part) (later_fault parts)

-- the greatest first subidentifier, of the first arc 2 and the greatest second arc: 119 or 4294967375
abbrev pub max_first : RootRule → ℕ
max_first rule = 40 * 2 + max_second rule 2

-- what is wrong with the first part: under the wide rule it is judged as later ones are, at its own limit
abbrev pub first_fault : RootRule → List ℕ → Option Error
first_fault Narrow [] = None
first_fault Narrow (x ∷ xs) = fault_if (nat_lt (max_first Narrow) x) (ArcInvalid (x / 40))
first_fault Wide part = part_fault (max_first Wide) part

abbrev pub parts_fault : RootRule → List (List ℕ) → Option Error
parts_fault rule [] = Some Empty
parts_fault rule (part ∷ parts) = option_or (first_fault rule part) (later_fault parts)

-- the fault of the octets at a capacity, if there is one
abbrev pub octet_fault : RootRule → List ℕ → ℕ → Option Error
octet_fault rule octets capacity =
    option_or (parts_fault rule (cut octets)) (fault_if (nat_lt capacity (length octets)) Length)

-- the arcs after the first subidentifier and the later ones
-- a law ties it to IsEncoding, by arcs_of_octets: laws::octets_denote
abbrev pub arcs_from : List ℕ → List ℕ
arcs_from [] = []
arcs_from (first ∷ later) = if nat_lt first 80 then first / 40 ∷ first % 40 ∷ later else 2 ∷ (first - 80) ∷ later

-- the arcs that octets encode
-- a law ties it to IsEncoding: laws::octets_denote
abbrev pub arcs_of_octets : List ℕ → List ℕ
arcs_of_octets octets = arcs_from (map value_of (cut octets))

-- how many octets a borrowed identifier may have: no slice is longer
abbrev pub borrowed_capacity : ℕ
borrowed_capacity = 2 ^ 63 - 1

-- what the octets are read as at a capacity: their fault, or their arcs
abbrev pub octet_answer : RootRule → List ℕ → ℕ → Result (List ℕ) Error
octet_answer rule octets capacity = answer (octet_fault rule octets capacity) (arcs_of_octets octets)

-- how many octets the arcs take
abbrev pub size_answer : Result (List ℕ) Error → Result ℕ Error
size_answer answer = result_map_both size (λ fault. fault) answer
