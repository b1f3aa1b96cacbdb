-- Errors: where a fault is, the texts, and the order.
use Rattle.std.specs.Prelude.{ℕ, Bool, List, ◌++◌, codes, decimal, encode_utf8, if◌then◌else◌, Option, Some, None, Result, Ok, Err}
use Rattle.std.specs.declared.cmp.Ordering.{Ordering}
use Rattle.std.specs.Ordering.{nat_cmp, ordering_then}
use Rattle.const_oid.specs.declared.error.Error.{Error}
use Rattle.const_oid.specs.declared.error.Error.TheVariants.{ArcInvalid, ArcTooBig, Base128, DigitExpected, Empty, Length, Overflow, RepeatedDot, TrailingDot}

-- the fault, where a test holds
abbrev pub fault_if : Bool → Error → Option Error
fault_if test fault = if test then Some fault else None

-- the arcs, where there is no fault
abbrev pub answer : Option Error → List ℕ → Result (List ℕ) Error
answer None arcs = Ok arcs
answer (Some fault) arcs = Err fault

-- the text of an error; a byte that is no digit is printed as the character of its number
abbrev pub message_of : Error → List ℕ
message_of (ArcInvalid arc) = codes "OID contains out-of-range arc: " ++ decimal arc
message_of ArcTooBig = codes "OID contains arc which is larger than 32-bits"
message_of Base128 = codes "OID contains arc with invalid base 128 encoding"
message_of (DigitExpected actual) = codes "expected digit, got '" ++ (encode_utf8 actual ++ codes "'")
message_of Empty = codes "OID value is empty"
message_of Length = codes "OID length invalid"
message_of Overflow = codes "arithmetic calculation overflowed"
message_of RepeatedDot = codes "repeated consecutive '..' characters in OID"
message_of TrailingDot = codes "OID ends with invalid trailing '.'"

-- the most bytes of an error's text
abbrev pub max_message : ℕ
max_message = 47

-- the number of the variant, from 1 on
abbrev pub code_of : Error → ℕ
code_of (ArcInvalid arc) = 1
code_of ArcTooBig = 2
code_of Base128 = 3
code_of (DigitExpected actual) = 4
code_of Empty = 5
code_of Length = 6
code_of Overflow = 7
code_of RepeatedDot = 8
code_of TrailingDot = 9

-- the number that an error carries, or 0
abbrev pub detail_of : Error → ℕ
detail_of (ArcInvalid arc) = arc
detail_of (DigitExpected actual) = actual
detail_of _ = 0

-- the order of errors: their codes, then their details
abbrev pub error_cmp : Error → Error → Ordering
error_cmp a b = ordering_then (nat_cmp (code_of a) (code_of b)) (nat_cmp (detail_of a) (detail_of b))
