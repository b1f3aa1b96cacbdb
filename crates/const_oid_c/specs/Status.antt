-- The statuses that functions return, and the output after a call.
use Rattle.std.specs.Prelude.{◌≡◌, ℕ, ℤ, pos, negsuc, ◌-◌, ◌^◌, Bool, true, false, List, length, min, ◌⊎◌, nat_lt, if◌then◌else◌, Result, Ok, Err}
use Rattle.std.specs.declared.cmp.Ordering.{Ordering}
use Rattle.std.specs.declared.cmp.Ordering.TheVariants.{Less, Equal, Greater}
use Rattle.const_oid.specs.declared.error.Error.{Error}
use Rattle.const_oid.specs.Error.{code_of, detail_of}
use Rattle.const_oid.specs.Output.{written_over}
use Rattle.const_oid_c.specs.declared.status.Status.{Status}

-- an error: its number from 1 to 9, and the arc or byte that it carries
abbrev pub error_status : Error → Status
error_status error = record { code = code_of error; detail = detail_of error; len = 0 }

-- an error at an index
abbrev pub fault_at : ℕ → Error → Status
fault_at index fault = record (error_status fault) { len = index }

-- a code alone
abbrev pub code_status : ℕ → Status
code_status code = record { code = code; detail = 0; len = 0 }

-- the text is not UTF-8
abbrev pub not_utf8_status : Status
not_utf8_status = code_status 11

-- the arc, parent, item or text does not exist
abbrev pub none_status : Status
none_status = code_status 12

-- the output is too short for `len` items
abbrev pub too_short_status : ℕ → Status
too_short_status len = record { code = 10; detail = 0; len = len }

-- `len` items were written or counted
abbrev pub len_status : ℕ → Status
len_status len = record { code = 0; detail = 0; len = len }

-- the result is this number
abbrev pub number_status : ℕ → Status
number_status detail = record { code = 0; detail = detail; len = 0 }

-- the result is 1 for true, and 0 for false
abbrev pub flag_status : Bool → Status
flag_status holds = number_status (if holds then 1 else 0)

-- the flag is true exactly if the fact holds
abbrev pub IsFlagOf : Type 0 → Status → Type 0
IsFlagOf fact status = ((status ≡ flag_status true) × fact) ⊎ ((status ≡ flag_status false) × ¬ fact)

-- the result is an order: 1 for less, 2 for equal, 3 for greater
abbrev pub order_status : Ordering → Status
order_status Less = number_status 1
order_status Equal = number_status 2
order_status Greater = number_status 3

-- an order as a comparator of C returns it
abbrev pub order_number : Ordering → ℤ
order_number Less = negsuc 0
order_number Equal = pos 0
order_number Greater = pos 1

-- the greatest length
abbrev pub max_len : ℕ
max_len = 2 ^ 64 - 1

-- the status of a call with an output of this length and these items to write, or with a status but no items
abbrev pub output_status : ℕ → Result (List ℕ) Status → Status
output_status out_len (Ok items) = if nat_lt out_len (length items) then too_short_status (min (length items) max_len) else len_status (length items)
output_status out_len (Err status) = status

-- the output after that call: it begins with the items, or is unchanged if they do not fit or there are none
abbrev pub output_after : List ℕ → Result (List ℕ) Status → List ℕ
output_after old (Ok items) = if nat_lt (length old) (length items) then old else written_over items old
output_after old (Err status) = old
