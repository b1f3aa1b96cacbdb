-- What the absence of a fault says of the tests after it.
use Rattle.std.proofs.Common.{◌≡◌, ◌≢◌, ℕ, ◌<◌, ◌≤◌, Bool, true, false, nat_lt, Option, Some, None, refl, lt-ltb, le-ltb}
use Rattle.std.specs.Option.{option_or}
use Rattle.std.proofs.lemmas.Bool.{ltb-false}
use Rattle.const_oid.specs.{declared.error.Error.Error, Error.fault_if}

pub both_none : (a b : Option Error) → option_or a b ≡ None → (a ≡ None) × (b ≡ None)
both_none None b h = (refl, h)
both_none (Some x) b h = cc

-- neither is this fault
pub both_other : (a b : Option Error) (fault : Error) → a ≢ Some fault → b ≢ Some fault → option_or a b ≢ Some fault
both_other None b fault first later = later
both_other (Some x) b fault first later = first

pub false_from_none : (test : Bool) (fault : Error) → fault_if test fault ≡ None → test ≡ false
false_from_none true fault h = cc
false_from_none false fault h = refl

pub below_from_none : (m n : ℕ) (fault : Error) → fault_if (nat_lt m n) fault ≡ None → n ≤ m
below_from_none m n fault h = ltb-false m n (false_from_none (nat_lt m n) fault h)

pub none_from_below : (m n : ℕ) (fault : Error) → n ≤ m → fault_if (nat_lt m n) fault ≡ None
none_from_below m n fault h = rw (le-ltb m n h)

pub some_from_above : (m n : ℕ) (fault : Error) → m < n → fault_if (nat_lt m n) fault ≡ Some fault
some_from_above m n fault h = rw (lt-ltb m n h)
