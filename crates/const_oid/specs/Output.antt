-- What a function writes at the start of an output: the bytes of a text or an element, contents octets, or arcs.
use Rattle.std.specs.Prelude.{◌≡◌, ℕ, ◌<◌, ◌≤◌, List, ◌++◌, length, drop, Option, MatchOption, Result, Ok, Err, MatchResult}
use Rattle.std.specs.Borrow.{Bor}
use Rattle.const_oid.specs.declared.error.Error.{Error}
use Rattle.const_oid.specs.Contents.{arcs_of_octets}
use Rattle.const_oid.specs.Identifier.{root_rule, IsEncoding}

-- the output with the items at its start, and as before after them
abbrev pub written_over : {X : Type 0} → List X → List X → List X
written_over items old = items ++ drop (length items) old

-- all the items are written, and the result is how many they are
abbrev pub WritesAll : {X : Type 0} → List X → List X → List X → ℕ → Type 0
WritesAll items old new len = (len ≡ length items) × (new ≡ written_over items old)

-- the same if the output has room for them, and the result is None exactly if it has not
abbrev pub Writes : {X : Type 0} → List X → List X → List X → Option ℕ → Type 0
Writes items old new result = MatchOption result (length old < length items) (WritesAll items old new)

-- the result is the items, for which the output has room, or None exactly if it has not
abbrev pub Returns : List ℕ → List ℕ → Option (Bor (List ℕ)) → Type 0
Returns items old result = MatchOption result (length old < length items)
    (λ written. (written.now ≡ items) × (length items ≤ length old))

-- the encoding of the arcs that are read has this length and fits a capacity; an output with that room begins with it
pub record IsEncodedIn (capacity : ℕ) (read : Result (List ℕ) Error) (old new : List ℕ) (len : ℕ) : Type 0 where
  pub octets : List ℕ
  pub encoding : IsEncoding root_rule (arcs_of_octets octets) octets
  pub answer : read ≡ Ok (arcs_of_octets octets)
  pub long : len ≡ length octets
  pub within : len ≤ capacity
  pub begins : capacity ≤ length old → new ≡ written_over octets old

-- the result is such a length, or the fault of what is read
abbrev pub WritesEncoding : ℕ → Result (List ℕ) Error → List ℕ → List ℕ → Result ℕ Error → Type 0
WritesEncoding capacity read old new result =
    MatchResult result (IsEncodedIn capacity read old new) (λ fault. read ≡ Err fault)
