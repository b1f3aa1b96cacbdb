-- What an encoder returns, and its buffer.
use Rattle.std.specs.Prelude.{ℕ, List, Option, Result, IfOk}
use Rattle.std.specs.Result.{result_map_both}
use Rattle.const_oid.specs.declared.buffer.Buffer.{Buffer}
use Rattle.const_oid.specs.declared.error.Error.{Error}
use Rattle.const_oid.specs.Buffer.{buffer_octets}
use Rattle.const_oid.specs.Identifier.{root_rule, IsEncoding}
use Rattle.const_oid.specs.Items.{TakesItems}
use Rattle.const_oid.specs.Contents.{arcs_of_octets}
use Rattle.const_oid.specs.Output.{WritesEncoding}

-- the result of a function, by the arcs of the octets
abbrev pub buffer_answer : {SIZE : ℕ} → Result (Buffer SIZE) Error → Result (List ℕ) Error
buffer_answer result = result_map_both (λ buffer. arcs_of_octets (buffer_octets buffer)) (λ fault. fault) result

-- what it returns is the encoding of its arcs
abbrev pub HasEncoding : {SIZE : ℕ} → Result (Buffer SIZE) Error → Type 0
HasEncoding result = IfOk result (λ buffer. IsEncoding root_rule (arcs_of_octets (buffer_octets buffer)) (buffer_octets buffer))

-- the result is the length of the encoding of what the iterator gave, or its fault, and the octets are written
abbrev pub EncodesItems : {S : Type 0} → ℕ → (S → Option ℕ → S → Type 0) → S → List ℕ → List ℕ → Result ℕ Error → Type 0
EncodesItems capacity steps iterator old new result = (answer : Result (List ℕ) Error)
    × TakesItems root_rule capacity steps iterator answer
    × WritesEncoding capacity answer old new result
