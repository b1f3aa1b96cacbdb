use Rattle.std.proofs.Common.{◌≡◌, ◌-◌, ◌++◌, ℕ, List, length, drop}
use Rattle.std.specs.Str.{IsAscii}
use Rattle.const_oid.proofs.WordBytes.{IsLow}
use Rattle.const_oid_c.proofs.texts.has_no_high_bit.Given as goal

-- if no bit is high, the bytes before the rest are ASCII, and the last eight
abbrev pub invariant-loop-word : goal.invariant-loop-word
invariant-loop-word l = (read : List ℕ) × (l.text ≡ read ++ l.rest)
    × (IsLow l.bits → IsAscii read × IsAscii (drop (length l.text - 8) l.text))

abbrev pub decreases-loop-word : goal.decreases-loop-word
decreases-loop-word l = length l.rest
