use Rattle.std.proofs.Common.{ℕ, ◌<◌, ◌≤◌, length, get_or}
use Rattle.const_oid.proofs.parts.last_part.Given as goal

abbrev pub invariant-loop-start : goal.invariant-loop-start
invariant-loop-start l = record {
  within : l.start ≤ length l.prefix;
  high : (k : ℕ) → l.start ≤ k → k < length l.prefix → 128 ≤ get_or l.prefix k 0;
}

abbrev pub decreases-loop-start : goal.decreases-loop-start
decreases-loop-start l = l.start
