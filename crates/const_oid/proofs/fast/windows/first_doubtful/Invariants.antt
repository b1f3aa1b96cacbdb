use Rattle.std.proofs.Common.{ℕ, ◌<◌, ◌≤◌, slice_index}
use Rattle.const_oid.proofs.fast.windows.first_doubtful.Given as goal

-- the octets passed are 128 or more
abbrev pub invariant-loop-start : goal.invariant-loop-start
invariant-loop-start l = record {
  before : l.start ≤ l.initial.start;
  more : (i : ℕ) → l.start ≤ i → i < l.initial.start → 128 ≤ slice_index l.octets i;
}

abbrev pub decreases-loop-start : goal.decreases-loop-start
decreases-loop-start l = l.start
