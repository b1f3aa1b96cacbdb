use Rattle.std.proofs.Common.{◌≡◌, ◌-◌, ◌+◌, ◌<◌, take}
use Rattle.const_oid.proofs.fast.comparison.unequal_words.Given as goal

abbrev pub invariant-loop-at : goal.invariant-loop-at
invariant-loop-at l = record { same : take l.at l.a ≡ take l.at l.b; within : l.at < l.end + 8 }

abbrev pub decreases-loop-at : goal.decreases-loop-at
decreases-loop-at l = l.end + 8 - l.at
