use Rattle.std.proofs.Common.{◌≡◌, ◌≤◌, ◌++◌, decimal, length, drop}
use Rattle.const_oid.proofs.digits.write_last_digits.Given as goal

-- the digits of the rest, and those that are written, are those of the arc
abbrev pub invariant-loop-at : goal.invariant-loop-at
invariant-loop-at l = record {
  digits : decimal l.arc ≡ decimal l.rest ++ drop l.at l.out;
  room : length (decimal l.rest) ≤ l.at;
  within : l.at ≤ 10;
}

abbrev pub decreases-loop-at : goal.decreases-loop-at
decreases-loop-at l = l.at
