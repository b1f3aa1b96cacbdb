use Rattle.std.proofs.Common.{◌≡◌, ◌<◌, ◌≤◌, ◌-◌, ℕ, List, length}
use Rattle.const_oid.specs.Private.Parser.{IsWrittenTo}
use Rattle.const_oid.proofs.parser.parse_later.Given as goal

abbrev pub invariant-loop-end : goal.invariant-loop-end
invariant-loop-end l = record {
  written : (front old : List ℕ) (offset : ℕ) → IsWrittenTo l.capacity front offset l.text old l.fn.out l.fn.used l.fn.end
      → IsWrittenTo l.capacity front offset l.text old l.out l.used l.end;
  within : l.end ≤ length l.text;
  grows : l.fn.used ≤ l.used;
  kept : length l.fn.out < l.capacity → l.out ≡ l.fn.out;
}

abbrev pub decreases-loop-end : goal.decreases-loop-end
decreases-loop-end l = length l.text - l.end
