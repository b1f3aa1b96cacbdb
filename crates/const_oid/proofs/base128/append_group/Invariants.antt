use Rattle.std.proofs.Common.{◌≡◌, ◌+◌, ◌/◌, ◌%◌, ◌^◌, ◌≤◌}
use Rattle.const_oid.proofs.Leading.{IsLed}
use Rattle.const_oid.proofs.base128.append_group.Given as goal

abbrev pub invariant-loop-shift : goal.invariant-loop-shift
invariant-loop-shift l = (7 ≤ l.shift) × (l.shift ≤ 28) × (l.shift % 7 ≡ 0)
    × IsLed l.capacity l.used (l.number / 2 ^ (l.shift + 7)) l.fn.out l.out l.at

abbrev pub decreases-loop-shift : goal.decreases-loop-shift
decreases-loop-shift l = l.shift
