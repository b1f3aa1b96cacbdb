use Rattle.std.proofs.Common.{◌≡◌, ◌≤◌, ◌++◌, length, take, drop}
use Rattle.const_oid_c.proofs.arcs.write_arcs.Given as goal

-- the first arcs are written, the others are left, and the slice is unchanged after them
abbrev pub invariant-loop-arc : goal.invariant-loop-arc
invariant-loop-arc l = record {
  inside : l.index ≤ length l.out;
  prefix : take l.index l.out ++ l.arc-iterator ≡ l.fn.arcs;
  back : drop l.index l.out ≡ drop l.index l.initial.out;
}
