use Rattle.std.proofs.Common.{◌≡◌, take}
use Rattle.const_oid.proofs.fast.comparison.order_by_octet.Given as goal

abbrev pub invariant-loop-index : goal.invariant-loop-index
invariant-loop-index l = take l.index l.a ≡ take l.index l.b
