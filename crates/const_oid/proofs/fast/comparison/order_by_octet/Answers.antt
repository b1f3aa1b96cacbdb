use Rattle.std.proofs.Common.{arith}
use Rattle.std.proofs.lemmas.{Grind.common_steps, Bool.Decides.nat_tests, List.drop_more}
use Rattle.const_oid.proofs.Shortlex.{after_same}
use Rattle.const_oid.proofs.fast.comparison.order_by_octet.Goals as goal

pub returns-then-a-index : goal.returns-then-a-index
returns-then-a-index c =
    let a = c.args.a.now in
    let b = c.args.b.now in
    let index = c.loop-index.index in
    let same = after_same a b index c.loop-index.invariant in
    grind (arith, nat_tests, common_steps, same, drop_more a index 0 (omega arith), drop_more b index 0 (omega arith))
