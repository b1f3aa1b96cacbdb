use Rattle.std.proofs.Common.{arith}
use Rattle.std.proofs.lemmas.Grind.{common_steps}
use Rattle.const_oid.proofs.SortedLists.{first_is, first_none, item_same}
use Rattle.const_oid.proofs.search.found_at.Goals.{else-start-items-via-then-start-items+else-are_equal, else-start-items-via-else-start-items}
use Rattle.const_oid.proofs.search.found_at.Goals as goal

pub returns-then-are_equal-clause-found : goal.returns-then-are_equal-clause-found
returns-then-are_equal-clause-found g c = λ list cut.
    let octets_of = g.T.Contents.octets_of in
    first_is octets_of c.args.oid.now c.args.items.now list _ cut (omega arith)
    (λ default.
    let same = item_same octets_of c.args.oid.now c.args.items.now list c.args.start default (omega arith) in
    grind (arith, common_steps, same))

pub returns-else-start-items-clause-found : goal.returns-else-start-items-clause-found
returns-else-start-items-clause-found g c = λ list cut.
    let octets_of = g.T.Contents.octets_of in
    first_none octets_of c.args.oid.now c.args.items.now list _ cut
    (λ inside default.
    let same = item_same octets_of c.args.oid.now c.args.items.now list c.args.start default inside in
    elim c.else-start-items.branch [
      | else-start-items-via-then-start-items+else-are_equal w ↦ grind (arith, common_steps, same)
      | else-start-items-via-else-start-items w ↦ absurd (omega arith)
    ])
