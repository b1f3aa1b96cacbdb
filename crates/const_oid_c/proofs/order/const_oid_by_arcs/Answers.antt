use Rattle.std.proofs.Common.{rules}
use Rattle.const_oid.proofs.ByParts.{arcs_cmp}
use Rattle.const_oid_c.proofs.order.const_oid_by_arcs.Goals as goal

pub returns-clause-arcs : goal.returns-clause-arcs
returns-clause-arcs c = λ xs ys encoding other. rw (← arcs_cmp encoding other) (search rules)
