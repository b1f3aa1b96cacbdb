use Rattle.std.proofs.Common.{rules, arith}
use Rattle.const_oid.specs.Oid.{oid_arcs}
use Rattle.const_oid.proofs.Identifiers.{child_of_parent, size_fits}
use Rattle.examples.proofs.theorems.child_of_parent.Goals as goal

pub returns-clause-again : goal.returns-clause-again
returns-clause-again c =
    let parent = oid_arcs c.in_ok-parent.parent in
    let again = child_of_parent c.args.oid parent c.in_ok-last.last (search rules) (search rules) in
    let fits = size_fits c.args.oid in
    grind arith
