use Rattle.const_oid.proofs.SortedLists.{sorted_by_parts}
use Rattle.const_oid_c.specs.Lists.{octets_at}
use Rattle.const_oid_c.proofs.lists.const_oid_check_sorted.Goals as goal

pub returns-in-Some-clause-by_arcs : goal.returns-in-Some-clause-by_arcs
returns-in-Some-clause-by_arcs c = λ valid by_arcs.
    absurd (c.in-Some.ensures.unsorted (sorted_by_parts octets_at c.args.items.now valid by_arcs))
