use Rattle.std.proofs.Common.{◌∙◌, sym}
use Rattle.const_oid_c.proofs.SortedList.{none_from_status}
use Rattle.const_oid_c.proofs.lists.const_oid_nearest.Goals as goal

pub returns-in-Ok-clause-none : goal.returns-in-Ok-clause-none
returns-in-Ok-clause-none c = λ list none.
    rw (← c.in-Ok.ensures.slice)
    (none_from_status _ _ _ (sym c.index_status.ensures ∙ none) (c.nearest_of.ensures.none list))
