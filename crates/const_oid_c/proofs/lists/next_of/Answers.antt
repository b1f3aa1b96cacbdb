use Rattle.std.proofs.Common.{◌≡◌, ◌<◌, ◌≤◌, ◌∙◌, ⊎_elim, arith, length, None, Some}
use Rattle.std.proofs.lemmas.{Bool.cases_lt, Grind.common_steps}
use Rattle.const_oid.proofs.SortedLists.{position_is, position_none}
use Rattle.const_oid_c.proofs.lists.next_of.Goals as goal

pub returns-clause-found : goal.returns-clause-found
returns-clause-found c = λ list.
    let cut = c.end_of-index.ensures.cut list in
    let items = c.args.sorted.now in
    let index = c.end_of-index.result in
    ⊎_elim
    (λ (inside : index < length items).
    let some : c.then_some.result ≡ Some index = grind (arith, common_steps, c.then_some.ensures) in
    some ∙ position_is _ items index inside cut.0 (λ d. cut.1 _ d (omega arith) inside))
    (λ (past : length items ≤ index).
    let none : c.then_some.result ≡ None = grind (arith, common_steps, c.then_some.ensures) in
    none ∙ position_none _ items (λ k d l. cut.0 k d (omega arith) (omega arith)))
    (cases_lt index (length items))
