use Rattle.std.proofs.Common.{ℕ, List, ap, ◌∙◌}
use Rattle.const_oid.specs.{Identifier.root_rule, Items.item_answer, Oid.oid_answer}
use Rattle.const_oid.proofs.Identifiers.{exact_answer}
use Rattle.const_oid_tests.proofs.from_arcs.from_rest.Goals as goal

pub returns : goal.returns
returns c =
    let (arcs, same, taken) = c.from_arcs.ensures.takes in
    exact_answer root_rule 39 (λ (left : List ℕ). left) arcs (oid_answer c.from_arcs.result) taken ∙ ap (λ items. item_answer root_rule items 39) same
