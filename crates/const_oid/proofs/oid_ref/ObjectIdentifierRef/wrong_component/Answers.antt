use Rattle.std.proofs.Common.{refl, sym, ◌∙◌, arith}
use Rattle.const_oid.specs.Identifier.{root_rule}
use Rattle.const_oid.proofs.{Texts.denoted_from_answer, WrongIndex.{not_denoted, not_length, wrong_at}}
use Rattle.const_oid.proofs.oid_ref.ObjectIdentifierRef.wrong_component.Goals as goal

pub returns-in-Ok-clause-none : goal.returns-in-Ok-clause-none
returns-in-Ok-clause-none c =
    (λ none. (_, denoted_from_answer root_rule _ c.args.text.now _ (sym c.in-Ok.ensures.answer.answer)), λ denoted. refl)

pub returns-in-Err-clause-none : goal.returns-in-Err-clause-none
returns-in-Err-clause-none c =
    let found = c.fault_and_index.ensures in
    let other = not_length (omega arith) c.in-Err.ensures.answer.0 in (
      λ none. absurd (other (sym found.fault ∙ rw none at found.index)),
      λ denoted. absurd (not_denoted (omega arith) c.in-Err.ensures.answer.0.answer denoted.0 denoted.1),
    )

pub returns-in-Err-clause-index : goal.returns-in-Err-clause-index
returns-in-Err-clause-index c =
    let found = c.fault_and_index.ensures in
    let at = wrong_at (omega arith) c.in-Err.ensures.answer.0 in
    grind (arith, at)
