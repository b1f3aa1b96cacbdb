use Rattle.std.proofs.Common.{arith, length, ◌≡◌, ◌+◌, ◌<◌, refl}
use Rattle.std.proofs.lemmas.Grind.{common_steps}
use Rattle.const_oid.proofs.Elements.{length_written, element_written}
use Rattle.const_oid.proofs.element.write_element.Goals.{then-count-gt0, else-count-gt0}
use Rattle.const_oid.proofs.element.write_element.Goals as goal

pub returns-clause-written : goal.returns-clause-written
returns-clause-written c =
    let count = c.subsequent_count-count in
    let long : 0 < count.result → c.if-count-gt0.out ≡ 128 + count.result =
    λ some. elim c.if-count-gt0.branch [ then-count-gt0 w ↦ w.out-is | else-count-gt0 w ↦ absurd (omega arith) ] in
    let short : count.result ≡ 0 → c.if-count-gt0.out ≡ length c.args.contents.now =
    λ none. elim c.if-count-gt0.branch [ then-count-gt0 w ↦ absurd (omega arith) | else-count-gt0 w ↦ w.out-is ] in
    let form = length_written (grind (arith, common_steps)) count.ensures.len count.ensures.short long short c.to_be_bytes.ensures
    c.copy_from_slice.ensures.after in
    let many : length c.copy_from_slice.new.self ≡ count.result = grind (arith, common_steps) in
    element_written c.if-count-gt0.out count.result _ c.copy_from_slice.new.self c.args.contents.now _ c.args.out.now (omega arith) many refl
    c.copy_from_slice-2.ensures.after form
