use Rattle.std.proofs.Common.{ap, arith, length, ◌∙◌}
use Rattle.const_oid_c.specs.Status.{output_status, output_after}
use Rattle.const_oid_c.proofs.{Rooms.{text_enough, text_no_length}, Capacities.{fitting_text}}
use Rattle.const_oid_c.proofs.texts.const_oid_from_text.Goals as goal

pub returns-clause-enough : goal.returns-clause-enough
returns-clause-enough c =
    text_enough (length c.args.out.now) c.args.text.now (omega arith) c.read_again.ensures.status

pub returns-clause-no_length : goal.returns-clause-no_length
returns-clause-no_length c =
    text_no_length (length c.args.out.now) c.args.text.now (omega arith) c.read_again.ensures.status

pub returns-in-Ok-clause-status : goal.returns-in-Ok-clause-status
returns-in-Ok-clause-status c =
    let made = fitting_text 39 (omega arith) c.args.text.now _ _ c.as_bytes.ensures.encoding c.in-Ok.ensures.answer in
    c.write_bytes.ensures.status ∙ ap (output_status (length c.args.out.now)) made

pub returns-in-Ok-clause-written : goal.returns-in-Ok-clause-written
returns-in-Ok-clause-written c =
    let made = fitting_text 39 (omega arith) c.args.text.now _ _ c.as_bytes.ensures.encoding c.in-Ok.ensures.answer in
    c.write_bytes.ensures.written ∙ ap (output_after c.args.out.now) made

pub returns-in-Ok-clause-enough : goal.returns-in-Ok-clause-enough
returns-in-Ok-clause-enough c =
    let made = fitting_text 39 (omega arith) c.args.text.now _ _ c.as_bytes.ensures.encoding c.in-Ok.ensures.answer in
    text_enough (length c.args.out.now) c.args.text.now (omega arith)
    (c.write_bytes.ensures.status ∙ ap (output_status (length c.args.out.now)) made)

pub returns-in-Ok-clause-no_length : goal.returns-in-Ok-clause-no_length
returns-in-Ok-clause-no_length c =
    let made = fitting_text 39 (omega arith) c.args.text.now _ _ c.as_bytes.ensures.encoding c.in-Ok.ensures.answer in
    text_no_length (length c.args.out.now) c.args.text.now (omega arith)
    (c.write_bytes.ensures.status ∙ ap (output_status (length c.args.out.now)) made)
