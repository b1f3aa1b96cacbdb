use Rattle.std.proofs.Common.{◌≡◌, ap, arith, length, refl, sym, ◌∙◌}
use Rattle.const_oid.specs.Stop.{IsWrongAt}
use Rattle.const_oid_c.specs.Status.{max_len, output_after, output_status}
use Rattle.const_oid_c.proofs.Capacities.{stop_status, wrong_stop}
use Rattle.const_oid_c.proofs.texts.read_again.Goals as goal
use Rattle.const_oid_c.proofs.texts.read_again.Goals.{then-is_length+in-Err, else-is_length}

pub returns-clause-status : goal.returns-clause-status
returns-clause-status c =
    let text = c.args.text.now in
    let is : IsWrongAt max_len text c.if-is_length.stop = elim c.if-is_length.branch [
      | then-is_length+in-Err w ↦ rw w.stop-is w.in-Err.ensures.0
      | else-is_length w ↦ rw w.stop-is (wrong_stop 39 (omega arith) text c.args.stop (w.if-is_length.ensures refl) (c.requires (w.if-is_length.ensures refl)))
    ] in
    let wrong = stop_status text c.if-is_length.stop (omega arith) (sym c.if-not-is_utf8.ensures) is in
    c.fault_at.ensures.status ∙ rw (c.fault_at_stop-fault.ensures.fault, c.fault_at_stop-fault.ensures.index) (ap (output_status (length c.args.out.now)) (sym wrong))

pub returns-clause-written : goal.returns-clause-written
returns-clause-written c =
    let text = c.args.text.now in
    let is : IsWrongAt max_len text c.if-is_length.stop = elim c.if-is_length.branch [
      | then-is_length+in-Err w ↦ rw w.stop-is w.in-Err.ensures.0
      | else-is_length w ↦ rw w.stop-is (wrong_stop 39 (omega arith) text c.args.stop (w.if-is_length.ensures refl) (c.requires (w.if-is_length.ensures refl)))
    ] in
    let same : c.if-is_length.out ≡ c.args.out.now = elim c.if-is_length.branch [
      | then-is_length+in-Err w ↦ w.out-is ∙ w.in-Err.ensures.1
      | else-is_length w ↦ w.out-is
    ] in
    let wrong = stop_status text c.if-is_length.stop (omega arith) (sym c.if-not-is_utf8.ensures) is in
    same ∙ ap (output_after c.args.out.now) (sym wrong)
