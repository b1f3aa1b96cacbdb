use Rattle.std.proofs.Common.{◌≢◌, ◌≤◌, length, Err, ◌∙◌, arith}
use Rattle.const_oid.specs.{declared.error.Error.TheVariants.Length, Identifier.root_rule, Items.item_answer}
use Rattle.const_oid_c.specs.Status.{len_status, max_len}
use Rattle.const_oid_c.proofs.{Writes.{IsWritten, bytes_written}, Capacities.same_arcs, Counted.{longer_arcs, not_written}}
use Rattle.const_oid_c.proofs.arcs.write_long_arcs.Goals as goal

written : (c : goal.After-len_status)
    → IsWritten 0 (item_answer root_rule c.args.arcs.now max_len) c.args.out.now c.bytes_from_arcs.new.out (len_status c.in-Ok.len)
written c =
    let is = c.in-Ok.ensures.written in
    let few = length c.args.out.now in
    let fits : few ≤ max_len = omega arith in
    let other : item_answer root_rule c.args.arcs.now few ≢ Err Length = λ same. cc in
    let answer = same_arcs few max_len fits c.args.arcs.now other in
    bytes_written 0 is answer

counted : (c : goal.After-too_short_status)
    → IsWritten 0 (item_answer root_rule c.args.arcs.now max_len) c.args.out.now c.args.out.now c.too_short_status.result
counted c =
    not_written 0 (item_answer root_rule c.args.arcs.now max_len)
    (λ arcs read. longer_arcs (length c.args.out.now) c.args.arcs.now arcs (λ k. omega (arith, c.type_inv.arcs k)) c.in-Err.ensures.written read)
    (rw (← c.bytes_len_from_arcs.ensures.len, c.in-Ok-bytes_len_from_arcs.is) c.too_short_status.ensures)

pub returns-in-Ok-clause-status : goal.returns-in-Ok-clause-status
returns-in-Ok-clause-status c = c.len_status.ensures ∙ (written c).status

pub returns-in-Ok-clause-written : goal.returns-in-Ok-clause-written
returns-in-Ok-clause-written c = (written c).after

pub returns-in-Ok-bytes_len_from_arcs-clause-status : goal.returns-in-Ok-bytes_len_from_arcs-clause-status
returns-in-Ok-bytes_len_from_arcs-clause-status c = (counted c).status

pub returns-in-Ok-bytes_len_from_arcs-clause-written : goal.returns-in-Ok-bytes_len_from_arcs-clause-written
returns-in-Ok-bytes_len_from_arcs-clause-written c = c.in-Err.ensures.kept ∙ (counted c).after
