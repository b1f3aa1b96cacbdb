use Rattle.std.proofs.Common.{arith, ◌∙◌}
use Rattle.std.proofs.lemmas.Grind.{common_steps}
use Rattle.const_oid_c.proofs.Elements.{ok_status, err_status}
use Rattle.const_oid_c.proofs.der.const_oid_from_der.Goals as goal

pub returns-in-Some-Ok-default-clause-status : goal.returns-in-Some-Ok-default-clause-status
returns-in-Some-Ok-default-clause-status c = λ octets rest is.
    let read = c.in-Some-Ok-default in
    c.len_status.ensures ∙ (ok_status c.args.der octets rest read.rest read.oid (omega arith) (rw read.field-0-0-is at read.ensures) is).0

pub returns-in-Some-Ok-default-clause-contents : goal.returns-in-Some-Ok-default-clause-contents
returns-in-Some-Ok-default-clause-contents c = λ octets rest is success.
    let read = c.in-Some-Ok-default in
    let same = (ok_status c.args.der octets rest read.rest read.oid (omega arith) (rw read.field-0-0-is at read.ensures) is).1 in
    grind (arith, common_steps, same, c.as_bytes-octets.ensures.slice)

pub returns-in-Some-Err-default-clause-status : goal.returns-in-Some-Err-default-clause-status
returns-in-Some-Err-default-clause-status c = λ octets rest is.
    let read = c.in-Some-Err-default in
    c.error_status.ensures.status ∙ err_status c.args.der octets rest read.field-0-1 read.fault (omega arith) (rw read.field-0-0-is at read.ensures) is
