use Rattle.std.proofs.Common.{arith}
use Rattle.std.proofs.lemmas.List.{length-take-le}
use Rattle.const_oid.proofs.{Octets.{zeros_written, octets_written, taken_written}}
use Rattle.const_oid.proofs.buffer.Buffer.pushed.Goals as goal

pub invariant_of-buffer : goal.invariant_of-buffer
invariant_of-buffer g c =
    let old = c.args.self in
    let written = c.in-Ok.ensures.appends.2 (omega arith) in
    record {
      within = omega (arith, c.in-Ok.ensures.appends.1);
      octets = octets_written old.used _ _ _ (omega arith) c.in-Ok.ensures.appends.0 written old.octets;
      zeros = zeros_written old.used _ _ _ (omega arith) c.in-Ok.ensures.appends.0 written _ old.zeros;
    }

pub returns : goal.returns
returns g c =
    let old = c.args.self in
    let goes_on = taken_written old.used _ _ _ (omega arith) c.in-Ok.ensures.appends.0 (c.in-Ok.ensures.appends.2 (omega arith)) in
    (omega (arith, c.in-Ok.ensures.appends.0, c.in-Ok.ensures.appends.1, length-take-le old.used old.bytes), goes_on)

pub returns-in-Err : goal.returns-in-Err
returns-in-Err g c =
    let old = c.args.self in
    (c.in-Err.ensures.appends.0, omega (arith, c.in-Err.ensures.appends.1, length-take-le old.used old.bytes))
