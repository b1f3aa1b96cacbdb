use Rattle.std.proofs.Common.{arith}
use Rattle.std.proofs.lemmas.List.{drop-replicate}
use Rattle.const_oid.proofs.Appended.{taken, used_first}
use Rattle.const_oid.proofs.buffer.Buffer.parsed.Goals as goal

pub invariant_of-buffer : goal.invariant_of-buffer
invariant_of-buffer g c =
    let end = taken {new = c.parse_inlined.new.out} c.in-Ok.ensures.answer (omega arith) in
    let zeros = used_first _ _ c.empty-buffer.ensures (omega arith) c.empty-buffer.result.zeros in
    record {
      within = omega (arith, c.in-Ok.ensures.answer.within);
      octets = end.octets;
      zeros = grind (arith, end.rest, zeros, drop-replicate);
    }
