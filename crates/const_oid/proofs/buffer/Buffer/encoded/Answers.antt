use Rattle.std.proofs.Common.{◌≡◌, ℕ, Result, Ok, Err, min, ap, arith}
use Rattle.std.specs.Result.{IsErrAnd}
use Rattle.std.proofs.lemmas.List.{drop-replicate}
use Rattle.const_oid.specs.declared.{buffer.Buffer.Buffer, error.Error.Error}
use Rattle.const_oid.specs.Private.Encoder.{buffer_answer}
use Rattle.const_oid.proofs.Appended.{taken, used_first}
use Rattle.const_oid.proofs.buffer.Buffer.encoded.Goals as goal

pub invariant_of-buffer : goal.invariant_of-buffer
invariant_of-buffer g c =
    let (it, gives, (answer, takes, is)) = c.in_ok-len.ensures in
    let end = taken {new = c.encode_inlined.new.out} is (omega arith) in
    let zeros = used_first _ _ c.empty-buffer.ensures (omega arith) c.empty-buffer.result.zeros in
    record {
      within = omega (arith, is.within);
      octets = end.octets;
      zeros = grind (arith, end.rest, zeros, drop-replicate);
    }

pub returns-clause-takes : goal.returns-clause-takes
returns-clause-takes g c =
    let (it, gives, (answer, takes, is)) = c.in_ok-len.ensures in
    let full : c.capacity.result ≡ min g.row.SIZE 255 = omega arith in
    let end = taken {new = c.encode_inlined.new.out} is (omega arith) in
    (it, gives, rw (end.answer, full) at takes)

-- the error that `?` passes on
passed : {SIZE : ℕ} (result : Result (Buffer SIZE) Error) (fault : Error) → IsErrAnd result (λ handed. handed ≡ fault)
    → buffer_answer result ≡ Err fault
passed (Ok buffer) fault handed = absurd handed
passed (Err error) fault handed = ap Err handed

pub returns-in_err-len-clause-takes : goal.returns-in_err-len-clause-takes
returns-in_err-len-clause-takes g c =
    let (it, gives, (answer, takes, is)) = c.in_err-len.ensures in
    let full : c.capacity.result ≡ min g.row.SIZE 255 = omega arith in
    let same = passed c.from_residual.result c.in_err-len.field-0.0 c.from_residual.ensures.1 in
    (it, gives, rw same (rw (is, full) at takes))
