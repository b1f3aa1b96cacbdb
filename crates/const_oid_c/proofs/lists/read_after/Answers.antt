use Rattle.std.proofs.Common.{arith}
use Rattle.const_oid_c.proofs.Writes.{valid_answer}
use Rattle.const_oid_c.proofs.lists.read_after.Goals as goal

pub returns-in-Err-clause-invalid : goal.returns-in-Err-clause-invalid
returns-in-Err-clause-invalid c = λ encoding.
    absurd (grind (arith, valid_answer c.args.octets.now encoding (omega arith), c.in-Err.ensures.answer))
