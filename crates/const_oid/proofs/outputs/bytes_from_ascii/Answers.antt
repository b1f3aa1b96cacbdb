use Rattle.std.proofs.Common.{length, arith}
use Rattle.const_oid.specs.Identifier.{root_rule}
use Rattle.const_oid.proofs.Enough.{bytes_enough}
use Rattle.const_oid.proofs.outputs.bytes_from_ascii.Goals as goal

pub returns-in_err-parse-clause-enough : goal.returns-in_err-parse-clause-enough
returns-in_err-parse-clause-enough c =
    let other = bytes_enough root_rule c.args.text.now (length c.args.out.now) in
    grind (arith, other)

pub returns-then-text-le-ONE_PASS_BYTES-clause-enough : goal.returns-then-text-le-ONE_PASS_BYTES-clause-enough
returns-then-text-le-ONE_PASS_BYTES-clause-enough c =
    let other = bytes_enough root_rule c.args.text.now (length c.args.out.now) in
    grind (arith, other)
