use Rattle.std.proofs.Common.{length, arith}
use Rattle.const_oid.specs.Identifier.{root_rule}
use Rattle.const_oid.proofs.{Capacities.text_bounded, Appended.copied}
use Rattle.const_oid.proofs.parser.parse_in_one_pass.Goals as goal

pub returns-in_err-len-clause-written : goal.returns-in_err-len-clause-written
returns-in_err-len-clause-written c =
    let same = text_bounded root_rule c.args.text.now c.min.result (length c.args.out.now) 64 (omega arith) (omega arith) in
    grind (arith, same)

pub returns-clause-written : goal.returns-clause-written
returns-clause-written c =
    let same = text_bounded root_rule c.args.text.now c.min.result (length c.args.out.now) 64 (omega arith) (omega arith) in
    copied c.in_ok-len.ensures (omega arith) (omega arith) same c.copy_from_slice.ensures.after
