use Rattle.std.proofs.Common.{arith, ap, length}
use Rattle.const_oid.proofs.Elements.{length_octets-short, count_long}
use Rattle.const_oid.proofs.element.subsequent_count.Goals as goal

pub returns-then-len-clause-len : goal.returns-then-len-clause-len
returns-then-len-clause-len c = ap length (length_octets-short c.args.len c.if-len.true)

pub returns-clause-len : goal.returns-clause-len
returns-clause-len c = count_long c.args.len c.if-len.false (omega arith)
