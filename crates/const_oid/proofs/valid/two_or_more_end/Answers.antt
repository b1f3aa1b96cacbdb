use Rattle.std.proofs.Common.{arith, refl}
use Rattle.const_oid.proofs.PartEnds.{end_short, long_at, open_short}
use Rattle.const_oid.proofs.valid.two_or_more_end.Goals as goal

pub returns-then-start-len : goal.returns-then-start-len
returns-then-start-len c =
    open_short c.args.octets.now c.args.start c.loop-len.len (omega arith) (omega arith) (omega arith) (omega arith)
    (omega (arith, c.type_inv.octets c.args.start)) c.loop-len.invariant.1

pub returns-then-octets-start-lt128 : goal.returns-then-octets-start-lt128
returns-then-octets-start-lt128 c = (
  omega arith,
  omega arith,
  end_short c.args.octets.now c.args.start c.loop-len.len _ (omega arith) (omega arith) (omega arith)
      c.loop-len.invariant.1 c.if-octets-start-lt128.true refl,
)

pub five_end-requires-clause-past_four : goal.five_end-requires-clause-past_four
five_end-requires-clause-past_four c =
    long_at c.args.octets.now c.args.start c.loop-len.len (omega arith) (omega arith)
    (omega (arith, c.type_inv.octets c.args.start)) c.loop-len.invariant.1
