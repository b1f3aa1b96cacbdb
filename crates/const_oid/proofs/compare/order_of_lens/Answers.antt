use Rattle.std.proofs.Common.{◌∙◌, sym, arith}
use Rattle.const_oid.proofs.ByParts.{lens_on, lens_ended}
use Rattle.const_oid.proofs.compare.order_of_lens.Goals as goal

pub loop-index-preserved : goal.loop-index-preserved
loop-index-preserved c = record {
  same = c.loop-index.invariant.same
      ∙ lens_on c.args.a.now c.args.b.now c.loop-index.index (omega arith)
      c.if-a-index-lt-CONTINUED.false c.if-b-index-lt-CONTINUED.false;
  within = omega arith;
}

pub returns : goal.returns
returns c =
    c.order_of_numbers.ensures ∙ sym (lens_ended c.args.a.now c.args.b.now c.loop-index.index (omega arith))
    ∙ sym c.loop-index.invariant.same
