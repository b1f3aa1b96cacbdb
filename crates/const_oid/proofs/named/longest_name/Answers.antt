use Rattle.std.proofs.Common.{◌∙◌, arith, ap, sym, length}
use Rattle.const_oid.specs.Rows.{rows_in}
use Rattle.const_oid.specs.Typed.{spelt_up_to}
use Rattle.const_oid.proofs.SpeltUpTo.{at_most_255, found_here, found_before}
use Rattle.const_oid.proofs.named.longest_name.Goals as goal

pub loop-oid-init : goal.loop-oid-init
loop-oid-init c = (
  at_most_255 (rows_in c.args.tables.now) c.args.text.now (length c.args.text.now)
      ∙ ap (spelt_up_to (rows_in c.args.tables.now) c.args.text.now) (sym c.lesser-end.ensures),
  omega arith,
)

pub returns-in-Some-clause-spelt : goal.returns-in-Some-clause-spelt
returns-in-Some-clause-spelt c =
    c.loop-oid.invariant.0 ∙ found_here (rows_in c.args.tables.now) c.args.text.now c.loop-oid.end _ c.in-Some.ensures.spelt

pub loop-oid-preserved : goal.loop-oid-preserved
loop-oid-preserved c = (
  c.loop-oid.invariant.0 ∙ found_before (rows_in c.args.tables.now) c.args.text.now c.loop-oid.end (omega arith) c.in_default.ensures.spelt,
  omega arith,
)
