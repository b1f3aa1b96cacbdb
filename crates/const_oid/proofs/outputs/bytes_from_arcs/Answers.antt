use Rattle.std.proofs.Common.{length, arith}
use Rattle.const_oid.specs.Identifier.{root_rule}
use Rattle.const_oid.proofs.Enough.{five_enough}
use Rattle.const_oid.proofs.outputs.bytes_from_arcs.Goals as goal

pub returns-in_err-encode-clause-enough : goal.returns-in_err-encode-clause-enough
returns-in_err-encode-clause-enough c =
    let other = five_enough root_rule c.args.arcs.now (length c.args.out.now) (λ k. omega (arith, c.type_inv.arcs k)) in
    grind (arith, other)

pub returns-then-arcs-le-ONE_PASS_ARCS-clause-enough : goal.returns-then-arcs-le-ONE_PASS_ARCS-clause-enough
returns-then-arcs-le-ONE_PASS_ARCS-clause-enough c =
    let other = five_enough root_rule c.args.arcs.now (length c.args.out.now) (λ k. omega (arith, c.type_inv.arcs k)) in
    grind (arith, other)
