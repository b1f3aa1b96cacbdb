use Rattle.std.proofs.Common.{arith}
use Rattle.const_oid.specs.Identifier.{root_rule}
use Rattle.const_oid.proofs.{Enough.five_enough, Appended.counted}
use Rattle.const_oid.proofs.outputs.bytes_len_from_arcs.Goals as goal

pub returns-clause-len : goal.returns-clause-len
returns-clause-len c = counted _ _ _ _ c.encode.result c.encode.ensures

pub returns-clause-enough : goal.returns-clause-enough
returns-clause-enough c =
    let other = five_enough root_rule c.args.arcs.now c.args.limit (λ k. omega (arith, c.type_inv.arcs k)) in
    grind (arith, other)
