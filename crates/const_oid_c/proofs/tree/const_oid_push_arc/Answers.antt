use Rattle.std.proofs.Common.{◌≡◌, drop, arith}
use Rattle.std.proofs.lemmas.{Grind.common_steps, List.take_rest}
use Rattle.const_oid.specs.Base128.{group_of}
use Rattle.const_oid_c.proofs.Children.{child_octets}
use Rattle.const_oid_c.proofs.tree.const_oid_push_arc.Goals as goal

pub returns-in-Ok-zero_child-clause-status : goal.returns-in-Ok-zero_child-clause-status
returns-in-Ok-zero_child-clause-status c =
    let child = child_octets c.args.octets.now _ c.args.arc c.in-Ok.ensures.answer c.in-Ok.ensures.encoding (omega arith) in
    let rest : drop 1 c.as_bytes.result.now ≡ group_of c.args.arc =
    grind (arith, common_steps, c.as_bytes.ensures.octets, c.in-Ok-zero_child.ensures.octets) in
    rw child (rw (take_rest c.as_bytes.result.now 1, rest) at c.write_joined.ensures.status)

pub returns-in-Ok-zero_child-clause-written : goal.returns-in-Ok-zero_child-clause-written
returns-in-Ok-zero_child-clause-written c =
    let child = child_octets c.args.octets.now _ c.args.arc c.in-Ok.ensures.answer c.in-Ok.ensures.encoding (omega arith) in
    let rest : drop 1 c.as_bytes.result.now ≡ group_of c.args.arc =
    grind (arith, common_steps, c.as_bytes.ensures.octets, c.in-Ok-zero_child.ensures.octets) in
    rw child (rw (take_rest c.as_bytes.result.now 1, rest) at c.write_joined.ensures.written)
