use Rattle.std.proofs.Common.{arith, length, ◌≡◌}
use Rattle.std.proofs.lemmas.Grind.{common_steps}
use Rattle.const_oid.specs.{Identifier.root_rule, Items.item_answer}
use Rattle.const_oid_c.specs.{Results.octets_of_arcs, Status.{max_len, output_status}}
use Rattle.const_oid_c.proofs.{Capacities.same_arcs, Rooms.{arcs_enough, arcs_no_length}}
use Rattle.const_oid_c.proofs.arcs.const_oid_from_arcs.Goals as goal

pub returns-in-Err-Length-clause-enough : goal.returns-in-Err-Length-clause-enough
returns-in-Err-Length-clause-enough c =
    arcs_enough (length c.args.out.now) c.args.arcs.now (λ k. omega (arith, c.type_inv.arcs k)) (omega arith) c.write_long_arcs.ensures.status

pub returns-in-Err-Length-clause-no_length : goal.returns-in-Err-Length-clause-no_length
returns-in-Err-Length-clause-no_length c =
    arcs_no_length (length c.args.out.now) c.args.arcs.now (λ k. omega (arith, c.type_inv.arcs k)) (omega arith) c.write_long_arcs.ensures.status

pub returns-in_default-clause-enough : goal.returns-in_default-clause-enough
returns-in_default-clause-enough c =
    let status : c.write_octets.result ≡ output_status (length c.args.out.now) (octets_of_arcs (item_answer root_rule c.args.arcs.now max_len)) =
    grind (arith, common_steps, same_arcs) in
    arcs_enough (length c.args.out.now) c.args.arcs.now (λ k. omega (arith, c.type_inv.arcs k)) (omega arith) status
