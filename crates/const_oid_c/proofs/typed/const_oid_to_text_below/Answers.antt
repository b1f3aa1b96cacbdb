use Rattle.std.proofs.Common.{◌∙◌, ap, sym, refl, length}
use Rattle.const_oid.specs.OidRef.{ref_arcs}
use Rattle.const_oid_c.specs.Status.{output_after, output_status}
use Rattle.const_oid_c.proofs.TextBelow.{below, other}
use Rattle.const_oid_c.proofs.typed.const_oid_to_text_below.Goals as goal

pub returns-then-not-starts_with-clause-status : goal.returns-then-not-starts_with-clause-status
returns-then-not-starts_with-clause-status c =
    let none = other c.args.octets.now c.args.prefix.now (ref_arcs c.in-Ok.oids.0) (ref_arcs c.in-Ok.oids.1)
    c.in-Ok.ensures.left_arcs c.in-Ok.ensures.right_arcs (λ begins. cc (c.starts_with.ensures.1 begins, c.if-not-starts_with.true)) in
    c.code_status.ensures ∙ ap (output_status (length c.args.out.now)) (sym none)

pub returns-then-not-starts_with-clause-written : goal.returns-then-not-starts_with-clause-written
returns-then-not-starts_with-clause-written c =
    let none = other c.args.octets.now c.args.prefix.now (ref_arcs c.in-Ok.oids.0) (ref_arcs c.in-Ok.oids.1)
    c.in-Ok.ensures.left_arcs c.in-Ok.ensures.right_arcs (λ begins. cc (c.starts_with.ensures.1 begins, c.if-not-starts_with.true)) in
    ap (output_after c.args.out.now) (sym none)

pub returns-clause-status : goal.returns-clause-status
returns-clause-status c =
    let text = below c.args.octets.now c.args.prefix.now (ref_arcs c.in-Ok.oids.0) (ref_arcs c.in-Ok.oids.1)
    c.in-Ok.ensures.left_arcs c.in-Ok.ensures.right_arcs (c.if-not-starts_with.ensures.0 refl) in
    c.write_below.ensures.status ∙ ap (output_status (length c.args.out.now)) (sym text)

pub returns-clause-written : goal.returns-clause-written
returns-clause-written c =
    let text = below c.args.octets.now c.args.prefix.now (ref_arcs c.in-Ok.oids.0) (ref_arcs c.in-Ok.oids.1)
    c.in-Ok.ensures.left_arcs c.in-Ok.ensures.right_arcs (c.if-not-starts_with.ensures.0 refl) in
    c.write_below.ensures.written ∙ ap (output_after c.args.out.now) (sym text)
