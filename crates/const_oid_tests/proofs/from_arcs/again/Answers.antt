use Rattle.std.proofs.Common.{◌≡◌, ◌≤◌, None, ap, ◌∙◌, arith}
use Rattle.std.proofs.lemmas.List.{length-take}
use Rattle.const_oid.specs.{declared.oid.ObjectIdentifier.ObjectIdentifier, Error.answer, Identifier.root_rule}
use Rattle.const_oid.specs.{Items.{item_fault, item_answer}, Oid.oid_arcs}
use Rattle.const_oid.proofs.{Items.item_fault-none, Encodings.oid_encoding, Lengths.length_is_size}
use Rattle.const_oid_tests.proofs.from_arcs.again.Goals as goal

no_fault : (oid : ObjectIdentifier 39) → item_fault root_rule (oid_arcs oid) 39 ≡ None
no_fault oid =
    let e = oid_encoding oid in
    let within : oid.ber.used ≤ 39 = oid.ber.within in
    item_fault-none root_rule 39 (oid_arcs oid) e.identifier (omega (arith, length_is_size e, length-take oid.ber.used oid.ber.bytes))

pub returns : goal.returns
returns c =
    let oid = c.args.oid.now in
    c.from_rest.ensures ∙ ap (λ items. item_answer root_rule items 39) c.arcs.ensures ∙ ap (λ fault. answer fault (oid_arcs oid)) (no_fault oid)
