use Rattle.std.proofs.Common.{ℕ, List, arith, length, ◌≤◌, subst}
use Rattle.std.proofs.lemmas.Grind.{common_steps}
use Rattle.const_oid.specs.{Element.element, Oid.oid_octets, Output.Writes}
use Rattle.const_oid.proofs.Elements.{two_octets, enough}
use Rattle.const_oid.proofs.oid.ObjectIdentifier.write_element.Goals as goal

pub returns-clause-enough : goal.returns-clause-enough
returns-clause-enough g c =
    let within = c.args.self.now.ber.within in
    let fits : length (oid_octets c.args.self.now) ≤ 255 = grind (arith, common_steps, within) in
    let written = subst (λ (octets : List ℕ). Writes (element octets) c.args.out.now c.write_element.new.out c.write_element.result)
    c.as_oid_ref.ensures.octets c.write_element.ensures.written in
    enough 2 _ _ _ c.write_element.result (two_octets _ (omega arith)) written
