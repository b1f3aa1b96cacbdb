use Rattle.std.proofs.Common.{arith, refl, take}
use Rattle.std.proofs.lemmas.Grind.{common_steps}
use Rattle.const_oid.proofs.Elements.{length_there, long_form, number_read, first_read, length_read}
use Rattle.const_oid.proofs.element.read_long_length.Goals as goal

pub returns-then-count-gt8-clause-octets : goal.returns-then-count-gt8-clause-octets
returns-then-count-gt8-clause-octets c n rest small same =
    let form = long_form small same in
    omega (arith, form.few, length_there form, c.then-count-gt8.either)

pub returns-then-not-is_shortest-clause-octets : goal.returns-then-not-is_shortest-clause-octets
returns-then-not-is_shortest-clause-octets c n rest small same =
    let form = long_form small same in
    let (number, digits) = number_read form small (omega arith) refl c.number_of-len.ensures in
    let first = first_read form.long small digits in
    grind (arith, common_steps, number, form.long, first)

pub returns-clause-octets : goal.returns-clause-octets
returns-clause-octets c =
    let (long, first) = c.is_shortest.ensures.0 c.if-not-is_shortest.false in
    length_read (take c.args.count c.args.octets.now) _ long c.number_of-len.ensures first (grind (arith, common_steps))
    (grind (arith, common_steps))
