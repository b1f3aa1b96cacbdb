use Rattle.std.proofs.Common.{arith}
use Rattle.std.proofs.lemmas.Grind.{common_steps}
use Rattle.const_oid.proofs.Elements.{length_octets-short, length_some}
use Rattle.const_oid.proofs.element.read_length.Goals as goal

pub returns-in_default-clause-octets : goal.returns-in_default-clause-octets
returns-in_default-clause-octets c n rest small same = grind (arith, common_steps, length_some n)

pub returns-in-len1-up-clause-octets : goal.returns-in-len1-up-clause-octets
returns-in-len1-up-clause-octets c =
    let form = length_octets-short _ c.if-first-lt-LONG_FORM.true in
    grind (arith, common_steps, form)
