use Rattle.const_oid.proofs.Elements.{few_octets, enough}
use Rattle.const_oid.proofs.oid_ref.ObjectIdentifierRef.write_element.Goals as goal

pub returns-clause-enough : goal.returns-clause-enough
returns-clause-enough c room = enough 9 _ _ _ _ (few_octets _) c.write_element.ensures.written room
