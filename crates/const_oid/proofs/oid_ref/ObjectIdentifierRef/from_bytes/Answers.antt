use Rattle.std.proofs.Common.{arith}
use Rattle.const_oid.proofs.{Octets.are_octets, Encodings.encoding_from_none}
use Rattle.const_oid.proofs.oid_ref.ObjectIdentifierRef.from_bytes.Goals as goal

pub invariant_of-result-clause-octets : goal.invariant_of-result-clause-octets
invariant_of-result-clause-octets c = search (arith, are_octets)

pub returns-clause-encoding : goal.returns-clause-encoding
returns-clause-encoding c = search (arith, encoding_from_none, are_octets)
