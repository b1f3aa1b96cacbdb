use Rattle.std.proofs.Common.{arith}
use Rattle.const_oid.proofs.Encodings.{none_from_encoding}
use Rattle.const_oid.proofs.oid.ObjectIdentifier.parse_below.Goals as goal

pub invariant_of-result : goal.invariant_of-result
invariant_of-result g c = search (arith, none_from_encoding)
