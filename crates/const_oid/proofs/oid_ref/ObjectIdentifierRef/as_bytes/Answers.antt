use Rattle.std.proofs.Common.{arith}
use Rattle.const_oid.proofs.Encodings.{ref_encoding}
use Rattle.const_oid.proofs.oid_ref.ObjectIdentifierRef.as_bytes.Goals as goal

pub returns-clause-encoding : goal.returns-clause-encoding
returns-clause-encoding c = search (arith, ref_encoding)
