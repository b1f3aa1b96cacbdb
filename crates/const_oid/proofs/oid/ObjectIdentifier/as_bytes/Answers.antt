use Rattle.const_oid.proofs.Encodings.{oid_encoding}
use Rattle.const_oid.proofs.oid.ObjectIdentifier.as_bytes.Goals as goal

pub returns-clause-encoding : goal.returns-clause-encoding
returns-clause-encoding g c = rw (c.as_bytes.ensures) (oid_encoding c.args.self.now)
