use Rattle.std.proofs.Common.{arith}
use Rattle.const_oid.proofs.{Encodings.oid_encoding, Identifiers.oid_within, Printed.printed_short}
use Rattle.const_oid.proofs.oid.ObjectIdentifier.text_len.Goals as goal

pub returns : goal.returns
returns g c = grind (arith, printed_short _ _ _ (oid_encoding c.args.self.now), oid_within c.args.self.now)
