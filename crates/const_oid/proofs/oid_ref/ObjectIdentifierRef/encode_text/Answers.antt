use Rattle.std.proofs.Common.{arith}
use Rattle.const_oid.proofs.{Encodings.ref_encoding, Printed.printed_short}
use Rattle.const_oid.proofs.oid_ref.ObjectIdentifierRef.encode_text.Goals.{then-self-out+in_ok-text_len, else-self-out}
use Rattle.const_oid.proofs.oid_ref.ObjectIdentifierRef.encode_text.Goals as goal

pub write_text-requires : goal.write_text-requires
write_text-requires c = grind (arith, printed_short _ _ _ (ref_encoding c.args.self.now))
