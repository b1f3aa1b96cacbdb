use Rattle.std.proofs.Common.{arith}
use Rattle.const_oid.proofs.{Encodings.ref_encoding, Lengths.length_by_count}
use Rattle.const_oid.proofs.oid_ref.ObjectIdentifierRef.len.Goals as goal

pub returns : goal.returns
returns c = omega (arith, length_by_count _ _ _ (ref_encoding c.args.self.now), c.count_below.ensures.value)
