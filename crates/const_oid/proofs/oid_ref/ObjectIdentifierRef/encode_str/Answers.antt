use Rattle.std.proofs.Math.Seq.{take-append_seam}
use Rattle.std.proofs.lemmas.Str.{IsUtf8-from_ascii}
use Rattle.const_oid.specs.Identifier.{root_rule}
use Rattle.const_oid.proofs.{Encodings.ref_encoding, Texts.text_ascii}
use Rattle.const_oid.proofs.oid_ref.ObjectIdentifierRef.encode_str.Goals as goal

pub utf8-requires-clause-utf8 : goal.utf8-requires-clause-utf8
utf8-requires-clause-utf8 c =
    rw (c.in_ok-len.ensures.written.1, c.in_ok-len.ensures.written.0, take-append_seam)
    (IsUtf8-from_ascii _ (text_ascii root_rule _ (ref_encoding c.args.self.now).identifier))
