use Rattle.std.specs.Prelude.{IsTrue}
use Rattle.const_oid.proofs.{BeginsWith.iff_begins, Encodings.ref_encoding}
use Rattle.const_oid.proofs.oid_ref.ObjectIdentifierRef.starts_with.Goals as goal

pub returns : goal.returns
returns c =
    iff_begins (IsTrue c.begins_with.result)
    (ref_encoding c.args.self.now) (ref_encoding c.args.other.now) c.begins_with.ensures
