use Rattle.std.specs.Prelude.{IsTrue}
use Rattle.const_oid.proofs.Encodings.{oid_encoding, iff_arcs}
use Rattle.const_oid.proofs.oid.ObjectIdentifier.eq_last_first.Goals as goal

pub returns : goal.returns
returns g c =
    iff_arcs (IsTrue c.eq_last_first.result) (oid_encoding c.args.self.now) (oid_encoding c.args.other.now) c.eq_last_first.ensures
