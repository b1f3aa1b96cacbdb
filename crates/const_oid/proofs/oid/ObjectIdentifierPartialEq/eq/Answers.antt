use Rattle.std.specs.Prelude.{IsTrue}
use Rattle.const_oid.proofs.Encodings.{oid_encoding, iff_arcs}
use Rattle.const_oid.proofs.oid.ObjectIdentifierPartialEq.eq.Goals as goal

pub returns-clause-arcs : goal.returns-clause-arcs
returns-clause-arcs g c =
    iff_arcs (IsTrue c.eq.result) (oid_encoding c.args.self.now) (oid_encoding c.args.other.now) c.eq.ensures.meaning
