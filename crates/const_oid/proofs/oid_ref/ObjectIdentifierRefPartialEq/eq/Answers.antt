use Rattle.std.proofs.Common.{rules}
use Rattle.std.specs.Prelude.{IsTrue}
use Rattle.const_oid.proofs.Encodings.{ref_encoding, iff_arcs}
use Rattle.const_oid.proofs.oid_ref.ObjectIdentifierRefPartialEq.eq.Goals as goal

pub returns-clause-arcs : goal.returns-clause-arcs
returns-clause-arcs c =
    iff_arcs (IsTrue c.are_equal.result) (ref_encoding c.args.self.now) (ref_encoding c.args.other.now) (search rules)
