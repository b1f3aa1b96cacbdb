use Rattle.std.proofs.Common.{rules}
use Rattle.std.specs.Prelude.{IsTrue}
use Rattle.const_oid.proofs.Encodings.{iff_arcs}
use Rattle.const_oid.proofs.oid_ref.ObjectIdentifierRef.eq_oid.Goals as goal

pub returns-clause-arcs : goal.returns-clause-arcs
returns-clause-arcs g c =
    iff_arcs (IsTrue c.are_equal.result) c.as_bytes.ensures.encoding c.as_bytes-2.ensures.encoding (search rules)
