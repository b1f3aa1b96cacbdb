use Rattle.std.proofs.Common.{◌∙◌}
use Rattle.const_oid.proofs.{ByParts.arcs_cmp, Encodings.ref_encoding}
use Rattle.const_oid.proofs.oid_ref.ObjectIdentifierRef.cmp_arcs.Goals as goal

pub returns : goal.returns
returns c = c.order_by_parts.ensures ∙ arcs_cmp (ref_encoding c.args.self.now) (ref_encoding c.args.other.now)
