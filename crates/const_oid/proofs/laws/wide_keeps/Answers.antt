use Rattle.std.proofs.Common.{arith}
use Rattle.const_oid.proofs.{Encodings.same_octets, WideRule.encoding_wide, WideRule.octets_kept}
use Rattle.const_oid.proofs.laws.wide_keeps.Goals as goal

pub returns-clause-octets_accepted : goal.returns-clause-octets_accepted
returns-clause-octets_accepted c octets arcs capacity e = grind (arith, octets_kept)

pub returns-clause-short_order : goal.returns-clause-short_order
returns-clause-short_order c a b v w x y e f g h = rw (same_octets (encoding_wide e) g, same_octets (encoding_wide f) h)

pub returns-clause-list_order : goal.returns-clause-list_order
returns-clause-list_order c a b v w x y e f g h = rw (same_octets (encoding_wide e) g, same_octets (encoding_wide f) h)
