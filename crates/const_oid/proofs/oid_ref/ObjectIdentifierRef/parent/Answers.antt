use Rattle.std.proofs.Common.{arith, rules}
use Rattle.const_oid.specs.Identifier.{root_rule}
use Rattle.const_oid.proofs.Encodings.{ref_encoding}
use Rattle.const_oid.proofs.Parents.{no_parent, none_without_last_part, parent_without_last_part, prefix_from_parts}
use Rattle.const_oid.proofs.oid_ref.ObjectIdentifierRef.parent.Goals as goal

pub from_checked-requires : goal.from_checked-requires
from_checked-requires c = search (arith, none_without_last_part)

pub returns-clause-arcs : goal.returns-clause-arcs
returns-clause-arcs c = search (arith, parent_without_last_part)

pub returns-clause-prefix : goal.returns-clause-prefix
returns-clause-prefix c = search (arith, prefix_from_parts)

pub returns-then-is_empty-clause-arcs : goal.returns-then-is_empty-clause-arcs
returns-then-is_empty-clause-arcs c =
    no_parent root_rule _ c.without_last_part-prefix.result.now (ref_encoding c.args.self.now) c.without_last_part-prefix.ensures.parts (search rules)
