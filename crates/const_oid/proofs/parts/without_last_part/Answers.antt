use Rattle.std.proofs.Common.{[], rules}
use Rattle.const_oid.proofs.Prefixes.{finished_at, finished_none}
use Rattle.const_oid.proofs.Parents.{but_last_octet, parts_without_last}
use Rattle.const_oid.proofs.parts.without_last_part.Goals as goal

pub returns-in-Some-rposition-clause-parts : goal.returns-in-Some-rposition-clause-parts
returns-in-Some-rposition-clause-parts c =
    parts_without_last c.args.octets.now c.in-Some.prefix.now _ c.in-Some.field-0-0.now (search rules)
    (finished_at _ _ c.in-Some-rposition.index c.first_octets.ensures (search rules) (search rules) (search rules))

pub returns-in-Some-rposition-clause-finished : goal.returns-in-Some-rposition-clause-finished
returns-in-Some-rposition-clause-finished c =
    rw (but_last_octet c.args.octets.now c.in-Some.prefix.now c.in-Some.field-0-0.now (search rules))
    (finished_at _ _ c.in-Some-rposition.index c.first_octets.ensures (search rules) (search rules) (search rules))

pub returns-in-None-clause-parts : goal.returns-in-None-clause-parts
returns-in-None-clause-parts c =
    parts_without_last c.args.octets.now c.in-Some.prefix.now [] c.in-Some.field-0-0.now (search rules) (finished_none _ (search rules))

pub returns-in-None-clause-finished : goal.returns-in-None-clause-finished
returns-in-None-clause-finished c =
    rw (but_last_octet c.args.octets.now c.in-Some.prefix.now c.in-Some.field-0-0.now (search rules)) (finished_none _ (search rules))
