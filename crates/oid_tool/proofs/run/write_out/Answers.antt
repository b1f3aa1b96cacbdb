use Rattle.std.proofs.Common.{rules}
use Rattle.std.proofs.lemmas.Slice.{overwrites}
use Rattle.oid_tool.proofs.Output.{appends_more, first_and_left}
use Rattle.oid_tool.proofs.run.write_out.Goals as goal

pub loop-rest-preserved : goal.loop-rest-preserved
loop-rest-preserved g c =
    let cut = first_and_left c.in-Ok.count c.loop-rest.rest.now _ (search (rules, overwrites)) in
    appends_more c.loop-rest.invariant _ _ cut c.in-Ok.ensures.bytes

pub returns-in-Ok-eq0-clause-prefix : goal.returns-in-Ok-eq0-clause-prefix
returns-in-Ok-eq0-clause-prefix g c = search rules
