use Rattle.std.proofs.Common.{arith}
use Rattle.std.proofs.lemmas.{Grind.common_steps, Result.err_from_is_err_and}
use Rattle.oid_tool.proofs.Output.{appends_more, appends_prefix_within, first_written}
use Rattle.oid_tool.proofs.Lines.{answers-nil, answers-next, answers_not_empty}
use Rattle.oid_tool.proofs.run.write_answers.Goals as goal

pub returns-in_default-clause-prefix : goal.returns-in_default-clause-prefix
returns-in_default-clause-prefix g c =
    let so_far = c.loop-rest.invariant.written in
    record {
      prefix = so_far.written;
      missing = _;
      appends = so_far.appends;
      whole = so_far.joined;
      shorter = answers_not_empty _ _ c.loop-rest-test.ensures;
    }

pub returns-in_err-write_out-clause-prefix : goal.returns-in_err-write_out-clause-prefix
returns-in_err-write_out-clause-prefix g c =
    let cut = c.cut.ensures in
    let next = answers-next _ _ c.loop-rest-test.ensures _ _ _ cut.prefix cut.rest (first_written _ _ c.in-Some.ensures) in
    let failed = err_from_is_err_and c.from_residual.result c.from_residual.ensures.1 in
    rw failed.1 (appends_prefix_within c.loop-rest.invariant.written _ _ next c.in_err-write_out.ensures.prefix)

pub loop-rest-preserved : goal.loop-rest-preserved
loop-rest-preserved g c =
    let cut = c.cut.ensures in
    let next = answers-next _ _ c.loop-rest-test.ensures _ _ _ cut.prefix cut.rest (first_written _ _ c.in-Some.ensures) in
    record {
      short = grind (arith, common_steps, cut.rest);
      written = appends_more c.loop-rest.invariant.written _ _ next c.in_ok-write_out.ensures.ok;
    }

pub returns-clause-ok : goal.returns-clause-ok
returns-clause-ok g c = grind (arith, common_steps, answers-nil)
