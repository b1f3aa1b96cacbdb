use Rattle.std.proofs.Common.{◌≤◌, length}
use Rattle.oid_tool.specs.{declared.command.TheConstants.MAX_INPUT, Results.answers, Names.rows_of}
use Rattle.oid_tool.proofs.Output.{AppendsAllBut}
use Rattle.oid_tool.proofs.run.write_answers.Given as goal

abbrev pub invariant-loop-rest : goal.invariant-loop-rest
invariant-loop-rest g l =
    let contents = g.W.Write.contents in
    let results = answers (rows_of l.table) in
    record {
      short : length l.rest ≤ MAX_INPUT;
      written : AppendsAllBut (contents l.initial.output) (contents l.output) (results l.rest) (results l.text);
    }

abbrev pub decreases-loop-rest : goal.decreases-loop-rest
decreases-loop-rest g l = length l.rest
