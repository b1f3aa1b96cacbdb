use Rattle.std.proofs.Common.{◌≡◌, rules, arith}
use Rattle.std.proofs.lemmas.Grind.{common_steps}
use Rattle.oid_tool.specs.Names.{known_names, rows_of}
use Rattle.oid_tool.proofs.run.run.Goals as goal

pub returns-clause-ok : goal.returns-clause-ok
unfolding known_names
returns-clause-ok g c =
    let known : rows_of c.new.result ≡ known_names = search rules in
    grind (arith, common_steps)

pub returns-clause-write : goal.returns-clause-write
unfolding known_names
returns-clause-write g c =
    let known : rows_of c.new.result ≡ known_names = search rules in
    grind (arith, common_steps)
