use Rattle.std.proofs.Common.{◌+◌, ◌-◌, ◌≤◌, arith, false, length, take, drop}
use Rattle.std.proofs.lemmas.{Grind.common_steps}
use Rattle.const_oid.specs.Private.Text.{arc_text}
use Rattle.const_oid.proofs.{Decimals.arc_text_short, Printed.{part_written, part_kept}}
use Rattle.const_oid.proofs.text.write_later.Goals as goal

pub write_arc-requires : goal.write_arc-requires
write_arc-requires c =
    let short : length (arc_text false c.args.arc) ≤ 11 = arc_text_short false c.args.arc (omega arith) in
    grind (arith, common_steps)

pub returns-clause-prefix : goal.returns-clause-prefix
returns-clause-prefix c =
    let short : length (arc_text false c.args.arc) ≤ 11 = arc_text_short false c.args.arc (omega arith) in
    let fits : c.write_arc.result ≤ length c.write_arc.new.out = grind (arith, common_steps) in
    part_written _ _ _ _ _ _ (omega arith) fits c.write_arc.ensures.prefix

pub returns-clause-after : goal.returns-clause-after
returns-clause-after c =
    let short : length (arc_text false c.args.arc) ≤ 11 = arc_text_short false c.args.arc (omega arith) in
    let fits : c.write_arc.result ≤ length c.write_arc.new.out = grind (arith, common_steps) in
    let part : c.write_arc.result ≤ length (take (c.args.at + 11 - c.args.at) (drop c.args.at c.args.out.now)) =
    grind (arith, common_steps) in
    part_kept _ _ _ _ _ (omega arith) fits part c.write_arc.ensures.after
