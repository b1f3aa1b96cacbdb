use Rattle.std.proofs.Common.{Ok, Err, ◌∙◌, arith}
use Rattle.std.proofs.lemmas.{Bool.Decides.nat_tests}
use Rattle.const_oid.proofs.Components.{all_written, later_written, dot_left, wrong_component}
use Rattle.const_oid.proofs.parser.parse_later.Goals as goal

pub returns-in-Err-clause-answer : goal.returns-in-Err-clause-answer
returns-in-Err-clause-answer c front old offset begun =
    let component = c.in-Err.ensures in
    let written = c.loop-end.invariant.written front old offset begun in
    (wrong_component written.arcs (omega arith) component, component.alike)

pub returns-in-Err-append_group-clause-answer : goal.returns-in-Err-append_group-clause-answer
returns-in-Err-append_group-clause-answer c front old offset begun =
    let written = c.loop-end.invariant.written front old offset begun in (
      later_written c.args.capacity front offset c.args.text.now old c.append_group.new.out written c.append_group.auto.out (omega arith)
          c.in-Ok.ensures (Err c.in-Err-append_group.fault) c.in-Err-append_group.ensures.appends,
      tt,
    )

pub loop-end-preserved : goal.loop-end-preserved
loop-end-preserved c = record {
  written = λ front old offset begun.
      let written = c.loop-end.invariant.written front old offset begun in
      later_written c.args.capacity front offset c.args.text.now old c.append_group.new.out written c.append_group.auto.out (omega arith)
      c.in-Ok.ensures (Ok c.in-Ok-append_group.used) c.in-Ok-append_group.ensures.appends;
  within = c.in-Ok.ensures.at.within;
  grows = omega (arith, c.loop-end.invariant.grows, c.in-Ok-append_group.ensures.appends.0);
  kept = λ short. c.in-Ok-append_group.ensures.kept (omega (arith, c.loop-end.auto.out)) ∙ c.loop-end.invariant.kept short;
}

pub returns-then-end-text-clause-answer : goal.returns-then-end-text-clause-answer
returns-then-end-text-clause-answer c front old offset begun =
    let found = dot_left (c.loop-end.invariant.written front old offset begun).arcs (omega arith) in
    (grind (arith, nat_tests, found), tt)

pub returns-clause-answer : goal.returns-clause-answer
returns-clause-answer c front old offset begun = all_written (c.loop-end.invariant.written front old offset begun) (omega arith)
