use Rattle.std.proofs.Common.{arith}
use Rattle.std.proofs.lemmas.{Bool.Decides.nat_tests}
use Rattle.const_oid.proofs.{Faults.some_from_above, Components.{first_above, first_alone, first_done, first_wrong, this_component, component_found, wrong_arc, wrong_component}}
use Rattle.const_oid.proofs.parser.read_root.Goals as goal

pub returns-in-Err : goal.returns-in-Err
returns-in-Err c = (λ capacity. first_wrong capacity c.in-Err.ensures, c.in-Err.ensures.alike)

pub returns-then-start-text : goal.returns-then-start-text
returns-then-start-text c = (λ capacity. first_alone capacity c.in-Ok.ensures c.in_default.ensures (omega arith), tt)

pub returns-in-Err-check_first : goal.returns-in-Err-check_first
returns-in-Err-check_first c =
    (λ capacity. rw c.in-Err-check_first.ensures.0 (first_above capacity c.in-Ok.ensures c.in-Err-check_first.ensures.1), tt)

pub returns-in-Err-read_component : goal.returns-in-Err-read_component
returns-in-Err-read_component c =
    let component = c.in-Err-read_component.ensures in
    (λ capacity. wrong_component (first_done capacity c.in-Ok.ensures c.in_default.ensures) (omega arith) component, component.alike)

pub returns-in-Err-join_root : goal.returns-in-Err-join_root
returns-in-Err-join_root c = (
  λ capacity.
      wrong_arc (first_done capacity c.in-Ok.ensures c.in_default.ensures) (omega arith) c.in-Ok-read_component.ensures
      (grind (arith, nat_tests, some_from_above)),
  tt,
)

pub returns-in-Ok-join_root : goal.returns-in-Ok-join_root
returns-in-Ok-join_root c =
    let component = c.in-Ok-read_component.ensures in
    record {
      first = c.in-Ok.component.0;
      second = c.in-Ok-read_component.component.0;
      number = c.in-Ok-join_root.ensures.1;
      low = c.in_default.ensures;
      high = c.in-Ok-join_root.ensures.0;
      same = λ capacity. component_found (first_done capacity c.in-Ok.ensures c.in_default.ensures) (omega arith) component;
      component = omega (arith, this_component (first_done 0 c.in-Ok.ensures c.in_default.ensures) (omega arith) component);
      within = component.at.within;
      dotted = component.dotted;
    }
