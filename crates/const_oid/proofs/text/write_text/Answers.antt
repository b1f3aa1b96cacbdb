use Rattle.std.proofs.Common.{◌≡◌, ◌+◌, ◌<◌, ◌++◌, [], ◌∷◌, false, length, map, take, slice_set}
use Rattle.std.proofs.Common.{append-nil, sym, ap, ◌∙◌, arith, rules}
use Rattle.std.proofs.lemmas.List.{nil_from_length, take_more_set, drop-set-lt}
use Rattle.std.proofs.lemmas.{Bool.Decides.nat_tests, Grind.common_steps}
use Rattle.const_oid.specs.{Base128.value_of, Contents.{cut, arcs_from}, Identifier.root_rule}
use Rattle.const_oid.specs.Text.{text_of}
use Rattle.const_oid.proofs.{Decimals.drop_more, Appended.written_by_parts, Texts.{second_small, text_left, text_left-cons}}
use Rattle.const_oid.proofs.{PartsFault.{parts_from_later, later_small}, Printed.{two_texts, arc_written}}
use Rattle.const_oid.proofs.text.write_text.Goals as goal

pub loop-rest-init : goal.loop-rest-init
loop-rest-init c =
    let (values, small, valid) = c.read_group-root.ensures in
    let later = map value_of (cut c.read_group-root.result.1.now) in
    let arcs = c.split_root-first.result in
    let all = two_texts arcs.0 arcs.1 later (omega arith) ∙ ap text_of (sym (ap arcs_from values ∙ c.split_root-first.ensures.arcs later)) in
    let some : 0 < length c.args.out.now = omega (arith, ap length all, c.requires.room) in
    let digit : take 1 (slice_set c.args.out.now 0 (48 + arcs.0)) ≡ (48 + arcs.0) ∷ [] =
    take_more_set c.args.out.now 0 (48 + arcs.0) some in
    record {
      small = second_small root_rule arcs.0 _ c.split_root-first.ensures.valid.1;
      valid = valid;
      text = rw digit (ap (λ l. (48 + arcs.0) ∷ l) (text_left-cons false arcs.1 later) ∙ all);
      within = grind (arith, common_steps);
      after = drop-set-lt 1 c.args.out.now 0 (48 + arcs.0) (omega arith);
    }

pub returns-then-is_empty : goal.returns-then-is_empty
returns-then-is_empty c =
    let l = c.loop-rest in
    let w = c.write_arc-at.ensures in
    let piece = take c.write_arc-at.result c.write_arc-at.new.out in
    let none = nil_from_length l.rest.now (grind (arith, nat_tests)) in
    let text = rw append-nil at (arc_written [] _ piece l.arc [] w.prefix ∙ rw none at l.invariant.text) in
    let after = w.after ∙ drop_more l.at c.write_arc-at.result _ _ (omega arith) l.invariant.after in
    written_by_parts _ c.write_arc-at.result (grind (arith, common_steps)) text after

pub read_group-number-requires : goal.read_group-number-requires
read_group-number-requires c = parts_from_later c.loop-rest.rest.now (λ e. search rules) c.loop-rest.invariant.valid

pub overflow_cast-arc : goal.overflow_cast-arc
overflow_cast-arc c =
    let (values, number, after) = c.read_group-number.ensures in
    omega (arith, later_small _ _ _ c.loop-rest.invariant.valid values)

pub loop-rest-preserved : goal.loop-rest-preserved
loop-rest-preserved c =
    let l = c.loop-rest in
    let w = c.write_arc-at.ensures in
    let (values, number, valid) = c.read_group-number.ensures in
    let piece = take c.write_arc-at.result c.write_arc-at.new.out in
    record {
      small = later_small _ _ _ l.invariant.valid values;
      valid = valid;
      text = ap (λ arcs. piece ++ text_left false arcs) (sym values) ∙ arc_written [] _ piece l.arc _ w.prefix ∙ l.invariant.text;
      within = grind (arith, common_steps);
      after = w.after ∙ drop_more l.at c.write_arc-at.result _ _ (omega arith) l.invariant.after;
    }
