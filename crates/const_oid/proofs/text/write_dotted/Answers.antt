use Rattle.std.proofs.Common.{◌++◌, append_assoc, ap, arith, false, length, length-append, sym, take, ◌∙◌}
use Rattle.const_oid.specs.{Private.Text.arc_text, Typed.dotted}
use Rattle.const_oid.proofs.{Decimals.drop_more, Texts.dotted-cons}
use Rattle.const_oid.proofs.text.write_dotted.Goals as goal

pub loop-arc-preserved : goal.loop-arc-preserved
loop-arc-preserved c =
    let l = c.loop-arc in
    let w = c.write_arc-end.ensures in
    let piece = arc_text false c.in-Some.arc in
    let rest = dotted c.next.new.self in
    let split = ap dotted c.in-Some.ensures.steps ∙ dotted-cons c.in-Some.arc c.next.new.self in
    record {
      count = omega (arith, ap length split, length-append piece rest, w.end, l.invariant.count);
      text = ap (λ begun. begun ++ rest) w.prefix ∙ append_assoc (take l.end l.out) piece rest
          ∙ ap (λ more. take l.end l.out ++ more) (sym split) ∙ l.invariant.text;
      after = w.after ∙ drop_more l.end c.write_arc-end.result _ _ (omega arith) l.invariant.after;
    }
