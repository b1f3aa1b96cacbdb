use Rattle.std.proofs.Common.{◌++◌, ap, append_assoc, false, arith, refl, sym, take, ◌∙◌}
use Rattle.std.proofs.Output.{has_written_styled_append}
use Rattle.std.proofs.lemmas.Str.{IsUtf8-from_ascii}
use Rattle.const_oid.specs.Typed.{dotted}
use Rattle.const_oid.proofs.{Decimals.{arc_text_ascii, arc_text_short}, Texts.dotted-cons}
use Rattle.const_oid.proofs.tables.Display.write_below.Goals as goal

pub write_arc-end-requires : goal.write_arc-end-requires
write_arc-end-requires g c = omega (arith, arc_text_short false c.in-Some.arc)

pub utf8-requires-clause-utf8 : goal.utf8-requires-clause-utf8
utf8-requires-clause-utf8 g c =
    IsUtf8-from_ascii _ (rw c.write_arc-end.ensures.prefix (arc_text_ascii false c.in-Some.arc (omega arith)))

pub loop-arc-preserved : goal.loop-arc-preserved
loop-arc-preserved g c =
    let (before, written, text) = c.loop-arc.invariant in
    let chunk = take c.write_arc-end.result c.write_arc-end.new.out in
    let rest = dotted c.next.new.self in
    let split = ap dotted c.in-Some.ensures.steps ∙ dotted-cons c.in-Some.arc c.next.new.self in (
      before ++ chunk,
      λ flush. has_written_styled_append _ _ _ _ _ _ (written flush)
          (rw c.utf8-2.ensures at (c.in_ok-write_str.ensures.styled (written flush).flush refl)),
      append_assoc before chunk rest
          ∙ ap (λ more. before ++ more) (ap (λ piece. piece ++ rest) c.write_arc-end.ensures.prefix ∙ sym split) ∙ text,
    )
