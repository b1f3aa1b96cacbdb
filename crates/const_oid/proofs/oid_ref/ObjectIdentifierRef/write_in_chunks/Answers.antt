use Rattle.std.proofs.Common.{◌+◌, false, [], ◌∷◌, ◌++◌, length, map, take, append-nil}
use Rattle.std.proofs.Common.{refl, sym, ◌∙◌, ap, rules, arith}
use Rattle.std.specs.{Str.IsAscii}
use Rattle.std.proofs.Output.{has_written_styled_append}
use Rattle.std.proofs.lemmas.{Str.{IsUtf8-from_ascii, IsAscii-append, Ascii.IsAscii-nil}}
use Rattle.std.proofs.lemmas.{Fmt.{IsAscii-decimal, decimal_digit}, List.nil_from_length, Bool.Decides.nat_tests}
use Rattle.const_oid.specs.{Base128.value_of, Contents.{cut, arcs_from}, Identifier.root_rule}
use Rattle.const_oid.specs.Text.{text_of}
use Rattle.const_oid.proofs.{Decimals.{arc_text_ascii, arc_text_short}, Texts.{second_small, text_left, text_left-cons}}
use Rattle.const_oid.proofs.{PartsFault.{parts_from_later, later_small}, Printed.{two_texts, arc_written}}
use Rattle.const_oid.proofs.oid_ref.ObjectIdentifierRef.write_in_chunks.Goals as goal
use Rattle.const_oid.proofs.oid_ref.ObjectIdentifierRef.write_in_chunks.Goals.{then-at+in_ok-write_str, else-at}

pub loop-rest-init : goal.loop-rest-init
loop-rest-init g c =
    let (values, small, valid) = c.read_group-root.ensures in
    let later = map value_of (cut c.read_group-root.result.1.now) in
    let arcs = ap arcs_from values ∙ c.split_root-first.ensures.arcs later in
    let all = two_texts c.split_root-first.result.0 c.split_root-first.result.1 later (omega arith) in
    let left = text_left-cons false c.split_root-first.result.1 later in (
      omega arith,
      second_small root_rule c.split_root-first.result.0 _ c.split_root-first.ensures.valid.1,
      rw (decimal_digit c.split_root-first.result.0 (omega arith))
          at (IsAscii-decimal c.split_root-first.result.0 (omega arith)),
      valid,
      [],
      λ flush. search rules,
      ap (λ l. (48 + c.split_root-first.result.0) ∷ l) left ∙ all ∙ ap text_of (sym arcs),
    )

pub write_arc-at-requires : goal.write_arc-at-requires
write_arc-at-requires g c =
    let (low, small, ascii, valid, before, written, text) = c.loop-rest.invariant in
    omega (arith, arc_text_short false c.loop-rest.arc)

pub utf8-requires-clause-utf8 : goal.utf8-requires-clause-utf8
utf8-requires-clause-utf8 g c =
    let (low, small, ascii, valid, before, written, text) = c.loop-rest.invariant in
    let added = arc_text_ascii false c.loop-rest.arc (omega arith) in
    IsUtf8-from_ascii _ (rw c.write_arc-at.ensures.prefix (IsAscii-append _ _ ascii added))

pub utf8-requires-then-at-clause-utf8 : goal.utf8-requires-then-at-clause-utf8
utf8-requires-then-at-clause-utf8 g c =
    let (low, small, ascii, valid, before, written, text) = c.loop-rest.invariant in
    let added = arc_text_ascii false c.loop-rest.arc (omega arith) in
    IsUtf8-from_ascii _ (rw c.write_arc-at.ensures.prefix (IsAscii-append _ _ ascii added))

pub returns-then-is_empty : goal.returns-then-is_empty
returns-then-is_empty g c flush ok =
    let (low, small, ascii, valid, before, written, text) = c.loop-rest.invariant in
    let w = c.write_arc-at.ensures in
    let chunk = take c.write_arc-at.result c.write_arc-at.new.out in
    let none = nil_from_length c.loop-rest.rest.now (grind (arith, nat_tests)) in
    let all = arc_written before _ chunk c.loop-rest.arc [] w.prefix ∙ rw none at text in
    rw (← (rw append-nil at all)) (has_written_styled_append _ _ _ _ _ _ (written flush)
    (rw c.utf8-2.ensures at (c.write_str.ensures.styled (written flush).flush ok)))

pub read_group-number-requires : goal.read_group-number-requires
read_group-number-requires g c =
    let (low, small, ascii, valid, before, written, text) = c.loop-rest.invariant in
    parts_from_later c.loop-rest.rest.now (λ e. search rules) valid

pub overflow_cast-arc : goal.overflow_cast-arc
overflow_cast-arc g c =
    let (low, small, ascii, valid, before, written, text) = c.loop-rest.invariant in
    let (values, number, after) = c.read_group-number.ensures in
    omega (arith, later_small _ _ _ valid values)

pub loop-rest-smaller : goal.loop-rest-smaller
loop-rest-smaller g c =
    let (values, number, after) = c.read_group-number.ensures in
    omega (arith, ap length values)

pub loop-rest-preserved : goal.loop-rest-preserved
loop-rest-preserved g c =
    let l = c.loop-rest in
    let (low, small, ascii, valid, before, written, text) = l.invariant in
    let (values, number, after) = c.read_group-number.ensures in
    let prefix = c.write_arc-at.ensures.prefix in
    let chunk = take c.write_arc-at.result c.write_arc-at.new.out in
    -- the arc is written
    let text = ap (λ arcs. (before ++ chunk) ++ text_left false arcs) (sym values)
    ∙ arc_written before _ chunk l.arc _ prefix ∙ text in
    let ascii : IsAscii chunk = rw prefix (IsAscii-append _ _ ascii (arc_text_ascii false l.arc (omega arith))) in
    let small = later_small _ _ _ valid values in
    -- the chunk is written if it is full
    elim c.if-at.branch [
      | then-at+in_ok-write_str w ↦
          rw (w.at-is, w.f-is) (
            omega arith,
            small,
            IsAscii-nil,
            after,
            before ++ chunk,
            λ flush. has_written_styled_append _ _ _ _ _ _ (written flush)
                (rw w.utf8-then-at.ensures at (w.in_ok-write_str.ensures.styled (written flush).flush refl)),
            rw append-nil text,
          )
      | else-at w ↦ rw (w.at-is, w.f-is) (omega arith, small, ascii, after, before, written, text)
    ]
