use Rattle.std.proofs.Common.{◌≡◌, ℕ, ◌+◌, ◌*◌, ◌≤◌, ◌++◌, List, [], ◌∷◌, false, take, slice_set, arith, ◌∙◌}
use Rattle.std.proofs.lemmas.List.{take_more_set, drop-set-lt}
use Rattle.const_oid.specs.{Base128.width, Contents.arcs_from, Identifier.root_rule, Text.text_of}
use Rattle.const_oid.proofs.{Decimals.length_digit, PartsFault.parts_at, Printed.{root_printed, two_texts}, Texts.text_left}
use Rattle.const_oid.proofs.text.write_checked.Goals as goal

pub loop-rest-init : goal.loop-rest-init
loop-rest-init c =
    let arcs = c.split_root-first.result in
    let (low, high, root) = c.split_root-first.ensures.valid in
    let printed = rw root at (root_printed root_rule _ _ low high) in
    let short : c.write_later-at.result ≤ 4 * width c.in-Some.group.0 = omega (arith, printed, length_digit arcs.0) in
    let digit : take 1 (slice_set c.args.out.now 0 (48 + arcs.0)) ≡ (48 + arcs.0) ∷ [] =
    take_more_set c.args.out.now 0 (48 + arcs.0) (omega arith) in
    let text : (later : List ℕ) → take c.write_later-at.result c.write_later-at.new.out ++ text_left false later ≡ text_of (arcs_from (c.in-Some.group.0 ∷ later)) =
    λ later. rw (c.split_root-first.ensures.arcs later, c.write_later-at.ensures.prefix, digit) (two_texts arcs.0 arcs.1 later (omega arith)) in
    record {
      fault = grind (arith, parts_at);
      text = rw c.in-Some.ensures.number (text _);
      after = c.write_later-at.ensures.after ∙ drop-set-lt c.write_later-at.result c.args.out.now 0 (48 + arcs.0) (omega arith);
      room = omega (arith, short, c.in-Some.ensures.width);
    }
