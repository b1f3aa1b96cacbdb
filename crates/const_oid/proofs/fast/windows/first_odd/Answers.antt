use Rattle.std.proofs.Common.{arith, rules, ◌≡◌, ◌+◌, ◌-◌, length}
use Rattle.std.proofs.lemmas.{Bool.Decides.nat_tests, List.length-drop}
use Rattle.const_oid.specs.Private.Octets.{window_of}
use Rattle.const_oid.proofs.Plain.{plain_or_all, few_plain, ends_plain, first_plain, last_plain, more_plain, plain_drop, left_after, plain_after}
use Rattle.const_oid.proofs.fast.windows.first_odd.Goals as goal

pub returns-then-len-lt-HALF_OCTETS : goal.returns-then-len-lt-HALF_OCTETS
returns-then-len-lt-HALF_OCTETS c =
    plain_or_all c.args.octets.now _ 0 c.then_some.ensures (omega arith) (λ at start inside. absurd (omega arith))
    (λ low. few_plain c.args.octets.now c.if-len-lt-HALF_OCTETS.true (grind (arith, nat_tests)) c.requires.ended)

pub returns-then-len-lt-WORD_OCTETS : goal.returns-then-len-lt-WORD_OCTETS
returns-then-len-lt-WORD_OCTETS c =
    plain_or_all c.args.octets.now _ 0 c.then_some-then-len-lt-WORD_OCTETS.ensures (omega arith) (λ at start inside. absurd (omega arith))
    (λ plain. ends_plain c.args.octets.now (window_of c.both_ends.result) (omega arith) (omega arith) c.both_ends.ensures (c.is_odd_start.ensures plain))

pub returns-then-len : goal.returns-then-len
returns-then-len c =
    let xs = c.args.octets.now in
    let first = first_plain xs (window_of c.window.result) c.window.ensures (c.is_odd_start-2.ensures (search rules)) in
    let end : length xs - 8 + 8 ≡ length xs = omega arith in
    plain_or_all xs _ (length xs - 8) c.then_some-then-len.ensures (omega arith) (λ at start inside. first at start (omega arith))
    (λ plain.
    let last = last_plain xs (window_of c.window-then-len.result) (length xs - 8) c.window-then-len.ensures
    (c.is_odd_start-then-len.ensures plain) in
    more_plain xs 8 (length xs - 8 + 3) (length xs) first (rw end at last) (omega arith))

pub loop-rest-init : goal.loop-rest-init
loop-rest-init c =
    let xs = c.args.octets.now in
    let rest = c.split_at.result.1.now in
    let from : length xs - length rest ≡ 5 = search rules in
    let first = first_plain xs (window_of c.window.result) c.window.ensures (c.is_odd_start-2.ensures (search rules)) in
    record { left = rw from (search rules); some = omega arith; fewer = omega arith; plain = λ at start inside. first at start (omega arith) }

pub loop-rest-preserved : goal.loop-rest-preserved
loop-rest-preserved c =
    let xs = c.args.octets.now in
    let rest = c.loop-rest.rest.now in
    let after = c.split_at-in-loop-rest.result.1.now in
    let before = c.loop-rest.invariant in
    let long : length after ≡ length rest - 8 = rw c.split_at-in-loop-rest.ensures.back (length-drop 8 rest) in
    record {
      left = left_after xs rest before.left before.fewer after (omega arith) (search rules);
      some = omega arith;
      fewer = omega arith;
      plain = λ at start inside. plain_after xs rest before.left before.fewer before.plain (c.is_odd_after_three.ensures (search rules)) at start (omega arith);
    }

pub returns : goal.returns
returns c =
    let xs = c.args.octets.now in
    let rest = c.loop-rest.rest.now in
    let before = c.loop-rest.invariant in
    let from = length xs - 11 in
    let end : from + 11 ≡ length xs = omega arith in
    plain_or_all xs _ (length xs - 8) c.then_some-2.ensures (omega arith) (λ at start inside. before.plain at start (omega arith))
    (λ plain.
    let window = plain_drop xs from (rw (c.split_at-2.ensures.back) at (c.is_odd_after_three-2.ensures plain)) in
    more_plain xs (length xs - length rest + 3) (from + 3) (length xs) before.plain (rw end at window) (omega arith))
