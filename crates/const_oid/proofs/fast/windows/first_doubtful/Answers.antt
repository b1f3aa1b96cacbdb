use Rattle.std.proofs.Common.{arith, rules, ◌<◌, ◌≤◌, ◌-◌, slice_index}
use Rattle.std.proofs.lemmas.List.{get_or-take}
use Rattle.const_oid.proofs.Plain.{plain_valid, start_fault}
use Rattle.const_oid.proofs.fast.windows.first_doubtful.Goals as goal

pub returns-in_err-first_odd : goal.returns-in_err-first_odd
returns-in_err-first_odd c =
    rw c.from_residual.ensures (plain_valid c.args.octets.now c.in_err-first_odd.ensures (omega arith))

pub returns-else-before-start-ge128 : goal.returns-else-before-start-ge128
returns-else-before-start-ge128 c =
    let xs = c.args.octets.now in
    let end = c.in_ok-first_odd.field-0 in
    let start = c.loop-start.start in
    let passed = c.loop-start.invariant in
    let (inside, plain) = c.in_ok-first_odd.ensures in
    let within : start ≤ end = search (rules, arith) in
    let low : slice_index xs (start - 1) < 128 =
    rw (get_or-take end xs (start - 1) 0 (omega arith)) at (rw c.split_at.ensures.front at c.if-before-start-ge128.false) in
    (omega arith, start_fault xs end inside plain start within (λ some. low) (λ i from before. passed.more i from (search (rules, arith))))
