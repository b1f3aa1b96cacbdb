use Rattle.std.proofs.Common.{arith}
use Rattle.const_oid.proofs.Components.{big_fault, component_read, byte_fault, digit_read, first_fault, digits_read}
use Rattle.const_oid.proofs.parser.read_component.Goals as goal

pub returns-then-first-gt9 : goal.returns-then-first-gt9
returns-then-first-gt9 c = first_fault c.args.text.now c.args.start (omega arith) (grind (arith, digits_read))

pub returns-then-text-index-eq46 : goal.returns-then-text-index-eq46
returns-then-text-index-eq46 c =
    component_read (grind (arith, digits_read)) (omega arith) (λ less. c.if-text-index-eq46.true)

pub loop-index-preserved : goal.loop-index-preserved
loop-index-preserved c =
    let (read, small) = c.loop-index.invariant in
    (digit_read read c.loop-index-test.true (grind (arith, digits_read)), omega (arith, c.if-number.false))

pub returns-then-text-index-ne46 : goal.returns-then-text-index-ne46
returns-then-text-index-ne46 c =
    let (read, small) = c.loop-index.invariant in
    byte_fault read small c.loop-index-test.true (grind (arith, digits_read)) (grind (arith, digits_read))

pub returns-then-number : goal.returns-then-number
returns-then-number c =
    big_fault c.loop-index.index c.loop-index.invariant.0 c.loop-index-test.true (grind (arith, digits_read)) c.if-number.true

pub returns : goal.returns
returns c =
    let (read, small) = c.loop-index.invariant in
    component_read read small (λ less. grind (arith, digits_read, c.loop-index-test.branch))
