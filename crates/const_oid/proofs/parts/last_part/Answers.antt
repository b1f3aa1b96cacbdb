use Rattle.std.proofs.Common.{◌≡◌, ◌-◌, arith, rules}
use Rattle.const_oid.proofs.Parents.{parts_before}
use Rattle.const_oid.proofs.parts.last_part.Goals as goal

pub returns-else-prefix-start-ge-CONTINUED-clause-parts : goal.returns-else-prefix-start-ge-CONTINUED-clause-parts
returns-else-prefix-start-ge-CONTINUED-clause-parts c =
    parts_before c.args.octets.now c.in-Some.prefix.now c.in-Some.field-0-0.now c.loop-start.start (search rules) c.loop-start.invariant.within
    (λ k next. let same : c.loop-start.start - 1 ≡ k = omega (arith, next) in rw same at c.if-prefix-start-ge-CONTINUED.false)
    c.loop-start.invariant.high

pub returns-after-loop-start-clause-parts : goal.returns-after-loop-start-clause-parts
returns-after-loop-start-clause-parts c =
    parts_before c.args.octets.now c.in-Some.prefix.now c.in-Some.field-0-0.now c.loop-start.start (search rules) c.loop-start.invariant.within
    (λ k next. absurd (omega (arith, next))) c.loop-start.invariant.high
