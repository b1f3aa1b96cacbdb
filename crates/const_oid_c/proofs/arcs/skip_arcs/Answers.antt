use Rattle.std.proofs.Common.{arith, ap, drop, ◌∙◌}
use Rattle.const_oid_c.proofs.SkippedArcs.{skipped}
use Rattle.const_oid_c.proofs.arcs.skip_arcs.Goals as goal

pub returns-then-count-gt0 : goal.returns-then-count-gt0
returns-then-count-gt0 c = skipped _ _ _ _ c.nth.ensures.ran ∙ ap (λ n. drop n c.args.arcs) (omega arith)
