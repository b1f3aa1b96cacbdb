use Rattle.std.proofs.Common.{◌∙◌, refl, lt-ltb, le-ltb}
use Rattle.const_oid.proofs.FoundAfter.{long_answer}
use Rattle.const_oid.proofs.parser.long_fault.Goals as goal

pub returns-then-capacity-parent : goal.returns-then-capacity-parent
returns-then-capacity-parent c =
    let parent = c.last_part-parent in
    long_answer c.args.capacity c.args.octets.now c.args.text.now parent.result c.requires.valid parent.ensures.within
    parent.ensures.parts c.requires.long c.requires.follows
    ∙ rw (lt-ltb c.args.capacity parent.result c.if-capacity-parent.true) refl

pub returns-else-capacity-parent : goal.returns-else-capacity-parent
returns-else-capacity-parent c =
    let parent = c.last_part-parent in
    long_answer c.args.capacity c.args.octets.now c.args.text.now parent.result c.requires.valid parent.ensures.within
    parent.ensures.parts c.requires.long c.requires.follows
    ∙ rw (le-ltb c.args.capacity parent.result c.if-capacity-parent.false, c.or_trailing_dot.ensures) refl
