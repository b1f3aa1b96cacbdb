use Rattle.std.proofs.Common.{arith, refl, sym}
use Rattle.std.proofs.lemmas.{Grind.common_steps, List.Elements.AllWithin-more}
use Rattle.const_oid.specs.{OidRef.ref_arcs, Tree.BeginsWith}
use Rattle.examples.proofs.subtree.is_under_any.Goals as goal

pub returns-then-starts_with : goal.returns-then-starts_with
returns-then-starts_with c =
    (λ t. (c.loop-root.root-index, c.root-item.result, c.loop-root-test.true, sym c.root-item.is, c.if-starts_with.ensures.0 t), λ some. refl)

pub loop-root-preserved : goal.loop-root-preserved
loop-root-preserved c =
    AllWithin-more (λ root. BeginsWith (ref_arcs c.args.oid.now) (ref_arcs root) → ⊥) c.args.roots.now 0 c.loop-root.root-index
    c.loop-root.invariant (λ d begins. grind (arith, common_steps))

pub returns : goal.returns
returns c = (
  λ t. grind arith,
  λ some. let (k, root, within, is, begins) = some in
      absurd (c.loop-root.invariant k root (omega arith) (omega arith) (rw is begins)),
)
