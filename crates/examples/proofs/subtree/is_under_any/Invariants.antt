use Rattle.std.specs.List.{AllWithin}
use Rattle.const_oid.specs.{OidRef.ref_arcs, Tree.BeginsWith}
use Rattle.examples.proofs.subtree.is_under_any.Given as goal

-- no root before this index has it
abbrev pub invariant-loop-root : goal.invariant-loop-root
invariant-loop-root l = AllWithin (λ root. BeginsWith (ref_arcs l.oid) (ref_arcs root) → ⊥) l.roots 0 l.root-index
