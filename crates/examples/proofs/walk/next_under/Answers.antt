use Rattle.std.proofs.Common.{◌≡◌, ◌≢◌, ℕ, Bool, true, false, List, IfNone, Less, ap, ◌∙◌}
use Rattle.std.specs.{Bool.then_some, Cmp.Lexicographic.slice_cmp, List.All, Ordering.{nat_cmp, ordering_reverse}}
use Rattle.std.proofs.lemmas.Cmp.{nat_list_cmp_total}
use Rattle.const_oid.specs.{OidRef.{key_arcs, ref_arcs}, Tree.BeginsWith, declared.by_arcs.ByArcs.ByArcs}
use Rattle.const_oid.proofs.ByParts.{run_between}
use Rattle.examples.specs.Walk.{IsNext}
use Rattle.examples.proofs.IsNext.{same_next}
use Rattle.examples.proofs.walk.next_under.Goals as goal

-- where the next key is not under the root, no key after these arcs is, since what is under it is adjacent
none_under : (keys : List ByArcs) (arcs root : List ℕ) (next : ByArcs) → IsNext keys arcs next
    → ¬ BeginsWith (key_arcs next) root → BeginsWith arcs root
    → All (λ key. BeginsWith (key_arcs key) root → slice_cmp nat_cmp arcs (key_arcs key) ≢ Less) keys
none_under keys arcs root next is other begun k default inside under after =
    let greater = nat_list_cmp_total.antisymm (key_arcs next) arcs ∙ ap ordering_reverse is.after in
    other (run_between root arcs (key_arcs next) _ begun under (λ same. cc) (is.nearest k default inside after))

-- a value that a test of a fact leaves out lacks it
lacks : {X : Type 0} (P Q : Type 0) (x : X) (test : Bool) → (P → test ≡ true) → (¬ P → Q) → IfNone (then_some test x) Q
lacks P Q x true decided f = tt
lacks P Q x false decided f = f (λ p. cc (decided p))

pub returns-clause-none : goal.returns-clause-none
returns-clause-none c =
    let is = c.in_ok-next.ensures.found in
    rw c.then_some.ensures (lacks _ _ c.in_ok-next.next _ c.starts_with.ensures.1 (λ other next same begun.
    other (rw (same_next _ _ next c.in_ok-next.next.now same is) at begun)))

pub returns-clause-end : goal.returns-clause-end
returns-clause-end c =
    let root = ref_arcs c.args.root.now in
    let none = none_under c.args.sorted.now (ref_arcs c.args.oid.now) root _ c.in_ok-next.ensures.found in
    rw c.then_some.ensures (lacks _ _ c.in_ok-next.next _ c.starts_with.ensures.1 none)
