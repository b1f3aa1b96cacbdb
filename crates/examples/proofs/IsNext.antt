-- The next key after some arcs.
use Rattle.std.proofs.Common.{arith, ◌≡◌, ◌≢◌, ℕ, List, Greater}
use Rattle.std.specs.{Cmp.Lexicographic.{slice_cmp, same_text, texts_ties}, Ordering.nat_cmp}
use Rattle.std.proofs.lemmas.Cmp.{nat_list_cmp_total}
use Rattle.const_oid.specs.{declared.by_arcs.ByArcs.ByArcs, OidRef.key_arcs}
use Rattle.examples.specs.Walk.{IsNext}

-- a next key is not past another key that is after the arcs
not_past : (keys : List ByArcs) (arcs : List ℕ) (next other : ByArcs) → IsNext keys arcs next → IsNext keys arcs other
    → slice_cmp nat_cmp (key_arcs next) (key_arcs other) ≢ Greater
not_past keys arcs next other is same =
    let (k, l, at) = same.inside in
    rw at at (is.nearest k other l) same.after

-- next keys have the same arcs
pub same_next : (keys : List ByArcs) (arcs : List ℕ) (next other : ByArcs) → IsNext keys arcs next
    → IsNext keys arcs other → key_arcs next ≡ key_arcs other
same_next keys arcs next other is same =
    let ahead = not_past keys arcs next other is same in
    let back = not_past keys arcs other next same is in
    let turned = nat_list_cmp_total.antisymm (key_arcs next) (key_arcs other) in
    grind (arith, same_text, texts_ties)
