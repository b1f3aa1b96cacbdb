use Rattle.std.proofs.Common.{◌≡◌, ◌∙◌, ℕ, List, [], ◌∷◌, length, drop, MatchOption, Option, ap, arith, rules}
use Rattle.std.proofs.Common.{append-nil}
use Rattle.std.specs.String.{string_bytes}
use Rattle.std.proofs.lemmas.List.{drop-drop}
use Rattle.const_oid.specs.{Names.name_of, OidRef.ref_arcs}
use Rattle.examples.proofs.label.label.Goals as goal

-- what a call of `next` leaves
stepped : (xs ys : List ℕ) (item : Option ℕ)
    → MatchOption item ((xs ≡ []) × (ys ≡ [])) (λ x. xs ≡ x ∷ ys) → ys ≡ drop 1 xs
stepped xs ys item steps = grind arith

pub loop-preserved : goal.loop-preserved
loop-preserved c =
    stepped c.loop.arcs c.next.new.self c.next.result c.next.ensures.steps
    ∙ ap (λ xs. drop 1 xs) c.loop.invariant
    ∙ drop-drop 1 c.loop.counter (ref_arcs c.args.oid)

pub returns-clause-named : goal.returns-clause-named
returns-clause-named c =
    let entry = c.in-Some.entry.now in
    let begun : string_bytes c.in_ok-text.text ≡ (name_of entry).now = search rules in
    let ended : c.loop.counter ≡ length (ref_arcs entry.0) = omega (arith, c.len-end.ensures) in
    record { entry = entry; nearest = c.in-Some.ensures.found; is = grind (arith, append-nil) }
