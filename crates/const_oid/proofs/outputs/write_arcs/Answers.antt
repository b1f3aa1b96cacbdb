use Rattle.std.proofs.Common.{◌≡◌, ℕ, ◌<◌, ◌++◌, List, [], ◌∷◌, length, map, take, slice_set, arith, sym, ap, ◌∙◌, refl}
use Rattle.std.proofs.lemmas.List.{drop-set-lt}
use Rattle.const_oid.specs.{Base128.value_of, Contents.{cut, arcs_from}}
use Rattle.const_oid.proofs.PartsFault.{parts_at}
use Rattle.const_oid.proofs.outputs.write_arcs.Goals as goal

two_begin : (first second : ℕ) (out : List ℕ) → 1 < length out
    → take 2 (slice_set (slice_set out 0 first) 1 second) ≡ first ∷ second ∷ []
two_begin first second (_ ∷ _ ∷ out) room = refl
two_begin first second _ room = absurd (omega arith)

pub loop-rest-init : goal.loop-rest-init
loop-rest-init c =
    let out = c.args.out.now in
    let arcs = c.split_root-first.result in
    let later = map value_of (cut c.in-Some.rest.now) in
    let room : 1 < length out = omega (arith, c.in-Some.ensures.shorter, c.requires) in
    record {
      fault = grind (arith, parts_at);
      arcs = ap (λ l. l ++ later) (two_begin arcs.0 arcs.1 out room)
          ∙ sym (ap arcs_from c.in-Some.ensures.number ∙ c.split_root-first.ensures.arcs later);
      after = drop-set-lt 2 (slice_set out 0 arcs.0) 1 arcs.1 (omega arith) ∙ drop-set-lt 2 out 0 arcs.0 (omega arith);
      room = omega (arith, c.in-Some.ensures.shorter);
    }
