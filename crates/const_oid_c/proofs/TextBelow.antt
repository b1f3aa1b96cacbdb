-- The text of the arcs after those of a prefix.
use Rattle.std.proofs.Common.{◌≡◌, ℕ, List, length, drop, take, refl, false, Ok, Err}
use Rattle.std.specs.Prelude.{nat_eq}
use Rattle.std.specs.Cmp.Lexicographic.{pointwise}
use Rattle.std.proofs.lemmas.Bool.{false_from_ne_true}
use Rattle.const_oid.specs.Tree.{BeginsWith}
use Rattle.const_oid.specs.Typed.{dotted}
use Rattle.const_oid.proofs.BeginsWith.{begins_iff}
use Rattle.const_oid_c.specs.Results.{borrowed_answer, text_below}
use Rattle.const_oid_c.specs.Status.{none_status}

module _ (octets prefix arcs above : List ℕ) (read : borrowed_answer octets ≡ Ok arcs) (read_prefix : borrowed_answer prefix ≡ Ok above) where
  pub below : BeginsWith arcs above
      → text_below (borrowed_answer octets) (borrowed_answer prefix) ≡ Ok (dotted (drop (length above) arcs))
  below begins =
      let same = (begins_iff arcs above (pointwise nat_eq above (take (length above) arcs)) refl).1 begins in
      rw (read, read_prefix, same) refl

  pub other : (BeginsWith arcs above → ⊥) → text_below (borrowed_answer octets) (borrowed_answer prefix) ≡ Err none_status
  other apart =
      let same = begins_iff arcs above (pointwise nat_eq above (take (length above) arcs)) refl in
      let unequal : pointwise nat_eq above (take (length above) arcs) ≡ false = false_from_ne_true _ (λ is. apart (same.0 is)) in
      rw (read, read_prefix, unequal) refl
