-- Elements: what is read of one is what is read of its only contents octets.
use Rattle.std.proofs.Common.{◌≡◌, ℕ, ◌-◌, ◌≤◌, List, ◌++◌, length, length-append, arith, refl, ap, ◌∙◌, Ok, Err}
use Rattle.std.specs.Borrow.{Bor}
use Rattle.const_oid.specs.{declared.error.Error.Error, declared.oid_ref.ObjectIdentifierRef.ObjectIdentifierRef}
use Rattle.const_oid.specs.{Contents.borrowed_capacity, Element.element, OidRef.{ref_arcs, ref_octets, ReadsElement}}
use Rattle.const_oid.proofs.Elements.{only_element}
use Rattle.const_oid_c.specs.declared.status.Status.{Status}
use Rattle.const_oid_c.specs.{Results.{borrowed_answer, status_of}, Status.{error_status, len_status}}

-- the status of the element of octets
abbrev pub element_status : List ℕ → Status
element_status octets = status_of (λ _. len_status (length (element octets))) (borrowed_answer octets)

pub ok_status : (der : Bor (List ℕ)) (octets rest : List ℕ) (after : Bor (List ℕ)) (oid : ObjectIdentifierRef)
    → length der.now ≤ borrowed_capacity → ReadsElement der (Ok oid) after → der.now ≡ element octets ++ rest
    → (len_status (length der.now - length after.now) ≡ element_status octets) × (ref_octets oid ≡ octets)
ok_status der octets rest after oid fits reads is =
    let (same, left) = only_element der.now reads.contents octets after.now rest (omega arith) reads.joined is in
    let long : length der.now - length after.now ≡ length (element octets) =
    omega (arith, ap length is, length-append (element octets) rest, ap length left) in
    let answer : Ok (ref_arcs oid) ≡ borrowed_answer octets = reads.answer ∙ ap borrowed_answer same in
    (rw (← answer, long) refl, reads.octets ∙ same)

pub err_status : (der : Bor (List ℕ)) (octets rest : List ℕ) (after : Bor (List ℕ)) (fault : Error)
    → length der.now ≤ borrowed_capacity → ReadsElement der (Err fault) after → der.now ≡ element octets ++ rest
    → error_status fault ≡ element_status octets
err_status der octets rest after fault fits reads is =
    let (same, left) = only_element der.now reads.contents octets after.now rest (omega arith) reads.joined is in
    let answer : Err fault ≡ borrowed_answer octets = reads.answer ∙ ap borrowed_answer same in
    rw (← answer) refl
