use Rattle.std.proofs.Common.{◌≡◌, ◌≢◌, ℕ, ◌≤◌, List, ◌++◌, length, drop, ap, ◌∙◌, arith}
use Rattle.std.specs.Borrow.{Bor}
use Rattle.std.specs.Prelude.{Option, None, Some, Result, Ok, Err, MatchOption, IsSomeAnd, IsOkAnd}
use Rattle.const_oid.specs.declared.error.Error.{Error}
use Rattle.const_oid.specs.declared.oid_ref.ObjectIdentifierRef.{ObjectIdentifierRef}
use Rattle.const_oid.specs.Contents.{octet_answer, arcs_of_octets, borrowed_capacity}
use Rattle.const_oid.specs.{Element.element, Error.answer, Identifier.root_rule, OidRef.{ref_octets, ReadsElement}}
use Rattle.const_oid.proofs.{Elements.{contents_fit, only_element}, Encodings.{octet_fault-fits, ref_encoding}}
use Rattle.examples.proofs.theorems.through_element.Goals as goal

-- an identifier's octets are read without an error
accepted : (oid : ObjectIdentifierRef) → length (ref_octets oid) ≤ borrowed_capacity
    → octet_answer root_rule (ref_octets oid) borrowed_capacity ≡ Ok (arcs_of_octets (ref_octets oid))
accepted oid fits = ap (λ fault. answer fault (arcs_of_octets (ref_octets oid))) (octet_fault-fits _ (ref_encoding oid) fits)

-- what is read of the element of an identifier
abbrev IsAgain : ObjectIdentifierRef → List ℕ → Result ObjectIdentifierRef Error × Bor (List ℕ) → Type 0
IsAgain oid rest read = IsOkAnd read.0 (λ again. ref_octets again ≡ ref_octets oid) × (read.1.now ≡ rest)

again : (oid : ObjectIdentifierRef) (rest : List ℕ) (der : Bor (List ℕ)) (result : Option (Result ObjectIdentifierRef Error × Bor (List ℕ)))
    → length der.now ≤ borrowed_capacity → der.now ≡ element (ref_octets oid) ++ rest
    → MatchOption result ((contents after : List ℕ) → der.now ≢ element contents ++ after) (λ read. ReadsElement der read.0 read.1)
    → IsSomeAnd result (IsAgain oid rest)
again oid rest der None fits written none = absurd (none (ref_octets oid) rest written)
again oid rest der (Some (Ok read, after)) fits written reads =
    let (same, left) = only_element der.now reads.contents (ref_octets oid) after.now rest (omega arith) reads.joined written in
    (reads.octets ∙ same, left)
again oid rest der (Some (Err fault, after)) fits written reads =
    let (same, left) = only_element der.now reads.contents (ref_octets oid) after.now rest (omega arith) reads.joined written in
    let wrong : Err fault ≡ Ok (arcs_of_octets (ref_octets oid)) =
    reads.answer ∙ ap (λ octets. octet_answer root_rule octets borrowed_capacity) same
    ∙ accepted oid (omega (arith, contents_fit der.now (ref_octets oid) rest written)) in
    cc

pub returns-clause-again : goal.returns-clause-again
returns-clause-again c =
    let rest = drop (length (element (ref_octets c.args.oid))) c.args.out.now in
    again c.args.oid rest _ c.read_element.result (omega arith) c.in_ok-write_element.ensures.written.1 c.read_element.ensures
