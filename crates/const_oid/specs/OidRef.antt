-- What a borrowed identifier shows.
use Rattle.std.specs.Borrow.{Bor}
use Rattle.std.specs.Prelude.{◌≡◌, ℕ, List, ◌++◌, Result, IfOk}
use Rattle.std.specs.Result.{result_map_both}
use Rattle.const_oid.specs.declared.by_arcs.ByArcs.{ByArcs}
use Rattle.const_oid.specs.declared.error.Error.{Error}
use Rattle.const_oid.specs.declared.oid_ref.ObjectIdentifierRef.{ObjectIdentifierRef}
use Rattle.const_oid.specs.Contents.{arcs_of_octets, octet_answer, borrowed_capacity}
use Rattle.const_oid.specs.Element.{element}
use Rattle.const_oid.specs.Identifier.{root_rule}
use Rattle.const_oid.specs.Slices.{end_address}

-- the slice that it holds
abbrev pub ref_slice : ObjectIdentifierRef → Bor (List ℕ)
ref_slice oid = oid.ber

-- the octets of the slice
abbrev pub ref_octets : ObjectIdentifierRef → List ℕ
ref_octets oid = (ref_slice oid).now

-- its arcs
abbrev pub ref_arcs : ObjectIdentifierRef → List ℕ
ref_arcs oid = arcs_of_octets (ref_octets oid)

-- the arcs of a key
abbrev pub key_arcs : ByArcs → List ℕ
key_arcs key = ref_arcs key.0

-- the result of a function, by the arcs of the identifier
abbrev pub ref_answer : Result ObjectIdentifierRef Error → Result (List ℕ) Error
ref_answer result = result_map_both ref_arcs (λ fault. fault) result

-- the octets are the element of contents octets and then the rest, which is the end of the slice, and the result is
-- what these contents octets are read as; it holds the very contents octets, just before the rest
pub record ReadsElement (der : Bor (List ℕ)) (result : Result ObjectIdentifierRef Error) (rest : Bor (List ℕ)) : Type 0 where
  pub contents : List ℕ
  pub joined : der.now ≡ element contents ++ rest.now
  pub answer : ref_answer result ≡ octet_answer root_rule contents borrowed_capacity
  pub octets : IfOk result (λ oid. ref_octets oid ≡ contents)
  pub before : IfOk result (λ oid. end_address (ref_slice oid) ≡ rest.ref_ptr)
  pub end : end_address rest ≡ end_address der
