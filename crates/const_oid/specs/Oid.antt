-- What an owned identifier shows.
use Rattle.std.specs.Prelude.{◌≡◌, ℕ, List, ◌++◌, min, Result, IfOk}
use Rattle.std.specs.Borrow.{Bor}
use Rattle.std.specs.Result.{result_map_both}
use Rattle.const_oid.specs.declared.error.Error.{Error}
use Rattle.const_oid.specs.declared.oid.ObjectIdentifier.{ObjectIdentifier}
use Rattle.const_oid.specs.Buffer.{buffer_octets}
use Rattle.const_oid.specs.Contents.{arcs_of_octets, octet_answer}
use Rattle.const_oid.specs.Element.{element}
use Rattle.const_oid.specs.Identifier.{root_rule}
use Rattle.const_oid.specs.Slices.{end_address}

-- the octets that it holds
abbrev pub oid_octets : {N : ℕ} → ObjectIdentifier N → List ℕ
oid_octets oid = buffer_octets oid.ber

-- its arcs
abbrev pub oid_arcs : {N : ℕ} → ObjectIdentifier N → List ℕ
oid_arcs oid = arcs_of_octets (oid_octets oid)

-- the result of a function, by the arcs of the identifier
abbrev pub oid_answer : {N : ℕ} → Result (ObjectIdentifier N) Error → Result (List ℕ) Error
oid_answer result = result_map_both oid_arcs (λ fault. fault) result

-- the octets are the element of contents octets and then the rest, which is the end of the slice, and the result is
-- what these contents octets are read as
pub record ReadsOwned {N : ℕ} (der : Bor (List ℕ)) (result : Result (ObjectIdentifier N) Error) (rest : Bor (List ℕ)) : Type 0 where
  pub contents : List ℕ
  pub joined : der.now ≡ element contents ++ rest.now
  pub answer : oid_answer result ≡ octet_answer root_rule contents (min N 255)
  pub octets : IfOk result (λ oid. oid_octets oid ≡ contents)
  pub end : end_address rest ≡ end_address der
