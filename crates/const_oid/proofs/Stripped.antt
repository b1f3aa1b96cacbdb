-- Octets after those of a prefix.
use Rattle.std.proofs.Common.{◌≡◌, ◌≢◌, ℕ, ◌-◌, List, [], ◌∷◌, ◌++◌, length, map, take, drop}
use Rattle.std.proofs.Common.{None, refl, ap, ◌∙◌, arith, length-append}
use Rattle.std.proofs.Math.Seq.{drop-append_seam, take-length}
use Rattle.std.proofs.lemmas.{Bool.Decides.nat_tests, Grind.common_steps}
use Rattle.const_oid.specs.{Base128.value_of, Identifier.{root_rule, IsEncoding}}
use Rattle.const_oid.specs.Contents.{cut, arcs_from, arcs_of_octets, parts_fault, later_fault}
use Rattle.const_oid.proofs.{Faults.both_none, Encodings.none_from_encoding, Cutting.{cut-append}, Prefixes.encoding_ends}

later_fault-append : (parts more : List (List ℕ)) → later_fault (parts ++ more) ≡ None → later_fault more ≡ None
later_fault-append [] more h = h
later_fault-append (part ∷ parts) more h = later_fault-append parts more (both_none _ _ h).1

-- the parts after some have no fault
left_fault : (parts more : List (List ℕ)) → parts ≢ [] → parts_fault root_rule (parts ++ more) ≡ None
    → later_fault more ≡ None
left_fault [] more some h = absurd (some refl)
left_fault (part ∷ parts) more some h = later_fault-append parts more (both_none _ _ h).1

-- and their numbers come after the arcs of those
left_arcs : (parts more : List (List ℕ)) → parts ≢ []
    → arcs_from (map value_of (parts ++ more)) ≡ arcs_from (map value_of parts) ++ map value_of more
left_arcs [] more some = absurd (some refl)
left_arcs (part ∷ parts) more some = grind (arith, nat_tests, common_steps)

module _ {arcs : List ℕ} (octets prefix rest : List ℕ) (encoding : IsEncoding root_rule arcs prefix)
    (joined : octets ≡ prefix ++ rest) where
  parts : cut octets ≡ cut prefix ++ cut rest
  parts = ap cut joined ∙ cut-append prefix rest (encoding_ends encoding)

  some : cut prefix ≢ []
  some none = grind (arith, none, none_from_encoding encoding)

  pub stripped_fault : parts_fault root_rule (cut octets) ≡ None → later_fault (cut rest) ≡ None
  stripped_fault h = left_fault (cut prefix) (cut rest) some (rw parts at h)

  pub stripped_arcs : arcs_of_octets octets ≡ arcs_of_octets prefix ++ map value_of (cut rest)
  stripped_arcs = rw parts (left_arcs (cut prefix) (cut rest) some)

-- a slice from the end of the prefix on has them
pub stripped_are : (octets prefix rest : List ℕ) → octets ≡ prefix ++ rest
    → take (length octets - length prefix) (drop (length prefix) octets) ≡ rest
stripped_are octets prefix rest joined =
    let fewer : length octets - length prefix ≡ length rest = omega (arith, ap length joined, length-append prefix rest) in
    rw (fewer, joined, drop-append_seam prefix rest) (take-length rest)
