-- The octets of a child.
use Rattle.std.proofs.Common.{◌≡◌, ◌≤◌, ℕ, List, [], ◌∷◌, ◌++◌, min, arith, rules}
use Rattle.std.specs.Prelude.{Result, Ok, Err, IsOk, IfOk}
use Rattle.std.proofs.lemmas.Bool.Decides.{nat_tests}
use Rattle.const_oid.specs.{Base128.group_of, Items.item_answer, Tree.child_of}
use Rattle.const_oid.specs.{declared.error.Error.Error, declared.oid.ObjectIdentifier.ObjectIdentifier}
use Rattle.const_oid.specs.{Identifier.{root_rule, max_arc, IsEncoding, encoding_of}, Oid.{oid_answer, oid_arcs, oid_octets}}
use Rattle.const_oid.proofs.Tree.{encoding_push, encoding_two}
use Rattle.const_oid.proofs.Encodings.{encoding_of-encoded, oid_encoding, same_octets}
use Rattle.const_oid.proofs.{Groups.{group_is, small_is}, Lengths.root_short}
use Rattle.const_oid_c.specs.Results.{borrowed_answer, octets_of_child}

-- they are the parent's, and the group of the last arc
pub child_octets : (octets arcs : List ℕ) (arc : ℕ) → Ok arcs ≡ borrowed_answer octets → IsEncoding root_rule arcs octets
    → arc ≤ max_arc → octets_of_child octets arc ≡ Ok (octets ++ group_of arc)
child_octets octets arcs arc read encoded small =
    let joined : encoding_of (child_of arcs arc) ≡ octets ++ group_of arc =
    encoding_of-encoded (encoding_push encoded small (group_is arc)) in
    rw (← read, joined)

-- those of 0.0 and one more arc are 6 at most
zero_fits : (arc : ℕ) → arc ≤ max_arc → item_answer root_rule (0 ∷ 0 ∷ arc ∷ []) (min 6 255) ≡ Ok (0 ∷ 0 ∷ arc ∷ [])
zero_fits arc small = grind (arith, nat_tests, root_short root_rule arc)

zero_encoding : IsEncoding root_rule (0 ∷ 0 ∷ []) (0 ∷ [])
zero_encoding = encoding_two root_rule 0 0 (0 ∷ []) (omega arith) (omega arith) (small_is 0 (omega arith))

-- they are 0 and the group of the arc
pub zero_octets : (result : Result (ObjectIdentifier 6) Error) (arc : ℕ) → arc ≤ max_arc
    → oid_answer result ≡ item_answer root_rule (0 ∷ 0 ∷ arc ∷ []) (min 6 255)
    → IsOk result × IfOk result (λ oid. oid_octets oid ≡ 0 ∷ group_of arc)
zero_octets (Ok oid) arc small answer =
    let same : oid_arcs oid ≡ 0 ∷ 0 ∷ arc ∷ [] = grind (arith, zero_fits arc small, answer) in
    let encoded = rw same at (oid_encoding oid) in
    (search rules, same_octets encoded (encoding_push zero_encoding small (group_is arc)))
zero_octets (Err fault) arc small answer = absurd (grind (arith, zero_fits arc small, answer))
