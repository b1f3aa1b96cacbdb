-- For callers: what follows of identifiers that are held.
use Rattle.std.proofs.Common.{◌≡◌, ℕ, zero, suc, ◌+◌, Bool, ◌&&◌, not, true, false, ◌<◌, ◌≤◌, List, [], length, nat_lt}
use Rattle.std.proofs.Common.{min, Some, Ok, sym, arith, slice_get}
use Rattle.std.specs.{Prelude.Result, Iterator.YieldsFirst}
use Rattle.std.proofs.{Math.Seq.get_or-append_seam, iter.Rest.run_of_first}
use Rattle.std.proofs.lemmas.{Bool.{and_parts, not-true}, List.{length-take, Sums.count_by-le-length}, Option.gets}
use Rattle.const_oid.specs.{declared.oid.ObjectIdentifier.ObjectIdentifier, declared.error.Error.Error, OidRef.{ref_arcs, ref_octets}}
use Rattle.const_oid.specs.{declared.oid_ref.ObjectIdentifierRef.ObjectIdentifierRef, Items.{item_answer, TakesItems}}
use Rattle.const_oid.specs.{Contents.arcs_of_octets}
use Rattle.const_oid.specs.Identifier.{RootRule, root_rule, IsIdentifier, IsEncoding, size, encoding_of}
use Rattle.const_oid.specs.{Oid.{oid_arcs, oid_octets}, Text.{text_of, text_answer}}
use Rattle.const_oid.specs.Tree.{parent_of, child_of}
use Rattle.const_oid.proofs.{Lengths.{length_is_size, length_by_count}}
use Rattle.const_oid.proofs.Encodings.{oid_encoding, ref_encoding, encoding_of-encoded}
use Rattle.const_oid.proofs.{Texts.{text_denotes, text_fault-none}, Tree.{parent_of-child_of, child_of-parent_of}}

-- its octets, which compute where its arcs are known
pub octets_are : {N : ℕ} (oid : ObjectIdentifier N) → oid_octets oid ≡ encoding_of (oid_arcs oid)
octets_are oid = sym (encoding_of-encoded (oid_encoding oid))

-- octets that encode their arcs are the encoding of their arcs
pub octets_again : (octets : List ℕ) → IsEncoding root_rule (arcs_of_octets octets) octets
    → encoding_of (arcs_of_octets octets) ≡ octets
octets_again octets encoded = encoding_of-encoded encoded

-- its octets are within the capacity
pub oid_within : {N : ℕ} (oid : ObjectIdentifier N) → length (oid_octets oid) ≤ min N 255
oid_within oid = omega (arith, oid.ber.within, length-take oid.ber.used oid.ber.bytes)

-- its size is within the capacity
pub size_fits : {N : ℕ} (oid : ObjectIdentifier N) → size (oid_arcs oid) ≤ min N 255
size_fits oid = omega (arith, oid_within oid, length_is_size (oid_encoding oid))

-- it has at most one arc more than octets
few : (arcs octets : List ℕ) → IsEncoding root_rule arcs octets → length arcs ≤ 1 + length octets
few arcs octets e =
    omega (arith, length_by_count root_rule arcs octets e, count_by-le-length (λ x. nat_lt x 128) octets)

pub few_arcs : {N : ℕ} (oid : ObjectIdentifier N) → length (oid_arcs oid) ≤ 1 + min N 255
few_arcs oid = omega (arith, oid_within oid, few (oid_arcs oid) (oid_octets oid) (oid_encoding oid))

pub ref_few_arcs : (oid : ObjectIdentifierRef) → length (ref_arcs oid) ≤ 1 + length (ref_octets oid)
ref_few_arcs oid = few (ref_arcs oid) (ref_octets oid) (ref_encoding oid)

-- its printed text is read as its arcs
pub printed_back : {N : ℕ} (oid : ObjectIdentifier N)
    → text_answer root_rule (text_of (oid_arcs oid)) (min N 255) ≡ Ok (oid_arcs oid)
printed_back {N} oid =
    let denoted = text_denotes root_rule (oid_arcs oid) (oid_encoding oid).identifier in
    grind (arith, text_fault-none root_rule (min N 255) _ _ denoted (size_fits oid), denoted.values)

-- its child has it as the parent
pub parent_of_child : {N : ℕ} (oid : ObjectIdentifier N) (arc : ℕ)
    → parent_of (child_of (oid_arcs oid) arc) ≡ Some (oid_arcs oid)
parent_of_child oid arc = parent_of-child_of root_rule (oid_arcs oid) arc (oid_encoding oid).identifier

-- an identifier is the child of its parent, by the arc that follows the parent's
child_again : (arcs parent : List ℕ) (arc : ℕ) → IsIdentifier root_rule arcs → parent_of arcs ≡ Some parent
    → slice_get arcs (length parent) ≡ Some arc → child_of parent arc ≡ arcs
child_again arcs parent arc valid e f =
    let (_, last, _, again) = child_of-parent_of root_rule arcs parent valid e in
    grind (arith, gets, get_or-append_seam parent last [])

-- it is the child of its parent
pub child_of_parent : {N : ℕ} (oid : ObjectIdentifier N) (parent : List ℕ) (arc : ℕ)
    → parent_of (oid_arcs oid) ≡ Some parent → slice_get (oid_arcs oid) (length parent) ≡ Some arc
    → child_of parent arc ≡ oid_arcs oid
child_of_parent oid parent arc = child_again (oid_arcs oid) parent arc (oid_encoding oid).identifier

-- both of a borrowed one
pub ref_parent_of_child : (oid : ObjectIdentifierRef) (arc : ℕ)
    → parent_of (child_of (ref_arcs oid) arc) ≡ Some (ref_arcs oid)
ref_parent_of_child oid arc = parent_of-child_of root_rule (ref_arcs oid) arc (ref_encoding oid).identifier

pub ref_child_of_parent : (oid : ObjectIdentifierRef) (parent : List ℕ) (arc : ℕ)
    → parent_of (ref_arcs oid) ≡ Some parent → slice_get (ref_arcs oid) (length parent) ≡ Some arc
    → child_of parent arc ≡ ref_arcs oid
ref_child_of_parent oid parent arc = child_again (ref_arcs oid) parent arc (ref_encoding oid).identifier

-- the result of the items of an iterator is exact where its list is known
pub exact_answer : {S : Type 0} (rule : RootRule) (capacity : ℕ) (rest : S → List ℕ) (s : S)
    (result : Result (List ℕ) Error) → TakesItems rule capacity (YieldsFirst rest) s result
    → result ≡ item_answer rule (rest s) capacity
exact_answer rule capacity rest s result taken = grind (arith, run_of_first)

-- ---- of a table of constants

-- a test fails at each number below a bound
abbrev pub fails_below : ℕ → (ℕ → Bool) → Bool
fails_below zero test = true
fails_below (suc n) test = not (test n) && fails_below n test

false_below : (n : ℕ) (test : ℕ → Bool) → fails_below n test ≡ true → (k : ℕ) → k < n → test k ≡ false
false_below zero test t k l = absurd (omega arith)
false_below (suc n) test t k l = grind (arith, and_parts, not-true, false_below n test)

-- no row of n + 1 is less than the one before it, where that computes
pub sorted_rows : {X : Type 0} (n : ℕ) (test : ℕ → X → Bool) → ((d : X) → fails_below n (λ k. test k d) ≡ true)
    → (k : ℕ) (d : X) → 0 ≤ k → k + 1 < n + 1 → test k d ≡ false
sorted_rows n test fails k d z l = false_below n (λ k. test k d) (fails d) k (omega arith)
