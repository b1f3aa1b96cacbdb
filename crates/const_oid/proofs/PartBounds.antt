-- Where parts of octets begin and end.
use Rattle.std.proofs.Common.{◌≡◌, ◌≢◌, ℕ, zero, suc, ◌+◌, ◌-◌, ◌<◌, ◌≤◌, List, [], ◌∷◌, length, map, take, drop}
use Rattle.std.proofs.Common.{get_or, slice_get, Some, None, refl, sym, ap, ◌∙◌, arith}
use Rattle.std.specs.{List.onto_first, Option.option_map}
use Rattle.std.proofs.Math.Seq.{drop-nil}
use Rattle.std.proofs.lemmas.{Grind.common_steps, List.{drop-map, drop_more, length-drop}, Bool.Decides.nat_tests}
use Rattle.std.proofs.lemmas.Option.{slice_get-map, slice_get_past, slice_get-get_or}
use Rattle.const_oid.specs.{Base128.value_of, Identifier.{RootRule, IsEncoding}}
use Rattle.const_oid.specs.Contents.{cut, cut_after, arcs_from, arcs_of_octets, parts_fault, later_fault}
use Rattle.const_oid.proofs.{Faults.both_none, Encodings.arcs_of_encoding}

-- ---- after a number of parts

drop-onto_first : (x left : ℕ) (parts : List (List ℕ)) → drop (suc left) (onto_first x parts) ≡ drop (suc left) parts
drop-onto_first x left [] = drop-nil left
drop-onto_first x left (part ∷ parts) = refl

drop-cut_after : (octet left ended : ℕ) (parts : List (List ℕ)) → left ≢ 0 → (octet < 128 → ended ≡ 1) → (128 ≤ octet → ended ≡ 0)
    → drop left (cut_after octet parts) ≡ drop (left - ended) parts
drop-cut_after octet zero ended parts some one none = absurd (some refl)
drop-cut_after octet (suc left) ended parts some one none =
    let fewer : octet < 128 → suc left - ended ≡ left = λ last. omega arith in
    let as_many : 128 ≤ octet → suc left - ended ≡ suc left = λ more. omega arith in
    grind (arith, nat_tests, drop-onto_first, fewer, as_many)

-- one octet further, where it ends one of the parts that are left or none
pub after_more : (octets : List ℕ) (i left ended : ℕ) → i < length octets → left ≢ 0
    → (get_or octets i 0 < 128 → ended ≡ 1) → (128 ≤ get_or octets i 0 → ended ≡ 0)
    → drop left (cut (drop i octets)) ≡ drop (left - ended) (cut (drop (i + 1) octets))
after_more octets i left ended inside some one none = grind (arith, common_steps, drop-cut_after)

-- ---- the arc at an index, by the octets after the parts before it

none_left : {X : Type 0} (k : ℕ) (xs : List X) → [] ≡ drop k xs → None ≡ slice_get xs k
none_left k xs e = sym (slice_get_past xs k (omega (arith, length-drop k xs, ap length e)))

first_left : {X : Type 0} (k : ℕ) (xs : List X) (y : X) (ys : List X) → y ∷ ys ≡ drop k xs → Some y ≡ slice_get xs k
first_left k xs y ys e =
    let l : k < length xs = omega (arith, length-drop k xs, ap length e) in
    cc (slice_get-get_or xs k y l, drop_more xs k y l)

-- by the part that holds it
later_at : (parts : List (List ℕ)) (index : ℕ) → 2 ≤ index
    → slice_get (arcs_from (map value_of parts)) index ≡ option_map value_of (slice_get parts (index - 1))
later_at parts zero later = absurd (omega arith)
later_at parts (suc zero) later = absurd (omega arith)
later_at [] (suc (suc k)) later = refl
later_at (part ∷ parts) (suc (suc k)) later = grind (arith, nat_tests, slice_get-map)

later_fault-drop : (k : ℕ) (parts : List (List ℕ)) → later_fault parts ≡ None → later_fault (drop k parts) ≡ None
later_fault-drop zero parts h = h
later_fault-drop (suc k) [] h = refl
later_fault-drop (suc k) (part ∷ parts) h = later_fault-drop k parts (both_none _ _ h).1

pub valid_after : (rule : RootRule) (octets rest : List ℕ) (index : ℕ) → 2 ≤ index
    → cut rest ≡ drop (index - 1) (cut octets) → parts_fault rule (cut octets) ≡ None → later_fault (cut rest) ≡ None
valid_after rule octets rest index later after h = grind (arith, nat_tests, later_fault-drop, both_none)

pub none_after : (octets rest : List ℕ) (index : ℕ) → 2 ≤ index → cut rest ≡ drop (index - 1) (cut octets)
    → length rest ≡ 0
    → None ≡ slice_get (arcs_of_octets octets) index
none_after octets [] index later after none = grind (arith, nat_tests, none_left, later_at)
none_after octets (x ∷ xs) index later after none = absurd (omega arith)

pub arc_after : (octets rest : List ℕ) (index n : ℕ) (ns : List ℕ) → 2 ≤ index
    → cut rest ≡ drop (index - 1) (cut octets) → map value_of (cut rest) ≡ n ∷ ns
    → Some n ≡ slice_get (arcs_of_octets octets) index
arc_after octets rest index n ns later after values =
    let parts = cut octets in
    let count = index - 1 in
    first_left count (map value_of parts) n ns (sym values ∙ ap (map value_of) after ∙ sym (drop-map value_of count parts))
    ∙ slice_get-map value_of parts count
    ∙ sym (later_at parts index later)

-- ---- arcs by parts, whatever the rule

take_root : (parts : List (List ℕ)) → take 2 (arcs_from (map value_of parts)) ≡ arcs_from (map value_of (take 1 parts))
take_root [] = refl
take_root (part ∷ parts) = grind (arith, nat_tests)

pub root_by_part : {rule : RootRule} {arcs octets : List ℕ} → IsEncoding rule arcs octets
    → take 2 arcs ≡ arcs_from (map value_of (take 1 (cut octets)))
root_by_part {octets} e = ap (take 2) (sym (arcs_of_encoding e)) ∙ take_root (cut octets)

pub arc_by_part : {rule : RootRule} {arcs octets : List ℕ} (i : ℕ) → IsEncoding rule arcs octets → 2 ≤ i
    → slice_get arcs i ≡ option_map value_of (slice_get (cut octets) (i - 1))
arc_by_part {octets} i e later = ap (λ xs. slice_get xs i) (sym (arcs_of_encoding e)) ∙ later_at (cut octets) i later
