-- Octets without their last part.
use Rattle.std.proofs.Common.{◌≡◌, ◌≢◌, ℕ, zero, suc, ◌-◌, ◌<◌, ◌≤◌, List, [], ◌∷◌, ◌++◌, length, map, take, drop}
use Rattle.std.proofs.Common.{slice_index, Some, None, refl, sym, ap, ◌∙◌, arith, lt-ltb, length-append, rules}
use Rattle.std.specs.{Prelude.◌↔◌, List.{onto_first, concat}}
use Rattle.std.proofs.Math.Seq.{take-append_seam}
use Rattle.std.proofs.lemmas.{List.{length-map, length-take-le, take-append-le, take-map, take-append-drop}, List.Folds.concat-append}
use Rattle.std.proofs.lemmas.{Bool.Decides.nat_tests, Grind.common_steps}
use Rattle.const_oid.specs.{Base128.value_of, Identifier.{RootRule, IsEncoding}}
use Rattle.const_oid.specs.Contents.{cut, cut_after, later_fault, parts_fault, arcs_from, arcs_of_octets}
use Rattle.const_oid.specs.{Tree.{BeginsWith, parent_of}, Private.Prefixes.IsFinishedPrefix}
use Rattle.const_oid.proofs.{Tree.{child_of-parent_of, encoding_parent}, Encodings.none_from_encoding, Lengths.length_by_parts}
use Rattle.const_oid.proofs.Cutting.{cut_after-append, cut_after-last, cut_after-more, cut-some, concat-cut}

-- ---- where the last part begins

-- each octet from an index on is 128 at least
abbrev AreHigh : List ℕ → ℕ → Type 0
AreHigh octets index = (k : ℕ) → index ≤ k → k < length octets → 128 ≤ slice_index octets k

cut_one : (prefix : List ℕ) (x : ℕ) → AreHigh prefix 0 → cut (prefix ++ x ∷ []) ≡ (prefix ++ x ∷ []) ∷ []
cut_one [] x high = grind (arith, nat_tests)
cut_one (y ∷ ys) x high =
    cut_after-more y (cut (ys ++ x ∷ [])) (high 0 (omega arith) (omega arith))
    ∙ ap (onto_first y) (cut_one ys x (λ k l m. high (suc k) (omega arith) (omega arith)))

-- the last part begins after the last octet below 128 that another follows
cut_push : (prefix : List ℕ) (octet index : ℕ) → index ≤ length prefix
    → ((k : ℕ) → index ≡ suc k → slice_index prefix k < 128) → AreHigh prefix index
    → (last : List ℕ) × (cut (prefix ++ octet ∷ []) ≡ cut (take index prefix) ++ last ∷ [])
cut_push prefix octet zero inside final high = (prefix ++ octet ∷ [], cut_one prefix octet high)
cut_push (x ∷ xs) octet (suc zero) inside final high =
    let one = cut_one xs octet (λ k low below. high (suc k) (omega arith) (omega arith)) in
    (xs ++ octet ∷ [], grind (arith, cut_after-last, final 0 refl))
cut_push (x ∷ y ∷ ys) octet (suc (suc k)) inside final high =
    let rest = cut_push (y ∷ ys) octet (suc k) (omega arith) (λ i next. final (suc i) (omega arith))
    (λ i low below. high (suc i) (omega arith) (omega arith)) in
    let some = cut-some (take (suc k) (y ∷ ys)) (λ e. cc) in
    (rest.0, ap (cut_after x) rest.1 ∙ cut_after-append x (cut (take (suc k) (y ∷ ys))) (rest.0 ∷ []) some)
cut_push _ octet _ inside final high = absurd (omega arith)

-- the octets before the last part
abbrev pub IsWithoutLast : List ℕ → List ℕ → Type 0
IsWithoutLast octets before = let parts = cut octets in cut before ≡ take (length parts - 1) parts

but_last : (parts : List (List ℕ)) (last : List ℕ) → take (length (parts ++ last ∷ []) - 1) (parts ++ last ∷ []) ≡ parts
but_last parts last = grind (arith, nat_tests, common_steps, length-append)

pub parts_without_last : (octets prefix before : List ℕ) (octet : ℕ) → octets ≡ prefix ++ octet ∷ []
    → IsFinishedPrefix prefix before → IsWithoutLast octets before
parts_without_last octets prefix before octet is finished =
    let (rest, begins) = finished.begins in
    let same : take (length before) prefix ≡ before = rw begins (take-append_seam before rest) in
    let (last, parts) = cut_push prefix octet (length before) (omega (arith, ap length begins, length-append before rest))
    finished.ends finished.last in
    search (arith, same, parts, but_last)

-- they are all before the octets of 128 or more that the last part begins with
pub parts_before : (octets prefix : List ℕ) (octet start : ℕ) → octets ≡ prefix ++ octet ∷ [] → start ≤ length prefix
    → ((k : ℕ) → start ≡ suc k → slice_index prefix k < 128) → AreHigh prefix start → IsWithoutLast octets (take start octets)
parts_before octets prefix octet start is within final high =
    let begins : take start octets ≡ take start prefix = rw is (take-append-le start prefix (octet ∷ []) within) in
    let (last, parts) = cut_push prefix octet start within final high in
    rw begins (search (arith, is, parts, but_last))

-- which are all but the last one
pub but_last_octet : (octets prefix : List ℕ) (octet : ℕ) → octets ≡ prefix ++ octet ∷ []
    → take (length octets - 1) octets ≡ prefix
but_last_octet octets prefix octet is =
    let long : length octets - 1 ≡ length prefix = omega (arith, ap length is, length-append prefix (octet ∷ [])) in
    rw (long, is) (take-append_seam prefix (octet ∷ []))

-- ---- what they encode

later_fault-take : (k : ℕ) (parts : List (List ℕ)) → later_fault parts ≡ None → later_fault (take k parts) ≡ None
later_fault-take zero parts h = refl
later_fault-take (suc k) [] h = refl
later_fault-take (suc k) (part ∷ parts) h = grind (arith, nat_tests, later_fault-take k parts)

pub fault_before : (rule : RootRule) (k : ℕ) (parts : List (List ℕ)) → take k parts ≢ []
    → parts_fault rule parts ≡ None → parts_fault rule (take k parts) ≡ None
fault_before rule k parts some h = search (rules, some, later_fault-take)

-- they have no fault
pub none_without_last_part : (rule : RootRule) (octets prefix : List ℕ) → IsWithoutLast octets prefix → prefix ≢ []
    → parts_fault rule (cut octets) ≡ None → parts_fault rule (cut prefix) ≡ None
none_without_last_part rule octets prefix e some h = grind (arith, fault_before, cut-some)

parent_of-some : (a b c : ℕ) (later : List ℕ)
    → parent_of (a ∷ b ∷ c ∷ later) ≡ Some (a ∷ b ∷ take (length later) (c ∷ later))
parent_of-some a b c later =
    let e : length (a ∷ b ∷ c ∷ later) - 1 ≡ suc (suc (length later)) = omega arith in
    rw (lt-ltb 2 (length (a ∷ b ∷ c ∷ later)) (omega arith), e)

parent_of-parts : (parts : List (List ℕ)) → let before = take (length parts - 1) parts in
    before ≢ [] → parent_of (arcs_from (map value_of parts)) ≡ Some (arcs_from (map value_of before))
parent_of-parts (part ∷ next ∷ later) some =
    let fewer : length (part ∷ next ∷ later) - 1 ≡ suc (length later) = omega arith in
    rw (fewer, ← take-map value_of (length later) (next ∷ later), ← length-map later value_of)
    (grind (arith, parent_of-some))
parent_of-parts _ some = absurd (some refl)

-- they begin the octets
pub prefix_from_parts : (octets prefix : List ℕ) (k : ℕ) → cut prefix ≡ take k (cut octets) → BeginsWith octets prefix
prefix_from_parts octets prefix k e =
    let (parts, after) : List (List ℕ) × List (List ℕ) = (cut octets, drop k (cut octets)) in
    let joined = concat-append (take k parts) after in
    (concat after, cc (take-append-drop k parts, joined, concat-cut octets, concat-cut prefix))

-- their arcs are the parent's
pub parent_without_last_part : (octets prefix : List ℕ) → IsWithoutLast octets prefix → prefix ≢ []
    → parent_of (arcs_of_octets octets) ≡ Some (arcs_of_octets prefix)
parent_without_last_part octets prefix e some = grind (arith, parent_of-parts, cut-some)

-- ---- a parent's octets, whatever the rule

-- they are those without the last part
pub parent_octets : {rule : RootRule} {arcs : List ℕ} (parent : List ℕ) {octets : List ℕ}
    → IsEncoding rule arcs octets → parent_of arcs ≡ Some parent
    → let parts = cut octets in IsEncoding rule parent (concat (take (length parts - 1) parts))
parent_octets {rule} {arcs} parent {octets} e p = grind (arith, child_of-parent_of, encoding_parent, but_last)

-- and of one part there are none
pub parent_of_one : {rule : RootRule} {arcs octets : List ℕ} → IsEncoding rule arcs octets
    → (parent_of arcs ≡ None) ↔ (length (cut octets) ≡ 1)
parent_of_one {rule} {arcs} {octets} e = grind (arith, nat_tests, length_by_parts rule arcs octets e)

parts_some : (rule : RootRule) (parts : List (List ℕ)) → parts_fault rule parts ≡ None → 0 < length parts
parts_some rule [] none = cc
parts_some rule (part ∷ parts) none = omega arith

-- where no octets are left before the last part there is none
pub no_parent : (rule : RootRule) (octets before : List ℕ) → IsEncoding rule (arcs_of_octets octets) octets
    → IsWithoutLast octets before → length before ≡ 0 → None ≡ parent_of (arcs_of_octets octets)
no_parent rule octets [] e without none =
    let parts = cut octets in
    let some = parts_some rule parts (none_from_encoding e) in
    let long = length-take-le (length parts - 1) parts (omega arith) in
    sym ((parent_of_one e).1 (omega (arith, some, ap length without, long)))
no_parent rule octets (x ∷ xs) e without none = absurd (omega (arith, none))
