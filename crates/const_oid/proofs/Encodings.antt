-- Octets without a fault are the encoding of their arcs, and encodings have no fault but their length; each identifier has just one encoding.
use Rattle.std.proofs.Common.{◌≡◌, ◌≢◌, ℕ, ◌+◌, ◌*◌, ◌/◌, ◌<◌, ◌≤◌, false, List, [], ◌∷◌, length, map, rules}
use Rattle.std.proofs.Common.{slice_index, Some, None, refl, sym, ◌∙◌, arith, lt-ltb, le-ltb, ◌++◌, drop, ap}
use Rattle.std.specs.{List.{AllByRecursion, AllZip, concat}, Prelude.◌↔◌}
use Rattle.std.proofs.lemmas.List.{drop-map}
use Rattle.const_oid.specs.{declared.error.Error.TheVariants.{ArcInvalid, Length}, Identifier.{encoding_of, root_rule}}
use Rattle.const_oid.specs.{declared.oid_ref.ObjectIdentifierRef.ObjectIdentifierRef, OidRef.{ref_octets, ref_arcs}}
use Rattle.const_oid.specs.{declared.oid.ObjectIdentifier.ObjectIdentifier, Oid.{oid_octets, oid_arcs}}
use Rattle.const_oid.specs.Base128.{value_of, IsContinued, AreOctets, IsGroup, group_of}
use Rattle.const_oid.specs.Identifier.{RootRule, Narrow, Wide, max_arc, IsEncoding, subidentifiers, IsIdentifier}
use Rattle.const_oid.specs.Contents.{cut, begins_with_128, part_fault, first_fault, later_fault}
use Rattle.const_oid.specs.Contents.{parts_fault, max_first, octet_fault, arcs_of_octets}
use Rattle.const_oid.proofs.{Faults.{both_none, below_from_none}, Groups.{small_is, group-small, group_is, same_group}}
use Rattle.const_oid.proofs.Subidentifiers.{InRange, in_range, arcs_back, numbers_back, first_in_range}
use Rattle.const_oid.proofs.Cutting.{cut_chains, concat-cut, IsPart, parts_are, chain_from_part, finished_from_chain}

-- ---- one part

shortest : (part : List ℕ) → begins_with_128 part ≡ false → slice_index part 0 ≢ 128
shortest part h = search rules

-- the part is the group of a number that is at most the limit
abbrev IsGroupUpTo : ℕ → List ℕ → Type 0
IsGroupUpTo limit part = IsGroup (value_of part) part × (value_of part ≤ limit)

part_valid : (limit : ℕ) (part : List ℕ) → IsPart part → part_fault limit part ≡ None → IsGroupUpTo limit part
part_valid limit part p h = grind (arith, chain_from_part, shortest)

pub part_none : (limit : ℕ) {n : ℕ} {part : List ℕ} → IsGroup n part → n ≤ limit → part_fault limit part ≡ None
part_none limit {part} g l = grind (arith, shortest, le-ltb, finished_from_chain)

-- ---- all parts

later_valid : (parts : List (List ℕ)) → AllByRecursion IsPart parts → later_fault parts ≡ None
    → AllZip IsGroup (map value_of parts) parts × AllByRecursion (λ n. n ≤ max_arc) (map value_of parts)
later_valid [] chains none = (tt, tt)
later_valid (part ∷ parts) chains none =
    let (first, later) = both_none (part_fault max_arc part) (later_fault parts) none in
    let (group, small) = part_valid max_arc part chains.0 first in
    let (groups, all_small) = later_valid parts chains.1 later in
    ((group, groups), (small, all_small))

later_none : (numbers : List ℕ) (groups : List (List ℕ)) → AllZip IsGroup numbers groups → AllByRecursion (λ n. n ≤ max_arc) numbers → later_fault groups ≡ None
later_none [] [] g l = refl
later_none (n ∷ ns) (p ∷ ps) g l = rw (part_none max_arc g.0 l.0) (later_none ns ps g.1 l.1)
later_none _ _ g l = absurd g

first_valid : (rule : RootRule) (part : List ℕ) → IsPart part → first_fault rule part ≡ None → IsGroupUpTo (max_first rule) part
first_valid Narrow [] p h = absurd p
first_valid Narrow (x ∷ []) p h = search rules
first_valid Narrow (x ∷ y ∷ ys) p h = absurd (omega (arith, below_from_none 119 x (ArcInvalid (x / 40)) h))
first_valid Wide part p h = part_valid (max_first Wide) part p h

first_none : (rule : RootRule) (n : ℕ) (part : List ℕ) → IsGroup n part → n ≤ max_first rule → first_fault rule part ≡ None
first_none Narrow n part g l = rw (group-small (omega arith) g, le-ltb 119 n l)
first_none Wide n part g l = part_none (max_first Wide) g l

parts_valid : (rule : RootRule) (parts : List (List ℕ)) → AllByRecursion IsPart parts → parts_fault rule parts ≡ None → AllZip IsGroup (map value_of parts) parts × InRange rule (map value_of parts)
parts_valid rule parts p h = grind (arith, first_valid, later_valid)

parts_none : (rule : RootRule) (numbers : List ℕ) (groups : List (List ℕ)) → AllZip IsGroup numbers groups → InRange rule numbers → parts_fault rule groups ≡ None
parts_none rule (n ∷ ns) (p ∷ ps) g l = rw (first_none rule n p g.0 l.0) (later_none ns ps g.1 l.1)
parts_none rule _ _ g l = absurd assumption

-- ---- encodings

pub groups_continued : (numbers : List ℕ) (groups : List (List ℕ)) → AllZip IsGroup numbers groups → AllByRecursion IsContinued groups
groups_continued [] [] g = tt
groups_continued (n ∷ ns) (p ∷ ps) g = (g.0.continued, groups_continued ns ps g.1)
groups_continued _ _ g = absurd g

groups_valued : (numbers : List ℕ) (groups : List (List ℕ)) → AllZip IsGroup numbers groups → map value_of groups ≡ numbers
groups_valued [] [] g = refl
groups_valued (n ∷ ns) (p ∷ ps) g = let e : n ≡ value_of p = g.0.value in let t = groups_valued ns ps g.1 in cc
groups_valued _ _ g = absurd g

-- the groups of an encoding are what its octets are cut into
pub cut_encoding : (rule : RootRule) (arcs octets : List ℕ) (e : IsEncoding rule arcs octets) → cut octets ≡ e.groups
cut_encoding rule arcs octets e = grind (arith, cut_chains, groups_continued)

-- octets without a fault are the encoding of their arcs
pub encoding_from_none : (rule : RootRule) (octets : List ℕ) → AreOctets octets → parts_fault rule (cut octets) ≡ None → IsEncoding rule (arcs_of_octets octets) octets
encoding_from_none rule octets bytes h = grind (arith, parts_valid, parts_are, numbers_back, concat-cut)

-- an encoding has no faulty part
pub none_from_encoding : {rule : RootRule} {arcs octets : List ℕ} → IsEncoding rule arcs octets → parts_fault rule (cut octets) ≡ None
none_from_encoding {rule} {arcs} {octets} e = rw (cut_encoding rule arcs octets e) (parts_none rule (subidentifiers arcs) e.groups e.each (in_range rule arcs e.identifier))

-- the arcs that are read from an encoding are those that it encodes
pub arcs_of_encoding : {rule : RootRule} {arcs octets : List ℕ} → IsEncoding rule arcs octets → arcs_of_octets octets ≡ arcs
arcs_of_encoding {rule} {arcs} {octets} e =
    rw (cut_encoding rule arcs octets e, groups_valued (subidentifiers arcs) e.groups e.each) (arcs_back rule arcs e.identifier)

-- an encoding is that of the arcs that are read from it
pub encoding_back : {rule : RootRule} {arcs octets : List ℕ} → IsEncoding rule arcs octets → IsEncoding rule (arcs_of_octets octets) octets
encoding_back e = rw (arcs_of_encoding e) e

-- the later arcs are the values of the later parts
pub later_arcs : (rule : RootRule) (arcs octets : List ℕ) → IsEncoding rule arcs octets
    → drop 2 arcs ≡ map value_of (drop 1 (cut octets))
later_arcs rule (first ∷ second ∷ later) octets encoding =
    let numbers = subidentifiers (first ∷ second ∷ later) in
    ap (drop 1) (sym (groups_valued numbers encoding.groups encoding.each))
    ∙ drop-map value_of 1 encoding.groups
    ∙ ap (λ groups. map value_of (drop 1 groups)) (sym (cut_encoding rule (first ∷ second ∷ later) octets encoding))
later_arcs rule _ octets encoding = absurd encoding.identifier

-- no two lists of arcs have one encoding
pub same_arcs : {rule : RootRule} {a b octets : List ℕ} → IsEncoding rule a octets → IsEncoding rule b octets → a ≡ b
same_arcs p q = sym (arcs_of_encoding p) ∙ arcs_of_encoding q

-- ---- with the capacity

pub octet_fault-fits : {rule : RootRule} {arcs octets : List ℕ} (capacity : ℕ) → IsEncoding rule arcs octets → length octets ≤ capacity → octet_fault rule octets capacity ≡ None
octet_fault-fits {octets} capacity e fits = rw (none_from_encoding e, le-ltb capacity (length octets) fits)

pub octet_fault-long : {rule : RootRule} {arcs octets : List ℕ} (capacity : ℕ) → IsEncoding rule arcs octets → capacity < length octets → octet_fault rule octets capacity ≡ Some Length
octet_fault-long {octets} capacity e long = rw (none_from_encoding e, lt-ltb capacity (length octets) long)

pub fits_from_none : (rule : RootRule) (octets : List ℕ) (capacity : ℕ) → octet_fault rule octets capacity ≡ None → (parts_fault rule (cut octets) ≡ None) × (length octets ≤ capacity)
fits_from_none rule octets capacity h = search rules

-- ---- each identifier has just one

groups_are : (numbers : List ℕ) → AllZip IsGroup numbers (map group_of numbers)
groups_are [] = tt
groups_are (n ∷ ns) = (group_is n, groups_are ns)

pub encoding_is : (rule : RootRule) (arcs : List ℕ) → IsIdentifier rule arcs → IsEncoding rule arcs (encoding_of arcs)
unfolding encoding_of
encoding_is rule arcs h = grind (arith, groups_are)

same_groups : (numbers : List ℕ) (gs hs : List (List ℕ)) → AllZip IsGroup numbers gs → AllZip IsGroup numbers hs → gs ≡ hs
same_groups [] [] [] p q = refl
same_groups (n ∷ ns) (g ∷ gs) (h ∷ hs) p q = let s = same_group p.0 q.0 in let t = same_groups ns gs hs p.1 q.1 in cc
same_groups _ _ _ p q = absurd assumption

pub same_octets : {rule : RootRule} {arcs a b : List ℕ} → IsEncoding rule arcs a → IsEncoding rule arcs b → a ≡ b
same_octets {arcs} p q = grind (arith, same_groups)

pub encoding_of-encoded : {rule : RootRule} {arcs octets : List ℕ} → IsEncoding rule arcs octets → encoding_of arcs ≡ octets
encoding_of-encoded {rule} {arcs} e = same_octets (encoding_is rule arcs e.identifier) e

-- encodings are the same exactly where their arcs are
pub iff_arcs : {rule : RootRule} {x y a b : List ℕ} (P : Type 0) → IsEncoding rule x a → IsEncoding rule y b → P ↔ (a ≡ b) → P ↔ (x ≡ y)
iff_arcs P e f iff = (λ p. same_arcs (rw (iff.0 p) at e) f, λ s. iff.1 (same_octets (rw s at e) f))

-- ---- the narrow rule: one octet for the first two arcs

pub root_octet : (first second : ℕ) (later octets : List ℕ) → IsEncoding Narrow (first ∷ second ∷ later) octets
    → (groups : List (List ℕ)) × AllZip IsGroup later groups × (octets ≡ (40 * first + second) ∷ concat groups)
root_octet first second later octets encoding = by encoding.groups encoding.each encoding.joined
  where
    by : (groups : List (List ℕ)) → AllZip IsGroup ((40 * first + second) ∷ later) groups → octets ≡ concat groups
        → (groups : List (List ℕ)) × AllZip IsGroup later groups × (octets ≡ (40 * first + second) ∷ concat groups)
    by [] each joined = absurd each
    by (group ∷ groups) each joined =
        let identifier = encoding.identifier in
        let small = first_in_range Narrow first second identifier.0 identifier.1 in
        (groups, each.1, joined ∙ ap (λ start. start ++ concat groups) (group-small (omega arith) each.0))

pub encoding_from_root : (first second : ℕ) (later : List ℕ) (groups : List (List ℕ))
    → IsIdentifier Narrow (first ∷ second ∷ later) → AllZip IsGroup later groups
    → IsEncoding Narrow (first ∷ second ∷ later) ((40 * first + second) ∷ concat groups)
encoding_from_root first second later groups identifier each =
    let small = first_in_range Narrow first second identifier.0 identifier.1 in
    record {
      identifier = identifier;
      groups = ((40 * first + second) ∷ []) ∷ groups;
      each = (small_is (40 * first + second) (omega arith), each);
      joined = refl;
    }

-- ---- what identifiers hold encodes their arcs

pub oid_encoding : {N : ℕ} (oid : ObjectIdentifier N) → IsEncoding root_rule (oid_arcs oid) (oid_octets oid)
oid_encoding oid = encoding_from_none root_rule (oid_octets oid) oid.ber.octets oid.valid

pub ref_encoding : (oid : ObjectIdentifierRef) → IsEncoding root_rule (ref_arcs oid) (ref_octets oid)
ref_encoding oid = encoding_from_none root_rule (ref_octets oid) oid.octets oid.valid
