-- Parents and children as lists, and by their octets.
use Rattle.std.proofs.Common.{◌≡◌, ℕ, ◌≤◌, List, [], ◌∷◌, ◌++◌, Some, refl, ap, arith, lt-ltb, length-append, ◌+◌}
use Rattle.std.proofs.Common.{◌*◌, None, sym, ◌∙◌, append-nil, rules}
use Rattle.std.specs.List.{AllByRecursion, AllZip, concat}
use Rattle.std.proofs.lemmas.Grind.{common_steps}
use Rattle.std.proofs.lemmas.Bool.Decides.{nat_tests}
use Rattle.const_oid.specs.Identifier.{RootRule, max_arc, IsIdentifier, max_second, IsEncoding, subidentifiers}
use Rattle.const_oid.specs.Tree.{child_of, parent_of}
use Rattle.std.proofs.lemmas.List.Folds.{concat-append}
use Rattle.const_oid.specs.Base128.{IsGroup, group_of}
use Rattle.const_oid.specs.Private.Octets.{GoesOn}
use Rattle.const_oid.specs.Contents.{cut, parts_fault, arcs_of_octets}
use Rattle.const_oid.proofs.Lists.{all_append, all_at}
use Rattle.const_oid.proofs.Groups.{group_is}
use Rattle.const_oid.proofs.Texts.{arcs_small}
use Rattle.const_oid.proofs.Encodings.{cut_encoding, none_from_encoding, arcs_of_encoding, encoding_is, same_octets}

pub parent_of-child_of : (rule : RootRule) (arcs : List ℕ) (arc : ℕ) → IsIdentifier rule arcs
    → parent_of (child_of arcs arc) ≡ Some arcs
parent_of-child_of rule arcs arc i = grind (arith, nat_tests, common_steps, length-append, lt-ltb)

-- a list by its last number
split : (P : ℕ → Type 0) (x : ℕ) (xs : List ℕ) → AllByRecursion P (x ∷ xs)
    → (prefix : List ℕ) × (last : ℕ) × (x ∷ xs ≡ prefix ++ last ∷ []) × AllByRecursion P prefix × P last
split P x [] holds = ([], x, refl, tt, holds.0)
split P x (y ∷ ys) holds =
    let (prefix, last, joined, all, is) = split P y ys holds.1 in
    (x ∷ prefix, last, ap (λ zs. x ∷ zs) joined, (holds.0, all), is)

-- an identifier with a parent is its child by the last arc
pub child_of-parent_of : (rule : RootRule) (arcs parent : List ℕ) → IsIdentifier rule arcs
    → parent_of arcs ≡ Some parent
    → IsIdentifier rule parent × (last : ℕ) × (last ≤ max_arc) × (child_of parent last ≡ arcs)
child_of-parent_of rule (first ∷ second ∷ []) parent identifier is_parent = cc
child_of-parent_of rule (first ∷ second ∷ third ∷ later) parent identifier is_parent =
    let (prefix, last, joined, all, small) = split (λ arc. arc ≤ max_arc) third later identifier.2 in
    let found = parent_of-child_of rule (first ∷ second ∷ prefix) last (identifier.0, identifier.1, all) in
    let same : parent ≡ first ∷ second ∷ prefix = cc in
    rw (same, joined) ((identifier.0, identifier.1, all), last, small, refl)
child_of-parent_of rule _ parent identifier is_parent = absurd identifier

-- ---- one arc more

zip_push : (numbers : List ℕ) (n : ℕ) (gs : List (List ℕ)) (g : List ℕ) → AllZip IsGroup numbers gs → IsGroup n g
    → AllZip IsGroup (numbers ++ n ∷ []) (gs ++ g ∷ [])
zip_push [] n [] g p q = (q, tt)
zip_push (m ∷ ms) n (h ∷ hs) g p q = (p.0, zip_push ms n hs g p.1 q)
zip_push _ n _ g p q = absurd p

identifier_push : (rule : RootRule) (arcs : List ℕ) (arc : ℕ) → IsIdentifier rule arcs → arc ≤ max_arc
    → IsIdentifier rule (arcs ++ arc ∷ [])
identifier_push rule arcs arc i l = grind (arith, all_append)

subidentifiers-push : (rule : RootRule) (arcs : List ℕ) (arc : ℕ) → IsIdentifier rule arcs
    → subidentifiers (arcs ++ arc ∷ []) ≡ subidentifiers arcs ++ arc ∷ []
subidentifiers-push rule arcs arc i = search rules

-- a child's encoding is its parent's and one group
pub encoding_push : {rule : RootRule} {arcs octets : List ℕ} {arc : ℕ} {group : List ℕ}
    → IsEncoding rule arcs octets → arc ≤ max_arc → IsGroup arc group
    → IsEncoding rule (arcs ++ arc ∷ []) (octets ++ group)
encoding_push {rule} {arcs} {arc} {group} encoding small is = record {
  identifier = identifier_push rule arcs arc encoding.identifier small;
  groups = encoding.groups ++ group ∷ [];
  each = rw (subidentifiers-push rule arcs arc encoding.identifier)
      (zip_push _ arc encoding.groups group encoding.each is);
  joined = rw (encoding.joined, concat-append encoding.groups (group ∷ []), append-nil group);
}

-- the first two arcs are one group
pub encoding_two : (rule : RootRule) (a b : ℕ) (group : List ℕ) → a ≤ 2 → b ≤ max_second rule a
    → IsGroup (40 * a + b) group → IsEncoding rule (a ∷ b ∷ []) group
encoding_two rule a b group p q g =
    record { identifier = (p, q, tt); groups = group ∷ []; each = (g, tt); joined = sym (append-nil group) }

-- the octets of a child
module _ {rule : RootRule} {arcs octets : List ℕ} (longer : List ℕ) (arc : ℕ) (e : IsEncoding rule arcs octets)
    (small : arc ≤ max_arc) (more : GoesOn arc octets longer) where
  pub child_encoding : IsEncoding rule (arcs ++ arc ∷ []) longer
  child_encoding = let (group, is, joined) = more in rw joined (encoding_push e small is)

  pub child_none : parts_fault rule (cut longer) ≡ None
  child_none = none_from_encoding child_encoding

  pub child_arcs : arcs_of_octets longer ≡ arcs ++ arc ∷ []
  child_arcs = arcs_of_encoding child_encoding

-- ---- one arc less

-- a parent's encoding is its child's without the last part
pub encoding_parent : (rule : RootRule) (arcs octets : List ℕ) (arc : ℕ) → IsIdentifier rule arcs
    → IsEncoding rule (arcs ++ arc ∷ []) octets
    → (parts : List (List ℕ)) × (last : List ℕ)
    × (cut octets ≡ parts ++ last ∷ []) × IsEncoding rule arcs (concat parts)
unfolding encoding_push
encoding_parent rule arcs octets arc identifier encoding =
    let parent = encoding_is rule arcs identifier in
    let small = all_at (λ n. n ≤ max_arc) arcs arc [] (arcs_small rule (arcs ++ arc ∷ []) encoding.identifier) in
    let child = encoding_push parent small (group_is arc) in
    let parts = ap cut (same_octets encoding child) ∙ cut_encoding rule (arcs ++ arc ∷ []) _ child in
    (parent.groups, group_of arc, parts, rw (← parent.joined) parent)
