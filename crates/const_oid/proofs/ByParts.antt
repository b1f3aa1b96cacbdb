-- The order of arcs is that of the parts of their encodings, a shorter part first.
use Rattle.std.proofs.Common.{◌≡◌, ◌≢◌, ℕ, suc, ◌+◌, ◌<◌, ◌≤◌, List, [], ◌∷◌, ◌++◌, length, min, take, drop, get_or, refl, sym, ap}
use Rattle.std.proofs.Common.{◌∙◌, ⊎_elim, arith, Ordering, Less, Equal, Greater, nat_cmp, length-append, Some, rules}
use Rattle.std.specs.{Prelude.{◌↔◌, slice_get}, List.{AllZip, onto_first, concat}, Ordering.{ordering_then, is_eq, MatchOrdering}}
use Rattle.std.specs.Cmp.Lexicographic.{slice_cmp, nat_list_cmp_total, lists_total, texts_ties, same_text}
use Rattle.std.specs.Cmp.{IsTotalOrder, nat_cmp_is, on_total}
use Rattle.std.proofs.lemmas.{Bool.cases_lt, Cmp.tied_itself, List.{drop_all, drop_more, length-drop, take-append-drop}, Grind.common_steps}
use Rattle.std.proofs.lemmas.Bool.Decides.{nat_tests}
use Rattle.const_oid.specs.{Base128.IsGroup, Contents.cut, Private.Octets.{first_length, length_at, lens_cmp}}
use Rattle.const_oid.specs.Orders.{shortlex_cmp, shortlex_cmp_total, shortlex_cmp_ties, parts_cmp}
use Rattle.const_oid.specs.{Identifier.{RootRule, IsIdentifier, IsEncoding, subidentifiers}, Tree.BeginsWith}
use Rattle.const_oid.proofs.{BeginsWith.{before_more, between}, Cutting.{cut_after-last, cut_after-more, concat-cut}}
use Rattle.const_oid.proofs.Encodings.{cut_encoding, same_arcs, same_octets}
use Rattle.const_oid.proofs.Shortlex.{groups_cmp, groups_short, shortlex_cmp-less, split_cmp}

-- ---- octets compared from an index on

-- the first part begins with the first octet
begins : (x : ℕ) (xs : List ℕ) → (part : List ℕ) × (parts : List (List ℕ)) × (cut (x ∷ xs) ≡ (x ∷ part) ∷ parts)
begins x xs = ⊎_elim
    (λ (last : x < 128). ([], cut xs, cut_after-last x (cut xs) last))
    (λ (more : 128 ≤ x). rw (cut_after-more x (cut xs) more) (onto (cut xs)))
    (cases_lt x 128)
  where
    onto : (rest : List (List ℕ)) → (part : List ℕ) × (parts : List (List ℕ)) × (onto_first x rest ≡ (x ∷ part) ∷ parts)
    onto [] = ([], [], refl)
    onto (part ∷ parts) = (part, parts, refl)

-- after an octet that both begin with, the order is the same
onto_same : (octet : ℕ) (xs ys : List ℕ)
    → slice_cmp shortlex_cmp (onto_first octet (cut xs)) (onto_first octet (cut ys)) ≡ parts_cmp xs ys
onto_same octet [] [] = rw (tied_itself shortlex_cmp_total (octet ∷ []))
onto_same octet [] (y ∷ ys) =
    let (part, parts, is) = begins y ys in rw (is, shortlex_cmp-less (octet ∷ []) (octet ∷ y ∷ part) (omega arith))
onto_same octet (x ∷ xs) [] = search rules
onto_same octet (x ∷ xs) (y ∷ ys) = grind (arith, nat_tests)

same_first : (x : ℕ) (xs ys : List ℕ) → parts_cmp (x ∷ xs) (x ∷ ys) ≡ parts_cmp xs ys
same_first x xs ys = grind (arith, cut_after-last, tied_itself, cut_after-more, onto_same, cases_lt)

-- what lists begin with alike does not decide
same_prefix : (g x y : List ℕ) → parts_cmp (g ++ x) (g ++ y) ≡ parts_cmp x y
same_prefix [] x y = refl
same_prefix (b ∷ g) x y = same_first b (g ++ x) (g ++ y) ∙ same_prefix g x y

pub same_up_to : (a b : List ℕ) (n : ℕ) → take n a ≡ take n b → parts_cmp a b ≡ parts_cmp (drop n a) (drop n b)
same_up_to a b n same =
    let f : take n a ++ drop n b ≡ b = rw same (take-append-drop n b) in
    rw (take-append-drop n a, f) at (same_prefix (take n a) (drop n a) (drop n b))

-- at the end of one of them the longer one is the later one
ended : (xs ys : List ℕ) → min (length xs) (length ys) ≡ 0 → parts_cmp xs ys ≡ nat_cmp (length xs) (length ys)
ended [] [] e = refl
ended [] (y ∷ ys) e = let (q, qs, f) = begins y ys in rw f (nat_cmp_is 0 (length (y ∷ ys)) Less (omega arith))
ended (x ∷ xs) [] e = let (p, ps, f) = begins x xs in rw f (nat_cmp_is (length (x ∷ xs)) 0 Greater (omega arith))
ended (x ∷ xs) (y ∷ ys) e = absurd (omega arith)

pub ended_parts : (a b : List ℕ) → (let end = min (length a) (length b) in take end a ≡ take end b)
    → parts_cmp a b ≡ nat_cmp (length a) (length b)
ended_parts a b same = grind (arith, length-drop, ended, same_up_to a b (min (length a) (length b)) same)

-- ---- the lengths of the parts that begin at an index

one_last : (x : ℕ) (xs : List ℕ) → x < 128 → first_length (cut (x ∷ xs)) ≡ 1
one_last x xs last = rw (cut_after-last x (cut xs) last) refl

one_more : (x : ℕ) (xs : List ℕ) → 128 ≤ x → first_length (cut (x ∷ xs)) ≡ suc (first_length (cut xs))
one_more x xs more = rw (cut_after-more x (cut xs) more) (onto (cut xs)) where
  onto : (parts : List (List ℕ)) → first_length (onto_first x parts) ≡ suc (first_length parts)
  onto [] = refl
  onto (part ∷ parts) = refl

some_length : (xs : List ℕ) → 0 < length xs → 0 < first_length (cut xs)
some_length [] some = absurd (omega arith)
some_length (x ∷ xs) some = let (part, parts, is) = begins x xs in rw is (omega arith)

module _ (octets : List ℕ) (index : ℕ) where
  -- an octet below 128 ends its part
  pub ends_below : index < length octets → get_or octets index 0 < 128 → length_at octets index ≡ 1
  ends_below inside last = rw (drop_more octets index 0 inside) (one_last _ (drop (index + 1) octets) last)

  goes_on : index < length octets → 128 ≤ get_or octets index 0
      → length_at octets index ≡ suc (length_at octets (index + 1))
  goes_on inside more = rw (drop_more octets index 0 inside) (one_more _ (drop (index + 1) octets) more)

  -- and so does the last one
  pub ends_last : index + 1 ≡ length octets → 128 ≤ get_or octets index 0 → length_at octets index ≡ 1
  ends_last end more = goes_on (omega (arith, end)) more ∙ rw (drop_all (index + 1) octets (omega (arith, end))) refl

  pub more_after : index + 1 < length octets → 128 ≤ get_or octets index 0 → 1 < length_at octets index
  more_after inside more =
      omega (arith, goes_on (omega arith) more, some_length (drop (index + 1) octets) (omega (arith, length-drop (index + 1) octets)))

pub ruleset part_ends = (ends_below, ends_last, more_after)

-- both go on
pub lens_on : (a b : List ℕ) (index : ℕ) → index < min (length a) (length b)
    → 128 ≤ get_or a index 0 → 128 ≤ get_or b index 0 → lens_cmp index a b ≡ lens_cmp (index + 1) a b
lens_on a b index inside more_a more_b =
    rw (goes_on a index (omega arith) more_a, goes_on b index (omega arith) more_b) (grind (arith, nat_tests))

abbrev IsOrder : Ordering → ℕ → ℕ → Type 0
IsOrder order m n = MatchOrdering order (m < n) (m ≡ n) (n < m)

-- where one of the octets ends, the longer part is that of the longer one
pub lens_ended : (a b : List ℕ) (index : ℕ) → index ≡ min (length a) (length b)
    → lens_cmp index a b ≡ nat_cmp (length a) (length b)
lens_ended a b index end = ⊎_elim
    (λ (less : length a < length b). same Less (omega (arith, none a (omega arith), some b (omega arith))) less)
    (λ (least : length b ≤ length a). ⊎_elim
    (λ (more : length b < length a). same Greater (omega (arith, none b (omega arith), some a (omega arith))) more)
    (λ (most : length a ≤ length b). same Equal (omega (arith, none a (omega arith), none b (omega arith))) (omega arith))
    (cases_lt (length b) (length a)))
    (cases_lt (length a) (length b))
  where
    none : (octets : List ℕ) → length octets ≤ index → length_at octets index ≡ 0
    none octets last = rw (drop_all index octets last) refl

    some : (octets : List ℕ) → index < length octets → 0 < length_at octets index
    some octets inside = some_length (drop index octets) (omega (arith, length-drop index octets))

    same : (order : Ordering) → IsOrder order (length_at a index) (length_at b index) → IsOrder order (length a) (length b)
        → lens_cmp index a b ≡ nat_cmp (length a) (length b)
    same order lens all = sym (nat_cmp_is _ _ order lens) ∙ nat_cmp_is _ _ order all

-- ---- any octets

pub parts_total : IsTotalOrder parts_cmp
parts_total = on_total cut (lists_total shortlex_cmp_total)

-- only equal lists tie
tied_short : (g h : List ℕ) → shortlex_cmp g h ≡ Equal → g ≡ h
tied_short g h tie = same_text g h (sym (shortlex_cmp_ties g h ∙ ap is_eq tie))

tied_parts : (gs hs : List (List ℕ)) → slice_cmp shortlex_cmp gs hs ≡ Equal → gs ≡ hs
tied_parts [] [] tie = refl
tied_parts (g ∷ gs) (h ∷ hs) tie = grind (arith, common_steps, tied_parts gs hs, tied_short g h)
tied_parts _ _ tie = absurd (grind arith)

pub parts_same : (xs ys : List ℕ) → (parts_cmp xs ys ≡ Equal) ↔ (xs ≡ ys)
parts_same xs ys = (
  λ tie. sym (concat-cut xs) ∙ ap concat (tied_parts (cut xs) (cut ys) tie) ∙ concat-cut ys,
  λ same. rw same (tied_itself parts_total ys),
)

-- ---- the order of the arcs

numbers_cmp : (ns ms : List ℕ) (gs hs : List (List ℕ))
    → AllZip IsGroup ns gs → AllZip IsGroup ms hs → slice_cmp shortlex_cmp gs hs ≡ slice_cmp nat_cmp ns ms
numbers_cmp [] [] [] [] groups others = refl
numbers_cmp [] (m ∷ ms) [] (other ∷ hs) groups others = refl
numbers_cmp (n ∷ ns) [] (group ∷ gs) [] groups others = refl
numbers_cmp (n ∷ ns) (m ∷ ms) (group ∷ gs) (other ∷ hs) groups others =
    rw (groups_short groups.0 others.0, numbers_cmp ns ms gs hs groups.1 others.1)
numbers_cmp _ _ _ _ groups others = absurd assumption

-- where the groups at each index are of one length, the octets are in the order of the numbers
abbrev pub AreLevel : List (List ℕ) → List (List ℕ) → Type 0
AreLevel gs hs = (i : ℕ) (g h : List ℕ) → slice_get gs i ≡ Some g → slice_get hs i ≡ Some h → length g ≡ length h

level_append : (g h x y : List ℕ) → length g ≡ length h
    → slice_cmp nat_cmp (g ++ x) (h ++ y) ≡ ordering_then (slice_cmp nat_cmp g h) (slice_cmp nat_cmp x y)
level_append g h x y l = grind (arith, common_steps, split_cmp (length g) (g ++ x) (h ++ y))

level_numbers : (ns ms : List ℕ) (gs hs : List (List ℕ))
    → AllZip IsGroup ns gs → AllZip IsGroup ms hs → AreLevel gs hs
    → slice_cmp nat_cmp (concat gs) (concat hs) ≡ slice_cmp nat_cmp ns ms
level_numbers [] [] [] [] groups others level = refl
level_numbers [] (m ∷ ms) [] ((x ∷ other) ∷ hs) groups others level = refl
level_numbers (n ∷ ns) [] ((x ∷ group) ∷ gs) [] groups others level = refl
level_numbers (n ∷ ns) (m ∷ ms) (group ∷ gs) (other ∷ hs) groups others level =
    let long : length group ≡ length other = level 0 group other refl refl in
    let later = level_numbers ns ms gs hs groups.1 others.1
    (λ i left right at_group at_other. level (suc i) left right at_group at_other) in
    level_append group other (concat gs) (concat hs) long ∙ rw (groups_cmp groups.0 others.0 long, later) refl
level_numbers _ _ _ _ groups others level = absurd assumption

subidentifiers_cmp : (rule : RootRule) (xs ys : List ℕ) → IsIdentifier rule xs → IsIdentifier rule ys
    → slice_cmp nat_cmp (subidentifiers xs) (subidentifiers ys) ≡ slice_cmp nat_cmp xs ys
subidentifiers_cmp rule xs ys i j = grind (arith, nat_tests, common_steps)

module _ {rule : RootRule} {p x a b : List ℕ} (e : IsEncoding rule p a) (f : IsEncoding rule x b) where
  -- encodings in the order of their parts are in the order of their arcs
  pub arcs_cmp : parts_cmp a b ≡ slice_cmp nat_cmp p x
  arcs_cmp =
      rw (cut_encoding rule p a e, cut_encoding rule x b f)
      (numbers_cmp _ _ e.groups f.groups e.each f.each ∙ subidentifiers_cmp rule p x e.identifier f.identifier)

  pub level_cmp : AreLevel (cut a) (cut b) → slice_cmp nat_cmp a b ≡ slice_cmp nat_cmp p x
  level_cmp level =
      let l : AreLevel e.groups f.groups = rw (cut_encoding rule p a e, cut_encoding rule x b f) at level in
      rw (e.joined, f.joined)
      (level_numbers _ _ e.groups f.groups e.each f.each l ∙ subidentifiers_cmp rule p x e.identifier f.identifier)

  -- they tie exactly where the octets are equal
  pub same_exactly : (slice_cmp nat_cmp p x ≡ Equal) ↔ (a ≡ b)
  same_exactly = (
    λ tie. let same : p ≡ x = same_text p x (sym (texts_ties p x ∙ ap is_eq tie)) in same_octets e (rw (sym same) at f),
    λ same. rw (same_arcs (rw same at e) f) (tied_itself nat_list_cmp_total x),
  )

-- an ancestor is first
pub ancestor_first : (p x : List ℕ) → BeginsWith x p → length p < length x → slice_cmp nat_cmp p x ≡ Less
ancestor_first p x (rest, e) l = rw e (before_more p rest (omega (arith, ap length e, length-append p rest)))

-- what begins with a list is one run
pub run_between : (p x y z : List ℕ) → BeginsWith x p → BeginsWith z p
    → slice_cmp nat_cmp y x ≢ Less → slice_cmp nat_cmp y z ≢ Greater → BeginsWith y p
run_between p x y z (xs, e) (zs, f) h k = between p xs y zs (rw e at h) (rw f at k)
