-- What begins with a prefix: encodings do exactly where their arcs do, and are adjacent in lexicographic order.
use Rattle.std.proofs.Common.{◌≡◌, ℕ, List, [], ◌∷◌, ◌++◌, refl, sym, ap, ap₂, ◌∙◌, append_assoc, ◌≢◌, ◌<◌, length}
use Rattle.std.proofs.Common.{take, arith, Less, Greater, nat_cmp, append-nil, length-append, Bool, true, false, ◌||◌}
use Rattle.std.proofs.Common.{nat_eq}
use Rattle.std.specs.{List.{AllZip, concat, starts_with}, Prelude.{◌↔◌, IsTrue}, Cmp.{unsigned_Decides, ranks}}
use Rattle.std.specs.{Cmp.Lexicographic.{pointwise, slice_cmp}, Ordering.{is_lt, ordering_reverse}}
use Rattle.std.proofs.lemmas.{Bool.{or_cases, or_left, or_right}, Cmp.{nat_list_cmp_total, by_ranked}}
use Rattle.std.proofs.lemmas.{List.Sorted.ranks_by, Slice.Eq.starts_is, Grind.common_steps, Bool.Decides.nat_tests}
use Rattle.const_oid.specs.{Base128.{value_of, IsContinued, IsGroup}, Identifier.{RootRule, IsEncoding, subidentifiers}}
use Rattle.const_oid.specs.{Tree.BeginsWith, Orders.shortlex_cmp}
use Rattle.const_oid.proofs.{Groups.{same_prefix, same_group}, Subidentifiers.arcs_back, Encodings.same_arcs}
use Rattle.const_oid.proofs.Shortlex.{slice_cmp-prefix}

chain_not_empty : (g x : List ℕ) → IsContinued g → [] ≡ g ++ x → ⊥
chain_not_empty [] x c e = c
chain_not_empty (a ∷ g) x c e = cc

-- numbers whose groups begin others
numbers_prefix : (ns ms : List ℕ) (gs hs : List (List ℕ)) (rest : List ℕ) → AllZip IsGroup ns gs → AllZip IsGroup ms hs
    → concat hs ≡ concat gs ++ rest → BeginsWith ms ns
numbers_prefix [] ms [] hs rest groups others same = (ms, refl)
numbers_prefix (n ∷ ns) (m ∷ ms) (group ∷ gs) (other ∷ hs) rest groups others same =
    let joined = same ∙ append_assoc group (concat gs) rest in
    let (first, later) = same_prefix other group (concat hs) (concat gs ++ rest) others.0.continued groups.0.continued joined in
    let (more, begins) = numbers_prefix ns ms gs hs rest groups.1 others.1 later in
    let number : m ≡ n = others.0.value ∙ ap value_of first ∙ sym groups.0.value in
    (more, cc)
numbers_prefix (n ∷ ns) [] (group ∷ gs) [] rest groups others same = grind (arith, chain_not_empty, append_assoc)
numbers_prefix _ _ _ _ rest groups others same = absurd assumption

-- groups of numbers that begin others
octets_prefix : (ns more : List ℕ) (gs hs : List (List ℕ)) → AllZip IsGroup ns gs → AllZip IsGroup (ns ++ more) hs
    → BeginsWith (concat hs) (concat gs)
octets_prefix [] more [] hs groups others = (concat hs, refl)
octets_prefix (n ∷ ns) more (group ∷ gs) (other ∷ hs) groups others =
    let (rest, later) = octets_prefix ns more gs hs groups.1 others.1 in
    (rest, ap₂ (λ xs ys. xs ++ ys) (same_group others.0 groups.0) later ∙ sym (append_assoc group (concat gs) rest))
octets_prefix _ more _ _ groups others = absurd assumption

-- the arcs of p begin those of x
pub arcs_prefix : (rule : RootRule) (p x a b : List ℕ) → IsEncoding rule p a → IsEncoding rule x b
    → BeginsWith b a → BeginsWith x p
arcs_prefix rule p x a b e f s = grind (arith, numbers_prefix, arcs_back)

-- the octets of arcs begin those of arcs below them
pub encoding_prefix : (rule : RootRule) (above below upper lower : List ℕ) → IsEncoding rule above upper
    → IsEncoding rule below lower → BeginsWith below above → BeginsWith lower upper
encoding_prefix rule (first ∷ second ∷ later) below upper lower prefix longer (more, begins) =
    let numbers = subidentifiers (first ∷ second ∷ later) in
    let (rest, joined) = octets_prefix numbers more prefix.groups longer.groups prefix.each (rw (ap subidentifiers begins) at longer.each) in
    (rest, longer.joined ∙ joined ∙ ap (λ octets. octets ++ rest) (sym prefix.joined))
encoding_prefix rule _ below upper lower prefix longer begins = absurd prefix.identifier

-- encodings begin others exactly where their arcs begin theirs
pub iff_begins : {rule : RootRule} {x p b a : List ℕ} (P : Type 0)
    → IsEncoding rule x b → IsEncoding rule p a → P ↔ BeginsWith b a → P ↔ BeginsWith x p
iff_begins {rule} {x} {p} {b} {a} P f e iff =
    (λ t. arcs_prefix rule p x a b e f (iff.0 t), λ h. iff.1 (encoding_prefix rule p x a b e f h))

-- ---- ranges in lexicographic order

-- what is between two lists that begin with the prefix begins with it, too
pub between : (prefix low middle high : List ℕ) → slice_cmp nat_cmp middle (prefix ++ low) ≢ Less
    → slice_cmp nat_cmp middle (prefix ++ high) ≢ Greater → BeginsWith middle prefix
between [] low middle high from to = (middle, refl)
between (arc ∷ prefix) low [] high from to = absurd (from refl)
between (arc ∷ prefix) low (first ∷ middle) high from to = by_ranked _ _ _ (nat_cmp first arc) (ranks first arc)
    (λ is less. absurd (from (rw is refl)))
    (λ is same.
    let (rest, begins) = between prefix low middle high (λ less. from (rw is less)) (λ greater. to (rw is greater)) in
    (rest, cc))
    (λ is greater. absurd (to (rw is refl)))

-- so does an identifier whose encoding is between those of two that begin with another
pub encodings_between : {rule : RootRule} {above low middle high upper first octets last : List ℕ}
    → IsEncoding rule above upper
    → IsEncoding rule low first → IsEncoding rule middle octets → IsEncoding rule high last
    → BeginsWith low above → BeginsWith high above
    → slice_cmp nat_cmp octets first ≢ Less → slice_cmp nat_cmp octets last ≢ Greater → BeginsWith middle above
encodings_between {rule} {above} {low} {middle} {high} {upper} {first} {octets} {last}
    encodes encodes_low encodes_middle encodes_high begins begins' from to =
    let (more, joined) = encoding_prefix rule above low upper first encodes encodes_low begins in
    let (more', joined') = encoding_prefix rule above high upper last encodes encodes_high begins' in
    arcs_prefix rule above middle upper octets encodes encodes_middle
    (between upper more octets more' (rw joined at from) (rw joined' at to))

pub before_more : (a rest : List ℕ) → 0 < length rest → slice_cmp nat_cmp a (a ++ rest) ≡ Less
before_more a [] some = absurd (omega arith)
before_more a (y ∷ ys) some = rw append-nil at (slice_cmp-prefix a [] (y ∷ ys))

-- a descendant's encoding is longer, so an ancestor comes before it in both orders
module _ {rule : RootRule} {above below upper lower : List ℕ} (prefix : IsEncoding rule above upper)
    (encoding : IsEncoding rule below lower) (begins : BeginsWith below above)
    (deeper : length above < length below) where
  longer : (rest : List ℕ) × (lower ≡ upper ++ rest) × (0 < length rest)
  longer =
      let (rest, joined) = encoding_prefix rule above below upper lower prefix encoding begins in
      (rest, joined, some rest joined)
    where
      some : (rest : List ℕ) → lower ≡ upper ++ rest → 0 < length rest
      some [] split =
          let same = same_arcs {a = above} (rw (split ∙ append-nil upper) prefix) encoding in
          absurd (omega (arith, ap length same))
      some (y ∷ ys) split = omega arith

  pub ancestor_short : shortlex_cmp upper lower ≡ Less
  ancestor_short = search (arith, longer, length-append)

  pub ancestor_before : slice_cmp nat_cmp upper lower ≡ Less
  ancestor_before = search (arith, longer, before_more)

-- ---- by tests

abbrev pub is_before : List ℕ → List ℕ → Bool
is_before prefix list = is_lt (slice_cmp nat_cmp list prefix)

abbrev pub is_under : List ℕ → List ℕ → Bool
is_under prefix list = starts_with nat_eq list prefix

abbrev pub is_within : List ℕ → List ℕ → Bool
is_within prefix list = is_before prefix list || is_under prefix list

-- whether the octets at the start are the prefix
pub begins_iff : (octets prefix : List ℕ) (same : Bool) → same ≡ pointwise nat_eq prefix (take (length prefix) octets)
    → IsTrue same ↔ BeginsWith octets prefix
begins_iff octets prefix same e =
    let is = starts_is unsigned_Decides octets prefix same e in (λ t. (_, is.0 t), λ h. is.1 h.0 h.1)

pub under_iff : (prefix list : List ℕ) → (is_under prefix list ≡ true) ↔ BeginsWith list prefix
under_iff prefix list = begins_iff list prefix (is_under prefix list) refl

pub tells_under : (prefix list : List ℕ) (test : Bool) → IsTrue test ↔ BeginsWith list prefix
    → test ≡ is_under prefix list
tells_under prefix list test tells = grind (arith, under_iff)

not_before_nil : (list : List ℕ) → is_before [] list ≡ false
not_before_nil [] = refl
not_before_nil (x ∷ xs) = refl

-- what begins with the prefix is not before it
pub under_apart : (prefix list : List ℕ) → is_under prefix list ≡ true → is_before prefix list ≡ false
under_apart prefix list t = grind (arith, nat_tests, common_steps, under_iff, slice_cmp-prefix, not_before_nil)

-- what is not after a list before the prefix is before it
pub before_down : (prefix x z : List ℕ) → is_before x z ≡ false → is_before prefix z ≡ true → is_before prefix x ≡ true
before_down prefix x z level t = grind (arith, ranks_by, nat_list_cmp_total)

pub not_greater : (x z : List ℕ) → is_before x z ≡ false → slice_cmp nat_cmp x z ≢ Greater
not_greater x z level greater = cc (level, ap is_lt (nat_list_cmp_total.antisymm z x ∙ ap ordering_reverse greater))

ruleset ors = (or_left, or_right, or_cases)

-- what is not after a list that is before the prefix or begins with it is so too
pub within_down : (prefix x z : List ℕ) → is_before x z ≡ false → is_within prefix z ≡ true → is_within prefix x ≡ true
within_down prefix x z level t =
    grind (arith, nat_tests, common_steps, ors, before_down, under_iff, between, append-nil, not_greater)
