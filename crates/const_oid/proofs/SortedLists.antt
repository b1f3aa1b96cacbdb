-- Lists in the order of arcs: where tests by octets cut them, and what is there.
use Rattle.std.proofs.Common.{◌≡◌, ◌≢◌, ℕ, ◌+◌, ◌-◌, ◌<◌, ◌≤◌, Bool, true, false, List, [], ◌∷◌, ◌++◌, length, take, drop, get_or}
use Rattle.std.proofs.Common.{Some, None, Less, nat_cmp, nat_eq, not, refl, sym, ap, ◌∙◌, arith, ⊎_elim, rules, slice_get}
use Rattle.std.proofs.Common.{length-append, append-nil, append_assoc}
use Rattle.std.specs.{Prelude.{◌↔◌, IfSome, IsFalse}, Cmp.Lexicographic.{pointwise, slice_cmp, same_text, texts_ties}}
use Rattle.std.specs.Ordering.{is_lt, is_ge}
use Rattle.std.specs.List.{All, AllWithin, HoldsAt, find, position, position_or_len}
use Rattle.std.specs.List.Sorted.{IsPartitionedBy, IsSortedByKey}
use Rattle.std.proofs.lemmas.{Cmp.{nat_list_cmp_total, nat_list_eq_equiv}, List.{get_or-drop, get_or-take, get_or_read, length-drop, length-take}, List.Folds.find_at}
use Rattle.std.proofs.lemmas.List.Sorted.{sorted_far, ranks_by}
use Rattle.std.proofs.lemmas.List.Sums.{passes_at_first, fails_before_first}
use Rattle.std.proofs.lemmas.{Option.{slice_get_cases}, Bool.{cases_lt, or_right, Decides.nat_tests}, Grind.common_steps}
use Rattle.const_oid.specs.{declared.oid_ref.ObjectIdentifierRef.ObjectIdentifierRef, OidRef.{ref_arcs, ref_octets}}
use Rattle.const_oid.specs.{Identifier.{root_rule, IsEncoding}, Names.IsNearestBy, Orders.parts_cmp}
use Rattle.const_oid.specs.{SortedList.{IsSortedList, item_arcs, has_item_arcs}, Tree.{BeginsWith}}
use Rattle.const_oid.specs.Private.Prefixes.{IsCommonPrefix}
use Rattle.const_oid.proofs.BeginsWith.{is_before, is_under, under_iff, tells_under, iff_begins, under_apart, within_down}
use Rattle.const_oid.proofs.BeginsWith.{arcs_prefix, encoding_prefix, before_more}
use Rattle.const_oid.proofs.{ByParts.{arcs_cmp, run_between}, Encodings.{ref_encoding, iff_arcs}}
use Rattle.const_oid.proofs.Subtree.{IsCut, key_before, key_under, cut_before, cut_by, under_between}

-- ---- a test by octets in place of one by arcs

module _ {X : Type 0} (p q : X → Bool) (xs : List X)
    (same : (k : ℕ) (d : X) → k < length xs → p (get_or xs k d) ≡ q (get_or xs k d)) where
  pub parted_as : IsPartitionedBy p xs → IsPartitionedBy q xs
  parted_as by i j d le l t = sym (same i d (omega arith)) ∙ by i j d le l (same j d l ∙ t)

  pub cut_as : (i : ℕ) → i ≤ length xs → IsCut q xs i → IsCut p xs i
  cut_as i w (early, late) = (
    λ k d z l. same k d (omega arith) ∙ early k d z l,
    λ k d m l. same k d l ∙ late k d m l,
  )

-- ---- the first element that passes a test

module _ {X : Type 0} (test : X → Bool) (xs : List X) where
  pub position_is : (i : ℕ) → i < length xs → AllWithin (λ item. test item ≡ false) xs 0 i
      → HoldsAt (λ item. test item ≡ true) xs i → Some i ≡ position test xs
  position_is i below early at = ⊎_elim
      (λ (item, inside, is, read).
      let before = early (position_or_len test xs) item in
      grind (arith, nat_tests, passes_at_first test xs item, fails_before_first test xs i item, before, at item))
      (λ (past, none). absurd (omega arith))
      (slice_get_cases xs i).1

  pub position_none : All (λ x. test x ≡ false) xs → None ≡ position test xs
  position_none none = ⊎_elim
      (λ (d, m, is, read). grind (arith, nat_tests, passes_at_first test xs d, none (position_or_len test xs) d))
      (λ (m, past). grind (arith, nat_tests))
      (slice_get_cases xs 0).1

  pub find_some : (i : ℕ) → Some i ≡ position test xs → find test xs ≡ slice_get xs i
  find_some i e = grind (arith, nat_tests, find_at, slice_get_cases xs i)

  pub find_none : None ≡ position test xs → find test xs ≡ None
  find_none e = grind (arith, nat_tests, find_at, slice_get_cases xs (position_or_len test xs))

-- ---- lists sorted by octets alone

-- valid items that are sorted by their parts are sorted by their arcs
pub sorted_by_parts : {Item : Type 0} (octets_of : Item → List ℕ) (items : List Item)
    → All (λ item. IsEncoding root_rule (item_arcs octets_of item) (octets_of item)) items
    → IsSortedByKey octets_of parts_cmp items → IsSortedList octets_of items
sorted_by_parts octets_of items valid sorted = record {
  valid = valid;
  sorted = λ at item from within.
      rw (← arcs_cmp (valid (at + 1) item within) (valid at item (omega arith))) (sorted at item from within);
}

-- ---- lists of arcs

upto_down : (arcs x z : List ℕ) → is_before x z ≡ false → is_ge (slice_cmp nat_cmp arcs z) ≡ true
    → is_ge (slice_cmp nat_cmp arcs x) ≡ true
upto_down arcs x z level t = grind (arith, ranks_by, nat_list_cmp_total)

none_before : (arcs x : List ℕ) → is_before arcs x ≡ true → pointwise nat_eq x arcs ≡ false
none_before arcs x early = grind (arith, texts_ties)

none_after : (arcs first x : List ℕ) → is_before arcs first ≡ false → is_before first x ≡ false
    → pointwise nat_eq first arcs ≡ false → pointwise nat_eq x arcs ≡ false
none_after arcs first x late level other = grind (arith, texts_ties, nat_list_cmp_total)

none_earlier : (arcs last x : List ℕ) → is_before last arcs ≡ false → is_before x last ≡ false
    → pointwise nat_eq last arcs ≡ false → pointwise nat_eq x arcs ≡ false
none_earlier arcs last x late level other = grind (arith, texts_ties, nat_list_cmp_total)

-- encodings are equal exactly where their arcs are
has_same : (a b x y : List ℕ) → IsEncoding root_rule x a → IsEncoding root_rule y b
    → pointwise nat_eq a b ≡ pointwise nat_eq x y
has_same a b x y e f =
    let arcs = iff_arcs (pointwise nat_eq a b ≡ true) e f (search rules) in
    search rules

-- what begins with the prefix is the prefix exactly if it is no longer
begins_same : (list prefix : List ℕ) → BeginsWith list prefix
    → pointwise nat_eq list prefix ≡ nat_eq (length list) (length prefix)
begins_same list prefix ([], split) = grind (arith, nat_tests, append-nil, nat_list_eq_equiv)
begins_same list prefix (x ∷ xs, split) = grind (arith, nat_tests, common_steps, length-append, same_text list prefix)

-- a test that fails for what begins with the prefix
pub tells_outside : (prefix list : List ℕ) (test : Bool) → IsFalse test ↔ BeginsWith list prefix
    → test ≡ not (is_under prefix list)
tells_outside prefix list test tells = grind (arith, nat_tests, under_iff)

-- ---- a sorted list

module _ {Item : Type 0} (octets_of : Item → List ℕ) (oid : ObjectIdentifierRef) (items : List Item)
    (list : IsSortedList octets_of items) where
  abbrev pub is_early : Item → Bool
  is_early item = is_lt (parts_cmp (octets_of item) (ref_octets oid))

  abbrev pub is_upto : Item → Bool
  is_upto item = is_ge (parts_cmp (ref_octets oid) (octets_of item))

  abbrev pub is_inside : Item → Bool
  is_inside item = is_under (ref_octets oid) (octets_of item)

  abbrev pub is_outside : Item → Bool
  is_outside item = not (is_inside item)

  abbrev pub upto_arcs : Item → Bool
  upto_arcs item = is_ge (slice_cmp nat_cmp (ref_arcs oid) (item_arcs octets_of item))

  pub early_same : (k : ℕ) (d : Item) → k < length items
      → key_before (item_arcs octets_of) (ref_arcs oid) (get_or items k d) ≡ is_early (get_or items k d)
  early_same k d l = ap is_lt (sym (arcs_cmp (list.valid k d l) (ref_encoding oid)))

  pub upto_same : (k : ℕ) (d : Item) → k < length items
      → upto_arcs (get_or items k d) ≡ is_upto (get_or items k d)
  upto_same k d l = ap is_ge (sym (arcs_cmp (ref_encoding oid) (list.valid k d l)))

  pub item_same : (k : ℕ) (d : Item) → k < length items
      → pointwise nat_eq (octets_of (get_or items k d)) (ref_octets oid) ≡ has_item_arcs octets_of (ref_arcs oid) (get_or items k d)
  item_same k d l = has_same _ _ _ _ (list.valid k d l) (ref_encoding oid)

  pub cut_upto : IsPartitionedBy upto_arcs items
  cut_upto = cut_by (item_arcs octets_of) items list.sorted (λ x. is_ge (slice_cmp nat_cmp (ref_arcs oid) x)) (upto_down (ref_arcs oid))

  pub inside_same : (from k : ℕ) (default : Item) → k < length (drop from items)
      → key_under (item_arcs octets_of) (ref_arcs oid) (get_or (drop from items) k default)
      ≡ is_inside (get_or (drop from items) k default)
  inside_same from k default inside =
      let long = length-drop from items in
      let item = get_or items (from + k) default in
      let same : is_inside item ≡ key_under (item_arcs octets_of) (ref_arcs oid) item =
      tells_under (ref_arcs oid) (item_arcs octets_of item) (is_inside item)
      (iff_begins _ (list.valid (from + k) default (omega (arith, long))) (ref_encoding oid)
      (under_iff (ref_octets oid) (octets_of item))) in
      rw (get_or-drop from items k default) (sym same)

  module _ (i : ℕ) (cut : IsCut (key_before (item_arcs octets_of) (ref_arcs oid)) items i) where
    early_other : AllWithin (λ item. has_item_arcs octets_of (ref_arcs oid) item ≡ false) items 0 i
    early_other k d z l = none_before (ref_arcs oid) _ (cut.0 k d z l)

    pub first_is : i < length items → HoldsAt (λ item. has_item_arcs octets_of (ref_arcs oid) item ≡ true) items i
        → Some i ≡ position (has_item_arcs octets_of (ref_arcs oid)) items
    first_is l at = position_is _ items i l early_other at

    pub first_none : (i < length items → (default : Item)
        → has_item_arcs octets_of (ref_arcs oid) (get_or items i default) ≡ false)
        → None ≡ position (has_item_arcs octets_of (ref_arcs oid)) items
    first_none other =
        let far = sorted_far _ (ranks_by nat_list_cmp_total (item_arcs octets_of)) items list.sorted in
        position_none _ items (λ k default inside. ⊎_elim
        (λ (early : k < i). early_other k default (omega arith) early)
        (λ (late : i ≤ k).
        let past = cut.1 i default (omega arith) (omega arith) in
        none_after (ref_arcs oid) _ _ past (far i k default late inside) (other (omega arith) default))
        (cases_lt k i))

  -- where an item begins with the identifier, those before it come before the identifier exactly if they do not
  module _ (last : ℕ) (inside : last < length items)
      (under : HoldsAt (λ item. BeginsWith (octets_of item) (ref_octets oid)) items last) where
    abbrev before_it : Item → Bool
    before_it = key_before (item_arcs octets_of) (ref_arcs oid)

    parted : IsPartitionedBy before_it items
    parted = cut_before (item_arcs octets_of) items list.sorted (ref_arcs oid)

    last_under : (d : Item) → key_under (item_arcs octets_of) (ref_arcs oid) (get_or items last d) ≡ true
    last_under d = (under_iff _ _).1 (arcs_prefix root_rule _ _ _ _ (ref_encoding oid) (list.valid last d inside) (under d))

    late : AllWithin (λ item. before_it item ≡ false) items last (length items)
    late k d from l = grind (arith, nat_tests, parted last k d from l, under_apart (ref_arcs oid) _ (last_under d))

    outside_same : (k : ℕ) (d : Item) → k < last → before_it (get_or items k d) ≡ is_outside (get_or items k d)
    outside_same k d l =
        let far = sorted_far _ (ranks_by nat_list_cmp_total (item_arcs octets_of)) items list.sorted k last d (omega arith) inside in
        let item = item_arcs octets_of (get_or items k d) in
        let end = item_arcs octets_of (get_or items last d) in
        let within = within_down (ref_arcs oid) item end far (or_right (is_before (ref_arcs oid) end) _ (last_under d)) in
        let apart = under_apart (ref_arcs oid) item in
        grind (arith, nat_tests, within, apart, inside_same 0 k d (omega arith))

    pub parted_outside : IsPartitionedBy is_outside (take last items)
    parted_outside i j d le l t =
        let long = length-take last items in
        grind (arith, long, get_or-take last items i d, get_or-take last items j d, outside_same i d, outside_same j d, parted i j d)

    pub start_outside : (i : ℕ) → i ≤ last → IsCut is_outside (take last items) i → IsCut before_it items i
    start_outside i le (early, past) =
        let long = length-take last items in (
          λ k d z l. grind (arith, long, get_or-take last items k d, outside_same k d, early k d),
          λ k d m l. ⊎_elim
              (λ (low : k < last). grind (arith, long, get_or-take last items k d, outside_same k d, past k d))
              (λ (high : last ≤ k). late k d high l)
              (cases_lt k last),
        )

    -- and the first one that does not begins with it, so it is the identifier exactly if it is no longer
    module _ (i : ℕ) (le : i ≤ last) (cut : IsCut before_it items i) where
      start_under : (d : Item) → BeginsWith (octets_of (get_or items i d)) (ref_octets oid)
      start_under d = ⊎_elim
          (λ (low : i < last). (under_iff (ref_octets oid) (octets_of (get_or items i d))).0
          (grind (arith, nat_tests, outside_same i d low, cut.1 i d)))
          (λ (high : last ≤ i).
          let is : i ≡ last = omega (arith, le, high) in
          rw is (under d))
          (cases_lt i last)

      start_same : (d : Item) → has_item_arcs octets_of (ref_arcs oid) (get_or items i d)
          ≡ nat_eq (length (octets_of (get_or items i d))) (length (ref_octets oid))
      start_same d = sym (item_same i d (omega arith)) ∙ begins_same _ _ (start_under d)

      pub first_if_short : HoldsAt (λ item. length (octets_of item) ≡ length (ref_octets oid)) items i
          → Some i ≡ position (has_item_arcs octets_of (ref_arcs oid)) items
      first_if_short short = first_is i cut (omega arith) (λ d. grind (arith, nat_tests, start_same d, short d))

      pub none_if_long : HoldsAt (λ item. length (octets_of item) ≢ length (ref_octets oid)) items i
          → None ≡ position (has_item_arcs octets_of (ref_arcs oid)) items
      none_if_long long = first_none i cut (λ l d. grind (arith, nat_tests, start_same d, long d))

    pub start_at_last : (0 < last → (d : Item) → is_outside (get_or items (last - 1) d) ≡ true) → IsCut before_it items last
    start_at_last other = (
      λ k d z l. parted k (last - 1) d (omega arith) (omega arith) (outside_same (last - 1) d (omega arith) ∙ other (omega arith) d),
      late,
    )

  pub range_is : (from count : ℕ) → IsCut (key_before (item_arcs octets_of) (ref_arcs oid)) items from
      → IsCut (key_under (item_arcs octets_of) (ref_arcs oid)) (drop from items) count → (k : ℕ)
      → IfSome (slice_get items k) (λ item.
      BeginsWith (item_arcs octets_of item) (ref_arcs oid) ↔ ((from ≤ k) × (k < from + count)))
  range_is from count first second k =
      let between = under_between (item_arcs octets_of) (ref_arcs oid) items from count first second k in
      grind (arith, slice_get_cases items k, between, under_iff)

-- ---- from an identifier up to the root

-- what begins with a list begins with what that begins with
begins_again : (x y z : List ℕ) → BeginsWith x y → BeginsWith y z → BeginsWith x z
begins_again x y z (rest, split) (more, split') = (more ++ rest, split ∙ ap (λ xs. xs ++ rest) split' ∙ append_assoc z more rest)

-- a list comes before each other list that begins with it
prefix_less : (prefix list : List ℕ) → BeginsWith list prefix → prefix ≢ list → slice_cmp nat_cmp prefix list ≡ Less
prefix_less prefix list ([], split) other = absurd (other (sym (split ∙ append-nil prefix)))
prefix_less prefix list (x ∷ xs, split) other = rw split (before_more prefix (x ∷ xs) (omega arith))

begins_nil : (prefix rest : List ℕ) → [] ≡ prefix ++ rest → prefix ≡ []
begins_nil [] rest e = refl
begins_nil (x ∷ xs) rest e = cc

module _ {Item : Type 0} (octets_of : Item → List ℕ) (items : List Item) (arcs : List ℕ) where
  -- a list comprises what arcs begin with in a list of items: it begins with each item's arcs that they begin with
  abbrev pub Comprises : List ℕ → Type 0
  Comprises prefix = All (λ item. BeginsWith arcs (item_arcs octets_of item) → BeginsWith prefix (item_arcs octets_of item)) items

  -- no item is above them, or theirs
  abbrev pub IsNoneAbove : Type 0
  IsNoneAbove = All (λ item. BeginsWith arcs (item_arcs octets_of item) → ⊥) items

  -- a list is reached on the way up from arcs: they begin with it, and no item that they begin with is below it
  pub record IsReached (above : List ℕ) : Type 0 where
    pub begins : BeginsWith arcs above
    pub others : Comprises above

  pub reached_itself : IsReached arcs
  reached_itself = record { begins = ([], sym (append-nil arcs)); others = λ k d l begun. begun }

  module _ (list : IsSortedList octets_of items) where
    far : (i j : ℕ) (d : Item) → i ≤ j → j < length items
        → is_before (item_arcs octets_of (get_or items i d)) (item_arcs octets_of (get_or items j d)) ≡ false
    far = sorted_far _ (ranks_by nat_list_cmp_total (item_arcs octets_of)) items list.sorted

    module _ (oid : ObjectIdentifierRef) (reached : IsReached (ref_arcs oid)) where
      abbrev is_item : Item → Bool
      is_item = has_item_arcs octets_of (ref_arcs oid)

      itself : (item : Item) → find is_item items ≡ Some item → item_arcs octets_of item ≡ ref_arcs oid
      itself item e = grind (arith, find_at, slice_get_cases, passes_at_first, fails_before_first, same_text)

      -- its first item is the nearest one
      pub reached_nearest : (index : ℕ) → Some index ≡ position is_item items
          → IfSome (slice_get items index) (IsNearestBy (item_arcs octets_of) items arcs)
      reached_nearest index is_first = ⊎_elim
          (λ (item, inside, is, read).
          let found = find_some is_item items index is_first ∙ is in
          let same = itself item found in
          rw is (record { begins = rw same reached.begins; first = rw same found; longest = rw same reached.others }))
          (λ (past, none). rw none tt)
          (slice_get_cases items index).1

      pub reached_first : (index : ℕ) → Some index ≡ position is_item items → IfSome (slice_get items index)
          (λ item. position (has_item_arcs octets_of (item_arcs octets_of item)) items ≡ Some index)
      reached_first index is_first = ⊎_elim
          (λ (item, inside, is, read).
          let same = itself item (find_some is_item items index is_first ∙ is) in
          rw is (rw same (sym is_first)))
          (λ (past, none). rw none tt)
          (slice_get_cases items index).1

      -- without an item of it
      module _ (absent : None ≡ position is_item items) where
        other : All (λ item. item_arcs octets_of item ≢ ref_arcs oid) items
        other k default inside same =
            let none = find_none is_item items absent in
            grind (arith, find_at, slice_get_cases, passes_at_first, fails_before_first, nat_list_eq_equiv)

        -- the items before it
        module _ (index : ℕ) (within : index ≤ length items) (cut : IsCut (key_before (item_arcs octets_of) (ref_arcs oid)) items index) where
          -- what they begin with is there
          before : (k : ℕ) (d : Item) → k < length items → BeginsWith arcs (item_arcs octets_of (get_or items k d)) → k < index
          before k d l b = ⊎_elim
              (λ (early : k < index). early)
              (λ (late : index ≤ k).
              absurd (cc (cut.1 k d late l, ap is_lt (prefix_less _ (ref_arcs oid) (reached.others k d l b) (other k d l)))))
              (cases_lt k index)

          -- without one, they begin with none
          pub none_above : index ≡ 0 → IsNoneAbove
          none_above none k d l b = let early = before k d l b in absurd (omega (arith, early, none))

          -- the last one begins with all that they begin with
          module _ (last : Item) (some : 0 < index) (is_last : last ≡ get_or items (index - 1) last) where
            last_is : (default : Item) → get_or items (index - 1) default ≡ last
            last_is default = sym (get_or_read items (index - 1) last (omega arith) is_last default)

            last_begins : Comprises (item_arcs octets_of last)
            last_begins k default inside begun =
                let prefix = item_arcs octets_of (get_or items k default) in
                let early = before k default inside begun in
                let is = last_is default in
                let level = rw is at (far k (index - 1) default (omega arith) (omega arith)) in
                let least = rw is at (cut.0 (index - 1) default (omega arith) (omega arith)) in
                run_between prefix prefix (item_arcs octets_of last) (ref_arcs oid) ([], sym (append-nil prefix))
                (reached.others k default inside begun)
                (λ less. cc (level, less))
                (λ greater. cc (least, greater))

            -- so what the identifier has in common with it is reached
            module _ (prefix : List ℕ) (common : IsCommonPrefix (ref_octets oid) (octets_of last) prefix) where
              comprises : (k : ℕ) (d : Item) → k < length items → BeginsWith arcs (item_arcs octets_of (get_or items k d))
                  → BeginsWith prefix (octets_of (get_or items k d))
              comprises k d l b =
                  let item = list.valid k d l in
                  let valid = rw (last_is d) at (list.valid (index - 1) d (omega arith)) in
                  common.longest _ item (encoding_prefix root_rule _ _ _ _ item (ref_encoding oid) (reached.others k d l b))
                  (encoding_prefix root_rule _ _ _ _ item valid (last_begins k d l b))

              pub reached_common : (shared : ObjectIdentifierRef) → ref_octets shared ≡ prefix → IsReached (ref_arcs shared)
              reached_common shared is =
                  let begun = arcs_prefix root_rule _ _ _ _ (ref_encoding shared) (ref_encoding oid) (rw is common.begins) in
                  record {
                    begins = begins_again _ _ _ reached.begins begun;
                    others = λ k d l b.
                        arcs_prefix root_rule _ _ _ _ (list.valid k d l) (ref_encoding shared) (rw is (comprises k d l b));
                  }

              pub none_common : prefix ≡ [] → IsNoneAbove
              none_common is k d l b =
                  let (rest, split) = comprises k d l b in
                  absurd (rw (begins_nil _ rest (sym is ∙ split)) at (list.valid k d l).identifier)
