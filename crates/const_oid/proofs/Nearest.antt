-- The entry with the longest prefix in one table after another.
use Rattle.std.proofs.Common.{◌≡◌, ℕ, ◌+◌, ◌<◌, ◌≤◌, List, [], ◌∷◌, ◌++◌, length, take, get_or, Bool, true, false, nat_eq, arith, ap, sym, refl, subst, ◌∙◌, Some, None, ⊎_elim, append_assoc, append-nil, length-append}
use Rattle.std.specs.Borrow.{Bor}
use Rattle.std.specs.Prelude.{find, IfNone, IfSome, Option}
use Rattle.std.specs.List.{All}
use Rattle.std.specs.Option.{option_or}
use Rattle.std.specs.Cmp.Lexicographic.{pointwise, same_text}
use Rattle.std.proofs.lemmas.{Bool.{cases_Bool, cases_lt, Decides.nat_tests}, Grind.{flat_map-append}, List.Folds.find-append, List.{nil_from_length, take_more}, List.Concat.flat_map-cons}
use Rattle.std.proofs.lemmas.List.Elements.{All-append, All-head, All-tail, All-weaker}
use Rattle.const_oid.specs.{declared.oid_ref.ObjectIdentifierRef.ObjectIdentifierRef, Contents.arcs_of_octets, Identifier.root_rule}
use Rattle.const_oid.specs.{declared.db_sorted.SortedDatabase.SortedDatabase, Names.{Entry, IsNearest, entry_arcs, oid_of, sorted_entries_in, sorted_entries_of}, Private.Nearest.{IsNearestOrNone}, Tree.BeginsWith}
use Rattle.const_oid.proofs.{BeginsWith.encoding_prefix, Encodings.ref_encoding, Prefixes.longer_begins, SortedNames.entry_octets}

abbrev Named : Type 0
Named = Entry ObjectIdentifierRef

-- ---- prefixes of one list

through : (list prefix start : List ℕ) → BeginsWith list prefix → BeginsWith prefix start → BeginsWith list start
through list prefix start (rest, joined) (more, split) =
    (more ++ rest, joined ∙ ap (λ xs. xs ++ rest) split ∙ append_assoc start more rest)

-- the longer one begins with the other
of_one : (list a b : List ℕ) → BeginsWith list a → BeginsWith list b → length b ≤ length a → BeginsWith a b
of_one list a b (rest, joined) (more, split) shorter = longer_begins a rest b more (sym joined ∙ split) shorter

-- arcs begin with others no longer in octets
octets_begin : (x y : Named) → BeginsWith (entry_arcs x) (entry_arcs y) → length (entry_octets y) ≤ length (entry_octets x)
octets_begin x y begins =
    let (rest, joined) = encoding_prefix root_rule _ _ _ _ (ref_encoding (oid_of y)) (ref_encoding (oid_of x)) begins in
    omega (arith, ap length joined, length-append (entry_octets y) rest)

-- arcs that others of no more octets begin are those
same_begun : (y x : Named) → BeginsWith (entry_arcs y) (entry_arcs x) → length (entry_octets y) ≤ length (entry_octets x) → entry_arcs x ≡ entry_arcs y
same_begun y x begins longer =
    let (rest, joined) = encoding_prefix root_rule _ _ _ _ (ref_encoding (oid_of x)) (ref_encoding (oid_of y)) begins in
    let none = nil_from_length rest (omega (arith, longer, ap length joined, length-append (entry_octets x) rest)) in
    let octets : entry_octets y ≡ entry_octets x = joined ∙ ap (λ more. entry_octets x ++ more) none ∙ append-nil (entry_octets x) in
    ap arcs_of_octets (sym octets)

-- those of one list with no fewer octets begin with the others
begins_by_octets : (arcs : List ℕ) (x y : Named) → BeginsWith arcs (entry_arcs x) → BeginsWith arcs (entry_arcs y)
    → length (entry_octets y) ≤ length (entry_octets x) → BeginsWith (entry_arcs x) (entry_arcs y)
begins_by_octets arcs x y p q shorter = ⊎_elim
    (λ (less : length (entry_arcs x) < length (entry_arcs y)).
    let above = of_one arcs (entry_arcs y) (entry_arcs x) q p (omega arith) in
    let same = same_begun y x above shorter in
    ([], same ∙ sym (append-nil (entry_arcs y))))
    (λ (more : length (entry_arcs y) ≤ length (entry_arcs x)). of_one arcs (entry_arcs x) (entry_arcs y) p q more)
    (cases_lt (length (entry_arcs x)) (length (entry_arcs y)))

-- ---- what is found

module _ {Item : Type 0} (p : Item → Bool) (P : Item → Type 0) where
  found_holds : (items : List Item) (item : Item) → All P items → find p items ≡ Some item → P item × (p item ≡ true)
  found_holds [] item all e = cc
  found_holds (first ∷ others) item all e = ⊎_elim
      (λ (yes : p first ≡ true).
      let same : first ≡ item = grind (arith, nat_tests) in
      subst (λ x. P x × (p x ≡ true)) same (All-head P first others all, yes))
      (λ (no : p first ≡ false). found_holds others item (All-tail P first others all) (grind (arith, nat_tests)))
      (cases_Bool (p first))

  found_none : (items : List Item) → All P items → ((item : Item) → P item → p item ≡ true → ⊥) → find p items ≡ None
  found_none items all never = by (find p items) refl
    where
      by : (found : Option Item) → find p items ≡ found → find p items ≡ None
      by None e = e
      by (Some item) e = let (holds, passes) = found_holds items item all e in absurd (never item holds passes)

-- ---- one table after another

module _ (arcs : List ℕ) (xs ys : List Named) where
  abbrev IsPrefix : Named → Type 0
  IsPrefix entry = BeginsWith arcs (entry_arcs entry)

  abbrev IsNone : Named → Type 0
  IsNone entry = IsPrefix entry → ⊥

  abbrev IsAbove : Named → Named → Type 0
  IsAbove item entry = IsPrefix entry → BeginsWith (entry_arcs item) (entry_arcs entry)

  abbrev has : Named → Named → Bool
  has item other = pointwise nat_eq (entry_arcs other) (entry_arcs item)

  -- no prefix in the one before
  pub only_later : (found : Option (Bor Named)) → All IsNone xs → IsNearestOrNone ys arcs found
      → IsNearestOrNone (xs ++ ys) arcs found
  only_later None none nearest = All-append IsNone xs ys none nearest
  only_later (Some entry) none nearest =
      let item = entry.now in
      let before = found_none (has item) IsNone xs none
      (λ other holds same.
      let equal : entry_arcs other ≡ entry_arcs item = same_text _ _ (sym same) in
      holds (rw (sym equal) at nearest.begins)) in
      record {
        begins = nearest.begins;
        first = find-append (has item) xs ys ∙ ap (λ found. option_or found (find (has item) ys)) before ∙ nearest.first;
        longest = All-append (IsAbove item) xs ys (All-weaker IsNone (IsAbove item) (λ other no begins. absurd (no begins)) xs none) nearest.longest;
      }

  module _ (x : Named) (nearest : IsNearest xs arcs x) where
    first_here : find (has x) (xs ++ ys) ≡ Some x
    first_here = find-append (has x) xs ys ∙ ap (λ found. option_or found (find (has x) ys)) nearest.first

    -- no prefix in the one after
    pub only_first : All IsNone ys → IsNearest (xs ++ ys) arcs x
    only_first none = record {
      begins = nearest.begins;
      first = first_here;
      longest = All-append (IsAbove x) xs ys nearest.longest (All-weaker IsNone (IsAbove x) (λ other no begins. absurd (no begins)) ys none);
    }

    module _ (y : Named) (other : IsNearest ys arcs y) where
      pub first_longer : length (entry_octets y) ≤ length (entry_octets x) → IsNearest (xs ++ ys) arcs x
      first_longer shorter =
          let above = begins_by_octets arcs x y nearest.begins other.begins shorter in
          record {
            begins = nearest.begins;
            first = first_here;
            longest = All-append (IsAbove x) xs ys nearest.longest
                (All-weaker (IsAbove y) (IsAbove x) (λ entry below begins. through (entry_arcs x) (entry_arcs y) (entry_arcs entry) above (below begins)) ys other.longest);
          }

      pub later_longer : length (entry_octets x) < length (entry_octets y) → IsNearest (xs ++ ys) arcs y
      later_longer longer =
          let above = begins_by_octets arcs y x other.begins nearest.begins (omega arith) in
          let before = found_none (has y) (IsAbove x) xs nearest.longest
          (λ entry holds same.
          let equal : entry_arcs entry ≡ entry_arcs y = same_text _ _ (sym same) in
          let begun = rw equal at (holds (rw (sym equal) at other.begins)) in
          absurd (omega (arith, longer, octets_begin x y begun))) in
          record {
            begins = other.begins;
            first = find-append (has y) xs ys ∙ ap (λ found. option_or found (find (has y) ys)) before ∙ other.first;
            longest = All-append (IsAbove y) xs ys
                (All-weaker (IsAbove x) (IsAbove y) (λ entry below begins. through (entry_arcs y) (entry_arcs x) (entry_arcs entry) above (below begins)) xs nearest.longest)
                other.longest;
          }

-- ---- what is found of a table, and of tables

module _ (entries : List Named) (arcs : List ℕ) where
  abbrev AreNone : Type 0
  AreNone = All (λ entry. BeginsWith arcs (entry_arcs entry) → ⊥) entries

  pub either : (found : Option (Bor Named)) → IfSome found (λ entry. IsNearest entries arcs entry.now) → IfNone found AreNone
      → IsNearestOrNone entries arcs found
  either None nearest none = none
  either (Some entry) nearest none = nearest

  pub if_some : (found : Option (Bor Named)) → IsNearestOrNone entries arcs found → IfSome found (λ entry. IsNearest entries arcs entry.now)
  if_some None none = tt
  if_some (Some entry) nearest = nearest

  pub if_none : (found : Option (Bor Named)) → IsNearestOrNone entries arcs found → IfNone found AreNone
  if_none None none = none
  if_none (Some entry) nearest = tt

pub more_tables : (tables : List SortedDatabase) (i : ℕ) (table : SortedDatabase) → i < length tables → table ≡ get_or tables i table
    → sorted_entries_in (take (i + 1) tables) ≡ sorted_entries_in (take i tables) ++ sorted_entries_of table
more_tables tables i table inside is =
    ap sorted_entries_in (take_more tables i table inside)
    ∙ flat_map-append sorted_entries_of (take i tables) (get_or tables i table ∷ [])
    ∙ ap (λ more. sorted_entries_in (take i tables) ++ more)
    (flat_map-cons sorted_entries_of (get_or tables i table) [] ∙ append-nil (sorted_entries_of (get_or tables i table)) ∙ ap sorted_entries_of (sym is))
