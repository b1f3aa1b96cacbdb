-- Plain names, which are readable.
use Rattle.std.proofs.Common.{true, nat_eq, add-one, ap, sym, ◌∙◌, Bool, suc, decimal, find, Option, Some, None}
use Rattle.std.specs.{Char.{is_ascii_digit, to_ascii_lowercase}, Option.option_map, Cmp.Lexicographic.pointwise, Str.{bytes_eq, str_eq_ignore_ascii_case, str_to_ascii_lowercase}}
use Rattle.std.proofs.lemmas.Bool.Decides.{nat_tests}
use Rattle.std.proofs.Common.{◌≡◌, ℕ, ◌<◌, ◌≤◌, ◌+◌, List, [], ◌∷◌, ◌++◌, length, take, get_or, All, false, flat_map, refl, arith, ⊎_elim}
use Rattle.std.proofs.lemmas.{Bool.{cases_Bool, cases_lt, false≢true}, List.{drop_at, get_or_past, take_all, take_at}}
use Rattle.std.proofs.lemmas.List.Elements.{All-append, All-cons, All-drop, All-get_or, All-head, All-more, All-nil, All-tail, All-take}
use Rattle.const_oid.specs.declared.tables.Table.{Table}
use Rattle.const_oid.specs.{Oid.oid_arcs, Rows.{Row, Rows, led, rows_of}}
use Rattle.const_oid.specs.Typed.{begins_with_digit, is_front, ArePlain, AreReadable, HasNoFront, IsPlain, IsReadable, dotted, shown}
use Rattle.const_oid.proofs.{Displayed.is_shown, Dotted.digit_begins, Hashes.same_bytes}

-- no front is past the end
pub all_fronts : (entries : Rows) (name : List ℕ) (end : ℕ) → length name ≤ end → ((n : ℕ) → n < end → is_front entries name n ≡ false)
    → HasNoFront entries name
all_fronts entries name end past none n = ⊎_elim
    (λ (below : n < end). none n below)
    (λ (after : end ≤ n). rw (get_or_past name n 0 (omega arith)) refl)
    (cases_lt n end)

-- ---- in all tables

module _ (entries : Rows) where
  abbrev EachPlain : List Table → Type 0
  EachPlain tables = All (λ table. ArePlain entries (rows_of table)) tables

  abbrev Plain : Row → Type 0
  Plain row = IsPlain entries row.1

  joined : (tables : List Table) → EachPlain tables → ArePlain entries (flat_map rows_of tables)
  joined [] each = All-nil Plain
  joined (table ∷ tables) each =
      All-append Plain (rows_of table) (flat_map rows_of tables) (All-head (λ table. ArePlain entries (rows_of table)) table tables each)
      (joined tables (All-tail (λ table. ArePlain entries (rows_of table)) table tables each))

  apart : (tables : List Table) → ArePlain entries (flat_map rows_of tables) → EachPlain tables
  apart [] all = All-nil (λ table. ArePlain entries (rows_of table))
  apart (table ∷ tables) all =
      let first = rows_of table in
      let rest = flat_map rows_of tables in
      All-cons (λ table. ArePlain entries (rows_of table)) table tables
      (rw (take_at first rest (length first) refl) at (All-take Plain (length first) (first ++ rest) all))
      (apart tables (rw (drop_at first rest (length first) refl) at (All-drop Plain (length first) (first ++ rest) all)))

  module _ (tables : List Table) (i : ℕ) where
    pub all_plain : length tables ≤ i → EachPlain (take i tables) → ArePlain entries (flat_map rows_of tables)
    all_plain end each = joined tables (rw (take_all i tables end) at each)

    module _ (table : Table) (below : i < length tables) (here : table ≡ get_or tables i table) where
      pub one_more : ArePlain entries (rows_of table) → EachPlain (take i tables) → EachPlain (take (i + 1) tables)
      one_more this before = All-more (λ table. ArePlain entries (rows_of table)) tables i table below before (rw (← here) this)

      pub all_there : ArePlain entries (flat_map rows_of tables) → ArePlain entries (rows_of table)
      all_there all = rw here (All-get_or (λ table. ArePlain entries (rows_of table)) tables i table below (apart tables all))

-- ---- readable

-- what a name with the same bytes in some case begins with
fronts_alike : (name other more : List ℕ) → str_to_ascii_lowercase other ≡ str_to_ascii_lowercase (name ++ 46 ∷ more)
    → (str_to_ascii_lowercase (take (length name) other) ≡ str_to_ascii_lowercase name)
    × (get_or other (length name) 0 ≡ 46)
    × (to_ascii_lowercase (get_or other (suc (length name)) 0) ≡ to_ascii_lowercase (get_or more 0 0))
fronts_alike [] [] more e = cc
fronts_alike [] (b ∷ []) [] e = let first : to_ascii_lowercase b ≡ 46 = cc in (refl, grind (arith, nat_tests), refl)
fronts_alike [] (b ∷ []) (c ∷ more) e = cc
fronts_alike [] (b ∷ a ∷ other) [] e = cc
fronts_alike [] (b ∷ a ∷ other) (c ∷ more) e = let first : to_ascii_lowercase b ≡ 46 = cc in (refl, grind (arith, nat_tests), cc)
fronts_alike (a ∷ name) [] more e = cc
fronts_alike (a ∷ name) (b ∷ other) more e =
    let (front, here, after) = fronts_alike name other more cc in
    (cc, here, after)

module _ {X : Type 0} (P : X → Type 0) (test : X → Bool) where
  found : (xs : List X) (x : X) → All P xs → find test xs ≡ Some x → P x × (test x ≡ true)
  found [] x all is = cc
  found (first ∷ xs) x all is = ⊎_elim
      (λ (passes : test first ≡ true). let same : first ≡ x = cc in (rw same at (All-head P first xs all), rw same at passes))
      (λ (fails : test first ≡ false). found xs x (All-tail P first xs all) (rw fails at is))
      (cases_Bool (test first))

-- what a name leads to is the same in any case
led_alike : (entries : Rows) (name other : List ℕ) → str_to_ascii_lowercase other ≡ str_to_ascii_lowercase name → led entries other ≡ led entries name
led_alike entries name other same =
    ap (λ lower. option_map (λ row. oid_arcs row.0) (find (λ (row : Row). bytes_eq (str_to_ascii_lowercase row.1) lower) entries)) same

same_digit : (a b : ℕ) → to_ascii_lowercase a ≡ to_ascii_lowercase b → is_ascii_digit b ≡ true → is_ascii_digit a ≡ true
same_digit a b same digit = grind (arith, nat_tests)

front_is : (entries : Rows) (name arcs more other : List ℕ) → begins_with_digit more ≡ true → led entries name ≡ Some arcs
    → str_to_ascii_lowercase other ≡ str_to_ascii_lowercase (name ++ 46 ∷ more) → is_front entries other (length name) ≡ true
front_is entries name arcs more other digit leads same =
    let (front, here, after) = fronts_alike name other more same in
    let digit_after = same_digit (get_or other (suc (length name)) 0) (get_or more 0 0) after digit in
    rw (here, add-one, digit_after, led_alike entries name (take (length name) other) front, leads) refl

mapped : {X Y : Type 0} (f : X → Y) (found : Option X) (y : Y) → option_map f found ≡ Some y → (x : X) × (found ≡ Some x) × (f x ≡ y)
mapped f None y is = cc
mapped f (Some x) y is = (x, refl, cc)

module _ (entries : Rows) (plain : ArePlain entries entries) where
  shown_readable : (arcs name : List ℕ) → shown entries arcs ≡ Some name → IsReadable name
  shown_readable arcs name is =
      let shown = is_shown entries arcs name is in
      let has_arcs = λ (row : Row). pointwise nat_eq (oid_arcs row.0) arcs in
      let (row, first, same) = mapped (λ row. row.1) (find has_arcs entries) name shown.first in
      let (this, has) = found (Plain entries) has_arcs entries row plain first in
      rw same at this.readable

  no_name_below : (name arcs more other : List ℕ) → begins_with_digit more ≡ true → led entries name ≡ Some arcs
      → led entries (name ++ 46 ∷ more) ≡ Some other → ⊥
  no_name_below name arcs more other digit leads is =
      let has_name = λ (row : Row). str_eq_ignore_ascii_case row.1 (name ++ 46 ∷ more) in
      let (row, there, _) = mapped (λ row. oid_arcs row.0) (find has_name entries) other is in
      let (this, has) = found (Plain entries) has_name entries row plain there in
      let front = front_is entries name arcs more row.1 digit leads (same_bytes _ _ has) in
      false≢true (sym (this.no_front (length name)) ∙ front)

  pub plain_readable : AreReadable entries
  plain_readable = record {
    names = shown_readable;
    below = λ arcs name later other arc is leads.
        absurd (no_name_below name arcs (decimal arc ++ dotted later) other (digit_begins arc (dotted later)) (is_shown entries arcs name is).leads leads);
  }
