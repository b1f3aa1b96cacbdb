-- Links between the entries of a table, by a hash: what they are at each step, and what a lookup along them finds.
use Rattle.std.proofs.Common.{◌≡◌, ◌≢◌, ℕ, ◌+◌, ◌-◌, ◌*◌, ◌/◌, ◌^◌, ◌<◌, ◌≤◌, Bool, true, false, List, [], ◌∷◌, Bor, drop, length, get_or, set}
use Rattle.std.proofs.Common.{arith, refl, sym, ap, ◌∙◌, Some, None, ⊎_elim, suc, add-one, drop-cons}
use Rattle.std.specs.{List.{filter, find, position_or_len, slice_get, HoldsAt}}
use Rattle.std.proofs.lemmas.{Bool.{cases_Bool, cases_eq, cases_lt, eqb-true, eq-eqb, ne_eqb}, Grind.common_steps, Nat.{div_below}}
use Rattle.std.proofs.Math.Nat.{mul-lt-mul_of_pos_left}
use Rattle.std.proofs.lemmas.List.{drop-drop, get_or-drop, get_or_default, length-drop, Sums.{passes_at_first, prefix_len-le-length}}
use Rattle.const_oid.specs.Private.Links.{AreLinks, AreLinksFrom, IsInSlot, first_by, hash_of, in_slot, key_of, slot_of}
use Rattle.const_oid.specs.Private.Octets.{with_bits}
use Rattle.const_oid.specs.declared.{db.Names.Names, links.Key.TheVariants.{Oid, Name}}
use Rattle.const_oid.specs.declared.oid.ObjectIdentifier.{ObjectIdentifier}
use Rattle.const_oid.specs.{Names.{Entry, has_arcs, has_name, lent_arcs}, Oid.{oid_arcs, oid_octets}}
use Rattle.const_oid.proofs.{Encodings.{oid_encoding, same_octets}, Hashes.{same_bytes, same_cased}}

module _ {Row : Type 0} (test : Row → Bool) where
  -- what passes is left from the first row on that passes a wider test
  passes_on : (wider : Row → Bool) → ((row : Row) → test row ≡ true → wider row ≡ true) → (rows : List Row)
      → filter test rows ≡ filter test (drop (position_or_len wider rows) rows)
  passes_on wider passes [] = refl
  passes_on wider passes (row ∷ rows) = ⊎_elim
      (λ (wide : wider row ≡ true). simp wide)
      (λ (narrow : wider row ≡ false).
      let fails : test row ≡ false = grind (arith, cases_Bool (test row), passes row) in
      let next : 1 + position_or_len wider rows ≡ suc (position_or_len wider rows) = omega arith in
      simp (narrow, fails, next) (passes_on wider passes rows))
      (cases_Bool (wider row))

  first_of_all : (rows : List Row) → find test rows ≡ slice_get (filter test rows) 0
  first_of_all [] = refl
  first_of_all (row ∷ rows) = ⊎_elim
      (λ (passes : test row ≡ true). simp passes)
      (λ (fails : test row ≡ false). simp fails (first_of_all rows))
      (cases_Bool (test row))

module _ {Row : Type 0} (test : Row → Bool) (rows : List Row) where
  -- a row that passes, one that does not, and none
  passes_at : (index : ℕ) (row : Row) → index < length rows → row ≡ get_or rows index row → test row ≡ true → index ≡ first_by test rows index
  passes_at index row below here passes = rw (drop-cons rows index row, ← here, passes) (omega arith)

  fails_at : (index : ℕ) (row : Row) → index < length rows → row ≡ get_or rows index row → test row ≡ false
      → first_by test rows index ≡ first_by test rows (index + 1)
  fails_at index row below here fails = rw (drop-cons rows index row, ← here, fails, add-one) (omega arith)

  past_end : (index : ℕ) → length rows ≤ index → index ≡ first_by test rows index
  past_end index end = grind (arith, common_steps)

  stops : (from : ℕ) → first_by test rows from < length rows → HoldsAt (λ row. test row ≡ true) rows (first_by test rows from)
  stops from below row = rw (← get_or-drop) (passes_at_first test (drop from rows) row (simp length-drop (omega arith)))

  -- likewise what passes from there on
  pub takes : (index : ℕ) (row : Row) → index < length rows → row ≡ get_or rows index row → test row ≡ true
      → filter test (drop index rows) ≡ row ∷ filter test (drop (index + 1) rows)
  takes index row below here passes = rw (drop-cons rows index row, ← here, passes, add-one) refl

  pub leaves : (index : ℕ) (row : Row) → index < length rows → row ≡ get_or rows index row → test row ≡ false
      → filter test (drop index rows) ≡ filter test (drop (index + 1) rows)
  leaves index row below here fails = rw (drop-cons rows index row, ← here, fails, add-one) refl

pub slot_within : (slots : ℕ) (bytes : List ℕ) → 0 < slots → slot_of slots bytes < slots
unfolding hash_of
slot_within slots bytes some =
    let fits : hash_of bytes < 2 ^ 64 = omega arith in
    div_below (slots * hash_of bytes) (2 ^ 64) slots (omega arith) (mul-lt-mul_of_pos_left fits some)

module _ {Row : Type 0} (key : Row → List ℕ) (slots : ℕ) (rows : List Row) where
  -- at the end there are none
  pub no_links : (links : List ℕ) → ((slot : ℕ) → slot < slots → get_or links (length rows + slot) 0 ≡ length rows)
      → AreLinksFrom key slots rows (length rows) links
  no_links links ends = record {
    next = λ k slot l m. absurd (omega arith);
    first = λ slot l. ends slot l ∙ past_end (in_slot key slots slot) rows (length rows) (omega arith);
  }

  -- one more row
  pub one_more : (index slot : ℕ) (row : Row) (links : List ℕ) → index < length rows → slot < slots → length rows + slots ≤ length links
      → row ≡ get_or rows index row → slot ≡ slot_of slots (key row)
      → AreLinksFrom key slots rows (index + 1) links
      → AreLinksFrom key slots rows index (set (set links index (get_or links (length rows + slot) 0)) (length rows + slot) index)
  one_more index slot row links below small fit here hashed old =
      let changed = set (set links index (get_or links (length rows + slot) 0)) (length rows + slot) index in
      record {
        next = λ k other l m at. ⊎_elim
            (λ (e : k ≡ index).
            let link : get_or changed k 0 ≡ get_or links (length rows + slot) 0 = grind (arith, common_steps) in
            let same : other ≡ slot = sym (eqb-true _ _ (rw (e, ← here) at (at row))) ∙ sym hashed in
            rw (link, e, same) (old.first slot small))
            (λ (ne : k ≢ index).
            let link : get_or changed k 0 ≡ get_or links k 0 = grind (arith, common_steps) in
            rw link (old.next k other (omega arith) m at))
            (cases_eq k index);
        first = λ other l. ⊎_elim
            (λ (e : other ≡ slot).
            let link : get_or changed (length rows + other) 0 ≡ index = grind (arith, common_steps) in
            rw link (passes_at (in_slot key slots other) rows index row below here (eq-eqb _ _ (sym (e ∙ hashed)))))
            (λ (ne : other ≢ slot).
            let link : get_or changed (length rows + other) 0 ≡ get_or links (length rows + other) 0 = grind (arith, common_steps) in
            rw link (old.first other l ∙ sym (fails_at (in_slot key slots other) rows index row below here (ne_eqb _ _ (λ e. ne (sym (hashed ∙ e)))))))
            (cases_eq other slot);
      }

-- a lookup goes from an index to another: no entry between them passes a test, and the one there is of the slot of some bytes
pub record Leads {Row : Type 0} (key : Row → List ℕ) (test : Row → Bool) (rows : List Row) (links bytes : List ℕ) (from to : ℕ) : Type 0 where
  pub after : from ≤ to
  pub within : to ≤ length rows
  pub same : filter test (drop from rows) ≡ filter test (drop to rows)
  pub there : IsInSlot key rows links bytes to

module _ {Row : Type 0} (key : Row → List ℕ) (test : Row → Bool) (rows : List Row) (links bytes : List ℕ)
    (same : (row : Row) → test row ≡ true → hash_of (key row) ≡ hash_of bytes)
    (right : AreLinks key rows links) where
  abbrev slots : ℕ
  slots = length links - length rows

  abbrev of_slot : Row → Bool
  of_slot = in_slot key slots (slot_of slots bytes)

  -- to the first entry of the slot, or without links to the next entry
  leads : (from to : ℕ) → from ≤ length rows → (length rows < length links → to ≡ first_by of_slot rows from)
      → (length links ≤ length rows → to ≡ from) → Leads key test rows links bytes from to
  leads from to early linked scanned = ⊎_elim
      (λ (more : length rows < length links). rw (linked more) (record {
        after = omega arith;
        within = omega (arith, prefix_len-le-length {X = Row}, length-drop {A = Row});
        same = rw (← drop-drop (position_or_len of_slot (drop from rows)) from rows)
            (passes_on test of_slot (λ row passes. eq-eqb _ _ (ap (λ hash. slots * hash / 2 ^ 64) (same row passes))) (drop from rows));
        there = λ _ below. stops of_slot rows from below;
      }))
      (λ (none : length links ≤ length rows). rw (scanned none) (record {
        after = omega arith;
        within = early;
        same = refl;
        there = λ more. absurd (omega arith);
      }))
      (cases_lt (length rows) (length links))

  pub starts : (to : ℕ) → (length rows < length links → to ≡ get_or links (length rows + slot_of slots bytes) 0)
      → (length links ≤ length rows → to ≡ 0) → Leads key test rows links bytes 0 to
  starts to linked scanned = leads 0 to (omega arith) (λ more. linked more ∙ (right more).first (slot_of slots bytes) (slot_within slots bytes (omega arith))) scanned

  pub goes_on : (index to : ℕ) → index < length rows → (length rows < length links → to ≡ get_or links index 0)
      → (length links ≤ length rows → to ≡ index + 1) → IsInSlot key rows links bytes index → Leads key test rows links bytes (index + 1) to
  goes_on index to below linked scanned there = leads (index + 1) to (omega arith)
      (λ more. linked more ∙ (right more).next index (slot_of slots bytes) (omega arith) below (there more below)) scanned

  -- past an entry that does not pass
  pub goes_past : (from index to : ℕ) (row : Row) → index < length rows → test (get_or rows index row) ≡ false
      → Leads key test rows links bytes from index → Leads key test rows links bytes (index + 1) to → Leads key test rows links bytes from to
  goes_past from index to row below fails reached more = record {
    after = omega (arith, reached.after, more.after);
    within = more.within;
    same = reached.same ∙ leaves test rows index _ below (get_or_default rows index row _ below) fails ∙ more.same;
    there = more.there;
  }

  pub finds : (index : ℕ) (row : Row) → index < length rows → test (get_or rows index row) ≡ true
      → Leads key test rows links bytes 0 index → Some (get_or rows index row) ≡ find test rows
  finds index row below passes reached =
      sym (first_of_all test rows ∙ ap (λ found. slice_get found 0) (reached.same ∙ takes test rows index _ below (get_or_default rows index row _ below) passes))

  pub finds_none : (index : ℕ) → length rows ≤ index → Leads key test rows links bytes 0 index → None ≡ find test rows
  finds_none index end reached =
      let none : filter test (drop index rows) ≡ [] = grind (arith, common_steps) in
      sym (first_of_all test rows ∙ ap (λ found. slice_get found 0) (reached.same ∙ none))

-- ---- what is the same has the same hash

pub same_oids : (oid : ObjectIdentifier 39) (entry : Entry (Bor (ObjectIdentifier 39)))
    → has_arcs lent_arcs (oid_arcs oid) entry ≡ true → hash_of (key_of Oid entry) ≡ hash_of (oid_octets oid)
same_oids oid entry same =
    let arcs = same_bytes (lent_arcs entry.0) (oid_arcs oid) same in
    ap hash_of (same_octets (rw arcs at (oid_encoding entry.0.now)) (oid_encoding oid))

pub same_names : (name : List ℕ) (entry : Entry (Bor (ObjectIdentifier 39)))
    → has_name name entry ≡ true → hash_of (key_of Name entry) ≡ hash_of (with_bits 32 name)
same_names name entry same = ap hash_of (same_cased entry.1.now name same)

-- to the next entry of the slot of the identifier whose names are left
pub next_name : (names : Names) (next : ℕ)
    → (let entries = names.database.entries.now in let links = names.database.oid_links.now in
    names.index < length entries
    → record { linked : length entries < length links → next ≡ get_or links names.index 0; scanned : length links ≤ length entries → next ≡ names.index + 1 }
    → Leads (key_of Oid) (has_arcs lent_arcs (oid_arcs names.oid)) entries links (oid_octets names.oid) (names.index + 1) next)
next_name names next below ensures =
    goes_on _ _ _ _ _ (same_oids names.oid) names.database.by_oid names.index next below ensures.linked ensures.scanned names.in_slot
