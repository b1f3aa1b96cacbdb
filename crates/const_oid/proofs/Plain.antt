-- Plain octets: a part of them has at most four, and does not begin with 128, so it has no fault.
use Rattle.std.proofs.Common.{◌≡◌, ◌≢◌, ℕ, zero, suc, ◌+◌, ◌-◌, ◌<◌, ◌≤◌, List, [], ◌∷◌, ◌++◌, take, drop, length, get_or}
use Rattle.std.proofs.Common.{slice_index, refl, ap, ◌∙◌, arith, None, ⊎_elim, bit_or, ◌/◌, Bool, true, false, Option, MatchOption}
use Rattle.std.specs.Bool.{then_some}
use Rattle.std.specs.List.{AllByRecursion}
use Rattle.std.proofs.lemmas.{Bool.{cases_lt}, List.{get_or-drop, get_or-take, length-drop, drop-drop, drop_all}, Nat.{le_or_l, le_or_r}}
use Rattle.const_oid.specs.Private.Octets.{fault_at, ArePlain}
use Rattle.const_oid.proofs.WordBytes.{IsPlain}
use Rattle.const_oid.proofs.PartEnds.{end_short, more_at}

-- ---- windows

-- of octets from an index on
pub plain_from : (xs : List ℕ) (from at : ℕ) → 3 ≤ at → IsPlain (drop from xs) at → IsPlain xs (from + at)
plain_from xs from at after plain =
    let one : from + (at - 1) ≡ from + at - 1 = omega arith in
    let two : from + (at - 2) ≡ from + at - 2 = omega arith in
    let three : from + (at - 3) ≡ from + at - 3 = omega arith in
    let moved = rw (get_or-drop from xs at 0, get_or-drop from xs (at - 1) 0, get_or-drop from xs (at - 2) 0, get_or-drop from xs (at - 3) 0, one, two, three) at plain in
    (λ is. (omega arith, (moved.0 is).1), λ third. moved.1 after)

pub plain_taken : (xs : List ℕ) (k at : ℕ) → at < k → IsPlain (take k xs) at → IsPlain xs at
plain_taken xs k at inside plain =
    let moved = rw (get_or-take k xs at 0 inside, get_or-take k xs (at - 1) 0 (omega arith), get_or-take k xs (at - 2) 0 (omega arith), get_or-take k xs (at - 3) 0 (omega arith)) at plain in
    moved

-- ---- a start that is reached

-- a part that an index is in starts at `start`, and those before it have no fault
record Reaches (xs : List ℕ) (at start : ℕ) : Type 0 where
  before : start ≤ at
  starts : start ≢ 0 → get_or xs (start - 1) 0 < 128
  more : (i : ℕ) → start ≤ i → i < at → 128 ≤ get_or xs i 0
  fault : fault_at xs 0 ≡ fault_at xs start

all_high : (xs : List ℕ) (start len : ℕ) → ((i : ℕ) → start ≤ i → i < start + len → 128 ≤ get_or xs i 0)
    → AllByRecursion (λ octet. 128 ≤ octet) (take len (drop start xs))
all_high xs start zero high = tt
all_high xs start (suc len) high =
    let next : suc len ≡ len + 1 = omega arith in
    rw next (more_at xs start len (all_high xs start len (λ i from inside. high i from (omega arith))) (high (start + len) (omega arith) (omega arith)))

module _ (xs : List ℕ) (end : ℕ) (inside : end ≤ length xs) (plain : ArePlain xs 0 end) where
  -- it has four octets at most, since the fourth in a row of 128 or more is not plain
  short : (at start : ℕ) → at < end → Reaches xs at start → at - start ≤ 3
  short at start within reached = ⊎_elim (λ few. omega arith)
      (λ many.
      let fourth = (plain (start + 3) (omega arith) (omega arith)).1 (omega arith) (reached.more (start + 3) (omega arith) (omega arith)) in
      let back : start + 3 - 1 ≡ start + 2 = omega arith in
      let back_two : start + 3 - 2 ≡ start + 1 = omega arith in
      let back_three : start + 3 - 3 ≡ start = omega arith in
      let low = fourth (rw back (reached.more (start + 2) (omega arith) (omega arith))) (rw back_two (reached.more (start + 1) (omega arith) (omega arith))) in
      absurd (omega (arith, rw back_three at low, reached.more start (omega arith) (omega arith))))
      (cases_lt at (start + 4))

  shortest : (at start : ℕ) → at < end → Reaches xs at start → get_or xs start 0 ≢ 128
  shortest at start within reached =
      let before = reached.before in
      λ is. let (later, high) = (plain start (omega arith) (omega arith)).0 is in absurd (omega (arith, high, reached.starts (omega arith)))

  -- the part that ends at an index has no fault
  reaches_low : (at start : ℕ) → at < end → Reaches xs at start → get_or xs at 0 < 128 → Reaches xs (suc at) (suc at)
  reaches_low at start within reached low =
      let before = reached.before in
      let back : suc at - 1 ≡ at = omega arith in
      let last : start + (at - start) ≡ at = omega arith in
      let ended = end_short xs start (at - start) (suc at) (short at start within reached) (omega arith) (shortest at start within reached)
      (all_high xs start (at - start) (λ i from less. reached.more i from (omega arith))) (rw last low) (omega arith) in
      record { before = omega arith; starts = λ some. rw back low; more = λ i from less. absurd (omega arith); fault = reached.fault ∙ ended }

  reaches_high : (at start : ℕ) → Reaches xs at start → 128 ≤ get_or xs at 0 → Reaches xs (suc at) start
  reaches_high at start reached high =
      let before = reached.before in
      record {
        before = omega arith;
        starts = reached.starts;
        more = λ i from less. ⊎_elim (λ earlier. reached.more i from earlier) (λ same. let is : i ≡ at = omega arith in rw is high) (cases_lt i at);
        fault = reached.fault;
      }

  reaches : (at : ℕ) → at ≤ end → (start : ℕ) × Reaches xs at start
  reaches zero within =
      (0, record { before = omega arith; starts = λ some. absurd (some refl); more = λ i from less. absurd (omega arith); fault = refl })
  reaches (suc at) within =
      let (start, reached) = reaches at (omega arith) in
      ⊎_elim (λ low. (suc at, reaches_low at start (omega arith) reached low)) (λ high. (start, reaches_high at start reached high))
      (cases_lt (get_or xs at 0) 128)

  -- so that the parts before the one that it is in have none
  pub start_fault : (start : ℕ) → start ≤ end → (start ≢ 0 → get_or xs (start - 1) 0 < 128)
      → ((i : ℕ) → start ≤ i → i < end → 128 ≤ get_or xs i 0) → fault_at xs 0 ≡ fault_at xs start
  start_fault start before starts more =
      let (reached, is) = reaches end (omega arith) in
      let within = is.before in
      let not_later : start < reached → ⊥ = λ later. omega (arith, more (reached - 1) (omega arith) (omega arith), is.starts (omega arith)) in
      let not_earlier : reached < start → ⊥ = λ earlier. omega (arith, is.more (start - 1) (omega arith) (omega arith), starts (omega arith)) in
      let same : reached ≡ start = omega arith in
      rw same at is.fault

-- a window that begins no later than those before it end
pub more_plain : (xs : List ℕ) (end from to : ℕ) → ArePlain xs 0 end → ArePlain xs from to → from ≤ end → ArePlain xs 0 to
more_plain xs end from to plain window meets at start inside =
    ⊎_elim (λ earlier. plain at start earlier) (λ later. window at (omega arith) inside) (cases_lt at end)

pub plain_drop : (xs : List ℕ) (from : ℕ) → ArePlain (drop from xs) 3 11 → ArePlain xs (from + 3) (from + 11)
plain_drop xs from window at start inside =
    let is : from + (at - from) ≡ at = omega arith in
    rw is at (plain_from xs from (at - from) (omega arith) (window (at - from) (omega arith) (omega arith)))

-- the octets of a slice that are left after eight more
module _ (xs rest : List ℕ) (left : rest ≡ drop (length xs - length rest) xs) (fewer : length rest ≤ length xs) where
  pub left_after : (after : List ℕ) → 8 ≤ length rest → after ≡ drop 8 rest → after ≡ drop (length xs - length after) xs
  left_after after some is =
      let long : length after ≡ length rest - 8 = rw is (length-drop 8 rest) in
      let from : length xs - length rest + 8 ≡ length xs - length after = omega arith in
      is ∙ ap (drop 8) left ∙ rw from at (drop-drop 8 (length xs - length rest) xs)

  pub plain_after : ArePlain xs 0 (length xs - length rest + 3) → ArePlain rest 3 11 → ArePlain xs 0 (length xs - length rest + 11)
  plain_after plain window =
      more_plain xs (length xs - length rest + 3) (length xs - length rest + 3) (length xs - length rest + 11) plain
      (plain_drop xs (length xs - length rest) (rw left at window)) (omega arith)

-- ---- the first window and the last one

module _ (xs : List ℕ) where
  low_plain : (at : ℕ) → get_or xs at 0 < 128 → IsPlain xs at
  low_plain at low = (λ is. absurd (omega arith), λ third high. absurd (omega arith))

  pub few_plain : length xs < 4 → bit_or (slice_index xs 0) (slice_index xs (length xs / 2)) < 128
      → slice_index xs (length xs - 1) < 128 → ArePlain xs 0 (length xs)
  few_plain few low last at start inside =
      let first = get_or xs 0 0 in
      let middle = get_or xs (length xs / 2) 0 in
      let first_low : first < 128 = omega (arith, le_or_l first middle) in
      let middle_low : middle < 128 = omega (arith, le_or_r first middle) in
      low_plain at (⊎_elim (λ zeroth. let is : at ≡ 0 = omega arith in rw is first_low)
      (λ later. ⊎_elim (λ earlier. let is : at ≡ length xs / 2 = omega arith in rw is middle_low)
      (λ end. let is : at ≡ length xs - 1 = omega arith in rw is last) (cases_lt at (length xs - 1)))
      (cases_lt at 1))

  pub first_plain : (window : List ℕ) → window ≡ take 8 xs → ArePlain window 0 8 → ArePlain xs 0 8
  first_plain window is plain at start inside = plain_taken xs 8 at inside (rw is at (plain at start inside))

  pub last_plain : (window : List ℕ) (from : ℕ) → window ≡ take 8 (drop from xs) → ArePlain window 0 8
      → ArePlain xs (from + 3) (from + 8)
  last_plain window from is plain at start inside =
      let k = at - from in
      let here : from + k ≡ at = omega arith in
      rw here at (plain_from xs from k (omega arith) (plain_taken (drop from xs) 8 k (omega arith) (rw is at (plain k (omega arith) (omega arith)))))

pub ends_plain : (xs window : List ℕ) → 4 ≤ length xs → length xs < 8 → window ≡ take 4 xs ++ drop (length xs - 4) xs
    → ArePlain window 0 8 → ArePlain xs 0 (length xs)
ends_plain (a ∷ b ∷ c ∷ d ∷ rest) window enough few is plain zero start inside = rw is at (plain 0 (omega arith) (omega arith))
ends_plain (a ∷ b ∷ c ∷ d ∷ rest) window enough few is plain (suc zero) start inside = rw is at (plain 1 (omega arith) (omega arith))
ends_plain (a ∷ b ∷ c ∷ d ∷ rest) window enough few is plain (suc (suc zero)) start inside = rw is at (plain 2 (omega arith) (omega arith))
ends_plain (a ∷ b ∷ c ∷ d ∷ rest) window enough few is plain (suc (suc (suc zero))) start inside = rw is at (plain 3 (omega arith) (omega arith))
ends_plain (a ∷ b ∷ c ∷ d ∷ e ∷ []) window enough few is plain (suc (suc (suc (suc zero)))) start inside =
    grind (arith, rw is at (plain 7 (omega arith) (omega arith)))
ends_plain (a ∷ b ∷ c ∷ d ∷ e ∷ f ∷ []) window enough few is plain (suc (suc (suc (suc zero)))) start inside =
    grind (arith, rw is at (plain 6 (omega arith) (omega arith)))
ends_plain (a ∷ b ∷ c ∷ d ∷ e ∷ f ∷ []) window enough few is plain (suc (suc (suc (suc (suc zero))))) start inside =
    grind (arith, rw is at (plain 7 (omega arith) (omega arith)))
ends_plain (a ∷ b ∷ c ∷ d ∷ e ∷ f ∷ g ∷ []) window enough few is plain (suc (suc (suc (suc zero)))) start inside =
    grind (arith, rw is at (plain 5 (omega arith) (omega arith)))
ends_plain (a ∷ b ∷ c ∷ d ∷ e ∷ f ∷ g ∷ []) window enough few is plain (suc (suc (suc (suc (suc zero))))) start inside =
    grind (arith, rw is at (plain 6 (omega arith) (omega arith)))
ends_plain (a ∷ b ∷ c ∷ d ∷ e ∷ f ∷ g ∷ []) window enough few is plain (suc (suc (suc (suc (suc (suc zero)))))) start inside =
    grind (arith, rw is at (plain 7 (omega arith) (omega arith)))
ends_plain _ window enough few is plain at start inside = absurd (omega arith)

-- all are, and the last one ends a part
pub plain_valid : (xs : List ℕ) → ArePlain xs 0 (length xs) → slice_index xs (length xs - 1) < 128 → fault_at xs 0 ≡ None
plain_valid xs plain last =
    let end = length xs in
    let faults = start_fault xs end (omega arith) plain end (omega arith) (λ some. last) (λ i from inside. absurd (omega arith)) in
    faults ∙ rw (drop_all end xs (omega arith)) refl

-- an index up to which they are, where a test says that not all are
pub plain_or_all : (xs : List ℕ) (odd : Bool) (at : ℕ) {result : Option ℕ} → result ≡ then_some odd at → at ≤ length xs → ArePlain xs 0 at
    → (odd ≡ false → ArePlain xs 0 (length xs))
    → MatchOption result (ArePlain xs 0 (length xs)) (λ end. (end ≤ length xs) × ArePlain xs 0 end)
plain_or_all xs true at is within before all = rw is (within, before)
plain_or_all xs false at is within before all = rw is (all refl)
