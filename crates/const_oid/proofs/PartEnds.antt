-- Where the part ends that starts at an index of octets, or its fault.
use Rattle.std.proofs.Common.{◌≡◌, ◌≢◌, ℕ, zero, suc, ◌+◌, ◌<◌, ◌≤◌, List, [], ◌∷◌, take, drop, length, get_or}
use Rattle.std.proofs.Common.{slice_index, refl, ◌∙◌, arith, Some}
use Rattle.std.specs.List.{AllByRecursion}
use native.Mathlib.Numerals.{unary_clauses}
use Rattle.std.proofs.lemmas.{Bool.Decides.nat_tests, List.{length-drop, drop-drop, get_or-drop, take_all}}
use Rattle.const_oid.specs.{declared.error.Error.TheVariants.{ArcTooBig, Base128}, Base128.value_of}
use Rattle.const_oid.specs.{Identifier.{root_rule, max_arc}, Contents.{cut, later_fault, max_first}}
use Rattle.const_oid.specs.Private.{Octets.{fault_from, limit_at, fault_at}, Groups.IsPastFour}
use Rattle.const_oid.proofs.PartsFault.{four_open, five_big, five_last, five_open, six_big}

limit_wide : (start : ℕ) → max_arc ≤ limit_at start
limit_wide start = grind (arith, nat_tests)

limit_small : (start : ℕ) → limit_at start ≤ max_first root_rule
limit_small start = grind (arith, nat_tests)

from_later : (parts : List (List ℕ)) → fault_from max_arc parts ≡ later_fault parts
from_later [] = refl
from_later (part ∷ parts) = refl

fault_later : (octets : List ℕ) (start : ℕ) → 0 < start → fault_at octets start ≡ later_fault (cut (drop start octets))
fault_later octets start later = grind (arith, nat_tests, from_later (cut (drop start octets)))

-- ---- a part of four octets at most

short_ended : (limit len : ℕ) (octets : List ℕ) → max_arc ≤ limit → len ≤ 3 → slice_index octets 0 ≢ 128
    → AllByRecursion (λ octet. 128 ≤ octet) (take len octets) → len < length octets → get_or octets len 0 < 128
    → fault_from limit (cut octets) ≡ later_fault (cut (drop (len + 1) octets))
short_ended limit zero (a ∷ xs) wide short first more inside last = grind (arith, nat_tests)
short_ended limit (suc zero) (a ∷ b ∷ xs) wide short first more inside last = grind (arith, nat_tests)
short_ended limit (suc (suc zero)) (a ∷ b ∷ c ∷ xs) wide short first more inside last = grind (arith, nat_tests)
short_ended limit (suc (suc (suc zero))) (a ∷ b ∷ c ∷ d ∷ xs) wide short first more inside last =
    grind (arith, nat_tests)
short_ended limit _ _ wide short first more inside last = absurd (omega arith)

pub end_short : (octets : List ℕ) (start len end : ℕ) → len ≤ 3 → start + len < length octets
    → get_or octets start 0 ≢ 128 → AllByRecursion (λ octet. 128 ≤ octet) (take len (drop start octets))
    → get_or octets (start + len) 0 < 128 → end ≡ start + len + 1 → fault_at octets start ≡ fault_at octets end
end_short octets start len end short inside first more last is =
    let start_first : get_or (drop start octets) 0 0 ≢ 128 = grind (arith, get_or-drop) in
    let ended = short_ended (limit_at start) len (drop start octets) (limit_wide start) short
    start_first more (rw length-drop (omega arith)) (rw get_or-drop last) in
    ended ∙ rw (drop-drop (len + 1) start octets) (grind (arith, fault_later octets end))

pub end_one : (octets : List ℕ) (start end : ℕ) → start < length octets → get_or octets start 0 < 128
    → end ≡ start + 1 → fault_at octets start ≡ fault_at octets end
end_one octets start end inside last is = grind (arith, end_short octets start 0 end)

-- one octet more does not end it
more_octets : (octets : List ℕ) (len : ℕ) → AllByRecursion (λ octet. 128 ≤ octet) (take len octets)
    → 128 ≤ get_or octets len 0 → AllByRecursion (λ octet. 128 ≤ octet) (take (len + 1) octets)
more_octets [] len more last = absurd (omega arith)
more_octets (x ∷ xs) zero more last = (last, tt)
more_octets (x ∷ xs) (suc len) more last =
    simp unary_clauses (more.0, simp unary_clauses at (more_octets xs len more.1 last))

pub more_at : (octets : List ℕ) (start len : ℕ) → AllByRecursion (λ octet. 128 ≤ octet) (take len (drop start octets))
    → 128 ≤ get_or octets (start + len) 0
    → AllByRecursion (λ octet. 128 ≤ octet) (take (len + 1) (drop start octets))
more_at octets start len more last = more_octets (drop start octets) len more (rw get_or-drop last)

pub long_at : (octets : List ℕ) (start len : ℕ) → len ≡ 4 → get_or octets start 0 ≢ 128 → get_or octets start 0 < 256
    → AllByRecursion (λ octet. 128 ≤ octet) (take len (drop start octets)) → IsPastFour (drop start octets)
long_at octets start len four first octet more =
    let first_is = get_or-drop start octets 0 0 in (grind arith, grind arith, rw four at more)

-- the octets end before it does
open_within : (octets : List ℕ) (len : ℕ) → length octets ≤ len → len ≤ 4
    → AllByRecursion (λ octet. 128 ≤ octet) (take len octets) → AllByRecursion (λ octet. 128 ≤ octet) (take 4 octets)
open_within octets len last short more = grind (arith, take_all len octets, take_all 4 octets)

pub open_short : (octets : List ℕ) (start len : ℕ) → len ≤ 3 → start < length octets → length octets ≤ start + len
    → get_or octets start 0 ≢ 128 → get_or octets start 0 < 256
    → AllByRecursion (λ octet. 128 ≤ octet) (take len (drop start octets)) → fault_at octets start ≡ Some Base128
open_short octets start len short inside last first octet more =
    let long = long_at octets start 4 refl first octet
    (open_within (drop start octets) len (rw length-drop (omega arith)) (omega arith) more) in
    four_open (limit_at start) (drop start octets) (rw length-drop (omega arith)) (rw length-drop (omega arith))
    long (limit_wide start)

-- ---- a part of five octets or more

module _ (octets : List ℕ) (start : ℕ) (inside : start < length octets) (long : IsPastFour (drop start octets)) where
  pub open_four : length octets ≤ start + 4 → fault_at octets start ≡ Some Base128
  open_four last =
      four_open (limit_at start) (drop start octets) (rw length-drop (omega arith)) (rw length-drop (omega arith))
      long (limit_wide start)

  pub big_at : start + 4 < length octets → limit_at start < value_of (take 5 (drop start octets))
      → fault_at octets start ≡ Some ArcTooBig
  big_at five big = five_big (limit_at start) (drop start octets) (rw length-drop (omega arith)) long big

  pub end_five : (end : ℕ) → start + 4 < length octets → value_of (take 5 (drop start octets)) ≤ limit_at start
      → get_or octets (start + 4) 0 < 128 → end ≡ start + 4 + 1 → fault_at octets start ≡ fault_at octets end
  end_five end five small last is =
      let ended = five_last (limit_at start) (drop start octets) (rw length-drop (omega arith)) long
      (rw get_or-drop last) small in
      ended ∙ rw (drop-drop 5 start octets) (grind (arith, fault_later octets end))

  pub open_five : length octets ≡ start + 4 + 1 → value_of (take 5 (drop start octets)) ≤ limit_at start
      → 128 ≤ get_or octets (start + 4) 0 → fault_at octets start ≡ Some Base128
  open_five five small last =
      five_open (limit_at start) (drop start octets) (rw length-drop (omega arith)) long (rw get_or-drop last) small

  pub big_six : start + 4 + 1 < length octets → 128 ≤ get_or octets (start + 4) 0
      → fault_at octets start ≡ Some ArcTooBig
  big_six six last =
      six_big (limit_at start) (drop start octets) (rw length-drop (omega arith)) long (rw get_or-drop last)
      (limit_small start)

pub ruleset five_ends = (open_four, big_at, end_five, open_five, big_six)
