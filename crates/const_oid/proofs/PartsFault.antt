-- The faults of octets by their first part, and what octets without a fault begin with.
use Rattle.std.proofs.Common.{◌≡◌, ◌≢◌, ℕ, ◌+◌, ◌*◌, ◌^◌, ◌<◌, ◌≤◌, Bool, true, false, if◌then◌else◌, nat_lt, List, []}
use Rattle.std.proofs.Common.{◌∷◌, ◌++◌, length, map, take, drop, get_or, slice_index, None, Some, refl, arith}
use Rattle.std.proofs.Common.{length-append}
use Rattle.std.specs.List.{AllByRecursion, onto_first}
use Rattle.std.proofs.Math.Nat.{one-le-pow, le-mul_of_pos_right}
use Rattle.std.proofs.lemmas.{Grind.common_steps, Nat.pow-add, Bool.Decides.nat_tests}
use Rattle.const_oid.specs.{declared.error.Error.TheVariants.{ArcTooBig, Base128}, Base128.{value_of, width}}
use Rattle.const_oid.specs.{Identifier.{root_rule, max_arc}, Contents.{cut, later_fault, parts_fault, max_first}}
use Rattle.const_oid.specs.{Private.Octets.fault_from, Private.Groups.{IsPastFour, IsFaulty}}
use Rattle.const_oid.proofs.{Lists.append-cons, Groups.width_is, Cutting.{cut_after-more, cut-some}}

-- from the start of a later part
pub parts_from_later : (octets : List ℕ) → octets ≢ [] → later_fault (cut octets) ≡ None
    → parts_fault root_rule (cut octets) ≡ None
parts_from_later octets some h = grind (arith, nat_tests, cut-some)

-- later numbers are arcs
pub later_small : (parts : List (List ℕ)) (n : ℕ) (ns : List ℕ) → later_fault parts ≡ None
    → map value_of parts ≡ n ∷ ns → n ≤ max_arc
later_small [] n ns h e = cc
later_small (part ∷ parts) n ns h e = grind (arith, nat_tests)

-- octets that are some have the fault of their parts, the first one at its own limit
pub parts_at : (octets : List ℕ) → octets ≢ []
    → fault_from (max_first root_rule) (cut octets) ≡ parts_fault root_rule (cut octets)
parts_at octets some = grind (arith, nat_tests, cut-some)

-- ---- a first part whose number is too great

split_power : (d p q v w : ℕ) → d * (p * q) + (v * q + w) ≡ (d * p + v) * q + w
split_power d p q v w = omega arith

value_of-append : (xs ys : List ℕ) → value_of (xs ++ ys) ≡ value_of xs * 128 ^ length ys + value_of ys
value_of-append [] ys = omega arith
value_of-append (x ∷ xs) ys = grind (arith, nat_tests, length-append, pow-add, value_of-append xs ys, split_power)

-- more octets have no smaller value
value_of-more : (xs ys : List ℕ) → value_of xs ≤ value_of (xs ++ ys)
value_of-more xs ys = grind (arith, nat_tests, value_of-append, one-le-pow, le-mul_of_pos_right)

-- octets with bit 8, and the one after them, begin the first part
begins_part : (read : List ℕ) (x : ℕ) (xs : List ℕ) → AllByRecursion (λ octet. 128 ≤ octet) read
    → (tail : List ℕ) × (parts : List (List ℕ)) × (cut (read ++ x ∷ xs) ≡ (read ++ x ∷ tail) ∷ parts)
begins_part [] x xs more = by (nat_lt x 128) (cut xs)
  where
    by : (last : Bool) (parts : List (List ℕ)) → (tail : List ℕ) × (after : List (List ℕ))
        × ((if last then (x ∷ []) ∷ parts else onto_first x parts) ≡ (x ∷ tail) ∷ after)
    by true parts = ([], parts, refl)
    by false [] = ([], [], refl)
    by false (part ∷ parts) = (part, parts, refl)
begins_part (y ∷ ys) x xs more =
    let (tail, parts, is) = begins_part ys x xs more.1 in
    (tail, parts, rw (cut_after-more y (cut (ys ++ x ∷ xs)) more.0, is) refl)

-- the value of these octets is enough
big_part : (limit start : ℕ) (read : List ℕ) (x : ℕ) (xs : List ℕ)
    → AllByRecursion (λ octet. 128 ≤ octet) (start ∷ read) → start ≢ 128
    → limit < value_of (start ∷ read ++ x ∷ []) → fault_from limit (cut (start ∷ read ++ x ∷ xs)) ≡ Some ArcTooBig
big_part limit start read x xs more first big =
    let (tail, parts, is) = begins_part (start ∷ read) x xs more in
    let least = rw (append-cons read x tail) at (value_of-more (start ∷ read ++ x ∷ []) tail) in
    grind (arith, nat_tests)

-- the value of the first five octets is
pub five_big : (limit : ℕ) (octets : List ℕ) → 5 ≤ length octets → IsPastFour octets → limit < value_of (take 5 octets)
    → fault_from limit (cut octets) ≡ Some ArcTooBig
five_big limit (a ∷ b ∷ c ∷ d ∷ e ∷ xs) five (first, octet, more) big =
    big_part limit a (b ∷ c ∷ d ∷ []) e xs more first big
five_big limit _ five long big = absurd (omega arith)

-- that of six octets always is
pub six_big : (limit : ℕ) (octets : List ℕ) → 5 < length octets → IsPastFour octets → 128 ≤ get_or octets 4 0
    → limit ≤ max_first root_rule → fault_from limit (cut octets) ≡ Some ArcTooBig
six_big limit (first ∷ second ∷ third ∷ fourth ∷ fifth ∷ sixth ∷ rest) six (shortest, octet, high) last small =
    let (first_high, (second_high, (third_high, (fourth_high, end)))) = high in
    let big : limit < value_of (first ∷ second ∷ third ∷ fourth ∷ fifth ∷ sixth ∷ []) = omega arith in
    big_part limit first (second ∷ third ∷ fourth ∷ fifth ∷ []) sixth rest
    (first_high, (second_high, (third_high, (fourth_high, (last, tt))))) shortest big
six_big limit _ six long last small = absurd (omega arith)

-- five octets end a part
pub five_last : (limit : ℕ) (octets : List ℕ) → 5 ≤ length octets → IsPastFour octets → get_or octets 4 0 < 128
    → value_of (take 5 octets) ≤ limit → fault_from limit (cut octets) ≡ later_fault (cut (drop 5 octets))
five_last limit (a ∷ b ∷ c ∷ d ∷ e ∷ xs) five long last small = grind (arith, nat_tests)
five_last limit _ five long last small = absurd (omega arith)

-- there are just five octets, and the part does not end
pub five_open : (limit : ℕ) (octets : List ℕ) → length octets ≡ 5 → IsPastFour octets → 128 ≤ get_or octets 4 0
    → value_of (take 5 octets) ≤ limit → fault_from limit (cut octets) ≡ Some Base128
five_open limit (a ∷ b ∷ c ∷ d ∷ e ∷ []) five long last small = grind (arith, nat_tests)
five_open limit _ five long last small = absurd (omega arith)

-- there are no more than four
pub four_open : (limit : ℕ) (octets : List ℕ) → 0 < length octets → length octets < 5 → IsPastFour octets → max_arc ≤ limit
    → fault_from limit (cut octets) ≡ Some Base128
four_open limit [] some four long small = absurd (omega arith)
four_open limit (first ∷ []) some four long small = grind (arith, nat_tests)
four_open limit (first ∷ second ∷ []) some four long small = grind (arith, nat_tests)
four_open limit (first ∷ second ∷ third ∷ []) some four long small = grind (arith, nat_tests)
four_open limit (first ∷ second ∷ third ∷ fourth ∷ []) some four long small = grind (arith, nat_tests)
four_open limit (first ∷ second ∷ third ∷ fourth ∷ fifth ∷ rest) some four long small = absurd (omega arith)

module _ (limit : ℕ) (octets : List ℕ) (first : slice_index octets 0 ≢ 128) (faulty : IsFaulty limit octets) where
  pub few_fault : 0 < length octets → length octets < 5 → max_arc ≤ limit → fault_from limit (cut octets) ≡ Some Base128
  few_fault some four small = let (long, last) = faulty first in four_open limit octets some four long small

  pub big_fault : 5 ≤ length octets → limit < value_of (take 5 octets) → fault_from limit (cut octets) ≡ Some ArcTooBig
  big_fault five big = let (long, last) = faulty first in five_big limit octets five long big

  last_more : 5 ≤ length octets → value_of (take 5 octets) ≤ limit → 128 ≤ slice_index octets 4
  last_more five small = let (long, last) = faulty first in grind (arith, last five)

  pub more_fault : 5 < length octets → value_of (take 5 octets) ≤ limit → limit ≤ max_first root_rule
      → fault_from limit (cut octets) ≡ Some ArcTooBig
  more_fault six below small =
      let (long, last) = faulty first in six_big limit octets six long (last_more (omega arith) below) small

  pub open_fault : length octets ≡ 5 → value_of (take 5 octets) ≤ limit → fault_from limit (cut octets) ≡ Some Base128
  open_fault five small =
      let (long, last) = faulty first in five_open limit octets five long (last_more (omega arith) small) small

-- the fault of a group that has one
pub ruleset group_faults = (few_fault, big_fault)

-- ---- a first group without a fault

-- k octets are enough
width_most : (k n : ℕ) → 1 ≤ k → n < 128 ^ k → width n ≤ k
width_most k n some below = (width_is n).least k some below

pub width_one : (n : ℕ) → n < 128 → width n ≤ 1
width_one n below = width_most 1 n (omega arith) (omega arith)

pub width_two : (n : ℕ) → n < 16384 → width n ≤ 2
width_two n below = width_most 2 n (omega arith) (omega arith)

pub width_three : (n : ℕ) → n < 2097152 → width n ≤ 3
width_three n below = width_most 3 n (omega arith) (omega arith)

pub width_four : (n : ℕ) → n < 268435456 → width n ≤ 4
width_four n below = width_most 4 n (omega arith) (omega arith)

pub width_five : (n : ℕ) → n < 34359738368 → width n ≤ 5
width_five n below = width_most 5 n (omega arith) (omega arith)

pub five_numbers : (octets : List ℕ) → 5 ≤ length octets → IsPastFour octets → get_or octets 4 0 < 128
    → map value_of (cut octets) ≡ value_of (take 5 octets) ∷ map value_of (cut (drop 5 octets))
five_numbers (a ∷ b ∷ c ∷ d ∷ e ∷ xs) five long last = grind (arith, nat_tests)
five_numbers _ five long last = absurd (omega arith)

pub ruleset groups_read =
    (common_steps, width_one, width_two, width_three, width_four, width_five, five_numbers, five_last)

pub first_valid : (octets : List ℕ) → parts_fault root_rule (cut octets) ≡ None → slice_index octets 0 ≢ 128
first_valid [] valid = absurd (cc)
first_valid (x ∷ xs) valid = grind (arith, nat_tests)

-- it has five octets at most
pub five_read : (octets : List ℕ) → 0 < length octets → IsPastFour octets → parts_fault root_rule (cut octets) ≡ None
    → (5 ≤ length octets) × (value_of (take 5 octets) ≤ max_first root_rule)
    × (later_fault (cut (drop 5 octets)) ≡ None)
    × (map value_of (cut octets) ≡ value_of (take 5 octets) ∷ map value_of (cut (drop 5 octets)))
five_read octets some long valid =
    let none : fault_from (max_first root_rule) (cut octets) ≡ None = grind (arith, parts_at) in
    let five : 5 ≤ length octets = grind (arith, four_open) in
    let small : value_of (take 5 octets) ≤ max_first root_rule = grind (arith, five_big) in
    let last : get_or octets 4 0 < 128 = grind (arith, five_open, six_big) in
    (five, small, grind (arith, five_last), five_numbers octets five long last)

pub ruleset valid_read = (common_steps, first_valid, five_read)
