-- Octets of a subidentifier that are written one after another, the last one after all others.
use Rattle.std.proofs.Common.{◌≡◌, ◌≢◌, ℕ, suc, ◌+◌, ◌*◌, ◌/◌, ◌%◌, ◌^◌, ◌<◌, ◌≤◌, List, [], ◌∷◌, ◌++◌, length, take, drop}
use Rattle.std.proofs.Common.{slice_index, refl, sym, ap, ◌∙◌, arith, append_assoc, get_or, zero-add, length-append, pow-suc, Ok, Err}
use Rattle.std.proofs.{Math.Nat.div-div-eq-div-mul, lemmas.Nat.pow-add}
use Rattle.std.proofs.{Math.ListN.set, Math.Seq.set-append_seam, lemmas.List.{drop_more, length-take-le, take-append-drop}}
use Rattle.const_oid.specs.{Base128.{value_of, width, IsContinued, IsGroup}, Private.Octets.AppendsTo}
use Rattle.const_oid.specs.declared.error.Error.TheVariants.{Length}
use Rattle.const_oid.proofs.Groups.{length_is, small_is, width_is}

-- the digits above the last one of those from a bit on
pub digits_above : (n bit : ℕ) → n / 2 ^ (bit + 7) ≡ n / 2 ^ bit / 128
digits_above n bit = ap (λ p. n / p) (pow-add 2 bit 7) ∙ sym (div-div-eq-div-mul n (2 ^ bit) 128)

-- ---- one more digit

continued_more : (xs : List ℕ) (d e : ℕ) → d < 128 → e < 128 → IsContinued (xs ++ d ∷ [])
    → IsContinued (xs ++ (128 + d) ∷ e ∷ [])
continued_more [] d e small last are = (omega arith, omega arith, last)
continued_more (x ∷ []) d e small last are = (are.0, are.1, (omega arith, omega arith, last))
continued_more (x ∷ y ∷ ys) d e small last are = (are.0, are.1, continued_more (y ∷ ys) d e small last are.2)

value_more : (xs : List ℕ) (d e : ℕ) → d < 128 → e < 128
    → value_of (xs ++ (128 + d) ∷ e ∷ []) ≡ value_of (xs ++ d ∷ []) * 128 + e
value_more [] d e small last = omega arith
value_more (x ∷ xs) d e small last =
    let long : length (xs ++ (128 + d) ∷ e ∷ []) ≡ suc (length (xs ++ d ∷ [])) = omega (arith, length-append xs ((128 + d) ∷ e ∷ []), length-append xs (d ∷ [])) in
    rw (long, pow-suc 128 (length (xs ++ d ∷ [])), value_more xs d e small last) (omega arith)

first_more : (xs : List ℕ) (d e : ℕ) → 0 < value_of (xs ++ d ∷ []) → slice_index (xs ++ d ∷ []) 0 ≢ 128
    → slice_index (xs ++ (128 + d) ∷ e ∷ []) 0 ≢ 128
first_more [] d e some other same = omega arith
first_more (x ∷ xs) d e some other same = other same

group_more : {n : ℕ} (xs : List ℕ) (d e : ℕ) → d < 128 → e < 128 → 0 < n → IsGroup n (xs ++ d ∷ [])
    → IsGroup (n * 128 + e) (xs ++ (128 + d) ∷ e ∷ [])
group_more xs d e small last some group = record {
  continued = continued_more xs d e small last group.continued;
  shortest = first_more xs d e (omega (arith, group.value)) group.shortest;
  value = rw group.value (sym (value_more xs d e small last));
}

-- ---- the octets so far

-- a slice that has the capacity goes on by octets, which any last digit makes the subidentifier of a number with these
-- leading digits
pub record IsLed (capacity used digits : ℕ) (old new : List ℕ) (at : ℕ) : Type 0 where
  pub octets : List ℕ
  pub group : (digit : ℕ) → digit < 128 → IsGroup (digits * 128 + digit) (octets ++ digit ∷ [])
  pub long : at ≡ used + length octets
  pub begins : capacity ≤ length old → new ≡ take used old ++ (octets ++ drop at old)

set_next : (used at x : ℕ) (old octets : List ℕ) → at ≡ used + length octets → at < length old
    → set (take used old ++ (octets ++ drop at old)) at x ≡ take used old ++ ((octets ++ x ∷ []) ++ drop (at + 1) old)
set_next used at x old octets long inside =
    let start = take used old ++ octets in
    let is : at ≡ length start = omega (arith, length-append (take used old) octets, length-take-le used old (omega arith)) in
    let seam = set-append_seam start (get_or old at 0) (drop (at + 1) old) x in
    rw (drop_more old at 0 inside, ← append_assoc (take used old) octets (get_or old at 0 ∷ drop (at + 1) old))
    (ap (λ i. set (start ++ get_or old at 0 ∷ drop (at + 1) old) i x) is ∙ seam
    ∙ simp append_assoc)

module _ (capacity used : ℕ) (old : List ℕ) where
  pub nothing_led : IsLed capacity used 0 old old used
  nothing_led = record { octets = []; group = λ digit small. rw zero-add (small_is digit small); long = omega arith; begins = λ room. sym (take-append-drop used old) }

  -- an octet more
  pub led_on : {digits at : ℕ} {new newer : List ℕ} (n : ℕ) → IsLed capacity used digits old new at
      → digits ≡ n / 128 → 0 < n → at < capacity → (capacity ≤ length old → newer ≡ set new at (128 + n % 128))
      → IsLed capacity used n old newer (at + 1)
  led_on {digits} {at} n led is some fits written =
      let octets = led.octets in
      let d = n % 128 in
      let same : digits * 128 + d ≡ n = omega arith in
      record {
        octets = octets ++ (128 + d) ∷ [];
        group = λ digit small. rw append_assoc (group_more octets d digit (omega arith) small some (rw same at (led.group d (omega arith))));
        long = omega (arith, led.long, length-append octets ((128 + d) ∷ []));
        begins = λ room. written room ∙ ap (λ l. set l at (128 + d)) (led.begins room) ∙ set_next used at (128 + d) old octets led.long (omega arith);
      }

  -- the last octet
  pub led_to : {digits at : ℕ} {new newer : List ℕ} (n : ℕ) → IsLed capacity used digits old new at
      → digits ≡ n / 128 → at < capacity → (capacity ≤ length old → newer ≡ set new at (n % 128))
      → AppendsTo capacity n used old newer (Ok (at + 1))
  led_to {digits} {at} n led is fits written =
      let d = n % 128 in
      let same : digits * 128 + d ≡ n = omega arith in
      let group = rw same at (led.group d (omega arith)) in
      let wide = length_is group in (
        omega (arith, led.long, length-append led.octets (d ∷ [])),
        omega arith,
        λ room.
            (led.octets ++ d ∷ [], group, written room ∙ ap (λ l. set l at d) (led.begins room) ∙ set_next used at d old led.octets led.long (omega arith)),
      )

  -- no room for an octet more
  pub led_past : {digits at : ℕ} {new : List ℕ} (newer : List ℕ) (n number : ℕ) → IsLed capacity used digits old new at
      → digits ≡ n / 128 → n ≤ number → capacity ≤ at → AppendsTo capacity number used old newer (Err Length)
  led_past {digits} {at} newer n number led is less past =
      let d = n % 128 in
      let same : digits * 128 + d ≡ n = omega arith in
      let long = length_is (rw same at (led.group d (omega arith))) in
      let wide = width_is number in
      let narrow : width n ≤ width number = (width_is n).least (width number) wide.positive (omega (arith, wide.enough)) in
      (refl, omega (arith, led.long, length-append led.octets (d ∷ [])))
