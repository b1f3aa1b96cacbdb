-- The longest name that a text begins with, of at most as many bytes.
use Rattle.std.proofs.Common.{◌≡◌, ℕ, zero, suc, ◌-◌, ◌<◌, ◌≤◌, List, arith, refl, inl, inr, ap}
use Rattle.std.specs.Prelude.{min, Some, None}
use Rattle.std.proofs.lemmas.{Bool.Decides.nat_tests, Bool.cases_lt}
use Rattle.const_oid.specs.Rows.{Rows}
use Rattle.const_oid.specs.Typed.{spelt_at, spelt_up_to}

module _ (entries : Rows) (text : List ℕ) where
  -- no name has more than 255 bytes
  none_long : (n : ℕ) → 255 < n → spelt_at entries text n ≡ None
  none_long n long = grind (arith, nat_tests)

  short_enough : (n : ℕ) → 255 ≤ n → spelt_up_to entries text n ≡ spelt_up_to entries text 255
  short_enough zero long = absurd (omega arith)
  short_enough (suc n) long = elim (cases_lt n 255) [
    | inl less ↦ let e : n ≡ 254 = omega arith in ap (λ m. spelt_up_to entries text (suc m)) e
    | inr more ↦ rw (none_long (suc n) (omega arith)) (short_enough n more)
  ]

  pub at_most_255 : (n : ℕ) → spelt_up_to entries text n ≡ spelt_up_to entries text (min n 255)
  at_most_255 n = elim (cases_lt n 255) [
    | inl less ↦ let e : min n 255 ≡ n = omega arith in rw e refl
    | inr more ↦ let e : min n 255 ≡ 255 = omega arith in rw e (short_enough n more)
  ]

  pub found_here : (n : ℕ) (spelt : List ℕ) → spelt_at entries text n ≡ Some spelt → spelt_up_to entries text n ≡ Some spelt
  found_here zero spelt found = found
  found_here (suc n) spelt found = rw found refl

  pub found_before : (n : ℕ) → 0 < n → spelt_at entries text n ≡ None → spelt_up_to entries text n ≡ spelt_up_to entries text (n - 1)
  found_before zero some none = absurd (omega arith)
  found_before (suc n) some none = let e : suc n - 1 ≡ n = omega arith in rw (none, e) refl
