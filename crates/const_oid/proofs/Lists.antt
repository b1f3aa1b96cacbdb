-- Lists put together, and put before the first of some lists.
use Rattle.std.proofs.Common.{◌≡◌, ℕ, List, [], ◌∷◌, ◌++◌, append_assoc, arith}
use Rattle.std.specs.List.{AllByRecursion}
use Rattle.std.proofs.lemmas.{Grind.common_steps, Bool.Decides.nat_tests}

pub append-cons : (before : List ℕ) (x : ℕ) (xs : List ℕ) → (before ++ x ∷ []) ++ xs ≡ before ++ x ∷ xs
append-cons before x xs = append_assoc before (x ∷ []) xs

-- what holds of the elements of both holds of those of the joined list
pub all_append : (P : ℕ → Type 0) (xs ys : List ℕ) → AllByRecursion P xs → AllByRecursion P ys
    → AllByRecursion P (xs ++ ys)
all_append P xs ys p q = grind (arith, nat_tests, common_steps)

pub all_at : (P : ℕ → Type 0) (before : List ℕ) (x : ℕ) (rest : List ℕ) → AllByRecursion P (before ++ x ∷ rest) → P x
all_at P [] x rest h = h.0
all_at P (y ∷ ys) x rest h = all_at P ys x rest h.1
