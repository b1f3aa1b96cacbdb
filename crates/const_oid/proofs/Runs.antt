-- The run of elements at the head of a list that pass a test, found in a part of the list.
use Rattle.std.proofs.Common.{◌≡◌, ℕ, ◌+◌, ◌-◌, ◌<◌, ◌≤◌, Bool, true, false, List, [], ◌∷◌, length, take, drop, get_or, sym, ◌∙◌, arith, Bor}
use Rattle.std.specs.{Fn.{Mut, Called, ComputesKey}, List.{AllWithin}, List.Sorted.IsPartitionedBy}
use Rattle.std.proofs.lemmas.{List.{get_or-take, get_or-drop, length-take, length-drop, get_or_read}, Bool.{Decides.nat_tests}}
use Rattle.const_oid.proofs.Subtree.{IsCut}

-- what a call of a test gives, and the test after the call
pub computed : {F X K : Type 0} (g : Mut F (Bor X × Unit {0}) K) (key : X → K) {f : F} {a : Bor X × Unit {0}} {r : K} {f' : F}
    → Called g f a r f' → ComputesKey g key f → (r ≡ key a.0.now) × ComputesKey g key f'
computed g key {f} {a} {r} {f'} call by = ((by.at (a ∷ []) r f' call).0, record { at = λ xs. (by.at (a ∷ xs) r f' call).1 })

module _ {X : Type 0} (p : X → Bool) (xs : List X) (by : IsPartitionedBy p xs) where
  -- each element up to one that passes does
  pub passed_upto : (place : ℕ) (item : X) → place < length xs → item ≡ get_or xs place item → true ≡ p item
      → AllWithin (λ x. p x ≡ true) xs 0 (place + 1)
  passed_upto place item inside is passes k d z l =
      by k place d (omega arith) inside (rw (← get_or_read xs place item inside is d) (sym passes))

  -- and no element from one that fails
  pub failed_from : (place : ℕ) (item : X) → place < length xs → item ≡ get_or xs place item → false ≡ p item
      → AllWithin (λ x. p x ≡ false) xs place (length xs)
  failed_from place item inside is fails k d from l =
      grind (arith, nat_tests, by place k d, get_or_read xs place item inside is d)

  module _ (start end : ℕ) (up : start ≤ end) (within : end ≤ length xs) where
    get_between : (k : ℕ) (d : X) → k < end - start
        → get_or (take (end - start) (drop start xs)) k d ≡ get_or xs (start + k) d
    get_between k d l = get_or-take (end - start) (drop start xs) k d l ∙ get_or-drop start xs k d

    length_between : length (take (end - start) (drop start xs)) ≡ end - start
    length_between = omega (arith, length-take (end - start) (drop start xs), length-drop start xs)

    -- the test cuts the part, too
    pub parted_between : IsPartitionedBy p (take (end - start) (drop start xs))
    parted_between i j d le l =
        let long = length_between in
        rw (get_between i d (omega arith), get_between j d (omega arith)) (by (start + i) (start + j) d (omega arith) (omega arith))

    -- where it cuts the part, it cuts the whole
    pub cut_between : AllWithin (λ x. p x ≡ true) xs 0 start → AllWithin (λ x. p x ≡ false) xs end (length xs)
        → (i : ℕ) → i ≤ length (take (end - start) (drop start xs)) → IsCut p (take (end - start) (drop start xs)) i → IsCut p xs (start + i)
    cut_between before after i inside cut =
        let long = length_between in (
          λ k d z l. grind (arith, before k d, get_between (k - start) d, cut.0 (k - start) d),
          λ k d m l. grind (arith, after k d, get_between (k - start) d, cut.1 (k - start) d),
        )
