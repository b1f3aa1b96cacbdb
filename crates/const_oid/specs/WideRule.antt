-- What the wide rule of the root changes: second arcs above `max_narrow` under the first arc 2.
use Rattle.std.specs.Prelude.{◌≡◌, ℕ, ◌<◌, List, [], ◌∷◌, Option, Some}
use Rattle.const_oid.specs.declared.error.Error.{Error}
use Rattle.const_oid.specs.declared.error.Error.TheVariants.{ArcInvalid}
use Rattle.const_oid.specs.Identifier.{max_narrow}

-- the first arc is 2, and the second is above 39
abbrev pub IsPastNarrow : List ℕ → Type 0
IsPastNarrow [] = ⊥
IsPastNarrow (first ∷ []) = ⊥
IsPastNarrow (first ∷ second ∷ later) = (first ≡ 2) × (max_narrow < second)

-- the first number is 2, and the fault is that the second is out of range
abbrev pub RefusesSecond : List ℕ → Option Error → Type 0
RefusesSecond [] fault = ⊥
RefusesSecond (first ∷ []) fault = ⊥
RefusesSecond (first ∷ second ∷ later) fault = (first ≡ 2) × (fault ≡ Some (ArcInvalid second))
