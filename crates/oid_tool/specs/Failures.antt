-- The bytes of a reader and a writer after a failure.
use Rattle.std.specs.Prelude.{◌≡◌, ◌≢◌, ℕ, ◌≤◌, length, Option, List, [], ◌++◌}
use Rattle.std.specs.Io.KnownBytes.{Appends, Consumes}

-- known bytes grow by a prefix of `bytes`, but not by all of them
pub record AppendsPrefix (old new : Option (List ℕ)) (bytes : List ℕ) : Type 0 where
  pub prefix : List ℕ
  pub missing : List ℕ
  pub appends : Appends old new prefix
  pub whole : prefix ++ missing ≡ bytes
  pub shorter : missing ≢ []

-- known bytes lose the first n of them
pub record ConsumesNumber (old new : Option (List ℕ)) (n : ℕ) : Type 0 where
  pub bytes : List ℕ
  pub consumes : Consumes old new bytes
  pub number : length bytes ≡ n

-- known bytes lose at most n of them
pub record ConsumesAtMost (old new : Option (List ℕ)) (n : ℕ) : Type 0 where
  pub bytes : List ℕ
  pub consumes : Consumes old new bytes
  pub number : length bytes ≤ n
