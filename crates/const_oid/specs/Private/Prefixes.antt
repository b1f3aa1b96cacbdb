-- What octets begin with: whole subidentifiers.
use Rattle.std.specs.Prelude.{◌≡◌, ◌≢◌, ℕ, suc, ◌<◌, ◌≤◌, List, [], length, slice_index, None}
use Rattle.const_oid.specs.{Contents.{arcs_of_octets, cut, parts_fault}, Identifier.{root_rule, IsEncoding}, Tree.BeginsWith}

-- octets up to the last one below 128
pub record IsFinishedPrefix (octets prefix : List ℕ) : Type 0 where
  pub begins : BeginsWith octets prefix
  pub ends : (k : ℕ) → length prefix ≡ suc k → slice_index octets k < 128
  pub last : (k : ℕ) → length prefix ≤ k → k < length octets → 128 ≤ slice_index octets k

-- the longest encoding that valid octets and others begin with, or no octets
pub record IsCommonPrefix (octets others prefix : List ℕ) : Type 0 where
  pub begins : BeginsWith octets prefix
  pub begins_others : BeginsWith others prefix
  pub valid : prefix ≢ [] → parts_fault root_rule (cut prefix) ≡ None
  pub longest : (encoding : List ℕ) → IsEncoding root_rule (arcs_of_octets encoding) encoding
      → BeginsWith octets encoding → BeginsWith others encoding → BeginsWith prefix encoding
