-- Identifiers as lists of arcs (ITU-T X.660), and their contents octets (ITU-T X.690, 8.19).
use Rattle.std.specs.Prelude.{◌≡◌, ℕ, ◌+◌, ◌*◌, ◌≤◌, List, [], ◌∷◌, sum_by, map, nat_lt, if◌then◌else◌}
use Rattle.std.specs.List.{AllByRecursion, AllZip, concat}
use Rattle.const_oid.specs.Base128.{IsGroup, width, group_of}

-- which second arcs are allowed under the first arc 2: only up to 39, as under 0 and 1 (Narrow), or all (Wide)
pub data RootRule : Type 0 where
  Narrow : RootRule
  Wide : RootRule

-- the rule that this crate keeps; the other one is for laws
abbrev pub root_rule : RootRule
root_rule = Wide

-- the greatest arc
abbrev pub max_arc : ℕ
max_arc = 4294967295

-- the greatest second arc under 0 and 1
abbrev pub max_narrow : ℕ
max_narrow = 39

-- the greatest second arc under a first arc
abbrev pub max_second : RootRule → ℕ → ℕ
max_second Narrow first = max_narrow
max_second Wide first = if nat_lt first 2 then max_narrow else max_arc

-- a path of at least two arcs, each in range
abbrev pub IsIdentifier : RootRule → List ℕ → Type 0
IsIdentifier rule [] = ⊥
IsIdentifier rule (first ∷ []) = ⊥
IsIdentifier rule (first ∷ second ∷ later) =
    (first ≤ 2) × (second ≤ max_second rule first) × AllByRecursion (λ arc. arc ≤ max_arc) later

-- the numbers that are encoded: one for the first two arcs, and each later arc
abbrev pub subidentifiers : List ℕ → List ℕ
subidentifiers [] = []
subidentifiers (first ∷ []) = []
subidentifiers (first ∷ second ∷ later) = (40 * first + second) ∷ later

-- the octets are the encoding of the arcs: the group of each subidentifier, joined
pub record IsEncoding (rule : RootRule) (arcs octets : List ℕ) : Type 0 where
  pub identifier : IsIdentifier rule arcs
  pub groups : List (List ℕ)
  pub each : AllZip IsGroup (subidentifiers arcs) groups
  pub joined : octets ≡ concat groups

-- how many octets fit an identifier of the default capacity
abbrev pub default_capacity : ℕ
default_capacity = 39

-- how many octets the encoding has
-- a law ties it to IsEncoding: laws::one_encoding
abbrev pub size : List ℕ → ℕ
size arcs = sum_by width (subidentifiers arcs)

-- the encoding of the arcs, if they are an identifier
-- a law ties it to IsEncoding: laws::one_encoding
unfoldable pub encoding_of : List ℕ → List ℕ
encoding_of arcs = concat (map group_of (subidentifiers arcs))
