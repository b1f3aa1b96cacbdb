-- Lists of keys, sorted by their arcs.
use Rattle.std.specs.Prelude.{◌≡◌, ◌≢◌, ℕ, List}
use Rattle.std.specs.Cmp.Lexicographic.{slice_cmp}
use Rattle.std.specs.List.{All, Contains}
use Rattle.std.specs.Ordering.{nat_cmp}
use Rattle.std.specs.declared.cmp.Ordering.TheVariants.{Less, Greater}
use Rattle.const_oid.specs.declared.by_arcs.ByArcs.{ByArcs}
use Rattle.const_oid.specs.OidRef.{key_arcs}

-- the key is the next one after the arcs: it is in the list and after them, and no key after them is before it
pub record IsNext (keys : List ByArcs) (arcs : List ℕ) (next : ByArcs) : Type 0 where
  pub inside : Contains keys next
  pub after : slice_cmp nat_cmp arcs (key_arcs next) ≡ Less
  pub nearest : All (λ key. slice_cmp nat_cmp arcs (key_arcs key) ≡ Less → slice_cmp nat_cmp (key_arcs next) (key_arcs key) ≢ Greater) keys
