-- Octets in an array that is zero past those in use.
use Rattle.std.proofs.Common.{◌≡◌, ℕ, ◌+◌, ◌-◌, ◌≤◌, List, [], ◌∷◌, ◌++◌, length, take, drop, replicate, arith, suc}
use Rattle.std.proofs.Common.{append_assoc, length-append, slice_index, EachIndex, ◌<◌}
use Rattle.std.proofs.lemmas.{Grind.common_steps, List.{drop_at, drop-replicate, drop-drop, length-take-le}}
use Rattle.const_oid.specs.{Base128.{IsContinued, IsGroup, AreOctets, width}, Private.Octets.GoesOn}
use Rattle.const_oid.proofs.{Lists.all_append, Groups.{length_is}}

-- octets by what is read at each index
pub are_octets : (octets : List ℕ) → EachIndex octets (λ k. slice_index octets k < 256) → AreOctets octets
are_octets [] h = tt
are_octets (x ∷ xs) h = (h 0 (omega arith), are_octets xs (λ k l. h (suc k) (omega arith)))

pub octets_from_chain : (octets : List ℕ) → IsContinued octets → AreOctets octets
octets_from_chain [] c = absurd c
octets_from_chain (x ∷ []) c = (omega arith, tt)
octets_from_chain (x ∷ y ∷ ys) c = (c.1, octets_from_chain (y ∷ ys) c.2)

-- a group written past the octets in use
module _ {number : ℕ} (used end : ℕ) (bytes after : List ℕ) (inside : used ≤ length bytes)
    (wide : end ≡ used + width number)
    (is : (group : List ℕ) × IsGroup number group × (after ≡ take used bytes ++ (group ++ drop end bytes))) where
  pub taken_written : GoesOn number (take used bytes) (take end after)
  taken_written = let (group, g, e) = is in let l = length_is g in (group, g, grind (arith, common_steps))

  pub octets_written : AreOctets (take used bytes) → AreOctets (take end after)
  octets_written octets =
      let (group, g, e) = taken_written in
      rw e (all_append (λ x. x < 256) (take used bytes) group octets (octets_from_chain group g.continued))

  pub zeros_written : (size : ℕ) → drop used bytes ≡ replicate (size - used) 0
      → drop end after ≡ replicate (size - end) 0
  zeros_written size zeros =
      let (group, is_group, written) = is in
      let start = take used bytes in
      let more = end - used in
      let long : length (start ++ group) ≡ end =
      omega (arith, length_is is_group, length-append start group, length-take-le used bytes inside) in
      let reach : used + more ≡ end = omega arith in
      let fewer : size - used - more ≡ size - (used + more) = omega arith in
      rw (written, ← append_assoc start group (drop end bytes), drop_at (start ++ group) _ end long)
      (rw (← reach, ← drop-drop more used bytes, zeros, drop-replicate, fewer))
