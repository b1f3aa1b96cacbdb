-- What one more arc makes of an encoding.
use Rattle.std.proofs.Common.{◌≡◌, ℕ, ◌+◌, ◌*◌, ◌≤◌, List, [], ◌∷◌, ◌++◌, length, nat_lt}
use Rattle.std.proofs.Common.{ap, arith}
use Rattle.std.proofs.lemmas.Bool.Decides.{nat_tests}
use Rattle.const_oid.specs.{declared.error.Error.TheVariants.{Length}}
use Rattle.const_oid.specs.{Base128.width, Private.Octets.GoesOn}
use Rattle.const_oid.specs.{Identifier.{RootRule, max_arc, max_second, IsEncoding}, Error.fault_if, Items.arc_fault}
use Rattle.const_oid.proofs.{Faults.none_from_below, Lengths.size_push}
use Rattle.const_oid.proofs.Tree.{encoding_two, child_encoding}

later_arc_fault : (rule : RootRule) (octets given : List ℕ) (arc capacity : ℕ) → IsEncoding rule given octets
    → arc_fault rule capacity given arc ≡ fault_if (nat_lt capacity (length octets + width arc)) Length
later_arc_fault rule octets [] arc capacity e = absurd e.identifier
later_arc_fault rule octets (a ∷ []) arc capacity e = absurd e.identifier
later_arc_fault rule octets (a ∷ b ∷ later) arc capacity e =
    ap (λ n. fault_if (nat_lt capacity n) Length) (size_push rule (a ∷ b ∷ later) octets arc e)

-- the number is that of an arc after those given: its group makes the encoding longer, and its width decides the fault
pub record Encodes (rule : RootRule) (octets given : List ℕ) (arc number : ℕ) : Type 0 where
  pub step : (longer : List ℕ) → GoesOn number octets longer → IsEncoding rule (given ++ arc ∷ []) longer
  pub fault : (capacity : ℕ)
      → arc_fault rule capacity given arc ≡ fault_if (nat_lt capacity (length octets + width number)) Length

-- after one arc, the number of the first two
pub root_encodes : (rule : RootRule) (first second : ℕ) → first ≤ 2 → second ≤ max_second rule first
    → Encodes rule [] (first ∷ []) second (40 * first + second)
root_encodes rule first second low small = record {
  step = λ longer (group, is, on). rw on (encoding_two rule first second group low small is);
  fault = λ capacity. grind (arith, nat_tests, none_from_below);
}

-- after two arcs or more, the arc itself
pub later_encodes : (rule : RootRule) (octets given : List ℕ) (arc : ℕ) → IsEncoding rule given octets → arc ≤ max_arc
    → Encodes rule octets given arc arc
later_encodes rule octets given arc encoding small = record {
  step = λ longer more. child_encoding longer arc encoding small more;
  fault = λ capacity. later_arc_fault rule octets given arc capacity encoding;
}
