use Rattle.std.proofs.Common.{◌≡◌, ◌≤◌, length}
use Rattle.std.specs.Prelude.{min}
use Rattle.const_oid.specs.Rows.{rows_in}
use Rattle.const_oid.specs.Typed.{spelt_up_to}
use Rattle.const_oid.proofs.named.longest_name.Given as goal

abbrev pub invariant-loop-oid : goal.invariant-loop-oid
invariant-loop-oid l = (spelt_up_to (rows_in l.tables) l.text (length l.text) ≡ spelt_up_to (rows_in l.tables) l.text l.end)
    × (l.end ≤ min (length l.text) 255)

abbrev pub decreases-loop-oid : goal.decreases-loop-oid
decreases-loop-oid l = l.end
