use Rattle.std.proofs.Common.{◌≡◌, ◌<◌, ℕ, false}
use Rattle.const_oid.specs.Rows.{rows_in}
use Rattle.const_oid.specs.Typed.{is_front}
use Rattle.const_oid.proofs.tables.Tables.has_no_front.Given as goal

abbrev pub invariant-loop-end : goal.invariant-loop-end
invariant-loop-end l = (n : ℕ) → n < l.end → is_front (rows_in l.self) l.name n ≡ false
