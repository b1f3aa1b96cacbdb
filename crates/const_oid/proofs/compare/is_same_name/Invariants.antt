use Rattle.std.proofs.Common.{◌≡◌, ◌-◌, length, drop}
use Rattle.std.specs.Str.{str_eq_ignore_ascii_case}
use Rattle.const_oid.proofs.compare.is_same_name.Given as goal

abbrev pub invariant-loop-index : goal.invariant-loop-index
invariant-loop-index l =
    str_eq_ignore_ascii_case l.a l.b ≡ str_eq_ignore_ascii_case (drop l.index l.a) (drop l.index l.b)

abbrev pub decreases-loop-index : goal.decreases-loop-index
decreases-loop-index l = length l.a - l.index
