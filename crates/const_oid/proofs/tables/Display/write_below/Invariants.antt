use Rattle.std.proofs.Common.{◌≡◌, ◌++◌, List, ℕ, map}
use Rattle.std.specs.Fmt.{HasWrittenStyled, IsFlush}
use Rattle.const_oid.specs.{Base128.value_of, Contents.cut, Typed.dotted}
use Rattle.const_oid.proofs.tables.Display.write_below.Given as goal

-- what is written, and the text of the arcs left, are the text of all
abbrev pub invariant-loop-arc : goal.invariant-loop-arc
invariant-loop-arc g l =
    (before : List ℕ)
    × (IsFlush l.initial.f → HasWrittenStyled g.W.Write.write_str_gives l.initial.f before l.f)
    × (before ++ dotted l.arc-iterator ≡ dotted (map value_of (cut l.self.below.now)))
