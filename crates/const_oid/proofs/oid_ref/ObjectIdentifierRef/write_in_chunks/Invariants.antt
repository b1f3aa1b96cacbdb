use Rattle.std.proofs.Common.{◌≡◌, ◌≤◌, List, ℕ, ◌∷◌, ◌++◌, false, length, map, take, None}
use Rattle.std.specs.{Fmt.{HasWrittenStyled, IsFlush}, Str.IsAscii}
use Rattle.const_oid.specs.{Base128.value_of, Contents.{cut, later_fault}, Identifier.max_arc}
use Rattle.const_oid.specs.{OidRef.ref_arcs, Text.text_of}
use Rattle.const_oid.proofs.Texts.{text_left}
use Rattle.const_oid.proofs.oid_ref.ObjectIdentifierRef.write_in_chunks.Given as goal

-- what is written, the chunk, and the text of the arc and of those left, are the text of all
abbrev pub invariant-loop-rest : goal.invariant-loop-rest
invariant-loop-rest g l =
    (l.at ≤ 160) × (l.arc ≤ max_arc) × IsAscii (take l.at l.text) × (later_fault (cut l.rest) ≡ None) × (before : List ℕ)
    × (IsFlush l.initial.f → HasWrittenStyled g.W.Write.write_str_gives l.initial.f before l.f)
    × ((before ++ take l.at l.text) ++ text_left false (l.arc ∷ map value_of (cut l.rest))
    ≡ text_of (ref_arcs l.self))

abbrev pub decreases-loop-rest : goal.decreases-loop-rest
decreases-loop-rest g l = length (map value_of (cut l.rest))
