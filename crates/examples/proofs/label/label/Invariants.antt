use Rattle.std.proofs.Common.{◌≡◌, ◌++◌, drop}
use Rattle.std.specs.String.{string_bytes}
use Rattle.const_oid.specs.OidRef.{ref_arcs}
use Rattle.examples.specs.Label.{dotted}
use Rattle.examples.proofs.label.label.Given as goal

abbrev pub invariant-loop : goal.invariant-loop
invariant-loop l = l.arcs ≡ drop l.counter (ref_arcs l.fn.oid)

abbrev pub invariant-loop-arc : goal.invariant-loop-arc
invariant-loop-arc l =
    string_bytes l.text ++ dotted l.arc-iterator ≡ string_bytes l.initial.text ++ dotted l.initial.arc-iterator
