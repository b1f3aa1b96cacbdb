use Rattle.std.proofs.Common.{rules}
use Rattle.std.proofs.lemmas.Fn.{always_returns_same}
use Rattle.const_oid.specs.{declared.by_arcs.ByArcs.ByArcs, declared.oid_ref.ObjectIdentifierRef.ObjectIdentifierRef}
use Rattle.const_oid.specs.Names.{Entry, oid_of}
use Rattle.examples.proofs.label.sorted.Goals as goal

pub new-requires : goal.new-requires
new-requires c =
    let key : Entry ObjectIdentifierRef → ByArcs = λ entry. record { 0 = oid_of entry } in
    let up = c.in_ok-sort_by_key.ensures.sorted key (always_returns_same _ _ _ (λ a r f called. search rules)) in
    rw c.deref.ensures.value up

pub returns-clause-stable : goal.returns-clause-stable
returns-clause-stable c =
    let key : Entry ObjectIdentifierRef → ByArcs = λ entry. record { 0 = oid_of entry } in
    let same = c.in_ok-sort_by_key.ensures.stable key (always_returns_same _ _ _ (λ a r f called. search rules)) in
    rw c.new.ensures (rw c.deref.ensures.value same)
