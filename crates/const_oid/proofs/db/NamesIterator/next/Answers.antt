use Rattle.std.proofs.Common.{◌∷◌, arith, rules, ap, map, sym, ◌∙◌}
use Rattle.std.proofs.lemmas.{Grind.common_steps}
use Rattle.const_oid.specs.{Names.{has_arcs, lent_arcs, name_of}, Oid.oid_arcs}
use Rattle.const_oid.proofs.Linked.{leaves, next_name, takes}
use Rattle.const_oid.proofs.db.NamesIterator.next.Goals as goal

pub invariant_of-self : goal.invariant_of-self
invariant_of-self c =
    let more = next_name c.loop-self.self c.next_candidate-self.result c.loop-self-test.true c.next_candidate-self.ensures in
    record { within = more.within; in_slot = more.there }

pub returns-then-has_oid-clause-steps : goal.returns-then-has_oid-clause-steps
returns-then-has_oid-clause-steps c =
    let names = c.loop-self.self in
    let entry = c.index-entries-self in
    let more = next_name names c.next_candidate-self.result c.loop-self-test.true c.next_candidate-self.ensures in
    c.loop-self.invariant ∙ ap (map name_of)
    (takes (has_arcs lent_arcs (oid_arcs names.oid)) names.database.entries.now names.index entry.result c.loop-self-test.true entry.is (sym (c.if-has_oid.ensures))
    ∙ ap (λ others. entry.result ∷ others) more.same)

pub returns-then-has_oid-clause-goes : goal.returns-then-has_oid-clause-goes
returns-then-has_oid-clause-goes c =
    let steps = returns-then-has_oid-clause-steps c in
    first_of (search rules, grind (arith, common_steps))

pub loop-self-smaller : goal.loop-self-smaller
loop-self-smaller c = omega (arith, (next_name c.loop-self.self c.next_candidate-self.result c.loop-self-test.true c.next_candidate-self.ensures).after)

pub loop-self-preserved : goal.loop-self-preserved
loop-self-preserved c =
    let names = c.loop-self.self in
    let entry = c.index-entries-self in
    let more = next_name names c.next_candidate-self.result c.loop-self-test.true c.next_candidate-self.ensures in
    c.loop-self.invariant ∙ ap (map name_of)
    (leaves (has_arcs lent_arcs (oid_arcs names.oid)) names.database.entries.now names.index entry.result c.loop-self-test.true entry.is (sym (c.if-has_oid.ensures)) ∙ more.same)
