use Rattle.std.proofs.Common.{arith, ap, Some, sym, ◌∙◌}
use Rattle.std.specs.Option.{option_map}
use Rattle.const_oid.specs.Contents.{arcs_of_octets}
use Rattle.const_oid.specs.Oid.{oid_octets}
use Rattle.const_oid.specs.Rows.{row_name, row_octets}
use Rattle.const_oid.proofs.Hashes.{no_bits, same_bytes}
use Rattle.const_oid.proofs.Linked.{finds, finds_none}
use Rattle.const_oid.proofs.RowLookups.{begins, gets_nearer, has_arcs, name_of, passes_by, same_oids}
use Rattle.const_oid.proofs.packed.PackedDatabase.entry_of.Goals as goal

pub loop-index-init : goal.loop-index-init
loop-index-init c = begins c.args.self.now (row_octets c.args.self.now) (has_arcs c.args.self.now c.args.oid.now) c.args.self.now.oid_links.now (oid_octets c.args.oid.now) (same_oids c.args.self.now c.args.oid.now) c.args.self.now.by_oid c.args.self.now.linked.0 c.first_linked-index.result (rw (c.as_bytes.ensures.octets, no_bits (oid_octets c.args.oid.now)) at c.first_linked-index.ensures)

pub loop-index-preserved : goal.loop-index-preserved
loop-index-preserved c =
    passes_by c.args.self.now (row_octets c.args.self.now) (has_arcs c.args.self.now c.args.oid.now) c.args.self.now.oid_links.now (oid_octets c.args.oid.now) (same_oids c.args.self.now c.args.oid.now) c.args.self.now.by_oid c.args.self.now.linked.0
    c.loop-index.index c.loop-index-test.true c.loop-index.invariant _ (sym c.if-has_oid.ensures)

pub loop-index-smaller : goal.loop-index-smaller
loop-index-smaller c =
    let nearer = gets_nearer c.args.self.now (row_octets c.args.self.now) (has_arcs c.args.self.now c.args.oid.now) c.args.self.now.oid_links.now (oid_octets c.args.oid.now) (same_oids c.args.self.now c.args.oid.now) c.args.self.now.by_oid c.args.self.now.linked.0
    c.loop-index.index c.loop-index-test.true c.loop-index.invariant in
    omega (arith, nearer)

pub returns-then-has_oid-clause-name : goal.returns-then-has_oid-clause-name
returns-then-has_oid-clause-name c =
    let here = finds (row_octets c.args.self.now) (has_arcs c.args.self.now c.args.oid.now) c.args.self.now.rows.now c.args.self.now.oid_links.now (oid_octets c.args.oid.now) (same_oids c.args.self.now c.args.oid.now) c.args.self.now.by_oid c.loop-index.index _ c.loop-index-test.true (sym c.if-has_oid.ensures) c.loop-index.invariant in
    ap Some c.text_at.ensures ∙ ap (option_map (row_name c.args.self.now)) here ∙ sym (name_of c.args.self.now c.args.oid.now)

pub returns-then-has_oid-clause-oid : goal.returns-then-has_oid-clause-oid
returns-then-has_oid-clause-oid c = ap arcs_of_octets c.oid_at.ensures ∙ same_bytes _ _ (sym c.if-has_oid.ensures)

pub returns-clause-name : goal.returns-clause-name
returns-clause-name c =
    let nowhere = finds_none (row_octets c.args.self.now) (has_arcs c.args.self.now c.args.oid.now) c.args.self.now.rows.now c.args.self.now.oid_links.now (oid_octets c.args.oid.now) (same_oids c.args.self.now c.args.oid.now) c.args.self.now.by_oid c.loop-index.index c.loop-index-test.false c.loop-index.invariant in
    ap (option_map (row_name c.args.self.now)) nowhere ∙ sym (name_of c.args.self.now c.args.oid.now)
