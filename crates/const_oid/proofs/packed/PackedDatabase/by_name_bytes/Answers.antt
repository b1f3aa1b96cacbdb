use Rattle.std.proofs.Common.{arith, ap, Some, sym, ◌∙◌}
use Rattle.std.specs.Option.{option_map}
use Rattle.const_oid.specs.Contents.{arcs_of_octets}
use Rattle.const_oid.specs.Private.Octets.{with_bits}
use Rattle.const_oid.specs.Rows.{row_arcs}
use Rattle.const_oid.proofs.Linked.{finds, finds_none}
use Rattle.const_oid.proofs.RowLookups.{arcs_of, begins, gets_nearer, has_name, name_key, passes_by, same_names}
use Rattle.const_oid.proofs.packed.PackedDatabase.by_name_bytes.Goals as goal

pub loop-index-init : goal.loop-index-init
loop-index-init c = begins c.args.self.now (name_key c.args.self.now) (has_name c.args.self.now c.args.name.now) c.args.self.now.name_links.now (with_bits 32 c.args.name.now) (same_names c.args.self.now c.args.name.now) c.args.self.now.by_name c.args.self.now.linked.1 c.first_linked-index.result c.first_linked-index.ensures

pub loop-index-preserved : goal.loop-index-preserved
loop-index-preserved c =
    passes_by c.args.self.now (name_key c.args.self.now) (has_name c.args.self.now c.args.name.now) c.args.self.now.name_links.now (with_bits 32 c.args.name.now) (same_names c.args.self.now c.args.name.now) c.args.self.now.by_name c.args.self.now.linked.1
    c.loop-index.index c.loop-index-test.true c.loop-index.invariant _ (rw c.name_at.ensures at (sym c.if-is_same_name.ensures))

pub loop-index-smaller : goal.loop-index-smaller
loop-index-smaller c =
    let nearer = gets_nearer c.args.self.now (name_key c.args.self.now) (has_name c.args.self.now c.args.name.now) c.args.self.now.name_links.now (with_bits 32 c.args.name.now) (same_names c.args.self.now c.args.name.now) c.args.self.now.by_name c.args.self.now.linked.1
    c.loop-index.index c.loop-index-test.true c.loop-index.invariant in
    omega (arith, nearer)

pub returns-then-is_same_name : goal.returns-then-is_same_name
returns-then-is_same_name c =
    let here = finds (name_key c.args.self.now) (has_name c.args.self.now c.args.name.now) c.args.self.now.rows.now c.args.self.now.name_links.now (with_bits 32 c.args.name.now) (same_names c.args.self.now c.args.name.now) c.args.self.now.by_name c.loop-index.index _ c.loop-index-test.true (rw c.name_at.ensures at (sym c.if-is_same_name.ensures)) c.loop-index.invariant in
    ap (λ octets. Some (arcs_of_octets octets)) c.oid_at.ensures ∙ ap (option_map (row_arcs c.args.self.now)) here ∙ sym (arcs_of c.args.self.now c.args.name.now)

pub returns : goal.returns
returns c =
    let nowhere = finds_none (name_key c.args.self.now) (has_name c.args.self.now c.args.name.now) c.args.self.now.rows.now c.args.self.now.name_links.now (with_bits 32 c.args.name.now) (same_names c.args.self.now c.args.name.now) c.args.self.now.by_name c.loop-index.index c.loop-index-test.false c.loop-index.invariant in
    ap (option_map (row_arcs c.args.self.now)) nowhere ∙ sym (arcs_of c.args.self.now c.args.name.now)
