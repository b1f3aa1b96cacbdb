use Rattle.std.proofs.Common.{ap, sym, ℕ, List, nat_eq, ◌∙◌}
use Rattle.std.specs.{Borrow.Bor, Cmp.Lexicographic.pointwise, Option.option_map}
use Rattle.const_oid.specs.declared.oid.ObjectIdentifier.{ObjectIdentifier}
use Rattle.const_oid.specs.{Names.Entry, Oid.oid_arcs, Rows.{Row, rows_of}}
use Rattle.const_oid.proofs.TypedNames.{here, further}
use Rattle.const_oid.proofs.tables.Tables.entry_of.Goals as goal

abbrev text_of : Entry (Bor (ObjectIdentifier 39)) → List ℕ
text_of entry = entry.1.now

pub returns-in-Some-clause-name : goal.returns-in-Some-clause-name
returns-in-Some-clause-name c =
    here rows_of (λ (row : Row). pointwise nat_eq (oid_arcs row.0) (oid_arcs c.args.oid.now)) (λ row. row.1) c.loop-left.left.now _ c.table-item.result
    c.in-Some.entry.1.now c.in-len1-up.len_at_least c.table-item.is
    (sym c.entry_of.ensures.name ∙ ap (option_map text_of) c.in-Some.is) ∙ c.loop-left.invariant

pub loop-left-preserved : goal.loop-left-preserved
loop-left-preserved c =
    further rows_of (λ (row : Row). pointwise nat_eq (oid_arcs row.0) (oid_arcs c.args.oid.now)) (λ row. row.1) c.loop-left.left.now _ c.table-item.result
    c.in-len1-up.len_at_least c.table-item.is
    (sym c.entry_of.ensures.name ∙ ap (option_map text_of) c.in_default-entry_of.is) ∙ c.loop-left.invariant
