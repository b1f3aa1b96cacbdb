use Rattle.std.proofs.Common.{ap, sym, ◌∙◌}
use Rattle.std.specs.{Option.option_map, Str.str_eq_ignore_ascii_case}
use Rattle.const_oid.specs.{Names.lent_arcs, Oid.oid_arcs, Rows.{Row, rows_of}}
use Rattle.const_oid.proofs.TypedNames.{here, further}
use Rattle.const_oid.proofs.tables.Tables.by_name_bytes.Goals as goal

pub returns-in-Some : goal.returns-in-Some
returns-in-Some c =
    here rows_of (λ (row : Row). str_eq_ignore_ascii_case row.1 c.args.name.now) (λ row. oid_arcs row.0) c.loop-left.left.now _ c.table-item.result
    (lent_arcs c.in-Some.oid) c.in-len1-up.len_at_least c.table-item.is
    (sym c.by_name_bytes.ensures ∙ ap (option_map lent_arcs) c.in-Some.is) ∙ c.loop-left.invariant

pub loop-left-preserved : goal.loop-left-preserved
loop-left-preserved c =
    further rows_of (λ (row : Row). str_eq_ignore_ascii_case row.1 c.args.name.now) (λ row. oid_arcs row.0) c.loop-left.left.now _ c.table-item.result
    c.in-len1-up.len_at_least c.table-item.is
    (sym c.by_name_bytes.ensures ∙ ap (option_map lent_arcs) c.in_default-by_name_bytes.is) ∙ c.loop-left.invariant
