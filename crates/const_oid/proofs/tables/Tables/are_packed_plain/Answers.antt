use Rattle.std.proofs.Common.{refl, sym, ◌∙◌}
use Rattle.std.proofs.lemmas.Bool.{false≢true}
use Rattle.std.proofs.lemmas.List.{take_all}
use Rattle.std.proofs.lemmas.List.Elements.{All-more}
use Rattle.const_oid.specs.{Rows.{row_name, rows_in}, Typed.IsPlain}
use Rattle.const_oid.proofs.RowLookups.{all_named, each_named}
use Rattle.const_oid.proofs.tables.Tables.are_packed_plain.Goals as goal

pub returns-then-not-is_plain : goal.returns-then-not-is_plain
returns-then-not-is_plain c = (
  λ never. absurd (false≢true never),
  λ all.
      let each = each_named c.args.table.now (IsPlain (rows_in c.args.self.now)) all in
      let here = each c.loop-row.row-index _ c.loop-row-test.true in
      absurd (false≢true (sym c.if-not-is_plain.true ∙ c.is_plain.ensures.1 (rw c.name_at.ensures here))),
)

pub loop-row-preserved : goal.loop-row-preserved
loop-row-preserved c =
    All-more (λ row. IsPlain (rows_in c.args.self.now) (row_name c.args.table.now row)) c.args.table.now.rows.now c.loop-row.row-index _ c.loop-row-test.true
    c.loop-row.invariant (rw c.name_at.ensures at (c.is_plain.ensures.0 c.if-not-is_plain.false))

pub returns : goal.returns
returns c =
    let rows = c.args.table.now.rows.now in
    let index = c.loop-row.row-index in (
      λ _. all_named c.args.table.now (IsPlain (rows_in c.args.self.now)) (rw (take_all index rows c.loop-row-test.false) at c.loop-row.invariant),
      λ _. refl,
    )
