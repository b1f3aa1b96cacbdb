use Rattle.std.proofs.Common.{refl, sym, ◌∙◌}
use Rattle.std.proofs.lemmas.Bool.{false≢true}
use Rattle.const_oid.specs.Rows.{rows_in}
use Rattle.const_oid.proofs.PlainNames.{all_plain, all_there, one_more, plain_readable}
use Rattle.const_oid.proofs.tables.Tables.is_readable.Goals as goal

pub returns-then-not-are_plain-clause-plain : goal.returns-then-not-are_plain-clause-plain
returns-then-not-are_plain-clause-plain c =
    let entries = rows_in c.args.self.now in
    let there = all_there entries _ _ c.table-item.result c.loop-table-test.true c.table-item.is in
    (λ never. absurd (false≢true never), λ all. absurd (false≢true (sym c.if-not-are_plain.true ∙ c.are_plain.ensures.1 (there all))))

pub loop-table-preserved : goal.loop-table-preserved
loop-table-preserved c =
    let entries = rows_in c.args.self.now in
    let this = c.are_plain.ensures.0 c.if-not-are_plain.false in
    one_more entries _ _ c.table-item.result c.loop-table-test.true c.table-item.is this c.loop-table.invariant

pub returns-clause-plain : goal.returns-clause-plain
returns-clause-plain c = (λ _. all_plain (rows_in c.args.self.now) _ _ c.loop-table-test.false c.loop-table.invariant, λ _. refl)

pub returns-clause-readable : goal.returns-clause-readable
returns-clause-readable c _ = plain_readable (rows_in c.args.self.now) (all_plain (rows_in c.args.self.now) _ _ c.loop-table-test.false c.loop-table.invariant)
