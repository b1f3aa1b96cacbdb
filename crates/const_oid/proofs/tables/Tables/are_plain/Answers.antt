use Rattle.std.proofs.lemmas.List.Elements.{All-map}
use Rattle.const_oid.specs.{Rows.{Row, row_of, rows_in}, Typed.IsPlain}
use Rattle.const_oid.proofs.RowLookups.{each_listed}
use Rattle.const_oid.proofs.tables.Tables.are_plain.Goals as goal

pub returns-in-Listed : goal.returns-in-Listed
returns-in-Listed c =
    let plain = IsPlain (rows_in c.args.self.now) in
    let entries = c.in-Listed.table.entries.now in
    rw c.in-Listed.is (
      λ true. All-map (λ (row : Row). plain row.1) row_of entries (c.are_listed_plain.ensures.0 true),
      λ all. c.are_listed_plain.ensures.1 (each_listed plain entries all),
    )

pub returns-in-Packed : goal.returns-in-Packed
returns-in-Packed c = rw c.in-Packed.is c.are_packed_plain.ensures
