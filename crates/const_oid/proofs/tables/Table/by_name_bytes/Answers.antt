use Rattle.std.proofs.Common.{ap, ◌∙◌}
use Rattle.std.specs.Option.{option_map}
use Rattle.const_oid.specs.Names.{lent_arcs}
use Rattle.const_oid.proofs.RowLookups.{listed_arcs}
use Rattle.const_oid.proofs.tables.Table.by_name_bytes.Goals as goal

pub returns-in-Listed : goal.returns-in-Listed
returns-in-Listed c = rw c.in-Listed.is (ap (option_map lent_arcs) c.by_name_bytes.ensures ∙ listed_arcs c.in-Listed.table c.args.name.now)
