use Rattle.const_oid.specs.Oid.{oid_arcs}
use Rattle.const_oid.proofs.RowLookups.{listed_name}
use Rattle.const_oid.proofs.tables.Table.entry_of.Goals as goal

pub returns-in-Listed-clause-name : goal.returns-in-Listed-clause-name
returns-in-Listed-clause-name c = rw c.in-Listed.is (listed_name c.in-Listed.table (oid_arcs c.args.oid.now) c.entry_of.result c.entry_of.ensures.name)
