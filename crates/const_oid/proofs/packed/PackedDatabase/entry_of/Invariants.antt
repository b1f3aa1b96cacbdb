use Rattle.std.proofs.Common.{◌-◌, length}
use Rattle.const_oid.specs.Oid.{oid_octets}
use Rattle.const_oid.specs.Rows.{row_octets}
use Rattle.const_oid.proofs.Linked.{Leads}
use Rattle.const_oid.proofs.RowLookups.{has_arcs}
use Rattle.const_oid.proofs.packed.PackedDatabase.entry_of.Given as goal

abbrev pub invariant-loop-index : goal.invariant-loop-index
invariant-loop-index l = Leads (row_octets l.self) (has_arcs l.self l.oid) l.self.rows.now l.self.oid_links.now (oid_octets l.oid) 0 l.index

abbrev pub decreases-loop-index : goal.decreases-loop-index
decreases-loop-index l = length l.self.rows.now - l.index
