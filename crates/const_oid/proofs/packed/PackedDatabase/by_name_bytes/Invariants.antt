use Rattle.std.proofs.Common.{◌-◌, length}
use Rattle.const_oid.specs.Private.Octets.{with_bits}
use Rattle.const_oid.proofs.Linked.{Leads}
use Rattle.const_oid.proofs.RowLookups.{has_name, name_key}
use Rattle.const_oid.proofs.packed.PackedDatabase.by_name_bytes.Given as goal

abbrev pub invariant-loop-index : goal.invariant-loop-index
invariant-loop-index l = Leads (name_key l.self) (has_name l.self l.name) l.self.rows.now l.self.name_links.now (with_bits 32 l.name) 0 l.index

abbrev pub decreases-loop-index : goal.decreases-loop-index
decreases-loop-index l = length l.self.rows.now - l.index
