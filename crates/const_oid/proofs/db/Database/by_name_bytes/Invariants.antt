use Rattle.std.proofs.Common.{◌-◌, length}
use Rattle.const_oid.specs.Names.{has_name}
use Rattle.const_oid.specs.declared.links.Key.TheVariants.{Name}
use Rattle.const_oid.specs.Private.Links.{key_of}
use Rattle.const_oid.specs.Private.Octets.{with_bits}
use Rattle.const_oid.proofs.Linked.{Leads}
use Rattle.const_oid.proofs.db.Database.by_name_bytes.Given as goal

abbrev pub invariant-loop-index : goal.invariant-loop-index
invariant-loop-index l = Leads (key_of Name) (has_name l.name) l.self.entries.now l.self.name_links.now (with_bits 32 l.name) 0 l.index

abbrev pub decreases-loop-index : goal.decreases-loop-index
decreases-loop-index l = length l.self.entries.now - l.index
