use Rattle.std.proofs.Common.{◌-◌, length}
use Rattle.const_oid.specs.Names.{has_arcs, lent_arcs}
use Rattle.const_oid.specs.declared.links.Key.TheVariants.{Oid}
use Rattle.const_oid.specs.Oid.{oid_arcs, oid_octets}
use Rattle.const_oid.specs.Private.Links.{key_of}
use Rattle.const_oid.proofs.Linked.{Leads}
use Rattle.const_oid.proofs.db.Database.entry_of.Given as goal

abbrev pub invariant-loop-index : goal.invariant-loop-index
invariant-loop-index l = Leads (key_of Oid) (has_arcs lent_arcs (oid_arcs l.oid)) l.self.entries.now l.self.oid_links.now (oid_octets l.oid) 0 l.index

abbrev pub decreases-loop-index : goal.decreases-loop-index
decreases-loop-index l = length l.self.entries.now - l.index
