use Rattle.std.proofs.Common.{◌≡◌, ◌-◌, length}
use Rattle.const_oid.specs.Names.{names_left}
use Rattle.const_oid.proofs.db.NamesIterator.next.Given as goal

abbrev pub invariant-loop-self : goal.invariant-loop-self
invariant-loop-self l = names_left l.initial.self ≡ names_left l.self

abbrev pub decreases-loop-self : goal.decreases-loop-self
decreases-loop-self l = length l.self.database.entries.now - l.self.index
