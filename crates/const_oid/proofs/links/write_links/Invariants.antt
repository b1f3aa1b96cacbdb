use Rattle.std.proofs.Common.{◌≡◌, ◌-◌, ◌≤◌, length}
use Rattle.const_oid.specs.Private.Links.{AreLinksFrom, key_of}
use Rattle.const_oid.proofs.links.write_links.Given as goal

abbrev pub invariant-loop-index : goal.invariant-loop-index
invariant-loop-index l = record {
  within : l.index ≤ length l.entries;
  long : length l.links ≡ length l.initial.links;
  so_far : AreLinksFrom (key_of l.key) (length l.initial.links - length l.entries) l.entries l.index l.links;
}

abbrev pub decreases-loop-index : goal.decreases-loop-index
decreases-loop-index l = l.index
