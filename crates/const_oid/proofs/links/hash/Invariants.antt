use Rattle.std.proofs.Common.{◌≡◌, length}
use Rattle.const_oid.specs.Private.Links.{hash_words}
use Rattle.const_oid.specs.Private.Octets.{with_bits}
use Rattle.const_oid.proofs.links.hash.Given as goal

abbrev pub invariant-loop-left : goal.invariant-loop-left
invariant-loop-left g l =
    hash_words l.hash (with_bits g.row.BITS l.left) ≡ hash_words (length l.fn.bytes) (with_bits g.row.BITS l.fn.bytes)

abbrev pub decreases-loop-left : goal.decreases-loop-left
decreases-loop-left g l = length l.left
