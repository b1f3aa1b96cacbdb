use Rattle.std.proofs.Common.{ap, map, sym}
use Rattle.const_oid.specs.Names.{name_of}
use Rattle.const_oid.specs.Oid.{oid_octets}
use Rattle.const_oid.proofs.Hashes.{no_bits}
use Rattle.const_oid.proofs.Linked.{same_oids, starts}
use Rattle.const_oid.proofs.db.Database.find_names_for_oid.Goals as goal

pub invariant_of-result : goal.invariant_of-result
invariant_of-result c =
    let first = c.first_candidate.ensures in
    let reached = starts _ _ _ _ _ (same_oids c.args.oid) c.args.self.now.by_oid c.first_candidate.result (rw (c.as_bytes.ensures.octets, no_bits (oid_octets c.args.oid)) at first.linked) first.scanned in
    record { within = reached.within; in_slot = reached.there }

pub returns : goal.returns
returns c =
    let first = c.first_candidate.ensures in
    sym (ap (map name_of) (starts _ _ _ _ _ (same_oids c.args.oid) c.args.self.now.by_oid c.first_candidate.result (rw (c.as_bytes.ensures.octets, no_bits (oid_octets c.args.oid)) at first.linked) first.scanned).same)
