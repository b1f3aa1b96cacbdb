use Rattle.std.proofs.Common.{◌∙◌, ap}
use Rattle.const_oid.specs.Private.Links.{slot_of}
use Rattle.const_oid.proofs.Hashes.{no_bits}
use Rattle.const_oid.proofs.links.slot_of_entry.Goals as goal

pub returns-in-Oid-clause-slot : goal.returns-in-Oid-clause-slot
returns-in-Oid-clause-slot c =
    rw c.in-Oid.is (c.slot_of.ensures.slot ∙ ap (slot_of c.args.slots) (no_bits _ ∙ c.as_bytes.ensures.octets))
