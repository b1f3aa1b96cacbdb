use Rattle.std.proofs.Common.{◌≡◌, ◌<◌, arith, take}
use Rattle.std.proofs.lemmas.{Grind.common_steps}
use Rattle.const_oid.specs.Base128.{AreOctets}
use Rattle.const_oid.proofs.Ends.{all_take}
use Rattle.const_oid.proofs.buffer.Buffer.truncated.Goals as goal

pub invariant_of-buffer : goal.invariant_of-buffer
invariant_of-buffer g c =
    let old = c.args.self.now in
    let first : take c.args.len c.zero_range.new.octets ≡ take c.args.len (take old.used old.bytes) = grind (arith, common_steps, c.zero_range.ensures, c.requires) in
    let octets : AreOctets (take c.args.len c.zero_range.new.octets) = rw first (all_take (λ x. x < 256) c.args.len _ old.octets) in
    record {
      within = grind (arith, common_steps);
      octets = octets;
      zeros = grind (arith, common_steps, c.zero_range.ensures);
    }
