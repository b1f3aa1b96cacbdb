use Rattle.std.proofs.Common.{◌≡◌, ◌+◌, ◌-◌, arith, length, drop}
use Rattle.std.proofs.lemmas.{Grind.common_steps}
use Rattle.const_oid.proofs.Ends.{ends_whole}
use Rattle.const_oid.proofs.fast.copies.copy_ends.Goals as goal

pub returns : goal.returns
returns g c =
    let len = length c.args.octets.now in
    let last = len - g.row.SIZE in
    let back : c.copy_from_slice-2.new.self ≡ drop last c.args.octets.now = grind (arith, common_steps, c.copy_from_slice-2.ensures.after) in
    ends_whole g.row.SIZE last (last + g.row.SIZE - last) c.args.octets.now c.args.out.now _ _
    (omega (arith, c.requires)) (omega (arith, c.requires)) c.requires.room (omega arith) c.copy_from_slice.ensures.after back
