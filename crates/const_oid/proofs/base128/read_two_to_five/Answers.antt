use Rattle.std.proofs.Common.{◌≡◌, ◌-◌, arith, length, take, drop}
use Rattle.std.proofs.lemmas.{Grind.common_steps, List.{take_rest, take_all, drop-drop, length-drop}}
use Rattle.const_oid.specs.{Base128.value_of, Private.Groups.IsPastFour}
use Rattle.const_oid.proofs.PartsFault.{first_valid, five_read}
use Rattle.const_oid.proofs.base128.read_two_to_five.Goals as goal

pub returns-in-len2-up-after : goal.returns-in-len2-up-after
returns-in-len2-up-after c =
    let octets = c.args.octets.now in
    let long : IsPastFour octets = grind (arith, common_steps, first_valid) in
    let number : c.add_digit-in-len2-up-after-2.result ≡ value_of (take 5 octets) = grind (arith, common_steps) in
    let after : take (length (drop 3 octets) - 2) (drop 5 octets) ≡ drop 5 octets =
    take_all _ _ (simp length-drop (omega arith)) in
    let (five, small, valid, numbers) = five_read octets (omega arith) long c.requires.valid in
    simp (take_rest, drop-drop, after) (rw number (numbers, small, valid))
