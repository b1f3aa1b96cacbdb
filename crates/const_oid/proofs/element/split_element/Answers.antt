use Rattle.std.proofs.Common.{arith, length, ◌≡◌, ◌^◌, ◌<◌, ◌++◌}
use Rattle.std.proofs.lemmas.Grind.{common_steps}
use Rattle.const_oid.specs.Element.{length_octets}
use Rattle.const_oid.proofs.Elements.{same_length}
use Rattle.const_oid.proofs.element.split_element.Goals as goal

pub returns-then-len-after-clause-octets : goal.returns-then-len-after-clause-octets
returns-then-len-after-clause-octets c contents rest same =
    let l = c.in_ok-len in
    let read : length_octets (length contents) ++ (contents ++ rest) ≡ length_octets l.len ++ l.after.now = grind (arith, common_steps, l.ensures.octets) in
    let small : length contents < 2 ^ 64 = grind (arith, common_steps) in
    let (len, after) = same_length (length contents) l.len (contents ++ rest) l.after.now small l.ensures.octets.0 read in
    grind (arith, common_steps)
