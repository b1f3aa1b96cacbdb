use Rattle.std.proofs.Common.{◌≡◌, ◌-◌, length, take, arith, ◌∙◌}
use Rattle.std.proofs.lemmas.List.{take_more}
use Rattle.const_oid.proofs.{Parents.but_last_octet, Prefixes.{common_is, common_all}}
use Rattle.const_oid.proofs.compare.common_parts.Goals as goal

pub returns-then-same-octets : goal.returns-then-same-octets
returns-then-same-octets c =
    common_all c.args.octets.now c.args.others.now c.requires (rw c.if-same-octets.true at c.first_difference-same.ensures.same)

pub returns : goal.returns
returns c =
    let same = c.first_difference-same.ensures in
    let count = c.first_difference-same.result in
    let less : take (length c.first_octets.result.now - 1) c.first_octets.result.now ≡ take count c.args.octets.now =
    but_last_octet c.first_octets.result.now _ _ (c.first_octets.ensures ∙ take_more c.args.octets.now count 0 (omega arith)) in
    common_is c.args.octets.now c.args.others.now c.without_last_part.result.now count (omega arith)
    same.same (λ below. same.unequal (omega arith)) (rw less at c.without_last_part.ensures.finished) c.requires
