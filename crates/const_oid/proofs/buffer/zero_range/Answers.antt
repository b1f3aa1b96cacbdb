use Rattle.std.proofs.Common.{◌≡◌, arith, replicate}
use Rattle.std.proofs.lemmas.{Grind.common_steps}
use Rattle.const_oid.proofs.Ends.{zeros_whole}
use Rattle.const_oid.proofs.buffer.zero_range.Goals as goal

pub returns-then-rest-ge8 : goal.returns-then-rest-ge8
returns-then-rest-ge8 c =
    let parts = c.split_at_mut-rest.ensures in
    let zeros : c.fill.new.self ≡ replicate 8 0 = grind (arith, common_steps, c.fill.ensures.after (λ y h. h), c.fill.ensures.len) in
    rw (parts.front, parts.back)
    (zeros_whole c.args.start c.args.end 8 c.args.octets.now _ c.requires.order (omega arith) (omega (arith, parts.back_len)) zeros c.requires.zeros)
