use Rattle.std.proofs.Common.{arith}
use Rattle.const_oid.proofs.Elements.{number_put}
use Rattle.const_oid.proofs.element.number_of.Goals as goal

pub returns : goal.returns
returns c = number_put c.args.digits.now _ _ c.requires (λ k. omega (arith, c.type_inv.digits k)) c.copy_from_slice.ensures.after c.from_be_bytes.ensures
