use Rattle.const_oid.proofs.ByParts.{parts_total, parts_same}
use Rattle.const_oid.proofs.laws.order_of_parts.Goals as goal

pub returns : goal.returns
returns c = search (parts_total, parts_same)
