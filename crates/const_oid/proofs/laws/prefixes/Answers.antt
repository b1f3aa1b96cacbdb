use Rattle.const_oid.proofs.BeginsWith.{arcs_prefix, encoding_prefix}
use Rattle.const_oid.proofs.laws.prefixes.Goals as goal

pub returns : goal.returns
returns c rule p x a b e f = (arcs_prefix rule p x a b e f, encoding_prefix rule p x a b e f)
