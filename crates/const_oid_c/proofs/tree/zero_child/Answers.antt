use Rattle.std.proofs.Common.{arith}
use Rattle.const_oid_c.proofs.Children.{zero_octets}
use Rattle.const_oid_c.proofs.tree.zero_child.Goals as goal

pub returns-clause-octets : goal.returns-clause-octets
returns-clause-octets c = (zero_octets c.encoded.result c.args.arc (omega arith) c.encoded.ensures).1

pub returns-clause-ok : goal.returns-clause-ok
returns-clause-ok c = (zero_octets c.encoded.result c.args.arc (omega arith) c.encoded.ensures).0
