use Rattle.const_oid.proofs.WideRule.{octets_new}
use Rattle.const_oid.proofs.laws.wide_adds.Goals as goal

pub returns-clause-octets : goal.returns-clause-octets
returns-clause-octets c = octets_new
