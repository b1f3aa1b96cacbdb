use Rattle.const_oid.proofs.Elements.{length_is, length_only}
use Rattle.const_oid.proofs.laws.unique_lengths.Goals as goal

pub returns : goal.returns
returns c = record { one = length_is; only = length_only }
