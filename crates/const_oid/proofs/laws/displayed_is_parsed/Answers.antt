use Rattle.const_oid.proofs.Displayed.{displayed_read}
use Rattle.const_oid.proofs.laws.displayed_is_parsed.Goals as goal

pub returns : goal.returns
returns c = displayed_read
