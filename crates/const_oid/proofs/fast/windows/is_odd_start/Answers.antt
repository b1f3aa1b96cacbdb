use Rattle.const_oid.proofs.WordBytes.{start_is_plain}
use Rattle.const_oid.proofs.fast.windows.is_odd_start.Goals as goal

pub returns : goal.returns
returns c = λ plain at start inside. start_is_plain c.args.window (c.is_odd.ensures plain) at inside
