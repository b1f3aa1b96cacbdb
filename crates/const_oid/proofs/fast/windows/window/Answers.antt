use Rattle.std.proofs.Common.{arith}
use Rattle.const_oid.proofs.WordBytes.{window_is}
use Rattle.const_oid.proofs.fast.windows.window.Goals as goal

pub returns : goal.returns
returns c = search (arith, window_is)
