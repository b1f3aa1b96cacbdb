use Rattle.std.proofs.Common.{arith}
use Rattle.const_oid.proofs.WordBytes.{ends_are}
use Rattle.const_oid.proofs.fast.windows.both_ends.Goals as goal

pub returns : goal.returns
returns c = search (arith, ends_are)
