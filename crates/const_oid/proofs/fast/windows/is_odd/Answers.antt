use Rattle.std.proofs.Common.{arith}
use Rattle.std.proofs.lemmas.Bool.Decides.{nat_tests}
use Rattle.const_oid.proofs.WordBytes.{byte_is_plain}
use Rattle.const_oid.proofs.fast.windows.is_odd.Goals as goal

pub returns : goal.returns
returns c = λ plain. byte_is_plain c.args.window c.args.before c.args.two_before c.ranges.before.fits (grind (arith, nat_tests))
