use Rattle.std.proofs.Common.{arith}
use Rattle.hex.specs.Hex.{lower_digits}
use Rattle.hex.proofs.HexLemmas.{length-encode_with}
use Rattle.oid_tool.proofs.command.encode.Goals as goal

pub returns-then-count-out : goal.returns-then-count-out
returns-then-count-out c = omega (arith, length-encode_with lower_digits c.args.octets.now)
