use Rattle.std.proofs.Common.{arith, nat_lt}
use Rattle.std.proofs.lemmas.List.Sums.{count_by-le-length}
use Rattle.const_oid.proofs.Lanes.{ones_counted}
use Rattle.const_oid.proofs.fast.lanes.count_all.Goals as goal

pub returns-clause-value : goal.returns-clause-value
returns-clause-value g c = ones_counted g.row.COUNT c.args.limit c.args.octets.now c.requires.all c.requires.lanes

pub returns-clause-fits : goal.returns-clause-fits
returns-clause-fits g c = omega (arith, returns-clause-value g c, count_by-le-length (λ x. nat_lt x c.args.limit) c.args.octets.now)
