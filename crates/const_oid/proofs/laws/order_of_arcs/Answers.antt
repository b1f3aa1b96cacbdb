use Rattle.std.specs.Cmp.Lexicographic.{nat_list_cmp_total}
use Rattle.const_oid.proofs.ByParts.{arcs_cmp, same_exactly, ancestor_first, run_between, level_cmp}
use Rattle.const_oid.proofs.laws.order_of_arcs.Goals as goal

pub returns : goal.returns
returns c = search (arcs_cmp, nat_list_cmp_total, same_exactly, ancestor_first, run_between, level_cmp)
