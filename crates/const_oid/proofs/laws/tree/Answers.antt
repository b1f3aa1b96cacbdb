use Rattle.const_oid.proofs.Tree.{parent_of-child_of, child_of-parent_of, encoding_push, encoding_parent}
use Rattle.const_oid.proofs.Parents.{parent_octets, parent_of_one}
use Rattle.const_oid.proofs.laws.tree.Goals as goal

pub returns : goal.returns
returns c =
    search (encoding_push, encoding_parent, parent_of-child_of, child_of-parent_of, parent_octets, parent_of_one)
