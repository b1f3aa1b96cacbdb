use Rattle.const_oid.proofs.SpeltOut.{name_answer, no_name_with}
use Rattle.const_oid.proofs.laws.names_before_arcs.Goals as goal

pub returns : goal.returns
returns c entries name arcs later capacity readable leads small none =
    name_answer entries name arcs later readable leads small
    (λ arc begun more other joined is. absurd (no_name_with entries name later none arc begun more other joined is)) capacity
