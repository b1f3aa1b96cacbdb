use Rattle.std.proofs.Common.{refl}
use Rattle.std.proofs.Output.{has_written_styled_append}
use Rattle.const_oid.proofs.tables.DisplayDisplay.fmt.Goals as goal

pub returns-clause-styled : goal.returns-clause-styled
returns-clause-styled g c flush ok =
    let first = c.in_ok-write_str.ensures.styled flush refl in
    rw c.in-Some.is (has_written_styled_append _ _ _ _ _ _ first (c.write_below.ensures first.flush ok))
