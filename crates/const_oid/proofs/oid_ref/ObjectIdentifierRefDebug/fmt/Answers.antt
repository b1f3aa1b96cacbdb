use Rattle.std.proofs.Common.{refl}
use Rattle.std.proofs.Output.{has_written_styled_append}
use Rattle.const_oid.proofs.oid_ref.ObjectIdentifierRefDebug.fmt.Goals as goal

pub returns-clause-styled : goal.returns-clause-styled
returns-clause-styled g c flush ok =
    let first = c.in_ok-write_str.ensures.styled flush refl in
    let second = c.in_ok-write_in_chunks.ensures first.flush refl in
    let third = c.write_str-2.ensures.styled second.flush ok in
    has_written_styled_append _ _ _ _ _ _ first (has_written_styled_append _ _ _ _ _ _ second third)
