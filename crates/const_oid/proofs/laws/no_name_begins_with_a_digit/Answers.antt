use Rattle.std.proofs.Common.{refl}
use Rattle.const_oid.proofs.BareTexts.{bare_digits}
use Rattle.const_oid.proofs.laws.no_name_begins_with_a_digit.Goals as goal

pub returns-clause-whole : goal.returns-clause-whole
returns-clause-whole c entries text capacity blanks digit = rw (bare_digits text blanks digit, digit) refl
