use Rattle.std.proofs.Common.{refl}
use Rattle.std.specs.Fmt.{digits}
use Rattle.const_oid.specs.Element.{length_octets, base_256}
use Rattle.const_oid.proofs.laws.examples.Goals as goal

pub returns-clause-printed : goal.returns-clause-printed
unfolding digits
returns-clause-printed c = refl

pub returns-clause-short_length : goal.returns-clause-short_length
unfolding length_octets
returns-clause-short_length c = refl

pub returns-clause-long_length : goal.returns-clause-long_length
unfolding length_octets base_256
returns-clause-long_length c = refl

pub returns-clause-whole_element : goal.returns-clause-whole_element
unfolding length_octets
returns-clause-whole_element c = refl
