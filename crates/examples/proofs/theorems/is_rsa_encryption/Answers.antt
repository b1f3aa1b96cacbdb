use Rattle.std.proofs.Common.{rules, ap, ◌∙◌}
use Rattle.const_oid.specs.Identifier.{encoding_of}
use Rattle.const_oid.proofs.Identifiers.{octets_are}
use Rattle.examples.proofs.theorems.is_rsa_encryption.Goals as goal

pub returns : goal.returns
unfolding encoding_of
returns c =
    let oid = c.new_unwrap in
    let octets = c.as_bytes.ensures.octets ∙ octets_are oid.result ∙ ap encoding_of oid.ensures.values in
    search rules
