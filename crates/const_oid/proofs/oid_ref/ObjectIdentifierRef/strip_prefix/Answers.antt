use Rattle.std.proofs.Common.{◌++◌, sym, ap, ◌∙◌, map}
use Rattle.std.specs.Prelude.{IsTrue}
use Rattle.const_oid.specs.OidRef.{ref_arcs}
use Rattle.const_oid.specs.{Base128.value_of, Contents.cut}
use Rattle.const_oid.proofs.{BeginsWith.iff_begins, Encodings.{none_from_encoding, ref_encoding}}
use Rattle.const_oid.proofs.Stripped.{stripped_are, stripped_arcs, stripped_fault}
use Rattle.const_oid.proofs.oid_ref.ObjectIdentifierRef.strip_prefix.Goals as goal

pub later-requires : goal.later-requires
later-requires c =
    let (rest, joined) = c.begins_with.ensures.0 c.if-not-begins_with.false in
    rw (stripped_are c.args.self.now.ber.now c.args.other.now.ber.now rest joined)
    (stripped_fault c.args.self.now.ber.now c.args.other.now.ber.now rest (ref_encoding c.args.other.now) joined
    (none_from_encoding (ref_encoding c.args.self.now)))

pub returns-then-not-begins_with : goal.returns-then-not-begins_with
returns-then-not-begins_with c = λ begins.
    let told = (iff_begins (IsTrue c.begins_with.result)
    (ref_encoding c.args.self.now) (ref_encoding c.args.other.now) c.begins_with.ensures).1 begins in
    cc

pub returns : goal.returns
returns c =
    let (rest, joined) = c.begins_with.ensures.0 c.if-not-begins_with.false in
    stripped_arcs c.args.self.now.ber.now c.args.other.now.ber.now rest (ref_encoding c.args.other.now) joined
    ∙ sym (ap (λ left. ref_arcs c.args.other.now ++ left) (c.later.ensures ∙ ap (λ octets. map value_of (cut octets))
    (stripped_are c.args.self.now.ber.now c.args.other.now.ber.now rest joined)))
