use Rattle.std.proofs.Common.{◌≡◌, ap, drop, length, map, sym, ◌∙◌}
use Rattle.std.proofs.Math.Seq.{drop-append_seam}
use Rattle.const_oid.specs.{Base128.value_of, Contents.cut, OidRef.{ref_arcs, ref_octets}}
use Rattle.const_oid.proofs.{Encodings.{none_from_encoding, ref_encoding}, Stripped.{stripped_arcs, stripped_fault}}
use Rattle.const_oid.proofs.tables.octets_after.Goals as goal

pub returns-clause-valid : goal.returns-clause-valid
returns-clause-valid c =
    let (rest, joined) = c.requires in
    let octets = ref_octets c.args.oid in
    let prefix = ref_octets c.args.prefix in
    let is : c.octets_from.result.now ≡ rest = rw (c.octets_from.ensures, c.as_bytes.ensures.slice, c.as_bytes-2.ensures.slice, joined) (drop-append_seam prefix rest) in
    rw is (stripped_fault octets prefix rest (ref_encoding c.args.prefix) joined (none_from_encoding (ref_encoding c.args.oid)))

pub returns-clause-arcs : goal.returns-clause-arcs
returns-clause-arcs c =
    let (rest, joined) = c.requires in
    let octets = ref_octets c.args.oid in
    let prefix = ref_octets c.args.prefix in
    let is : c.octets_from.result.now ≡ rest = rw (c.octets_from.ensures, c.as_bytes.ensures.slice, c.as_bytes-2.ensures.slice, joined) (drop-append_seam prefix rest) in
    let arcs = stripped_arcs octets prefix rest (ref_encoding c.args.prefix) joined in
    rw is (sym (ap (drop (length (ref_arcs c.args.prefix))) arcs ∙ drop-append_seam (ref_arcs c.args.prefix) (map value_of (cut rest))))
