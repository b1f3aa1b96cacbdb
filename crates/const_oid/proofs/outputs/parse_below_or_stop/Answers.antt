use Rattle.std.proofs.Common.{◌≡◌, ◌++◌, ◌-◌, ℕ, List, [], length, sym, ◌∙◌}
use Rattle.const_oid.specs.{declared.parser.Wrong.Wrong, declared.outputs.Stop.Stop, OidRef.ref_arcs, Text.{components_of, text_of}}
use Rattle.const_oid.specs.{Private.Parser.{error_of, place_of, IsFoundAfter}, Stop.{error_at, IsWrongBelow}}
use Rattle.const_oid.proofs.{Encodings.encoding_back, FoundAfter.octets_written, WrongIndex.{answer_from_found, index_from_found}}
use Rattle.const_oid.proofs.outputs.parse_below_or_stop.Goals as goal

pub returns-in-Ok-clause-answer : goal.returns-in-Ok-clause-answer
returns-in-Ok-clause-answer c =
    let octets = c.as_bytes-octets in
    let begun = octets_written c.args.capacity c.args.text.now c.args.out.now c.copy_if_room.new.out (encoding_back octets.ensures.encoding)
    (rw octets.ensures.slice c.requires.fits) c.requires.follows c.copy_if_room.auto.out c.copy_if_room.ensures.copied in
    rw octets.ensures.slice at (c.in-Ok.ensures.answer _ _ _ begun)

stops : (capacity : ℕ) (arcs text : List ℕ) (wrong : Wrong) (stop : Stop) → error_at text stop ≡ error_of text wrong → stop.1 ≡ place_of wrong
    → IsFoundAfter capacity (text_of arcs) (length arcs - 1) text (error_of text wrong) (place_of wrong) → IsWrongBelow capacity arcs text stop
stops capacity arcs text wrong stop fault place is =
    rw (fault, place) (
      answer_from_found capacity (text_of arcs ++ text) is.found,
      λ other. sym is.component ∙ index_from_found capacity [] (components_of (text_of arcs ++ text)) other is.found,
    )

pub returns-in-Err-clause-answer : goal.returns-in-Err-clause-answer
returns-in-Err-clause-answer c =
    let octets = c.as_bytes-octets in
    let begun = octets_written c.args.capacity c.args.text.now c.args.out.now c.copy_if_room.new.out (encoding_back octets.ensures.encoding)
    (rw octets.ensures.slice c.requires.fits) c.requires.follows c.copy_if_room.auto.out c.copy_if_room.ensures.copied in
    let (is, alike) = rw octets.ensures.slice at (c.in-Err.ensures.answer _ _ _ begun) in
    stops c.args.capacity (ref_arcs c.args.above) c.args.text.now c.in-Err.wrong c.stop_of.result
    (c.stop_of.ensures.fault c.args.text.now is.within alike) c.stop_of.ensures.place is
