use Rattle.std.proofs.Common.{◌≡◌, ◌++◌, ◌-◌, ◌≤◌, ◌∙◌, ℕ, List, length, replicate, sym, min, arith}
use Rattle.std.proofs.lemmas.List.{drop-replicate, length-replicate}
use Rattle.const_oid.specs.{Buffer.buffer_octets, Contents.arcs_of_octets, Identifier.{root_rule, IsEncoding}, Private.Parser.IsWrittenTo}
use Rattle.const_oid.specs.declared.buffer.Buffer.{Buffer}
use Rattle.const_oid.specs.Text.{text_of, FollowsArc}
use Rattle.const_oid.proofs.{Appended.{taken, used_first}, FoundAfter.octets_written, WrongIndex.answer_from_found}
use Rattle.const_oid.proofs.buffer.Buffer.parsed_below.Goals as goal

-- the octets above are in the buffer
begun : {size capacity : ℕ} {above : List ℕ} (text : List ℕ) (buffer : Buffer size) → IsEncoding root_rule (arcs_of_octets above) above
    → FollowsArc text → length above ≤ capacity → buffer_octets buffer ≡ above → length buffer.bytes ≡ size
    → let arcs = arcs_of_octets above in IsWrittenTo capacity (text_of arcs) (length arcs - 1) text (replicate size 0) buffer.bytes (length above) 0
begun {size} {capacity} text buffer encoding follows fits front long =
    let within = buffer.within in
    octets_written capacity text (replicate size 0) buffer.bytes encoding fits follows (long ∙ sym (length-replicate size 0))
    (λ room. used_first size buffer.bytes front (omega arith) buffer.zeros)

pub overflow_cast-buffer : goal.overflow_cast-buffer
overflow_cast-buffer g c =
    let begun = begun c.args.text.now c.copied-buffer.result c.requires.valid c.requires.follows (omega arith) c.copied-buffer.ensures (omega arith) in
    let is = c.in-Ok.ensures.answer _ _ _ begun in
    omega (arith, is.within)

pub invariant_of-buffer : goal.invariant_of-buffer
invariant_of-buffer g c =
    let begun = begun c.args.text.now c.copied-buffer.result c.requires.valid c.requires.follows (omega arith) c.copied-buffer.ensures (omega arith) in
    let is = c.in-Ok.ensures.answer _ _ _ begun in
    let end = taken {new = c.parse_later.new.out} is (omega (arith, length-replicate {A = ℕ} g.row.SIZE 0)) in
    record {
      within = omega (arith, is.within);
      octets = end.octets;
      zeros = grind (arith, end.rest, drop-replicate);
    }

pub fault_of-requires : goal.fault_of-requires
fault_of-requires g c =
    let begun = begun c.args.text.now c.copied-buffer.result c.requires.valid c.requires.follows (omega arith) c.copied-buffer.ensures (omega arith) in
    (c.in-Err.ensures.answer _ _ _ begun).0.within

pub returns-in-Ok-clause-answer : goal.returns-in-Ok-clause-answer
returns-in-Ok-clause-answer g c =
    let begun = begun c.args.text.now c.copied-buffer.result c.requires.valid c.requires.follows (omega arith) c.copied-buffer.ensures (omega arith) in
    let is = c.in-Ok.ensures.answer _ _ _ begun in
    let end = taken {new = c.parse_later.new.out} is (omega (arith, length-replicate {A = ℕ} g.row.SIZE 0)) in
    let full : c.capacity-capacity.result ≡ min g.row.SIZE 255 = omega arith in
    sym (rw full at end.answer)

pub returns-in-Ok-clause-encoding : goal.returns-in-Ok-clause-encoding
returns-in-Ok-clause-encoding g c =
    let begun = begun c.args.text.now c.copied-buffer.result c.requires.valid c.requires.follows (omega arith) c.copied-buffer.ensures (omega arith) in
    let is = c.in-Ok.ensures.answer _ _ _ begun in
    (taken {new = c.parse_later.new.out} is (omega (arith, length-replicate {A = ℕ} g.row.SIZE 0))).encoding

pub returns-in-Err-clause-answer : goal.returns-in-Err-clause-answer
returns-in-Err-clause-answer g c =
    let begun = begun c.args.text.now c.copied-buffer.result c.requires.valid c.requires.follows (omega arith) c.copied-buffer.ensures (omega arith) in
    let full : c.capacity-capacity.result ≡ min g.row.SIZE 255 = omega arith in
    let is = c.in-Err.ensures.answer _ _ _ begun in
    let answer = answer_from_found c.capacity-capacity.result (text_of (arcs_of_octets c.args.above.now) ++ c.args.text.now) {index = is.0.index} is.0.found in
    rw c.fault_of.ensures.fault (sym (rw full at answer))
