use Rattle.std.proofs.Common.{◌≡◌, ℕ, ◌≤◌, List, length, take, ap, arith, refl, ◌∙◌, Ok, Err}
use Rattle.std.specs.Prelude.{MatchResult, Result}
use Rattle.const_oid.specs.{declared.error.Error.Error, Contents.arcs_of_octets}
use Rattle.const_oid.specs.{Identifier.{root_rule}, Output.IsEncodedIn, Text.{text_answer}}
use Rattle.const_oid.proofs.{Appended.taken}
use Rattle.const_oid.specs.{declared.outputs.Stop.Stop, Stop.{IsWrongAt}}
use Rattle.const_oid_c.specs.{Results.octets_of_text, Status.{max_len, output_status, output_after}}
use Rattle.const_oid_c.proofs.{Capacities.{fitting_text, same_counted, wrong_stop}, Writes.{room_status, room_after, short_status, short_after}}
use Rattle.const_oid_c.proofs.texts.read_long_text.Goals as goal

-- ---- up to 255 octets

made : (text old new : List ℕ) {len : ℕ} → IsEncodedIn 255 (text_answer root_rule text 255) old new len → 255 ≤ length old
    → Ok (take len new) ≡ octets_of_text text
made text old new {len} is room =
    let all = taken is room in
    fitting_text 255 (omega arith) text (arcs_of_octets (take len new)) (take len new) all.encoding all.answer

pub returns-in-Ok : goal.returns-in-Ok
returns-in-Ok c =
    let same = made c.args.text.now _ _ c.in-Ok.ensures.answer (omega arith) in (
      c.write_bytes.ensures.status ∙ ap (output_status (length c.args.out.now)) same,
      c.write_bytes.ensures.written ∙ ap (output_after c.args.out.now) same,
    )

pub returns-in-Err-2 : goal.returns-in-Err-2
returns-in-Err-2 c =
    (wrong_stop 255 (omega arith) c.args.text.now c.in-Err.stop (c.is_length.ensures c.if-is_length.false) c.in-Err.ensures.answer, refl)

-- ---- any number of octets

all_made : (text none nothing : List ℕ) {len : ℕ} → (is : IsEncodedIn max_len (text_answer root_rule text max_len) none nothing len)
    → Ok is.octets ≡ octets_of_text text
all_made text none nothing is = fitting_text max_len (omega arith) text (arcs_of_octets is.octets) is.octets is.encoding is.answer

pub returns-then-len-out : goal.returns-then-len-out
returns-then-len-out c =
    let is = c.in_ok-len.ensures.answer in
    let same = all_made c.args.text.now _ _ is in (
      c.too_short_status.ensures
          ∙ short_status c.in_ok-len.len c.args.out.now is.octets is.long (omega arith) is.within
          ∙ ap (output_status (length c.args.out.now)) same,
      short_after c.in_ok-len.len c.args.out.now is.octets is.long (omega arith) ∙ ap (output_after c.args.out.now) same,
    )

not_both : {fault : Error} {x : List ℕ} {read : Result (List ℕ) Error} → read ≡ Err fault → read ≡ Ok x → ⊥
not_both first second = cc

-- the octets that were counted are written
counted_written : (len : ℕ) (text none nothing old new : List ℕ) (result : Result ℕ Stop) → len ≤ length old
    → len ≤ max_len → IsEncodedIn max_len (text_answer root_rule text max_len) none nothing len
    → MatchResult result (IsEncodedIn len (text_answer root_rule text len) old new)
    (IsWrongAt len text)
    → new ≡ output_after old (octets_of_text text)
counted_written len text none nothing old new (Ok count) room less is again =
    again.begins room ∙ room_after count old again.octets again.long (omega (arith, again.within))
    ∙ ap (output_after old) (fitting_text len less text (arcs_of_octets again.octets) again.octets again.encoding again.answer)
counted_written len text none nothing old new (Err stop) room less is again =
    absurd (not_both again.0 (same_counted len text none nothing less is ∙ is.answer))

pub returns : goal.returns
returns c =
    let is = c.in_ok-len.ensures.answer in (
      c.len_status.ensures ∙ room_status c.in_ok-len.len c.args.out.now is.octets is.long (omega arith)
          ∙ ap (output_status (length c.args.out.now)) (all_made c.args.text.now _ _ is),
      counted_written c.in_ok-len.len c.args.text.now _ _ c.args.out.now _ c.parse_or_stop-3.result (omega arith) is.within is
          c.parse_or_stop-3.ensures.answer,
    )
