use Rattle.std.proofs.Common.{◌≡◌, ◌+◌, ◌-◌, ◌≤◌, ◌++◌, ℕ, List, [], ◌∷◌, length, ap, arith, refl, rules, sym, ◌∙◌, Ok, Err}
use Rattle.std.specs.{Prelude.{MatchResult, Result}}
use Rattle.std.proofs.lemmas.Bool.Decides.{nat_tests}
use Rattle.const_oid.specs.{declared.error.Error.Error, Contents.arcs_of_octets, OidRef.{ref_arcs}}
use Rattle.const_oid.specs.{Identifier.{root_rule, size, IsEncoding, IsIdentifier}, Output.IsEncodedIn, Text.{components_of, text_answer, text_of, wrong_index, FollowsArc}}
use Rattle.const_oid.specs.{declared.outputs.Stop.Stop, Stop.{component_at, error_at, IsWrongBelow}}
use Rattle.const_oid.proofs.{Ascii.answer_end_utf8, Encodings.{encoding_of-encoded, ref_encoding}, FoundAfter.below_enough, Lengths.length_is_size}
use Rattle.const_oid_c.specs.{Results.{octets_of_bytes_below, octets_of_later}, Status.{fault_at, max_len, output_status, output_after}}
use Rattle.const_oid_c.proofs.{Capacities.same_counted, Writes.{room_status, room_after, short_status, short_after}}
use Rattle.const_oid_c.proofs.texts.write_below.Goals as goal

-- a text that begins with a dot, or is empty
after_dot : (arcs text : List ℕ) → FollowsArc text → octets_of_bytes_below arcs text ≡ octets_of_later arcs text
after_dot arcs [] follows = refl
after_dot arcs (byte ∷ bytes) follows = let is = follows (omega arith) in grind (arith, nat_tests, is)

module _ (arcs text : List ℕ) (follows : FollowsArc text) where
  made : (octets : List ℕ) → IsEncoding root_rule (arcs_of_octets octets) octets
      → text_answer root_rule (text_of arcs ++ text) max_len ≡ Ok (arcs_of_octets octets) → Ok octets ≡ octets_of_bytes_below arcs text
  made octets encoding answer = rw (after_dot arcs text follows, answer) (ap Ok (sym (encoding_of-encoded encoding)))

  not_both : {fault : Error} {x : List ℕ} {read : Result (List ℕ) Error} → read ≡ Err fault → read ≡ Ok x → ⊥
  not_both first second = cc

  -- the octets that were counted are written
  written : (len : ℕ) (none nothing old new : List ℕ) (result : Result ℕ Stop) → len ≤ length old → len ≤ max_len
      → IsEncodedIn max_len (text_answer root_rule (text_of arcs ++ text) max_len) none nothing len
      → MatchResult result (IsEncodedIn len (text_answer root_rule (text_of arcs ++ text) len) old new) (IsWrongBelow len arcs text)
      → new ≡ output_after old (octets_of_bytes_below arcs text)
  written len none nothing old new (Ok count) room less is again =
      let answer = sym (same_counted len (text_of arcs ++ text) none nothing less is) ∙ again.answer in
      again.begins room ∙ room_after count old again.octets again.long (omega (arith, again.within))
      ∙ ap (output_after old) (made again.octets again.encoding answer)
  written len none nothing old new (Err stop) room less is again =
      absurd (not_both again.0 (same_counted len (text_of arcs ++ text) none nothing less is ∙ is.answer))

  wrong : (stop : Stop) → IsIdentifier root_rule arcs → size arcs + length text ≤ max_len → IsWrongBelow max_len arcs text stop
      → octets_of_bytes_below arcs text ≡ Err (fault_at (component_at text stop.1) (error_at text stop))
  wrong stop identifier fits is =
      let index = is.1 (λ same. below_enough max_len arcs text identifier fits follows (is.0 ∙ ap Err same)) in
      let place : wrong_index [] (components_of (text_of arcs ++ text)) - (length arcs - 1) ≡ component_at text stop.1 = omega (arith, index) in
      rw (after_dot arcs text follows, is.0, place) refl

pub returns-in-Ok : goal.returns-in-Ok
returns-in-Ok c =
    let arcs = ref_arcs c.args.above in
    let text = c.args.text.now in
    let follows : FollowsArc text = search rules in
    let is = c.in-Ok.ensures.answer in
    let same = made arcs text follows is.octets is.encoding is.answer in (
      answer_end_utf8 root_rule max_len (text_of arcs) text (arcs_of_octets is.octets) is.answer,
      c.too_short_status.ensures
          ∙ short_status c.in-Ok.len c.args.out.now is.octets is.long (omega arith) is.within
          ∙ ap (output_status (length c.args.out.now)) same,
      short_after c.in-Ok.len c.args.out.now is.octets is.long (omega arith) ∙ ap (output_after c.args.out.now) same,
    )

pub returns-in-Ok-2 : goal.returns-in-Ok-2
returns-in-Ok-2 c =
    let arcs = ref_arcs c.args.above in
    let text = c.args.text.now in
    let follows : FollowsArc text = search rules in
    let is = c.in-Ok.ensures.answer in
    let same = made arcs text follows is.octets is.encoding is.answer in (
      answer_end_utf8 root_rule max_len (text_of arcs) text (arcs_of_octets is.octets) is.answer,
      c.len_status.ensures ∙ room_status c.in-Ok.len c.args.out.now is.octets is.long (omega arith)
          ∙ ap (output_status (length c.args.out.now)) same,
      written arcs text follows c.in-Ok.len _ _ c.args.out.now _ c.parse_below_or_stop-in-Ok-2.result (omega arith) is.within is
          c.parse_below_or_stop-in-Ok-2.ensures.answer,
    )

pub returns-in-Err : goal.returns-in-Err
returns-in-Err c =
    let arcs = ref_arcs c.args.above in
    let text = c.args.text.now in
    let follows : FollowsArc text = search rules in
    let encoding = ref_encoding c.args.above in
    let is = wrong arcs text follows c.in-Err.stop encoding.identifier (omega (arith, length_is_size encoding)) c.in-Err.ensures.answer in
    (rw (c.fault_at_stop.ensures.index, c.fault_at_stop.ensures.fault) is, refl)
