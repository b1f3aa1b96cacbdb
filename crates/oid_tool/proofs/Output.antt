-- Bytes that are written in parts, and bytes that are read into the rest of a buffer.
use Rattle.std.proofs.Common.{◌≡◌, ℕ, ◌+◌, ◌-◌, ◌≤◌, List, [], ◌++◌, length, take, drop, sym, ◌∙◌, ap, arith}
use Rattle.std.proofs.Common.{append_assoc, take-append-drop}
use Rattle.std.specs.{Prelude.Option, Io.KnownBytes.Appends}
use Rattle.std.proofs.{KnownBytes.Appends-trans, Math.Seq.{take-append-add, take-append_seam, drop-append_seam}}
use Rattle.std.proofs.lemmas.List.{append-nil, nil_from_length, take-append-le, length-take-le, length-append, length-drop, drop-drop, drop_all, take_all}
use Rattle.const_oid.specs.Output.{WritesAll}
use Rattle.oid_tool.specs.Failures.{AppendsPrefix}
use borrow.Rule.Slice.PartMut.{put_mid, post_of}

-- known bytes grow by the whole, except for what is left
pub record AppendsAllBut (old new : Option (List ℕ)) (left whole : List ℕ) : Type 0 where
  pub written : List ℕ
  pub appends : Appends old new written
  pub joined : written ++ left ≡ whole

module _ {old mid : Option (List ℕ)} {rest whole : List ℕ} (so_far : AppendsAllBut old mid rest whole)
    (part left : List ℕ) (cut : rest ≡ part ++ left) where
  joined_more : (so_far.written ++ part) ++ left ≡ whole
  joined_more = rw (append_assoc, ← cut) so_far.joined

  -- one more part
  pub appends_more : {new : Option (List ℕ)} → Appends mid new part → AppendsAllBut old new left whole
  appends_more {new} more = record {
    written = so_far.written ++ part;
    appends = Appends-trans old mid new so_far.written part so_far.appends more;
    joined = joined_more;
  }

  -- a prefix of the next part
  pub appends_prefix_within : {new : Option (List ℕ)} → AppendsPrefix mid new part → AppendsPrefix old new whole
  appends_prefix_within {new} more = record {
    prefix = so_far.written ++ more.prefix;
    missing = more.missing ++ left;
    appends = Appends-trans old mid new so_far.written more.prefix so_far.appends more.appends;
    whole = grind (arith, append_assoc, joined_more, more.whole);
    shorter = λ none.
        more.shorter (nil_from_length more.missing (omega (arith, simp length-append at (ap length none))));
  }

-- the first n bytes, and what is left after them
pub first_and_left : (n : ℕ) (bytes left : List ℕ) → left ≡ drop n bytes → bytes ≡ take n bytes ++ left
first_and_left n bytes left e = rw e (sym (take-append-drop n bytes))

-- n bytes are read after those that are used of a buffer
pub take_grown : (used room n : ℕ) (buffer bytes : List ℕ) → used ≤ length buffer → n ≤ length bytes
    → take (used + n) (put_mid used room buffer bytes) ≡ take used buffer ++ take n bytes
take_grown used room n buffer bytes within fits =
    let len = length-take-le used buffer within in
    ap (λ start. take (start + n) (put_mid used room buffer bytes)) (sym len)
    ∙ take-append-add (take used buffer) (bytes ++ post_of used room buffer) n
    ∙ ap (λ part. take used buffer ++ part) (take-append-le n bytes (post_of used room buffer) fits)

-- items that are written are the first ones
pub first_written : (items old : List ℕ) {new : List ℕ} {len : ℕ} → WritesAll items old new len → take len new ≡ items
first_written items old (is, begins) = rw (is, begins) (take-append_seam items (drop (length items) old))

-- items that are written, and others after them, in the rest of the output
pub written_joined : (first text old : List ℕ) {mid new : List ℕ} {at len : ℕ} → WritesAll first old mid at
    → WritesAll text (take (length mid - at) (drop at mid)) new len
    → WritesAll (first ++ text) old (put_mid at (length mid - at) mid new) (at + len)
written_joined first text old {mid} {at = at} {len = len} (is, begins) (long, ends) =
    let front = first_written first old (is, begins) in
    let all = take_all (length mid - at) (drop at mid) (omega (arith, length-drop at mid)) in
    let back : drop len (drop at mid) ≡ drop (length (first ++ text)) old =
    rw (is, long, begins, drop-append_seam, drop-drop) (ap (λ n. drop n old) (omega (arith, length-append first text))) in
    let none : post_of at (length mid - at) mid ≡ [] = drop_all (length mid - at) (drop at mid) (omega (arith, length-drop at mid)) in
    (omega (arith, is, long, length-append first text), grind (arith, front, back, none, all, ends, append_assoc, append-nil))

-- what a buffer has after a read or a write at an index
pub ruleset grown = (take_grown, append_assoc, take-append_seam)
