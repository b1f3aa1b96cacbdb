-- What a function writes, by the functions of `const_oid` and `std`.
use Rattle.std.proofs.Common.{◌≡◌, ◌<◌, ◌≤◌, List, ℕ, length, min, refl, sym, ◌∙◌, arith, le-ltb, lt-ltb, Ok}
use Rattle.std.specs.Prelude.{Result}
use Rattle.std.proofs.lemmas.Str.{IsUtf8-from_ascii, is_utf8-from_IsUtf8}
use Rattle.const_oid.specs.{declared.error.Error.Error, Contents.{arcs_of_octets, borrowed_capacity}, Identifier.{root_rule, IsEncoding}, Output.{IsEncodedIn, written_over}}
use Rattle.const_oid_c.specs.{declared.status.Status.Status}
use Rattle.const_oid_c.specs.Results.{borrowed_answer, octets_or_fault}
use Rattle.const_oid_c.specs.Status.{len_status, max_len, output_after, output_status, too_short_status}
use Rattle.const_oid.proofs.{Ascii.is_not_utf8, Encodings.{encoding_of-encoded, octet_fault-fits}}

-- octets that encode an identifier have no fault
pub valid_answer : (octets : List ℕ) → IsEncoding root_rule (arcs_of_octets octets) octets → length octets ≤ borrowed_capacity
    → borrowed_answer octets ≡ Ok (arcs_of_octets octets)
valid_answer octets encoding fits = rw (octet_fault-fits borrowed_capacity encoding fits)

-- bytes, UTF-8 or not
pub ruleset texts = (IsUtf8-from_ascii, is_utf8-from_IsUtf8, is_not_utf8)

-- the status and the output after a call that writes octets of arcs, or has their fault at an index
pub record IsWritten (index : ℕ) (read : Result (List ℕ) Error) (old new : List ℕ) (result : Status) : Type 0 where
  pub status : result ≡ output_status (length old) (octets_or_fault index read)
  pub after : new ≡ output_after old (octets_or_fault index read)

-- octets that are written are those of an answer that is the same
pub bytes_written : (index : ℕ) {same read : Result (List ℕ) Error} {old new : List ℕ} {len : ℕ}
    → IsEncodedIn (length old) same old new len → same ≡ read → IsWritten index read old new (len_status len)
bytes_written index {old = old} is e =
    let answer = sym e ∙ is.answer in
    let octets = encoding_of-encoded is.encoding in
    let below = le-ltb (length old) (length is.octets) (omega (arith, is.long, is.within)) in
    record {
      status = rw (answer, octets, is.long, below) refl;
      after = is.begins (omega arith) ∙ rw (answer, octets, below) refl;
    }

-- octets that are written if there is room for them, and else counted
module _ (len : ℕ) (old octets : List ℕ) (long : len ≡ length octets) where
  pub room_status : len ≤ length old → len_status len ≡ output_status (length old) (Ok octets)
  room_status room = rw (le-ltb (length old) (length octets) (omega (arith, long)), long) refl

  pub room_after : len ≤ length old → written_over octets old ≡ output_after old (Ok octets)
  room_after room = rw (le-ltb (length old) (length octets) (omega (arith, long))) refl

  pub short_status : length old < len → len ≤ max_len → too_short_status len ≡ output_status (length old) (Ok octets)
  short_status short most =
      let least : min (length octets) max_len ≡ len = omega (arith, long) in
      rw (lt-ltb (length old) (length octets) (omega (arith, long)), least) refl

  pub short_after : length old < len → old ≡ output_after old (Ok octets)
  short_after short = rw (lt-ltb (length old) (length octets) (omega (arith, long))) refl
