-- Octets that do not fit an output are counted.
use Rattle.std.proofs.Common.{◌≡◌, ℕ, ◌<◌, ◌≤◌, List, get_or, length, map, refl, ◌∙◌, arith, ⊎_elim, lt-ltb, Ok, Err}
use Rattle.std.proofs.Common.{◌^◌, min, MatchResult, Result}
use Rattle.std.specs.Prelude.{Option, Some, None}
use Rattle.std.proofs.lemmas.Bool.{cases_lt}
use Rattle.const_oid.specs.{declared.error.Error.Error, Error.answer}
use Rattle.const_oid.specs.Identifier.{root_rule, size, encoding_of, IsIdentifier}
use Rattle.const_oid.specs.{Contents.size_answer, Items.{item_answer, item_fault}, Text.{number_of, components_of, text_answer, text_fault}}
use Rattle.const_oid.proofs.{Encodings.encoding_is, Lengths.length_is_size, Texts.{denoted_from_none, text_fault-none}}
use Rattle.const_oid.proofs.{Enough.all_small, Items.{identifier_from_none, item_fault-none}}
use Rattle.const_oid_c.specs.{declared.status.Status.Status}
use Rattle.const_oid_c.specs.Status.{fault_at, max_len, too_short_status}
use Rattle.const_oid_c.proofs.Writes.{IsWritten}

-- arcs of an identifier that takes more than `few` octets
pub record IsLonger (few : ℕ) (arcs : List ℕ) : Type 0 where
  pub identifier : IsIdentifier root_rule arcs
  pub more : few < size arcs
  pub fits : size arcs ≤ max_len

pub none_from_answer : (fault : Option Error) (xs ys : List ℕ) → answer fault xs ≡ Ok ys → (fault ≡ None) × (xs ≡ ys)
none_from_answer None xs ys same = (refl, cc)
none_from_answer (Some fault) xs ys same = cc

-- a text that denotes arcs, and is rejected at the capacity `few`
pub longer_text : (few : ℕ) {fault : Error} (text arcs : List ℕ) → text_answer root_rule text few ≡ Err fault
    → text_answer root_rule text max_len ≡ Ok arcs → IsLonger few arcs
longer_text few {fault} text arcs refused read =
    let numbers = map number_of (components_of text) in
    let (none, same) = none_from_answer (text_fault root_rule text max_len) numbers arcs read in
    let (denoted, fits) = denoted_from_none root_rule max_len text none in
    let more : few < size numbers = ⊎_elim (λ less. less)
    (λ enough.
    let fine : text_answer root_rule text few ≡ Ok numbers = rw (text_fault-none root_rule few text numbers denoted enough) refl in
    cc)
    (cases_lt few (size numbers)) in
    rw (← same) record { identifier = denoted.identifier; more = more; fits = fits }

-- and such arcs
pub longer_arcs : (few : ℕ) {fault : Error} (arcs accepted : List ℕ) → ((k : ℕ) → get_or arcs k 0 < 2 ^ 32)
    → item_answer root_rule arcs few ≡ Err fault → item_answer root_rule arcs max_len ≡ Ok accepted → IsLonger few accepted
longer_arcs few {fault} arcs accepted small refused read =
    let (none, same) = none_from_answer (item_fault root_rule arcs max_len) arcs accepted read in
    let (identifier, fits) = identifier_from_none root_rule max_len arcs (all_small arcs small) none in
    let more : few < size arcs = ⊎_elim (λ less. less)
    (λ enough.
    let fine : item_answer root_rule arcs few ≡ Ok arcs = rw (item_fault-none root_rule few arcs identifier enough) refl in
    cc)
    (cases_lt few (size arcs)) in
    rw (← same) record { identifier = identifier; more = more; fits = fits }

-- nothing is written, and the status is that of the count, or of the fault
pub not_written : (index : ℕ) {old : List ℕ} {status : Status} (read : Result (List ℕ) Error)
    → ((arcs : List ℕ) → read ≡ Ok arcs → IsLonger (length old) arcs)
    → MatchResult (size_answer read) (λ len. status ≡ too_short_status len) (λ fault. status ≡ fault_at index fault)
    → IsWritten index read old old status
not_written index {old} (Ok arcs) longer is =
    let long = longer arcs refl in
    let count : length (encoding_of arcs) ≡ size arcs = length_is_size (encoding_is root_rule arcs long.identifier) in
    let above = lt-ltb (length old) (size arcs) long.more in
    let least : min (size arcs) max_len ≡ size arcs = omega (arith, long.fits) in
    record { status = is ∙ rw (count, above, least) refl; after = rw (count, above) refl }
not_written index (Err fault) longer is = record { status = is; after = refl }
