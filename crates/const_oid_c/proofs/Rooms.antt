-- Octets that are written where there is room for them: their status is neither `Length` nor that of an output that is too short.
use Rattle.std.proofs.Common.{◌≡◌, ◌≢◌, ℕ, ◌*◌, ◌^◌, ◌<◌, ◌≤◌, List, [], get_or, length, map, Bool, true, false, cond, refl, ◌∙◌, arith, le-ltb, Result, Ok, Err}
use Rattle.std.proofs.lemmas.Bool.Decides.{nat_tests}
use Rattle.std.specs.Str.{is_utf8}
use Rattle.const_oid.specs.{declared.error.Error.Error, Error.code_of}
use Rattle.const_oid.specs.declared.error.Error.TheVariants.{ArcInvalid, ArcTooBig, Base128, DigitExpected, Empty, Length, Overflow, RepeatedDot, TrailingDot}
use Rattle.const_oid.specs.Identifier.{root_rule, encoding_of}
use Rattle.const_oid.specs.{Items.{item_answer, item_fault}, Text.{number_of, components_of, text_answer, text_fault, wrong_index}}
use Rattle.const_oid.proofs.{Encodings.encoding_is, Lengths.length_is_size, Texts.denoted_from_none}
use Rattle.const_oid.proofs.{Enough.{all_small, bytes_enough, five_enough}, Items.identifier_from_none}
use Rattle.const_oid_c.specs.{declared.status.Status.Status}
use Rattle.const_oid_c.specs.Results.{octets_of_arcs, octets_of_ascii, octets_of_text, octets_or_fault}
use Rattle.const_oid_c.specs.Status.{max_len, not_utf8_status, output_status}
use Rattle.const_oid_c.proofs.{Capacities.{same_arcs, same_text}, Counted.none_from_answer}

-- the code of an error is that of no output, and 6 is that of `Length` alone
not_ten : (fault : Error) → code_of fault ≢ 10
not_ten (ArcInvalid arc) same = cc
not_ten ArcTooBig same = cc
not_ten Base128 same = cc
not_ten (DigitExpected actual) same = cc
not_ten Empty same = cc
not_ten Length same = cc
not_ten Overflow same = cc
not_ten RepeatedDot same = cc
not_ten TrailingDot same = cc

six : (fault : Error) → code_of fault ≡ 6 → fault ≡ Length
six (ArcInvalid arc) same = cc
six ArcTooBig same = cc
six Base128 same = cc
six (DigitExpected actual) same = cc
six Empty same = cc
six Length same = refl
six Overflow same = cc
six RepeatedDot same = cc
six TrailingDot same = cc

-- ---- any arcs, or their fault

not_short : (index few : ℕ) (read : Result (List ℕ) Error)
    → ((arcs : List ℕ) → read ≡ Ok arcs → length (encoding_of arcs) ≤ few) → (output_status few (octets_or_fault index read)).code ≢ 10
not_short index few (Ok arcs) fits = rw (le-ltb few (length (encoding_of arcs)) (fits arcs refl)) (λ same. cc)
not_short index few (Err fault) fits = not_ten fault

not_long : (index few : ℕ) (read : Result (List ℕ) Error) → read ≢ Err Length → (output_status few (octets_or_fault index read)).code ≢ 6
not_long index few (Ok arcs) other = grind (arith, nat_tests)
not_long index few (Err fault) other = λ same. other (rw (six fault same) refl)

-- ---- a text

text_fits : (few : ℕ) (text arcs : List ℕ) → few ≤ max_len → length text ≤ few
    → text_answer root_rule text max_len ≡ Ok arcs → length (encoding_of arcs) ≤ few
text_fits few text arcs within room read =
    let numbers = map number_of (components_of text) in
    let same = same_text few max_len within text (bytes_enough root_rule text few room) in
    let (none, is) = none_from_answer (text_fault root_rule text few) numbers arcs (same ∙ read) in
    let (denoted, fits) = denoted_from_none root_rule few text none in
    let count = length_is_size (encoding_is root_rule numbers denoted.identifier) in
    rw (← is) (omega (arith, count, fits))

utf8_short : (few : ℕ) (octets : Result (List ℕ) Status) (test : Bool) → (output_status few octets).code ≢ 10
    → (output_status few (cond test octets (Err not_utf8_status))).code ≢ 10
utf8_short few octets true other = other
utf8_short few octets false other = λ same. cc

utf8_long : (few : ℕ) (octets : Result (List ℕ) Status) (test : Bool) → (output_status few octets).code ≢ 6
    → (output_status few (cond test octets (Err not_utf8_status))).code ≢ 6
utf8_long few octets true other = other
utf8_long few octets false other = λ same. cc

pub text_enough : {status : Status} (few : ℕ) (text : List ℕ) → few ≤ max_len → status ≡ output_status few (octets_of_text text)
    → length text ≤ few → status.code ≢ 10
text_enough few text within is room =
    rw is (utf8_short few (octets_of_ascii text) (is_utf8 text)
    (not_short (wrong_index [] (components_of text)) few (text_answer root_rule text max_len) (λ arcs read. text_fits few text arcs within room read)))

pub text_no_length : {status : Status} (few : ℕ) (text : List ℕ) → length text ≤ max_len
    → status ≡ output_status few (octets_of_text text) → status.code ≢ 6
text_no_length few text short is =
    rw is (utf8_long few (octets_of_ascii text) (is_utf8 text)
    (not_long (wrong_index [] (components_of text)) few (text_answer root_rule text max_len) (bytes_enough root_rule text max_len short)))

-- ---- arcs

arcs_fit : (few : ℕ) (arcs accepted : List ℕ) → ((k : ℕ) → get_or arcs k 0 < 2 ^ 32) → few ≤ max_len → 5 * length arcs ≤ few
    → item_answer root_rule arcs max_len ≡ Ok accepted → length (encoding_of accepted) ≤ few
arcs_fit few arcs accepted small within room read =
    let same = same_arcs few max_len within arcs (five_enough root_rule arcs few small room) in
    let (none, is) = none_from_answer (item_fault root_rule arcs few) arcs accepted (same ∙ read) in
    let (identifier, fits) = identifier_from_none root_rule few arcs (all_small arcs small) none in
    let count = length_is_size (encoding_is root_rule arcs identifier) in
    rw (← is) (omega (arith, count, fits))

pub arcs_enough : {status : Status} (few : ℕ) (arcs : List ℕ) → ((k : ℕ) → get_or arcs k 0 < 2 ^ 32) → few ≤ max_len
    → status ≡ output_status few (octets_of_arcs (item_answer root_rule arcs max_len)) → 5 * length arcs ≤ few → status.code ≢ 10
arcs_enough few arcs small within is room =
    rw is (not_short 0 few (item_answer root_rule arcs max_len) (λ accepted read. arcs_fit few arcs accepted small within room read))

pub arcs_no_length : {status : Status} (few : ℕ) (arcs : List ℕ) → ((k : ℕ) → get_or arcs k 0 < 2 ^ 32) → 5 * length arcs ≤ max_len
    → status ≡ output_status few (octets_of_arcs (item_answer root_rule arcs max_len)) → status.code ≢ 6
arcs_no_length few arcs small short is =
    rw is (not_long 0 few (item_answer root_rule arcs max_len) (five_enough root_rule arcs max_len small short))
