-- A text without blanks around it, and then without a prefix.
use Rattle.std.proofs.Common.{◌≡◌, ◌∙◌, ap, sym, ℕ, ◌+◌, ◌-◌, ◌≤◌, List, length, take, drop, arith}
use Rattle.std.specs.Char.{is_ascii_whitespace}
use Rattle.std.specs.List.{prefix_len, suffix_len}
use Rattle.std.proofs.lemmas.List.{drop-take, drop-drop, length-drop, length-take, take_min}
use Rattle.std.proofs.lemmas.List.Sums.{prefix_len-le-length}
use Rattle.const_oid.specs.Typed.{bare, prefix_of}

-- a part of a text, by where it begins and ends, is a part of a part
cut : (text : List ℕ) (m k p : ℕ) → p ≤ k → take (m + k - (m + p)) (drop (m + p) text) ≡ drop p (take k (drop m text))
cut text m k p less =
    let e : m + k - (m + p) ≡ k - p = omega arith in
    let f : p + (k - p) ≡ k = omega arith in
    rw e (sym (ap (λ n. drop p (take n (drop m text))) (sym f) ∙ drop-take p (k - p) (drop m text) ∙ ap (take (k - p)) (drop-drop p m text)))

pub at_range : (text begun ended : List ℕ) (p : ℕ) → begun ≡ drop (prefix_len is_ascii_whitespace text) text
    → ended ≡ take (length begun - suffix_len is_ascii_whitespace begun) begun → p ≡ prefix_of ended → p ≤ length ended
    → let m = length text - length begun in take (m + length ended - (m + p)) (drop (m + p) text) ≡ bare text
at_range text begun ended p is_begun is_ended is_prefix within =
    let m = prefix_len is_ascii_whitespace text in
    let len = ap length is_begun ∙ length-drop m text in
    let start : length text - length begun ≡ m = omega (arith, len, prefix_len-le-length is_ascii_whitespace text) in
    let n = length begun - suffix_len is_ascii_whitespace begun in
    let whole = ap (λ k. take k begun) (ap length is_ended ∙ length-take n begun) ∙ take_min n begun ∙ sym is_ended in
    let trimmed = is_ended ∙ ap (λ b. take (length b - suffix_len is_ascii_whitespace b) b) is_begun in
    rw start (cut text m (length ended) p within ∙ ap (λ b. drop p (take (length ended) b)) (sym is_begun) ∙ ap (drop p) whole
    ∙ ap (λ k. drop k ended) is_prefix ∙ ap (λ t. drop (prefix_of t) t) trimmed)
