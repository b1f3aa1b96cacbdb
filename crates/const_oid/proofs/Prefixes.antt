-- What octets begin with: whole subidentifiers.
use Rattle.std.proofs.Common.{◌≡◌, ◌≢◌, ℕ, zero, suc, ◌+◌, ◌-◌, ◌<◌, ◌≤◌, List, [], ◌∷◌, ◌++◌, length, min, take, drop}
use Rattle.std.proofs.Common.{slice_index, None, refl, sym, ap, ◌∙◌, arith, ⊎_elim, append_assoc, append-nil, length-append}
use Rattle.std.specs.List.{AllByRecursion, concat}
use Rattle.std.proofs.Math.{Seq.{take-append_seam, take-length}, Nat.eq-zero-or-pos}
use Rattle.std.proofs.lemmas.Bool.{cases_lt}
use Rattle.std.proofs.lemmas.List.{length-take-le, take-append-drop, take-append-le, get_or-take, get_or_append_left, get_or-append_right}
use Rattle.const_oid.specs.{Base128.IsContinued, Contents.{cut, parts_fault}, Tree.BeginsWith}
use Rattle.const_oid.specs.{Identifier.{root_rule, IsEncoding}, Private.Prefixes.{IsFinishedPrefix, IsCommonPrefix}}
use Rattle.const_oid.proofs.{Cutting.{cut-append, cut-some}, Encodings.groups_continued, Parents.fault_before}

-- ---- up to the last octet below 128

pub finished_at : (octets prefix : List ℕ) (index : ℕ) → prefix ≡ take (index + 1) octets
    → index < length octets → slice_index octets index < 128
    → ((k : ℕ) → index < k → k < length octets → 128 ≤ slice_index octets k) → IsFinishedPrefix octets prefix
finished_at octets prefix index is inside final high =
    let long = ap length is ∙ length-take-le (index + 1) octets (omega arith) in
    record {
      begins = (drop (index + 1) octets, rw is (sym (take-append-drop (index + 1) octets)));
      ends = λ k next. let same : k ≡ index = omega (arith, long, next) in rw same final;
      last = λ k from within. high k (omega (arith, long)) within;
    }

pub finished_none : (octets : List ℕ) → ((k : ℕ) → k < length octets → 128 ≤ slice_index octets k)
    → IsFinishedPrefix octets []
finished_none octets high = record { begins = (octets, refl); ends = λ k is. absurd (omega (arith, is)); last = λ k from. high k }

-- ---- what octets have in common

continued_ends : (group : List ℕ) → IsContinued group → (k : ℕ) → length group ≡ suc k → slice_index group k < 128
continued_ends [] c k is = absurd c
continued_ends (x ∷ []) c zero is = c
continued_ends (x ∷ []) c (suc k) is = absurd (omega (arith, is))
continued_ends (x ∷ y ∷ ys) c zero is = absurd (omega (arith, is))
continued_ends (x ∷ y ∷ ys) c (suc k) is = continued_ends (y ∷ ys) c.2 k (omega (arith, is))

groups_end : (groups : List (List ℕ)) → AllByRecursion IsContinued groups → (k : ℕ) → length (concat groups) ≡ suc k
    → slice_index (concat groups) k < 128
groups_end [] c k is = absurd (omega (arith, is))
groups_end (group ∷ groups) c k is = ⊎_elim
    (λ (none : length (concat groups) ≡ 0).
    let long = length-append group (concat groups) in
    rw (get_or_append_left group (concat groups) 0 k (omega (arith, is, none, long)))
    (continued_ends group c.0 k (omega (arith, is, none, long))))
    (λ (some : 0 < length (concat groups)).
    let long = length-append group (concat groups) in
    rw (get_or-append_right group (concat groups) (length group) k 0 refl (omega (arith, is, some, long)))
    (groups_end groups c.1 (k - length group) (omega (arith, is, some, long))))
    (eq-zero-or-pos (length (concat groups)))

-- an encoding ends with an octet below 128
pub encoding_ends : {arcs octets : List ℕ} → IsEncoding root_rule arcs octets → (k : ℕ) → length octets ≡ suc k
    → slice_index octets k < 128
encoding_ends {octets} e k is =
    rw e.joined (groups_end e.groups (groups_continued _ e.groups e.each) k (ap length (sym e.joined) ∙ is))

-- what both begin with is no longer than what is the same
within_same : (octets others encoding : List ℕ) (count : ℕ)
    → (count < min (length octets) (length others) → slice_index octets count ≢ slice_index others count)
    → BeginsWith octets encoding → BeginsWith others encoding → length encoding ≤ count
within_same octets others encoding count unequal (rest, split) (rest', split') = ⊎_elim
    (λ (past : count < length encoding).
    let long = ap length split ∙ length-append encoding rest in
    let long' = ap length split' ∙ length-append encoding rest' in
    let same : slice_index octets count ≡ slice_index others count =
    ap (λ xs. slice_index xs count) split ∙ get_or_append_left encoding rest 0 count past
    ∙ sym (get_or_append_left encoding rest' 0 count past) ∙ ap (λ xs. slice_index xs count) (sym split') in
    absurd (unequal (omega (arith, long, long', past)) same))
    (λ (within : length encoding ≤ count). within)
    (cases_lt count (length encoding))

valid_prefix : (prefix rest : List ℕ) → ((k : ℕ) → length prefix ≡ suc k → slice_index prefix k < 128)
    → prefix ≢ [] → parts_fault root_rule (cut (prefix ++ rest)) ≡ None → parts_fault root_rule (cut prefix) ≡ None
valid_prefix prefix rest ends some none =
    let parts = cut-append prefix rest ends in
    let same : take (length (cut prefix)) (cut (prefix ++ rest)) ≡ cut prefix = rw parts (take-append_seam (cut prefix) (cut rest)) in
    rw same at (fault_before root_rule (length (cut prefix)) (cut (prefix ++ rest)) (rw same (cut-some prefix some)) none)

-- of two that octets begin with, the longer one begins with the other
pub longer_begins : (prefix rest encoding more : List ℕ) → prefix ++ rest ≡ encoding ++ more → length encoding ≤ length prefix
    → BeginsWith prefix encoding
longer_begins prefix rest encoding more joined within =
    let same : take (length encoding) prefix ≡ encoding =
    sym (take-append-le (length encoding) prefix rest within) ∙ ap (take (length encoding)) joined ∙ take-append_seam encoding more in
    (drop (length encoding) prefix, sym (take-append-drop (length encoding) prefix) ∙ ap (λ xs. xs ++ drop (length encoding) prefix) same)

-- what begins the first elements begins them all
begins_all : (prefix list : List ℕ) (count : ℕ) → BeginsWith (take count list) prefix → BeginsWith list prefix
begins_all prefix list count (rest, split) = (
  rest ++ drop count list,
  sym (take-append-drop count list) ∙ ap (λ xs. xs ++ drop count list) split ∙ append_assoc prefix rest (drop count list),
)

module _ (octets others prefix : List ℕ) (count : ℕ) (inside : count ≤ length octets)
    (same : take count octets ≡ take count others)
    (unequal : count < min (length octets) (length others) → slice_index octets count ≢ slice_index others count)
    (finished : IsFinishedPrefix (take count octets) prefix) where
  long : length (take count octets) ≡ count
  long = length-take-le count octets inside

  -- an encoding that both begin with is no longer than the finished prefix
  no_longer : {arcs encoding : List ℕ} → IsEncoding root_rule arcs encoding → BeginsWith octets encoding
      → BeginsWith others encoding → length encoding ≤ length prefix
  no_longer {encoding} e (more, split) begun = ⊎_elim
      (λ (past : length prefix < length encoding).
      let k = length encoding - 1 in
      let within = within_same octets others encoding count unequal (more, split) begun in
      let high = finished.last k (omega (arith, past)) (omega (arith, past, long, within)) in
      let low = encoding_ends e k (omega (arith, past)) in
      let same : slice_index (take count octets) k ≡ slice_index encoding k =
      get_or-take count octets k 0 (omega (arith, past, within))
      ∙ ap (λ xs. slice_index xs k) split ∙ get_or_append_left encoding more 0 k (omega (arith, past)) in
      absurd (omega (arith, high, low, same)))
      (λ (within : length encoding ≤ length prefix). within)
      (cases_lt (length prefix) (length encoding))

  -- the finished prefix of what is the same is what they have in common
  pub common_is : parts_fault root_rule (cut octets) ≡ None → IsCommonPrefix octets others prefix
  common_is none =
      let (rest, begins) = finished.begins in
      let (more, joined) = begins_all prefix octets count (rest, begins) in
      let ends : (k : ℕ) → length prefix ≡ suc k → slice_index prefix k < 128 = λ k is.
      rw (sym (get_or_append_left prefix rest 0 k (omega (arith, is))) ∙ ap (λ xs. slice_index xs k) (sym begins)) (finished.ends k is) in
      record {
        begins = (more, joined);
        begins_others = begins_all prefix others count (rest, sym same ∙ begins);
        valid = λ some. valid_prefix prefix more ends some (rw joined at none);
        longest = λ encoding e (after, split) begun.
            longer_begins prefix more encoding after (sym joined ∙ split) (no_longer e (after, split) begun);
      }

-- or all octets
pub common_all : (octets others : List ℕ) → parts_fault root_rule (cut octets) ≡ None
    → take (length octets) octets ≡ take (length octets) others → IsCommonPrefix octets others octets
common_all octets others none same = record {
  begins = ([], sym (append-nil octets));
  begins_others = begins_all octets others (length octets)
      ([], sym same ∙ take-length octets ∙ sym (append-nil octets));
  valid = λ some. none;
  longest = λ encoding e begun begun'. begun;
}
