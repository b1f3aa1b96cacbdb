-- Names that are shown: only the arcs of some entry have one, and it leads back to them.
use Rattle.std.proofs.Common.{◌≡◌, ℕ, zero, suc, ◌-◌, ◌<◌, List, [], ◌∷◌, ◌++◌, append_assoc, le-ltb, length, take, drop, Bool, true, false, nat_eq, arith, ap, sym, refl, ◌∙◌, ⊎_elim, Some, None}
use Rattle.std.specs.Prelude.{find, if◌then◌else◌, Option}
use Rattle.std.specs.Option.{option_map_or}
use Rattle.std.specs.Cmp.Lexicographic.{pointwise, same_text}
use Rattle.std.proofs.lemmas.{Bool.cases_Bool, Bool.Decides.nat_tests, Grind.common_steps}
use Rattle.const_oid.specs.Identifier.{IsEncoding, IsIdentifier, root_rule}
use Rattle.const_oid.specs.Oid.{oid_arcs, oid_octets}
use Rattle.const_oid.specs.Rows.{Row, Rows, led, named}
use Rattle.const_oid.specs.{Text.text_of, Tree.{BeginsWith, parent_of}, Typed.{displayed_up_to, dotted, shown}}
use Rattle.std.proofs.Math.Seq.{take-append_seam}
use Rattle.std.proofs.lemmas.List.{length-take-le, take-append-drop}
use Rattle.const_oid.proofs.{Encodings.{oid_encoding}, Identifiers.oid_within}

pub itself : (arcs : List ℕ) → pointwise nat_eq arcs arcs ≡ true
itself [] = refl
itself (arc ∷ arcs) = grind (arith, nat_tests, itself arcs)

apart : (a b : List ℕ) → (a ≡ b → ⊥) → pointwise nat_eq a b ≡ false
apart a b other = ⊎_elim
    (λ (same : pointwise nat_eq a b ≡ true). absurd (other (same_text a b (sym same))))
    (λ (unequal : pointwise nat_eq a b ≡ false). unequal)
    (cases_Bool (pointwise nat_eq a b))

step : (entries : Rows) (arcs : List ℕ) (n : ℕ) → 2 < n → displayed_up_to entries arcs n
    ≡ option_map_or (λ name. name ++ dotted (drop n arcs)) (shown entries (take n arcs)) (displayed_up_to entries arcs (n - 1))
step entries arcs zero more = absurd (omega arith)
step entries arcs (suc n) more = let e : suc n - 1 ≡ n = omega arith in rw (e, le-ltb n 2 (omega arith)) refl

module _ (arcs : List ℕ) where
  abbrev pub has_arcs : Row → Bool
  has_arcs row = pointwise nat_eq (oid_arcs row.0) arcs

  -- an entry that is found has the arcs
  pub found_arcs : (entries : Rows) (entry : Row) → find (has_arcs) entries ≡ Some entry → oid_arcs entry.0 ≡ arcs
  found_arcs [] entry e = cc
  found_arcs (first ∷ others) entry e = grind (arith, nat_tests, common_steps, same_text (oid_arcs first.0) arcs, found_arcs others entry)

  -- arcs that no entry can have have no name
  pub unnamed : (entries : Rows) → ((octets : List ℕ) → IsEncoding root_rule arcs octets → 39 < length octets) → None ≡ shown entries arcs
  unnamed entries long = by (find (has_arcs) entries) refl
    where
      by : (found : Option Row) → find (has_arcs) entries ≡ found → None ≡ shown entries arcs
      by None e = rw e refl
      by (Some entry) e =
          let oid = entry.0 in
          absurd (omega (arith, oid_within oid, long (oid_octets oid) (rw (found_arcs entries entry e) at (oid_encoding oid))))

  module _ (entries : Rows) (name other : List ℕ) (first : named entries arcs ≡ Some name) (leads : led entries name ≡ Some other) where
    shown_is : shown entries arcs ≡ (if pointwise nat_eq other arcs then Some name else None)
    shown_is = rw (first, leads) refl

    pub shown_name : other ≡ arcs → Some name ≡ shown entries arcs
    shown_name same = sym (shown_is ∙ ap (λ b. if b then Some name else None) (ap (λ other. pointwise nat_eq other arcs) same ∙ itself arcs))

    pub shown_none : (other ≡ arcs → ⊥) → None ≡ shown entries arcs
    shown_none unequal = sym (shown_is ∙ ap (λ b. if b then Some name else None) (apart other arcs unequal))

-- ---- the longest prefix with a name

module _ (entries : Rows) (arcs prefix : List ℕ) (begins : BeginsWith arcs prefix) where
  front : take (length prefix) arcs ≡ prefix
  front = rw begins.1 (take-append_seam prefix begins.0)

  pub displayed_name : (name : List ℕ) → 2 < length prefix → Some name ≡ shown entries prefix
      → displayed_up_to entries arcs (length prefix) ≡ name ++ dotted (drop (length prefix) arcs)
  displayed_name name more is =
      step entries arcs (length prefix) more ∙ ap (λ found. option_map_or (λ name. name ++ dotted (drop (length prefix) arcs)) found (displayed_up_to entries arcs (length prefix - 1)))
      (ap (shown entries) front ∙ sym is)

  pub displayed_less : 2 < length prefix → None ≡ shown entries prefix
      → displayed_up_to entries arcs (length prefix) ≡ displayed_up_to entries arcs (length prefix - 1)
  displayed_less more is =
      step entries arcs (length prefix) more ∙ ap (λ found. option_map_or (λ name. name ++ dotted (drop (length prefix) arcs)) found (displayed_up_to entries arcs (length prefix - 1)))
      (ap (shown entries) front ∙ sym is)

-- two arcs have no name
pub displayed_none : (entries : Rows) (arcs prefix octets : List ℕ) → IsEncoding root_rule prefix octets
    → None ≡ parent_of prefix → displayed_up_to entries arcs (length prefix) ≡ text_of arcs
displayed_none entries arcs (a ∷ b ∷ []) octets e none = refl
displayed_none entries arcs (a ∷ b ∷ c ∷ later) octets e none = grind (arith, nat_tests)
displayed_none entries arcs _ octets e none = absurd e.identifier

pub parent_is : (prefix parent : List ℕ) → Some parent ≡ parent_of prefix → (parent ≡ take (length prefix - 1) prefix) × (2 < length prefix)
parent_is prefix parent is = (grind (arith, nat_tests), grind (arith, nat_tests))

-- a parent is a prefix with an arc less, of three arcs or more
pub parent_begins : (arcs prefix parent : List ℕ) → BeginsWith arcs prefix → Some parent ≡ parent_of prefix
    → BeginsWith arcs parent × (length parent ≡ length prefix - 1) × (2 < length prefix)
parent_begins arcs prefix parent begins is =
    let (same, more) = parent_is prefix parent is in
    let less = length prefix - 1 in (
      rw same (
        drop less prefix ++ begins.0,
        begins.1 ∙ ap (λ xs. xs ++ begins.0) (sym (take-append-drop less prefix)) ∙ append_assoc (take less prefix) (drop less prefix) begins.0,
      ),
      ap length same ∙ length-take-le less prefix (omega arith),
      more,
    )

pub begins_below : (list prefix start : List ℕ) → BeginsWith list prefix → BeginsWith prefix start → BeginsWith list start
begins_below list prefix start (rest, joined) (more, split) =
    (more ++ rest, joined ∙ ap (λ xs. xs ++ rest) split ∙ append_assoc start more rest)
