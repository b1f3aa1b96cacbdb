-- What the wide rule keeps: octets that were accepted, and the results of lists and texts but for the second arc. What it
-- takes besides: identifiers under 2 whose second arc is past 39, and nothing else.
use Rattle.std.proofs.Common.{◌≡◌, ℕ, List, [], ◌∷◌, ◌++◌, map, None, refl, arith, ◌≢◌, ◌≤◌, length}
use Rattle.std.proofs.lemmas.Bool.Decides.{nat_tests}
use Rattle.const_oid.specs.Identifier.{Narrow, Wide, IsIdentifier, IsEncoding}
use Rattle.const_oid.specs.Contents.{octet_fault, arcs_of_octets}
use Rattle.const_oid.specs.Items.{items_fault, item_fault}
use Rattle.const_oid.specs.Text.{number_of, components_fault}
use Rattle.const_oid.specs.WideRule.{RefusesSecond, IsPastNarrow}
use Rattle.std.specs.Prelude.{◌↔◌}
use Rattle.const_oid.specs.Base128.{AreOctets}
use Rattle.const_oid.proofs.Encodings.{encoding_from_none, fits_from_none, octet_fault-fits, same_arcs}
use Rattle.const_oid.proofs.Items.{item_fault-none, identifier_from_none}
use Rattle.const_oid.proofs.Texts.{denoted_from_none, text_fault-none}

-- ---- octets

pub octets_kept : (octets : List ℕ) (capacity : ℕ) → octet_fault Narrow octets capacity ≡ None
    → octet_fault Wide octets capacity ≡ None
octets_kept [] capacity none = none
octets_kept (x ∷ xs) capacity none = grind (arith, nat_tests)

-- ---- lists

items_later_same : (capacity a b : ℕ) (before items : List ℕ)
    → items_fault Narrow capacity (a ∷ b ∷ before) items ≡ items_fault Wide capacity (a ∷ b ∷ before) items
items_later_same capacity a b before [] = refl
items_later_same capacity a b before (x ∷ xs) = rw (items_later_same capacity a b (before ++ x ∷ []) xs)

-- the two rules differ in the second arc alone, under 2
pub items_same : (items : List ℕ) (capacity : ℕ) → (RefusesSecond items (item_fault Narrow items capacity) → ⊥)
    → item_fault Narrow items capacity ≡ item_fault Wide items capacity
items_same items capacity h = grind (arith, nat_tests, items_later_same)

-- ---- texts

components_later_same : (capacity a b : ℕ) (before : List ℕ) (components : List (List ℕ))
    → components_fault Narrow capacity (a ∷ b ∷ before) components ≡ components_fault Wide capacity (a ∷ b ∷ before) components
components_later_same capacity a b before [] = refl
components_later_same capacity a b before (component ∷ components) =
    rw (components_later_same capacity a b (before ++ number_of component ∷ []) components)

pub components_same : (capacity : ℕ) (components : List (List ℕ))
    → (RefusesSecond (map number_of components) (components_fault Narrow capacity [] components) → ⊥)
    → components_fault Narrow capacity [] components ≡ components_fault Wide capacity [] components
components_same capacity [] not_refused = refl
components_same capacity (first ∷ []) not_refused = refl
components_same capacity (first ∷ second ∷ more) not_refused = grind (arith, nat_tests, components_later_same)

-- for the law of what is kept
pub ruleset wide_keeps = (nat_tests, items_same, components_same)

-- ---- identifiers

pub encoding_wide : {arcs octets : List ℕ} → IsEncoding Narrow arcs octets → IsEncoding Wide arcs octets
encoding_wide {arcs} e = grind (arith, nat_tests)

-- the encoding of an identifier is that under either rule
encoding_narrow : {arcs octets : List ℕ} → IsEncoding Wide arcs octets → IsIdentifier Narrow arcs
    → IsEncoding Narrow arcs octets
encoding_narrow e i = record { identifier = i; groups = e.groups; each = e.each; joined = e.joined }

-- ---- what is accepted now and was rejected

pub octets_new : (octets : List ℕ) (capacity : ℕ) → AreOctets octets
    → (octet_fault Wide octets capacity ≡ None) × (octet_fault Narrow octets capacity ≢ None)
    ↔ ((arcs : List ℕ) × IsEncoding Wide arcs octets × IsPastNarrow arcs × (length octets ≤ capacity))
octets_new octets capacity bytes = (
  λ accepted.
      let (none, fits) = fits_from_none Wide octets capacity accepted.0 in
      let encoding = encoding_from_none Wide octets bytes none in
      (arcs_of_octets octets, encoding, grind (arith, nat_tests, encoding_narrow encoding, octet_fault-fits), fits),
  λ encoded.
      let (arcs, encoding, past, fits) = encoded in (
        octet_fault-fits capacity encoding fits,
        λ none.
            let narrow = encoding_from_none Narrow octets bytes (fits_from_none Narrow octets capacity none).0 in
            let same = same_arcs (encoding_wide narrow) encoding in
            grind (arith, nat_tests, same, narrow.identifier, past),
      ),
)

-- for the law's texts and lists: what is accepted under one rule
pub ruleset wide_adds = (nat_tests, denoted_from_none, text_fault-none, item_fault-none, identifier_from_none)
