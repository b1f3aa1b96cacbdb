-- Links between the entries of a table, by a hash.
use Rattle.std.specs.Prelude.{◌≡◌, ℕ, ◌+◌, ◌-◌, ◌*◌, ◌/◌, ◌%◌, ◌^◌, ◌<◌, ◌≤◌, Bool, true, List, [], ◌∷◌}
use Rattle.std.specs.Prelude.{drop, length, nat_eq, slice_index}
use Rattle.std.specs.Borrow.{Bor}
use Rattle.std.specs.List.{position_or_len, HoldsAt}
use Rattle.std.specs.Int.{w64, rotate_left}
use Rattle.std.specs.Int.RustNames.{bit_xor}
use Rattle.const_oid.specs.declared.{links.Key.{Key, TheVariants.{Oid, Name}}, oid.ObjectIdentifier.ObjectIdentifier}
use Rattle.const_oid.specs.Oid.{oid_octets}
use Rattle.const_oid.specs.Private.Octets.{last_of, number_of, with_bits}

-- a hash and a word more
abbrev pub hash_step : ℕ → ℕ → ℕ
hash_step hash word = (bit_xor (rotate_left w64 hash 23) word * 11400714819323198485) % 2 ^ 64

-- a hash and words of eight bytes more, while more bytes follow
unfoldable pub hash_words : ℕ → List ℕ → ℕ
hash_words hash (a ∷ b ∷ c ∷ d ∷ e ∷ f ∷ g ∷ h ∷ i ∷ bytes) =
    hash_words (hash_step hash (number_of (a ∷ b ∷ c ∷ d ∷ e ∷ f ∷ g ∷ h ∷ []))) (i ∷ bytes)
hash_words hash _ = hash

-- a hash of bytes
unfoldable pub hash_of : List ℕ → ℕ
hash_of bytes = hash_step (hash_words (length bytes) bytes) (number_of (last_of bytes))

-- the slot of bytes, of so many
abbrev pub slot_of : ℕ → List ℕ → ℕ
slot_of slots bytes = slots * hash_of bytes / 2 ^ 64

-- the bytes of an entry's key: the octets of its identifier, or its name with the bit of ASCII case in each byte
abbrev pub key_of : Key → Bor (ObjectIdentifier 39) × Bor (List ℕ) → List ℕ
key_of Oid entry = oid_octets entry.0.now
key_of Name entry = with_bits 32 entry.1.now

-- the index of the first entry that passes a test, from an index on, or the number of entries if there is none
abbrev pub first_by : {Entry : Type 0} → (Entry → Bool) → List Entry → ℕ → ℕ
first_by test entries from = from + position_or_len test (drop from entries)

-- an entry is of a slot, by its key
abbrev pub in_slot : {Entry : Type 0} → (Entry → List ℕ) → ℕ → ℕ → Entry → Bool
in_slot key slots slot entry = nat_eq (slot_of slots (key entry)) slot

-- links of the entries from an index on: from each to the next one of its slot, and from each slot to its first one
pub record AreLinksFrom {Entry : Type 0} (key : Entry → List ℕ) (slots : ℕ) (entries : List Entry) (index : ℕ) (links : List ℕ) : Type 0 where
  pub next : (k slot : ℕ) → index ≤ k → k < length entries → HoldsAt (λ entry. in_slot key slots slot entry ≡ true) entries k
      → slice_index links k ≡ first_by (in_slot key slots slot) entries (k + 1)
  pub first : (slot : ℕ) → slot < slots → slice_index links (length entries + slot) ≡ first_by (in_slot key slots slot) entries index

-- if there are more links than entries, they are those of all entries, by their keys
abbrev pub AreLinks : {Entry : Type 0} → (Entry → List ℕ) → List Entry → List ℕ → Type 0
AreLinks key entries links = length entries < length links → AreLinksFrom key (length links - length entries) entries 0 links

-- an entry at an index is of the slot of some bytes
abbrev pub IsInSlot : {Entry : Type 0} → (Entry → List ℕ) → List Entry → List ℕ → List ℕ → ℕ → Type 0
IsInSlot key entries links bytes index =
    let slots = length links - length entries in
    length entries < length links → index < length entries
    → HoldsAt (λ entry. in_slot key slots (slot_of slots bytes) entry ≡ true) entries index
