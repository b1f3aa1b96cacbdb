-- Where slices lie in memory.
use Rattle.std.specs.Prelude.{ℕ, ◌+◌, List, length}
use Rattle.std.specs.Borrow.{Bor}

-- the address of the octet at an index of a slice: its allocation, and the offset there
abbrev pub address_at : Bor (List ℕ) → ℕ → ℕ × ℕ
address_at slice index = (slice.ref_ptr.0, slice.ref_ptr.1 + index)

-- the address after the last octet of a slice
abbrev pub end_address : Bor (List ℕ) → ℕ × ℕ
end_address slice = address_at slice (length slice.now)
