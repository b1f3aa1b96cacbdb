-- Octets below a limit, counted by the bits of lanes.
use Rattle.std.proofs.Common.{◌≡◌, ◌∙◌, ◌^◌, ◌%◌, ◌≤◌, ℕ, List, length, take, replicate, map, cond, nat_lt, count_by, arith, ap, w8}
use Rattle.std.specs.Int.RustNames.{count_ones}
use Rattle.std.specs.Simd.Lanes.{mask_l, top, zip2}
use Rattle.std.proofs.lemmas.List.{take_all}
use Rattle.std.proofs.lemmas.Simd.{bitmask_splat, ones-mask_l}

-- how many bits are set where the first n octets, as lanes, are below a limit
abbrev lane_ones : ℕ → ℕ → List ℕ → ℕ
lane_ones n limit octets = count_ones (mask_l (map (top 7) (zip2 (λ a b. cond (nat_lt a b) 255 0) (take n octets) (replicate n limit))) % 2 ^ 64)

-- they count all octets, if these are n
pub ones_counted : (n limit : ℕ) (octets : List ℕ) → length octets ≡ n → n ≤ 64
    → lane_ones n limit octets ≡ count_by (λ x. nat_lt x limit) octets
ones_counted n limit octets len small =
    let whole : take n octets ≡ octets = take_all n octets (omega (arith, len)) in
    ap count_ones (bitmask_splat w8 nat_lt (take n octets) n limit (rw whole len) small)
    ∙ ones-mask_l (λ x. nat_lt x limit) (take n octets)
    ∙ ap (count_by (λ x. nat_lt x limit)) whole
