-- How many octets arcs take, and how many arcs octets encode.
use Rattle.std.proofs.Common.{◌≡◌, ℕ, ◌+◌, ◌*◌, ◌≤◌, List, [], ◌∷◌, ◌++◌, refl, arith, sum_by, nat_lt, length}
use Rattle.std.proofs.Common.{length-append, count_by}
use Rattle.std.specs.List.{AllByRecursion, AllZip, concat}
use Rattle.std.proofs.lemmas.{Bool.Decides.nat_tests, List.Sums.{sum_by-cons, sum_by-append}, Slice.Zip.AllZip-long}
use Rattle.const_oid.specs.{Base128.{width, IsGroup, IsContinued}, Contents.{max_first, cut}}
use Rattle.const_oid.specs.Identifier.{RootRule, Narrow, Wide, IsIdentifier, size, IsEncoding, subidentifiers}
use Rattle.const_oid.proofs.{Groups.{width_is, length_is, small_is}, Encodings.{groups_continued, cut_encoding}}

-- ---- octets of arcs

pub size-cons : (a b : ℕ) (later : List ℕ) → size (a ∷ b ∷ later) ≡ width (40 * a + b) + sum_by width later
size-cons a b later = sum_by-cons width (40 * a + b) later

-- more arcs have no smaller size
pub size_prefix : (a b : ℕ) (later more : List ℕ) → size (a ∷ b ∷ later) ≤ size (a ∷ b ∷ later ++ more)
size_prefix a b later more = grind (arith, size-cons, sum_by-append)

-- the two first arcs take few octets
pub root_short : (rule : RootRule) (n : ℕ) → n ≤ max_first rule → width n ≤ 5
root_short Narrow n h = (width_is n).least 5 (omega arith) (omega arith)
root_short Wide n h = (width_is n).least 5 (omega arith) (omega arith)

pub length-groups : (numbers : List ℕ) (gs : List (List ℕ)) → AllZip IsGroup numbers gs
    → length (concat gs) ≡ sum_by width numbers
length-groups [] [] p = refl
length-groups (n ∷ ns) (g ∷ gs) p = rw (length-append, length_is p.0, length-groups ns gs p.1, sum_by-cons width n ns)
length-groups _ _ p = absurd p

pub length_is_size : {rule : RootRule} {arcs octets : List ℕ} → IsEncoding rule arcs octets → length octets ≡ size arcs
length_is_size {arcs} e = rw e.joined (length-groups (subidentifiers arcs) e.groups e.each)

pub size-narrow : (a b : ℕ) (later : List ℕ) → IsIdentifier Narrow (a ∷ b ∷ later)
    → size (a ∷ b ∷ later) ≡ 1 + sum_by width later
size-narrow a b later i = grind (arith, size-cons, length_is, small_is)

-- one arc more
pub size_push : (rule : RootRule) (arcs octets : List ℕ) (arc : ℕ) → IsEncoding rule arcs octets
    → size (arcs ++ arc ∷ []) ≡ length octets + width arc
size_push rule (a ∷ b ∷ later) octets arc e = grind (arith, length_is_size e, size-cons, sum_by-append)
size_push rule _ octets arc e = absurd e.identifier

-- ---- arcs of octets

-- how many octets are below 128
abbrev last_octets : List ℕ → ℕ
last_octets octets = count_by (λ x. nat_lt x 128) octets

-- a group has one
count_chain : (g : List ℕ) → IsContinued g → last_octets g ≡ 1
count_chain [] c = absurd c
count_chain (x ∷ []) c = grind (arith, nat_tests)
count_chain (x ∷ y ∷ ys) c = grind (arith, nat_tests, count_chain (y ∷ ys) c.2)

count_chains : (gs : List (List ℕ)) → AllByRecursion IsContinued gs → last_octets (concat gs) ≡ length gs
count_chains [] c = refl
count_chains (g ∷ gs) c = grind (arith, sum_by-append, count_chain, count_chains gs c.1)

pub length_by_count : (rule : RootRule) (arcs octets : List ℕ) → IsEncoding rule arcs octets
    → length arcs ≡ 1 + last_octets octets
length_by_count rule (first ∷ second ∷ later) octets encoding =
    let numbers = subidentifiers (first ∷ second ∷ later) in
    let long = AllZip-long IsGroup numbers encoding.groups encoding.each in
    let continued = groups_continued numbers encoding.groups encoding.each in
    rw encoding.joined (omega (arith, count_chains encoding.groups continued))
length_by_count rule _ octets encoding = absurd encoding.identifier

pub length_by_parts : (rule : RootRule) (arcs octets : List ℕ) → IsEncoding rule arcs octets
    → length arcs ≡ 1 + length (cut octets)
length_by_parts rule (first ∷ second ∷ later) octets encoding =
    let arcs = first ∷ second ∷ later in
    let long = AllZip-long IsGroup (subidentifiers arcs) encoding.groups encoding.each in
    rw (cut_encoding rule arcs octets encoding) (omega (arith, long))
length_by_parts rule _ octets encoding = absurd encoding.identifier
