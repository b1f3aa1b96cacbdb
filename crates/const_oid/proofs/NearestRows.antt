-- The row with the longest prefix of arcs, from the arcs up to the root.
use Rattle.std.proofs.Common.{◌≡◌, ◌≢◌, ℕ, ◌+◌, ◌-◌, ◌<◌, ◌≤◌, true, false, List, [], ◌∷◌, All, length, take, get_or, find, refl, sym, ap, ◌∙◌, ⊎_elim, Option, Some, None, arith, append-nil, length-append}
use Rattle.std.proofs.lemmas.{Bool.cases_Bool, Bool.Decides.nat_tests}
use Rattle.std.proofs.lemmas.List.Elements.{All-cons, All-nil}
use Rattle.std.proofs.Math.Seq.{take-append-add}
use Rattle.const_oid.specs.Identifier.{root_rule, IsEncoding, IsIdentifier}
use Rattle.const_oid.specs.Oid.{oid_arcs, oid_octets}
use Rattle.const_oid.specs.Rows.{Row, Rows, named}
use Rattle.const_oid.specs.Tree.{BeginsWith, parent_of}
use Rattle.const_oid.proofs.{Encodings.oid_encoding, Identifiers.oid_within}
use Rattle.const_oid.proofs.Shown.{found_arcs, has_arcs, itself, parent_is}

module _ (arcs : List ℕ) where
  -- arcs that take more octets than a row may have have no name
  pub too_long : (rows : Rows) → ((octets : List ℕ) → IsEncoding root_rule arcs octets → 39 < length octets) → None ≡ named rows arcs
  too_long rows long = by (find (has_arcs arcs) rows) refl
    where
      by : (found : Option Row) → find (has_arcs arcs) rows ≡ found → None ≡ named rows arcs
      by None e = rw e refl
      by (Some row) e =
          absurd (omega (arith, oid_within row.0, long (oid_octets row.0) (rw (found_arcs arcs rows row e) at (oid_encoding row.0))))

  -- without a name for arcs, no row has them
  unnamed_first : (row : Row) (rows : Rows) → None ≡ named (row ∷ rows) arcs → (oid_arcs row.0 ≢ arcs) × (None ≡ named rows arcs)
  unnamed_first row rows none = ⊎_elim
      (λ (same : has_arcs arcs row ≡ true). let e = simp same at none in cc)
      (λ (other : has_arcs arcs row ≡ false).
      (λ is. let e = rw is at other in let same = itself arcs in cc, simp other at none))
      (cases_Bool (has_arcs arcs row))

  pub no_row : (rows : Rows) → None ≡ named rows arcs → All (λ row. oid_arcs row.0 ≢ arcs) rows
  no_row [] none = All-nil (λ row. oid_arcs row.0 ≢ arcs)
  no_row (row ∷ rows) none =
      let (here, later) = unnamed_first row rows none in
      All-cons (λ row. oid_arcs row.0 ≢ arcs) row rows here (no_row rows later)

-- ---- above

above_by : (list prefix : List ℕ) (begun : BeginsWith list prefix) → prefix ≢ list → BeginsWith (take (length list - 1) list) prefix
above_by list prefix ([], joined) other = absurd (other (sym (joined ∙ append-nil prefix)))
above_by list prefix (arc ∷ rest, joined) other =
    let long = length-append prefix (arc ∷ rest) in
    let count : length list - 1 ≡ length prefix + length rest = rw joined (omega (arith, long)) in
    (take (length rest) (arc ∷ rest), rw (count, joined) (take-append-add prefix (arc ∷ rest) (length rest)))

two_or_more : (arcs : List ℕ) → IsIdentifier root_rule arcs → 2 ≤ length arcs
two_or_more [] identifier = absurd identifier
two_or_more (a ∷ []) identifier = absurd identifier
two_or_more (a ∷ b ∷ arcs) identifier = omega arith

whole : (list prefix : List ℕ) → BeginsWith list prefix → length list ≤ length prefix → prefix ≡ list
whole list prefix ([], joined) long = sym (joined ∙ append-nil prefix)
whole list prefix (arc ∷ rest, joined) long = absurd (omega (arith, long, ap length joined, length-append prefix (arc ∷ rest)))

module _ (rows : Rows) (arcs above : List ℕ) where
  -- each row that arcs begin with is one that these begin with
  abbrev pub Comprises : Type 0
  Comprises = All (λ row. BeginsWith arcs (oid_arcs row.0) → BeginsWith above (oid_arcs row.0)) rows

  module _ (longest : Comprises) (none : None ≡ named rows above) where
    pub further_up : (parent : List ℕ) → Some parent ≡ parent_of above
        → All (λ row. BeginsWith arcs (oid_arcs row.0) → BeginsWith parent (oid_arcs row.0)) rows
    further_up parent is k d below begun =
        rw (parent_is above parent is).0 (above_by above _ (longest k d below begun) (no_row above rows none k d below))

    pub none_above : IsIdentifier root_rule above → None ≡ parent_of above → All (λ row. BeginsWith arcs (oid_arcs row.0) → ⊥) rows
    none_above identifier is k d below begun =
        let row = get_or rows k d in
        let some = two_or_more (oid_arcs row.0) (oid_encoding row.0).identifier in
        let few : length above ≤ 2 = grind (arith, nat_tests) in
        absurd (no_row above rows none k d below (whole above (oid_arcs row.0) (longest k d below begun) (omega arith)))
