-- Octets that are written to a slice, one subidentifier after another, or only counted.
use Rattle.std.proofs.Common.{◌≡◌, ℕ, ◌+◌, ◌-◌, ◌<◌, ◌≤◌, List, [], ◌∷◌, ◌++◌, length, take, drop, replicate, refl, sym, ap, ◌∙◌, arith, ⊎_elim}
use Rattle.std.proofs.Common.{◌*◌, append_assoc, length-append, Some, MatchResult, Result, Ok, Err}
use Rattle.std.specs.{List.{AllByRecursion, concat}, Prelude.IfOk}
use Rattle.std.proofs.{Math.Seq.take-append_seam, lemmas.{Bool.cases_lt, Slice.drop-append-drop}}
use Rattle.std.proofs.lemmas.List.{drop-replicate, length-take-le, take-append-drop}
use Rattle.const_oid.specs.Base128.{AreOctets, IsContinued, group_of, width}
use Rattle.const_oid.specs.{declared.error.Error.Error, declared.error.Error.TheVariants.{Length}}
use Rattle.const_oid.specs.{Contents.{arcs_of_octets, size_answer}, Output.{IsEncodedIn, WritesAll, WritesEncoding, written_over}, Items.arc_fault}
use Rattle.const_oid.specs.Identifier.{RootRule, root_rule, max_arc, max_second, subidentifiers, IsEncoding}
use Rattle.const_oid.specs.Private.Octets.{AppendsTo, GoesOn}
use Rattle.const_oid.proofs.{Faults.{none_from_below, some_from_above}, Groups.{group_is, length_is}, TakesItems.{AreTaken, first_taken, taken_more}}
use Rattle.const_oid.proofs.{Encodings.{arcs_of_encoding, encoding_back, groups_continued}, Lengths.length_is_size, Lists.all_append}
use Rattle.const_oid.proofs.{Octets.octets_from_chain, Started.{Encodes, later_encodes, root_encodes}}

-- an output that begins with items, and is as before after them
pub written_by_parts : {items new : List ℕ} (old : List ℕ) (len : ℕ) → len ≤ length new → take len new ≡ items → drop len new ≡ drop len old
    → WritesAll items old new len
written_by_parts {items} {new} old len within front back =
    let long : len ≡ length items = sym (length-take-le len new within) ∙ ap length front in
    (long, sym (take-append-drop len new) ∙ rw (← long, front, back) refl)

-- the octets that a slice begins with go on by a group
written_more : (octets group old new longer : List ℕ) (used end : ℕ) → used ≡ length octets → end ≡ used + length group
    → new ≡ written_over octets old → longer ≡ take used new ++ (group ++ drop end new)
    → longer ≡ written_over (octets ++ group) old
written_more octets group old new longer used end long ends begins written =
    let front : take used new ≡ octets = rw (long, begins) (take-append_seam octets (drop (length octets) old)) in
    let back : drop end new ≡ drop end old = rw begins (drop-append-drop (length octets) old octets end (omega arith) refl) in
    let all : end ≡ length (octets ++ group) = omega (arith, length-append octets group) in
    written ∙ rw (front, back, all) (sym (append_assoc octets group _))

-- octets go on by the subidentifier of a number if it fits a capacity, and stay, with `Length`, if it does not
abbrev pub IsAppended : {X : Type 0} → ℕ → ℕ → List ℕ → List ℕ → Result X Error → Type 0
IsAppended capacity number octets longer result = MatchResult result
    (λ _. (length octets + width number ≤ capacity) × GoesOn number octets longer)
    (λ fault. (fault ≡ Length) × (capacity < length octets + width number) × (longer ≡ octets))

-- what the octets become
pub record IsLonger (capacity number : ℕ) (octets old longer : List ℕ) (result : Result ℕ Error) : Type 0 where
  pub more : List ℕ
  pub appended : IsAppended capacity number octets more result
  pub long : IfOk result (λ end. (end ≡ length more) × (end ≤ capacity))
  pub begins : IfOk result (λ end. capacity ≤ length old → longer ≡ written_over more old)

pub longer_by : {capacity number used : ℕ} {octets old new : List ℕ} (longer : List ℕ) → used ≡ length octets
    → length new ≡ length old → (capacity ≤ length old → new ≡ written_over octets old) → (result : Result ℕ Error)
    → AppendsTo capacity number used new longer result → IsLonger capacity number octets old longer result
longer_by {capacity} {number} {used} {octets} {old} {new} longer long same begins (Ok end) (ends, fits, written) =
    ⊎_elim
    (λ (short : length old < capacity).
    let is = length_is (group_is number) in
    record {
      more = octets ++ group_of number;
      appended = (omega (arith, long, ends, fits), (group_of number, group_is number, refl));
      long = (grind (arith, length-append), fits);
      begins = λ room. absurd (omega arith);
    })
    (λ (room : capacity ≤ length old).
    let (group, is_group, on) = written (omega arith) in
    let is = length_is is_group in
    record {
      more = octets ++ group;
      appended = (omega (arith, long, ends, fits), (group, is_group, refl));
      long = (grind (arith, length-append), fits);
      begins = λ room. written_more octets group old new longer used end long (omega arith) (begins room) on;
    })
    (cases_lt (length old) capacity)
longer_by {octets} longer long same begins (Err fault) (is, over) = record {
  more = octets;
  appended = (is, omega arith, refl);
  long = tt;
  begins = tt;
}

-- ---- what is in the slice at the end

-- its first octets are the encoding, and those after them are as before
pub record IsTaken (read : Result (List ℕ) Error) (old new : List ℕ) (len : ℕ) : Type 0 where
  pub encoding : IsEncoding root_rule (arcs_of_octets (take len new)) (take len new)
  pub octets : AreOctets (take len new)
  pub answer : read ≡ Ok (arcs_of_octets (take len new))
  pub rest : drop len new ≡ drop len old

groups_octets : (groups : List (List ℕ)) → AllByRecursion IsContinued groups → AreOctets (concat groups)
groups_octets [] are = tt
groups_octets (group ∷ groups) are =
    all_append (λ x. x < 256) group (concat groups) (octets_from_chain group are.0) (groups_octets groups are.1)

encoding_octets : {rule : RootRule} {arcs octets : List ℕ} → IsEncoding rule arcs octets → AreOctets octets
encoding_octets {arcs} encoding =
    rw encoding.joined (groups_octets encoding.groups (groups_continued (subidentifiers arcs) encoding.groups encoding.each))

pub taken : {capacity len : ℕ} {read : Result (List ℕ) Error} {old new : List ℕ}
    → IsEncodedIn capacity read old new len → capacity ≤ length old → IsTaken read old new len
taken {len} {old} {new} is room =
    let begins = is.begins room in
    let front : take len new ≡ is.octets = rw (is.long, begins) (take-append_seam is.octets (drop (length is.octets) old)) in
    record {
      encoding = rw front is.encoding;
      octets = rw front (encoding_octets is.encoding);
      answer = rw front is.answer;
      rest = rw begins (drop-append-drop (length is.octets) old is.octets len (omega (arith, is.long)) refl);
    }

-- octets in use, and zeros after them
pub used_first : {used : ℕ} {octets : List ℕ} (size : ℕ) (bytes : List ℕ) → take used bytes ≡ octets → used ≤ length bytes
    → drop used bytes ≡ replicate (size - used) 0 → bytes ≡ written_over octets (replicate size 0)
used_first {used} {octets} size bytes front within zeros =
    let long : used ≡ length octets = sym (length-take-le used bytes within) ∙ ap length front in
    sym (take-append-drop used bytes) ∙ rw (front, zeros, ← long, drop-replicate) refl

pub ruleset buffered = (taken, drop-replicate)

-- the octets of a slice that has the capacity, copied to the start of another one
pub copied : {capacity room len : ℕ} {read answer : Result (List ℕ) Error} {old new out part : List ℕ}
    → IsEncodedIn capacity read old new len → capacity ≤ length old → capacity ≤ room → read ≡ answer
    → part ≡ take len new → IsEncodedIn room answer out (part ++ drop len out) len
copied {len} {old} {new} {out} is within less same copy =
    let front : take len new ≡ is.octets = rw (is.long, is.begins within) (take-append_seam is.octets (drop (length is.octets) old)) in
    record {
      octets = is.octets;
      encoding = is.encoding;
      answer = sym same ∙ is.answer;
      long = is.long;
      within = omega (arith, is.within);
      begins = λ room. rw (copy, front, is.long) refl;
    }

pub counted : (capacity : ℕ) (read : Result (List ℕ) Error) (old new : List ℕ) (result : Result ℕ Error)
    → WritesEncoding capacity read old new result
    → result ≡ size_answer read
counted capacity read old new (Ok len) is = rw is.answer (ap Ok (is.long ∙ length_is_size is.encoding))
counted capacity read old new (Err fault) is = rw is refl

-- ---- arcs so far

-- the first octets are the encoding of the arcs given, of which none has a fault
pub record IsGivenTo (capacity : ℕ) (old new : List ℕ) (used : ℕ) (given : List ℕ) : Type 0 where
  pub octets : List ℕ
  pub encoding : IsEncoding root_rule given octets
  pub taken : AreTaken root_rule capacity given
  pub long : used ≡ length octets
  pub fits : used ≤ capacity
  pub begins : capacity ≤ length old → new ≡ written_over octets old

-- what becomes of it by an arc, whose group is appended or does not fit
abbrev pub GivenBy : ℕ → List ℕ → List ℕ → List ℕ → ℕ → Result ℕ Error → Type 0
GivenBy capacity old new given arc result = MatchResult result
    (λ used. IsGivenTo capacity old new used (given ++ arc ∷ [])) (λ fault. Some fault ≡ arc_fault root_rule capacity given arc)

module _ (capacity : ℕ) (old : List ℕ) where
  given_by : {arc number : ℕ} {octets given new : List ℕ} → Encodes root_rule octets given arc number
      → AreTaken root_rule capacity given → (result : Result ℕ Error) → IsLonger capacity number octets old new result
      → GivenBy capacity old new given arc result
  given_by {arc} {number} {octets} {given} encodes taken (Ok used) longer =
      let none = encodes.fault capacity ∙ none_from_below capacity (length octets + width number) Length longer.appended.0 in
      record {
        octets = longer.more;
        encoding = encodes.step longer.more longer.appended.1;
        taken = taken_more root_rule capacity given arc taken none;
        long = longer.long.0;
        fits = longer.long.1;
        begins = longer.begins;
      }
  given_by {number} {octets} encodes taken (Err error) longer =
      let some = encodes.fault capacity ∙ some_from_above capacity (length octets + width number) Length longer.appended.1 in
      rw (some, longer.appended.0) refl

  pub root_given : {first second number : ℕ} (longer : List ℕ) → first ≤ 2 → second ≤ max_second root_rule first
      → number ≡ 40 * first + second → (result : Result ℕ Error) → AppendsTo capacity number 0 old longer result
      → GivenBy capacity old longer (first ∷ []) second result
  root_given {first} {second} {number} longer low high is result appends =
      let encodes = rw (← is) at (root_encodes root_rule first second low high) in
      let more = longer_by {number = number} {octets = []} {old = old} longer refl refl (λ room. refl) result appends in
      given_by encodes (first_taken capacity low) result more

  pub later_given : {new given : List ℕ} {used arc : ℕ} (longer : List ℕ) → IsGivenTo capacity old new used given
      → length new ≡ length old → arc ≤ max_arc → (result : Result ℕ Error)
      → AppendsTo capacity arc used new longer result → GivenBy capacity old longer given arc result
  later_given {given} {arc} longer is same small result appends =
      let encodes = later_encodes root_rule is.octets given arc is.encoding small in
      let more = longer_by {number = arc} longer is.long same is.begins result appends in
      given_by encodes is.taken result more

  pub all_given : {new given : List ℕ} {used : ℕ} → IsGivenTo capacity old new used given
      → IsEncodedIn capacity (Ok given) old new used
  all_given {given} is = record {
    octets = is.octets;
    encoding = encoding_back is.encoding;
    answer = rw (arcs_of_encoding is.encoding) refl;
    long = is.long;
    within = is.fits;
    begins = is.begins;
  }
