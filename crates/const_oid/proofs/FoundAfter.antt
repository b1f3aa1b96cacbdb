-- What is found of the text of an identifier and of what follows it.
use Rattle.std.proofs.Common.{◌≡◌, ◌≢◌, ℕ, ◌+◌, ◌-◌, ◌*◌, ◌<◌, ◌≤◌, false, true, List, [], ◌∷◌, ◌++◌, length, take, decimal, refl, ap, sym, ◌∙◌, arith}
use Rattle.std.proofs.Common.{lt-ltb, le-ltb, nat_lt, if◌then◌else◌, Err, append-nil, append_assoc, length-append, map, sum_by, subst, ⊎_elim}
use Rattle.std.specs.Prelude.{Option, None, Some}
use Rattle.std.specs.List.{AllZip, concat}
use Rattle.std.proofs.lemmas.{Bool.cases_lt, Bool.Decides.nat_tests, List.{length-take-le, Sums.sum_by-append}, Slice.Zip.AllZip-long}
use Rattle.const_oid.specs.declared.error.Error.{Error}
use Rattle.const_oid.specs.declared.error.Error.TheVariants.{ArcInvalid, Length}
use Rattle.const_oid.specs.{Base128.{width, IsGroup}, Contents.{arcs_of_octets, cut}, Error.{answer, fault_if}, Items.arc_fault}
use Rattle.const_oid.specs.Identifier.{root_rule, max_arc, max_second, size, subidentifiers, IsEncoding, IsIdentifier}
use Rattle.const_oid.specs.{Stop.or_trailing, Output.written_over, Private.Parser.{arc_found, components_found, found_after, text_found, IsWrittenTo}}
use Rattle.const_oid.specs.Text.{components_fault, components_of, dot, number_of, text_answer, text_of, FollowsArc}
use Rattle.const_oid.proofs.{Components.number_read, Faults.{none_from_below, some_from_above}, Lengths.{length-groups, length_is_size, size-cons, size_prefix}}
use Rattle.const_oid.proofs.{Enough.{bytes_of-components, components_enough, widths_components}, Items.few_none}
use Rattle.const_oid.proofs.{Cutting.concat-cut, Encodings.cut_encoding, Parents.IsWithoutLast}
use Rattle.const_oid.proofs.{Lists.{all_at, append-cons}, Numbers.{decimal_is, number_of-decimal}}
use Rattle.const_oid.proofs.{Texts.{arcs_small, text_left, text_left-cons}, WrongIndex.{answer_from_found, same_answer, same_text, without_index}}

left_follows : (arcs rest : List ℕ) → FollowsArc rest → FollowsArc (text_left false arcs ++ rest)
left_follows [] rest follows = follows
left_follows (arc ∷ arcs) rest follows = λ some. refl

-- ---- sizes

-- the arcs up to one take no more octets than all
size_to : (before : List ℕ) (arc : ℕ) (rest : List ℕ) → 0 < length before → size (before ++ arc ∷ []) ≤ size (before ++ arc ∷ rest)
size_to [] arc rest some = absurd (omega arith)
size_to (first ∷ []) arc rest some = size_prefix first arc [] rest
size_to (first ∷ second ∷ later) arc rest some =
    rw (append-cons later arc rest) at (size_prefix first second (later ++ arc ∷ []) rest)

size_more : (arcs more : List ℕ) → IsIdentifier root_rule arcs → size (arcs ++ more) ≡ size arcs + sum_by width more
size_more [] more identifier = absurd identifier
size_more (first ∷ []) more identifier = absurd identifier
size_more (first ∷ second ∷ later) more identifier = grind (arith, size-cons, sum_by-append)

zip_begin : (numbers more : List ℕ) (groups : List (List ℕ)) → AllZip IsGroup (numbers ++ more) groups
    → AllZip IsGroup numbers (take (length numbers) groups)
zip_begin [] more groups zip = tt
zip_begin (number ∷ numbers) more [] zip = absurd zip
zip_begin (number ∷ numbers) more (group ∷ groups) zip = (zip.0, zip_begin numbers more groups zip.1)

last_number : (first : ℕ) (middle : List ℕ) (last : ℕ)
    → (number : ℕ) × (subidentifiers (first ∷ middle ++ last ∷ []) ≡ subidentifiers (first ∷ middle) ++ number ∷ [])
last_number first [] last = (40 * first + last, refl)
last_number first (second ∷ middle) last = (last, refl)

-- octets without the last part encode all arcs but the last
size_before : (first : ℕ) (middle : List ℕ) (last : ℕ) (octets before : List ℕ) → IsEncoding root_rule (first ∷ middle ++ last ∷ []) octets
    → IsWithoutLast octets before → length before ≡ size (first ∷ middle)
size_before first middle last octets before encoding without =
    let numbers = subidentifiers (first ∷ middle) in
    let (number, is) = last_number first middle last in
    let zip = rw is at encoding.each in
    let long : length encoding.groups - 1 ≡ length numbers =
    omega (arith, AllZip-long IsGroup (numbers ++ number ∷ []) encoding.groups zip, length-append numbers (number ∷ [])) in
    let parts : cut before ≡ take (length numbers) encoding.groups =
    without ∙ rw (cut_encoding root_rule (first ∷ middle ++ last ∷ []) octets encoding, long) refl in
    ap length (sym (concat-cut before) ∙ ap concat parts)
    ∙ length-groups numbers (take (length numbers) encoding.groups) (zip_begin numbers (number ∷ []) encoding.groups zip)

but_last : (arc : ℕ) (arcs : List ℕ) → (middle : List ℕ) × (last : ℕ) × (arc ∷ arcs ≡ middle ++ last ∷ [])
but_last arc [] = ([], arc, refl)
but_last arc (next ∷ arcs) =
    let (middle, last, joined) = but_last next arcs in
    (arc ∷ middle, last, ap (λ l. arc ∷ l) joined)

fault_from_answer : {fault : Error} (found : Option Error) (arcs : List ℕ) → answer found arcs ≡ Err fault → found ≡ Some fault
fault_from_answer None arcs same = cc
fault_from_answer (Some fault) arcs same = cc

module _ (capacity : ℕ) where
  -- ---- one arc

  -- of an identifier, it has no other fault than `Length`
  arc_length : (before : List ℕ) (arc : ℕ) (later : List ℕ) → 0 < length before → IsIdentifier root_rule (before ++ arc ∷ later)
      → arc_fault root_rule capacity before arc ≡ fault_if (nat_lt capacity (size (before ++ arc ∷ []))) Length
  arc_length [] arc later some identifier = absurd (omega arith)
  arc_length (first ∷ []) arc later some identifier = rw (none_from_below (max_second root_rule first) arc (ArcInvalid arc) identifier.1) refl
  arc_length (first ∷ second ∷ middle) arc later some identifier = refl

  arc_read : (before : List ℕ) (arc : ℕ) (bytes : List ℕ) → arc ≤ max_arc → FollowsArc bytes
      → components_found capacity before (components_of (decimal arc ++ bytes))
      ≡ arc_found capacity before arc bytes (arc_fault root_rule capacity before arc)
  arc_read before arc bytes small follows =
      let number = number_of-decimal arc small in
      rw number at (number_read capacity before (decimal arc) bytes (decimal_is arc small) (rw number small) follows _ refl)

  after_dot : (before digits bytes : List ℕ) → 0 < length digits
      → found_after capacity before (dot ∷ (digits ++ bytes)) ≡ components_found capacity before (components_of (digits ++ bytes))
  after_dot before [] bytes some = absurd (omega arith)
  after_dot before (digit ∷ digits) bytes some = refl

  next_read : (before : List ℕ) (arc : ℕ) (arcs later rest : List ℕ) → 0 < length before → IsIdentifier root_rule (before ++ arc ∷ later)
      → FollowsArc rest → found_after capacity before (text_left false (arc ∷ arcs) ++ rest)
      ≡ arc_found capacity before arc (text_left false arcs ++ rest) (fault_if (nat_lt capacity (size (before ++ arc ∷ []))) Length)
  next_read before arc arcs later rest some identifier follows =
      let small = all_at (λ n. n ≤ max_arc) before arc later (arcs_small root_rule (before ++ arc ∷ later) identifier) in
      let bytes = text_left false arcs ++ rest in
      let joined = append_assoc (dot ∷ decimal arc) (text_left false arcs) rest in
      let is = decimal_is arc small in
      ap (λ l. found_after capacity before (l ++ rest)) (text_left-cons false arc arcs)
      ∙ ap (found_after capacity before) joined
      ∙ after_dot before (decimal arc) bytes is.0
      ∙ arc_read before arc bytes small (left_follows arcs rest follows)
      ∙ ap (arc_found capacity before arc bytes) (arc_length before arc later some identifier)

  first_read : (first : ℕ) (arcs rest : List ℕ) → first ≤ 2 → FollowsArc rest
      → text_found capacity (text_of (first ∷ arcs) ++ rest) ≡ found_after capacity (first ∷ []) (text_left false arcs ++ rest)
  first_read first arcs rest low follows =
      let bytes = text_left false arcs ++ rest in
      let joined = append_assoc (decimal first) (text_left false arcs) rest in
      ap (λ l. text_found capacity (l ++ rest)) (text_left-cons true first arcs)
      ∙ ap (text_found capacity) joined
      ∙ arc_read [] first bytes (omega arith) (left_follows arcs rest follows)
      ∙ ap (arc_found capacity [] first bytes) (none_from_below 2 first (ArcInvalid first) low)

  -- ---- arcs that fit

  arcs_read : (before arcs more rest : List ℕ) → 0 < length before → IsIdentifier root_rule (before ++ (arcs ++ more))
      → size (before ++ arcs) ≤ capacity → FollowsArc rest
      → found_after capacity before (text_left false arcs ++ rest) ≡ found_after capacity (before ++ arcs) rest
  arcs_read before [] more rest some identifier fits follows = rw (append-nil before) refl
  arcs_read before (arc ∷ arcs) more rest some identifier fits follows =
      let joined = append-cons before arc arcs in
      let less = size_to before arc arcs some in
      let none = none_from_below capacity (size (before ++ arc ∷ [])) Length (omega arith) in
      let later = arcs_read (before ++ arc ∷ []) arcs more rest (omega (arith, length-append before (arc ∷ [])))
      (rw (append-cons before arc (arcs ++ more)) identifier) (rw joined fits) follows in
      next_read before arc arcs (arcs ++ more) rest some identifier follows ∙ rw none (rw joined at later)

  first_low : (first : ℕ) (arcs : List ℕ) → IsIdentifier root_rule (first ∷ arcs) → first ≤ 2
  first_low first [] identifier = absurd identifier
  first_low first (second ∷ later) identifier = identifier.0

  -- the arcs of an identifier, and what follows them
  pub text_read : (arcs rest : List ℕ) → IsIdentifier root_rule arcs → size arcs ≤ capacity → FollowsArc rest
      → text_found capacity (text_of arcs ++ rest) ≡ found_after capacity arcs rest
  text_read [] rest identifier fits follows = absurd identifier
  text_read (first ∷ arcs) rest identifier fits follows =
      first_read first arcs rest (first_low first arcs identifier) follows
      ∙ arcs_read (first ∷ []) arcs [] rest (omega arith) (rw (append-nil arcs) identifier) fits follows

  -- a capacity of as many octets as they have, and as what follows has bytes, is enough
  pub below_enough : (arcs rest : List ℕ) → IsIdentifier root_rule arcs → size arcs + length rest ≤ capacity → FollowsArc rest
      → text_answer root_rule (text_of arcs ++ rest) capacity ≢ Err Length
  below_enough arcs rest identifier fits follows same =
      let read = ap without_index (text_read arcs rest identifier (omega arith) follows) in
      after rest fits (sym read ∙ same_text capacity (text_of arcs ++ rest) ∙ same) where
        after : (rest : List ℕ) → size arcs + length rest ≤ capacity → without_index (found_after capacity arcs rest) ≢ Err Length
        after [] fits same = let ok = rw (few_none root_rule arcs identifier) at same in cc
        after (byte ∷ []) fits same = cc
        after (byte ∷ next ∷ bytes) fits same =
            let components = components_of (next ∷ bytes) in
            let room : size (arcs ++ map number_of components) ≤ capacity =
            omega (arith, size_more arcs (map number_of components) identifier, widths_components components, bytes_of-components (next ∷ bytes)) in
            components_enough root_rule capacity arcs components room
            (fault_from_answer (components_fault root_rule capacity arcs components) _ (sym (same_answer capacity arcs components) ∙ same))

  -- their octets, at the start of an output
  pub octets_written : {octets : List ℕ} (rest old new : List ℕ) → IsEncoding root_rule (arcs_of_octets octets) octets
      → length octets ≤ capacity → FollowsArc rest → length new ≡ length old → (capacity ≤ length old → new ≡ written_over octets old)
      → let arcs = arcs_of_octets octets in IsWrittenTo capacity (text_of arcs) (length arcs - 1) rest old new (length octets) 0
  octets_written {octets} rest old new encoding fits follows same begins =
      let arcs = arcs_of_octets octets in
      record {
        octets = octets;
        encoding = encoding;
        arcs = record {
          found = text_read arcs rest encoding.identifier (omega (arith, length_is_size encoding)) follows;
          component = omega (arith, some_arcs arcs encoding.identifier);
          within = omega arith;
          dotted = follows;
        };
        same = same;
        long = refl;
        fits = fits;
        begins = begins;
      } where
        some_arcs : (arcs : List ℕ) → IsIdentifier root_rule arcs → 0 < length arcs
        some_arcs [] identifier = absurd identifier
        some_arcs (arc ∷ arcs) identifier = omega arith

  -- ---- arcs that do not fit

  long_fault : (bytes : List ℕ) (fault : Error) → 1 < length bytes → or_trailing fault bytes ≡ fault
  long_fault bytes fault long = grind (arith, nat_tests)

  -- one of them does not fit, and more than a dot follows
  arcs_long : (before arcs more rest : List ℕ) → 0 < length before → IsIdentifier root_rule (before ++ (arcs ++ more))
      → size before ≤ capacity → capacity < size (before ++ arcs) → FollowsArc rest → 1 < length rest
      → (index : ℕ) × (found_after capacity before (text_left false arcs ++ rest) ≡ Err (Length, index))
  arcs_long before [] more rest some identifier fits long follows more_bytes = absurd (omega (arith, rw append-nil at long))
  arcs_long before (arc ∷ arcs) more rest some identifier fits long follows more_bytes =
      let read = next_read before arc arcs (arcs ++ more) rest some identifier follows in
      let taken = size (before ++ arc ∷ []) in
      ⊎_elim
      (λ (less : capacity < taken).
      let fault = long_fault (text_left false arcs ++ rest) Length (omega (arith, length-append (text_left false arcs) rest)) in
      (length before, read ∙ rw (some_from_above capacity taken Length less) (ap (λ e. Err (e, length before)) fault)))
      (λ (room : taken ≤ capacity).
      let joined = append-cons before arc arcs in
      let (index, found) = arcs_long (before ++ arc ∷ []) arcs more rest (omega (arith, length-append before (arc ∷ [])))
      (rw (append-cons before arc (arcs ++ more)) identifier) room (rw joined long) follows more_bytes in
      (index, read ∙ rw (none_from_below capacity taken Length room) found))
      (cases_lt capacity taken)

  left_append : (middle : List ℕ) (last : ℕ) (rest : List ℕ)
      → text_left false (middle ++ last ∷ []) ++ rest ≡ text_left false middle ++ (text_left false (last ∷ []) ++ rest)
  left_append [] last rest = refl
  left_append (arc ∷ middle) last rest =
      let left = text_left false (last ∷ []) ++ rest in
      ap (λ l. l ++ rest) (text_left-cons false arc (middle ++ last ∷ []))
      ∙ append_assoc (dot ∷ decimal arc) (text_left false (middle ++ last ∷ [])) rest
      ∙ ap (λ l. (dot ∷ decimal arc) ++ l) (left_append middle last rest)
      ∙ sym (append_assoc (dot ∷ decimal arc) (text_left false middle) left)
      ∙ ap (λ l. l ++ left) (sym (text_left-cons false arc middle))

  long_found : (first : ℕ) (middle : List ℕ) (last : ℕ) (rest : List ℕ) → IsIdentifier root_rule (first ∷ middle ++ last ∷ [])
      → capacity < size (first ∷ middle ++ last ∷ []) → FollowsArc rest
      → (index : ℕ) × (text_found capacity (text_of (first ∷ middle ++ last ∷ []) ++ rest)
      ≡ Err ((if nat_lt capacity (size (first ∷ middle)) then Length else or_trailing Length rest), index))
  long_found first middle last rest identifier long follows =
      let parent = size (first ∷ middle) in
      let left = text_left false (last ∷ []) ++ rest in
      let begun = first_read first (middle ++ last ∷ []) rest (first_low first (middle ++ last ∷ []) identifier) follows
      ∙ ap (found_after capacity (first ∷ [])) (left_append middle last rest) in
      let left_is = left_follows (last ∷ []) rest follows in
      ⊎_elim
      (λ (less : capacity < parent).
      let is = decimal_is last (all_at (λ n. n ≤ max_arc) (first ∷ middle) last [] (arcs_small root_rule (first ∷ middle ++ last ∷ []) identifier)) in
      let some : 1 < length left = omega (arith, is.0, length-append (decimal last) rest) in
      let (index, found) = arcs_long (first ∷ []) middle (last ∷ []) left (omega arith) identifier (omega arith) less left_is some in
      (index, begun ∙ found ∙ rw (lt-ltb capacity parent less) refl))
      (λ (room : parent ≤ capacity).
      let taken = size (first ∷ middle ++ last ∷ []) in
      let last_read = next_read (first ∷ middle) last [] [] rest (omega arith) identifier follows in (
        length (first ∷ middle),
        begun ∙ arcs_read (first ∷ []) middle (last ∷ []) left (omega arith) identifier room left_is
            ∙ last_read ∙ rw (some_from_above capacity taken Length long, le-ltb capacity parent room) refl,
      ))
      (cases_lt capacity parent)

  long_split : (first : ℕ) (middle : List ℕ) (last : ℕ) (octets before rest : List ℕ)
      → IsEncoding root_rule (first ∷ middle ++ last ∷ []) octets → IsWithoutLast octets before → capacity < length octets → FollowsArc rest
      → text_answer root_rule (text_of (first ∷ middle ++ last ∷ []) ++ rest) capacity
      ≡ Err (if nat_lt capacity (length before) then Length else or_trailing Length rest)
  long_split first middle last octets before rest encoding without long follows =
      let arcs = first ∷ middle ++ last ∷ [] in
      let (index, found) = long_found first middle last rest encoding.identifier (omega (arith, length_is_size encoding)) follows in
      rw (← size_before first middle last octets before encoding without) at (answer_from_found capacity (text_of arcs ++ rest) found)

  -- the arcs of octets that do not fit, and what follows them, by where the last part begins
  pub long_answer : (octets rest : List ℕ) (start : ℕ) → let arcs = arcs_of_octets octets in IsEncoding root_rule arcs octets
      → start ≤ length octets → IsWithoutLast octets (take start octets) → capacity < length octets → FollowsArc rest
      → text_answer root_rule (text_of arcs ++ rest) capacity ≡ Err (if nat_lt capacity start then Length else or_trailing Length rest)
  long_answer octets rest start encoding within without long follows =
      rw (length-take-le start octets within) at (by_last (arcs_of_octets octets) encoding)
    where
      Answers : List ℕ → Type 0
      Answers arcs = text_answer root_rule (text_of arcs ++ rest) capacity
          ≡ Err (if nat_lt capacity (length (take start octets)) then Length else or_trailing Length rest)

      by_last : (arcs : List ℕ) → IsEncoding root_rule arcs octets → Answers arcs
      by_last [] is = absurd is.identifier
      by_last (first ∷ []) is = absurd is.identifier
      by_last (first ∷ second ∷ later) is =
          let (middle, last, joined) = but_last second later in
          let By : List ℕ → Type 0 = λ l. IsEncoding root_rule (first ∷ l) octets → Answers (first ∷ l) in
          subst By (sym joined) (λ split. long_split first middle last octets (take start octets) rest split without long follows) is
