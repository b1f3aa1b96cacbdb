-- What the components of a text come to: one by the digits that it begins with, and those so far by their octets.
use Rattle.std.proofs.Common.{◌≡◌, ℕ, ◌+◌, ◌-◌, ◌*◌, ◌<◌, ◌≤◌, ◌==◌, true, false, List, [], ◌∷◌, ◌++◌, length, drop, get_or}
use Rattle.std.proofs.Common.{if◌then◌else◌, Option, Some, Result, Ok, Err, MatchResult, refl, sym, ap, ◌∙◌, arith}
use Rattle.std.proofs.Common.{append-nil, length-append, get_or-drop, nat_lt}
use Rattle.std.specs.{List.onto_first, Bool.then_some, Char.is_ascii_digit, Str.all_ascii_digits}
use Rattle.std.proofs.lemmas.{Bool.Decides.nat_tests, List.{drop_more, drop_all, length-drop}}
use Rattle.std.proofs.lemmas.List.Sums.{count_by_more_no, count_by_more_yes}
use Rattle.std.proofs.lemmas.List.Splits.{length-slice_split, slice_split_at, slice_split_none}
use Rattle.const_oid.specs.{Identifier.{root_rule, max_arc, IsIdentifier}, Items.arc_fault, declared.error.Error.Error}
use Rattle.const_oid.specs.declared.error.Error.TheVariants.{ArcInvalid, ArcTooBig, DigitExpected, Empty, Length, TrailingDot}
use Rattle.const_oid.specs.{Contents.arcs_of_octets, Base128.width, Output.IsEncodedIn, Private.Octets.AppendsTo}
use Rattle.const_oid.specs.Stop.{component_at, or_trailing, stop_fault}
use Rattle.const_oid.specs.Private.Parser.{components_found, text_found, found_after, arc_found}
use Rattle.const_oid.specs.Private.Parser.{AreRead, HasFault, IsFoundAfter, IsFoundAt, IsComponent, IsRoot, IsWithin, IsWrittenTo}
use Rattle.const_oid.specs.Text.{components_of, number_of, is_empty, is_one_empty, text_answer, IsNumber}
use Rattle.const_oid.proofs.WrongIndex.{same_text}
use Rattle.const_oid.proofs.Appended.{IsLonger, longer_by}
use Rattle.const_oid.proofs.{Lists.append-cons, Started.{Encodes, root_encodes, later_encodes}}
use Rattle.const_oid.proofs.{Faults.{none_from_below, some_from_above}, Encodings.{arcs_of_encoding, encoding_back}}
use Rattle.const_oid.proofs.Numbers.{number_of_digits, find-none, take_while-digits, find-digits, undotted}
use Rattle.const_oid.proofs.Numbers.{digits_push, number_push, number_more}

-- ---- the components of bytes

-- the first component begins with the digits that the bytes begin with
begins : (digits more tail : List ℕ) (after : List (List ℕ)) → all_ascii_digits digits ≡ true
    → components_of more ≡ tail ∷ after → components_of (digits ++ more) ≡ (digits ++ tail) ∷ after
begins [] more tail after are e = e
begins (d ∷ ds) more tail after are e = grind (arith, nat_tests, begins ds more tail after)

some_component : (bytes : List ℕ) → (tail : List ℕ) × (after : List (List ℕ)) × (components_of bytes ≡ tail ∷ after)
some_component [] = ([], [], refl)
some_component (b ∷ bytes) =
    let (tail, after, e) = some_component bytes in
    elim (b == 46) as (λ dotted. (tail : List ℕ) × (after : List (List ℕ))
    × ((if dotted then [] ∷ components_of bytes else onto_first b (components_of bytes)) ≡ tail ∷ after))
    [ true ↦ ([], components_of bytes, refl) | false ↦ (b ∷ tail, after, rw e refl) ]

-- what follows a dot is one empty component exactly where no byte follows
one_empty-components : (bytes : List ℕ) → is_one_empty (components_of bytes) ≡ is_empty bytes
one_empty-components [] = refl
one_empty-components (b ∷ bytes) = grind (arith, nat_tests, length-slice_split (λ b. b == 46) bytes)

module _ (capacity : ℕ) (before : List ℕ) where
  abbrev found : List ℕ → Result (List ℕ) (Error × ℕ)
  found bytes = components_found capacity before (components_of bytes)

  -- ---- a component without a fault of its own

  pub number_read : (digits bytes : List ℕ) → IsNumber digits → number_of digits ≤ max_arc
      → (0 < length bytes → get_or bytes 0 0 ≡ 46) → (fault : Option Error)
      → arc_fault root_rule capacity before (number_of digits) ≡ fault
      → found (digits ++ bytes) ≡ arc_found capacity before (number_of digits) bytes fault
  number_read digits [] is small dotted fault e =
      grind (arith, nat_tests, find-none, append-nil, slice_split_none (λ b. b == 46) digits, undotted)
  number_read digits (b ∷ []) is small dotted fault e =
      grind (arith, nat_tests, find-none, append-nil, length-append, slice_split_at (λ b. b == 46), undotted)
  number_read digits (b ∷ c ∷ bytes) is small dotted fault e =
      grind (arith, nat_tests, find-none, one_empty-components (c ∷ bytes), append-cons, slice_split_at (λ b. b == 46), undotted)

  -- ---- a component with a fault

  too_big : (digits more : List ℕ) → all_ascii_digits digits ≡ true → max_arc < number_of digits
      → found (digits ++ more) ≡ Err (ArcTooBig, length before)
  too_big digits more are big =
      let (tail, after, e) = some_component more in
      rw (begins digits more tail after are e) (grind (arith, nat_tests, number_more digits tail are))

  no_digit : (digits more : List ℕ) (byte : ℕ) → all_ascii_digits digits ≡ true → number_of digits ≤ max_arc
      → is_ascii_digit byte ≡ false → (byte == 46) ≡ false → found (digits ++ byte ∷ more) ≡ Err (DigitExpected byte, length before)
  no_digit digits more byte are small other undotted =
      let (tail, after, e) = some_component more in
      rw (begins digits (byte ∷ more) (byte ∷ tail) after are (rw (undotted, e) refl))
      (grind (arith, nat_tests, append-nil, number_of_digits, take_while-digits, find-digits))

-- ---- at an index of a text

-- a dot ends the component
pub component_next : (text : List ℕ) (place : ℕ) → place < length text → get_or text place 0 ≡ 46
    → component_at text (place + 1) ≡ component_at text place + 1
component_next text place less is = count_by_more_yes (λ b. nat_lt b 48) text place 0 less (rw is refl)

-- a digit does not
within_more : {text : List ℕ} {start place : ℕ} → IsWithin text start place → place < length text
    → is_ascii_digit (get_or text place 0) ≡ true → IsWithin text start (place + 1)
within_more {text} {place} at less is = record {
  same = count_by_more_no (λ b. nat_lt b 48) text place 0 less (grind (arith, nat_tests)) ∙ at.same;
  within = omega arith;
}

-- the bytes from an index up to another one are the digits of a number
pub record AreDigits (text : List ℕ) (start number end : ℕ) : Type 0 where
  pub digits : List ℕ
  pub are : IsNumber digits
  pub value : number ≡ number_of digits
  pub bytes : drop start text ≡ digits ++ drop end text
  pub at : IsWithin text start end

-- the first digit
pub first_read : {digit : ℕ} (text : List ℕ) (start : ℕ) → start < length text
    → Some digit ≡ then_some (is_ascii_digit (get_or text start 0)) (get_or text start 0 - 48)
    → AreDigits text start digit (start + 1)
first_read text start less is = record {
  digits = get_or text start 0 ∷ [];
  are = grind (arith, nat_tests);
  value = grind (arith, nat_tests);
  bytes = drop_more text start 0 less;
  at = within_more (record { same = refl; within = omega arith }) less (grind (arith, nat_tests));
}

-- one more
pub digit_read : {text : List ℕ} {start number end digit : ℕ} → AreDigits text start number end → end < length text
    → Some digit ≡ then_some (is_ascii_digit (get_or text end 0)) (get_or text end 0 - 48)
    → AreDigits text start (number * 10 + digit) (end + 1)
digit_read {text} {end} read less is =
    let byte = get_or text end 0 in
    let is_digit : is_ascii_digit byte ≡ true = grind (arith, nat_tests) in
    record {
      digits = read.digits ++ byte ∷ [];
      are = (grind (arith, length-append), digits_push read.digits byte read.are.1 is_digit);
      value = rw (read.value, number_push read.digits byte read.are.1 is_digit) (grind (arith, nat_tests));
      bytes = read.bytes ∙ rw (drop_more text end 0 less) (sym (append-cons read.digits byte (drop (end + 1) text)));
      at = within_more read.at less is_digit;
    }

-- one more makes the number too big
pub big_fault : {text : List ℕ} {start number digit : ℕ} (end : ℕ) → AreDigits text start number end → end < length text
    → Some digit ≡ then_some (is_ascii_digit (get_or text end 0)) (get_or text end 0 - 48) → max_arc < number * 10 + digit
    → HasFault text start (stop_fault text start end) end
big_fault {text} end read less is big =
    let longer = digit_read read less is in
    record {
      is = λ capacity before none.
          let more = drop (end + 1) text in
          rw longer.bytes (too_big capacity before longer.digits more longer.are.1 (rw longer.value at big) ∙ grind (arith, nat_tests));
      at = read.at;
      alike = grind (arith, nat_tests);
    }

module _ {text : List ℕ} {start number end : ℕ} (read : AreDigits text start number end) (small : number ≤ max_arc) where
  pub component_read : (end < length text → get_or text end 0 ≡ 46) → IsComponent text start number end
  component_read dotted = record {
    same = λ capacity before.
        rw (read.bytes, read.value)
        (number_read capacity before read.digits (drop end text) read.are (rw read.value at small)
        (grind (arith, length-drop, get_or-drop)) _ refl);
    small = small;
    further = grind (arith, length-drop, length-append, ap length read.bytes);
    at = read.at;
    dotted = dotted;
  }

  -- the byte after the digits is neither a digit nor a dot
  pub byte_fault : end < length text → is_ascii_digit (get_or text end 0) ≡ false → (get_or text end 0 == 46) ≡ false
      → HasFault text start (stop_fault text start end) end
  byte_fault less other undotted = record {
    is = λ capacity before none.
        let more = drop (end + 1) text in
        rw (read.bytes, drop_more text end 0 less)
        (no_digit capacity before read.digits more (get_or text end 0) read.are.1 (rw read.value at small) other undotted
        ∙ grind (arith, nat_tests));
    at = read.at;
    alike = grind (arith, nat_tests);
  }

-- the first byte is no digit
pub first_fault : (text : List ℕ) (start : ℕ) → start < length text → is_ascii_digit (get_or text start 0) ≡ false
    → HasFault text start (stop_fault text start start) start
first_fault text start less other = record {
  is = λ capacity before none.
      let (tail, after, e) = some_component (drop (start + 1) text) in
      rw (drop_more text start 0 less, e) (grind (arith, nat_tests, e));
  at = record { same = refl; within = omega arith };
  alike = refl;
}

-- there is no byte
pub end_fault : (text : List ℕ) (start : ℕ) → length text ≡ start → HasFault text start (stop_fault text start start) start
end_fault text start last = record {
  is = λ capacity before none. rw (drop_all start text (omega arith)) (grind (arith, nat_tests));
  at = record { same = refl; within = omega arith };
  alike = refl;
}

-- ---- the octets of the components so far

-- the first component
pub first_wrong : {text : List ℕ} (capacity : ℕ) {fault : Error} {place : ℕ} → HasFault text 0 fault place
    → IsFoundAt capacity text fault place
first_wrong capacity has = record {
  index = 0;
  found = has.is capacity [] refl;
  component = omega (arith, has.at.same);
  within = has.at.within;
}

module _ {text : List ℕ} {first end : ℕ} (capacity : ℕ) (component : IsComponent text 0 first end) where
  pub first_above : 2 < first → IsFoundAt capacity text (or_trailing (ArcInvalid first) (drop end text)) end
  first_above high = record {
    index = 0;
    found = component.same capacity [] ∙ rw (some_from_above 2 first (ArcInvalid first) high) refl;
    component = omega (arith, component.at.same);
    within = component.at.within;
  }

  pub first_done : first ≤ 2 → AreRead capacity [] 0 text (first ∷ []) end
  first_done low = record {
    found = component.same capacity [] ∙ rw (none_from_below 2 first (ArcInvalid first) low) refl;
    component = rw component.at.same refl;
    within = component.at.within;
    dotted = component.dotted;
  }

  -- nothing is left, or a dot
  pub first_alone : first ≤ 2 → length text ≤ end + 1 → IsFoundAt capacity text (or_trailing Empty (drop end text)) end
  first_alone low last = record {
    index = 0;
    found = (first_done low).found ∙ alone (drop end text) (omega (arith, length-drop end text));
    component = omega (arith, component.at.same);
    within = component.at.within;
  } where
    alone : (bytes : List ℕ) → length bytes ≤ 1
        → found_after capacity (first ∷ []) bytes ≡ Err (or_trailing Empty bytes, 0)
    alone [] few = refl
    alone (byte ∷ []) few = refl
    alone (byte ∷ next ∷ bytes) few = absurd (omega arith)

module _ {capacity : ℕ} {front : List ℕ} {offset : ℕ} {text before : List ℕ} {end : ℕ} (read : AreRead capacity front offset text before end) where
  -- a dot is left, so the last component is empty
  pub dot_left : end + 1 ≡ length text → IsFoundAfter capacity front offset text TrailingDot end
  dot_left last = record {
    index = length before - 1;
    found = read.found ∙ rw (drop_more text end 0 (omega arith), drop_all (end + 1) text (omega arith)) refl;
    component = omega (arith, read.component);
    within = read.within;
  }

  module _ (less : end + 1 < length text) where
    next_component : length before ≡ component_at text (end + 1) + offset
    next_component = omega (arith, component_next text end (omega arith) (read.dotted (omega arith)), read.component)

    next_found : text_found capacity (front ++ text) ≡ components_found capacity before (components_of (drop (end + 1) text))
    next_found = read.found ∙ rw (drop_more text end 0 (omega arith), drop_more text (end + 1) 0 less) refl

    pub wrong_component : {fault : Error} {place : ℕ} → HasFault text (end + 1) fault place
        → IsFoundAfter capacity front offset text fault place
    wrong_component has = record {
      index = length before;
      found = next_found ∙ has.is capacity before (some_arc before read.component);
      component = omega (arith, next_component, has.at.same);
      within = has.at.within;
    } where
      some_arc : (arcs : List ℕ) → component_at text end + offset + 1 ≡ length arcs → is_empty arcs ≡ (end + 1 == 0)
      some_arc [] none = absurd (omega arith)
      some_arc (arc ∷ arcs) some = grind (arith, nat_tests)

    module _ {arc place : ℕ} (component : IsComponent text (end + 1) arc place) where
      pub this_component : length before ≡ component_at text place + offset
      this_component = omega (arith, component.at.same, next_component)

      pub component_found : text_found capacity (front ++ text)
          ≡ arc_found capacity before arc (drop place text) (arc_fault root_rule capacity before arc)
      component_found = next_found ∙ component.same capacity before

      pub wrong_arc : {fault : Error} → arc_fault root_rule capacity before arc ≡ Some fault
          → IsFoundAfter capacity front offset text (or_trailing fault (drop place text)) place
      wrong_arc has = record {
        index = length before;
        found = component_found ∙ rw has refl;
        component = this_component;
        within = component.at.within;
      }

-- ---- octets in a slice

-- what becomes of those that are written by a component, whose group is appended or does not fit
abbrev pub WrittenBy : ℕ → List ℕ → ℕ → List ℕ → List ℕ → List ℕ → ℕ → Result ℕ Error → Type 0
WrittenBy capacity front offset text old new end result =
    MatchResult result (λ used. IsWrittenTo capacity front offset text old new used end)
    (λ fault. IsFoundAfter capacity front offset text (or_trailing fault (drop end text)) end)

module _ (capacity : ℕ) (front : List ℕ) (offset : ℕ) (text old : List ℕ) where
  written_by : {before octets new : List ℕ} {arc number end : ℕ} → Encodes root_rule octets before arc number
      → text_found capacity (front ++ text)
      ≡ arc_found capacity before arc (drop end text) (arc_fault root_rule capacity before arc)
      → length before ≡ component_at text end + offset → end ≤ length text → (end < length text → get_or text end 0 ≡ 46)
      → length new ≡ length old → (result : Result ℕ Error) → IsLonger capacity number octets old new result
      → WrittenBy capacity front offset text old new end result
  written_by {before} {octets} {arc} {number} encodes is component within dotted same (Ok used) longer =
      let none = encodes.fault capacity ∙ none_from_below capacity (length octets + width number) Length longer.appended.0 in
      let encoding = encodes.step longer.more longer.appended.1 in
      record {
        octets = longer.more;
        encoding = encoding_back encoding;
        arcs = record {
          found = is ∙ rw (none, arcs_of_encoding encoding) refl;
          component = rw (arcs_of_encoding encoding) (omega (arith, component, length-append before (arc ∷ [])));
          within = within;
          dotted = dotted;
        };
        same = same;
        long = longer.long.0;
        fits = longer.long.1;
        begins = longer.begins;
      }
  written_by {before} {octets} {number} encodes is component within dotted same (Err fault) longer = record {
    index = length before;
    found = is ∙ rw (encodes.fault capacity, some_from_above capacity (length octets + width number) Length longer.appended.1, longer.appended.0) refl;
    component = component;
    within = within;
  }

  pub later_written : {new : List ℕ} {used arc place end : ℕ} (longer : List ℕ)
      → IsWrittenTo capacity front offset text old new used place → length longer ≡ length new → place + 1 < length text
      → IsComponent text (place + 1) arc end → (result : Result ℕ Error) → AppendsTo capacity arc used new longer result
      → WrittenBy capacity front offset text old longer end result
  later_written {arc} longer written same less component result appends =
      let more = longer_by {number = arc} longer written.long written.same written.begins result appends in
      written_by (later_encodes root_rule written.octets (arcs_of_octets written.octets) arc written.encoding component.small)
      (component_found written.arcs less component) (this_component written.arcs less component)
      component.at.within component.dotted (same ∙ written.same) result more

pub root_written : {text : List ℕ} {number end : ℕ} (capacity : ℕ) (old longer : List ℕ) → IsRoot text number end
    → length longer ≡ length old → (result : Result ℕ Error)
    → AppendsTo capacity number 0 old longer result → WrittenBy capacity [] 0 text old longer end result
root_written {text} {number} capacity old longer root same result appends =
    let more = longer_by {number = number} {octets = []} {old = old} longer refl refl (λ room. refl) result appends in
    written_by capacity [] 0 text old (rw (← root.number) at (root_encodes root_rule root.first root.second root.low root.high))
    (root.same capacity) (omega (arith, root.component)) root.within root.dotted same result more

-- all components are read
pub all_written : {capacity : ℕ} {front : List ℕ} {offset : ℕ} {text old new : List ℕ} {used end : ℕ}
    → IsWrittenTo capacity front offset text old new used end → length text ≤ end
    → IsEncodedIn capacity (text_answer root_rule (front ++ text) capacity) old new used
all_written {capacity} {front} {text} {end} written last =
    let octets = written.octets in
    record {
      octets = octets;
      encoding = written.encoding;
      answer =
          let none = enough (arcs_of_octets octets) written.encoding.identifier in
          let found : text_found capacity (front ++ text) ≡ Ok (arcs_of_octets octets) = written.arcs.found ∙ rw (drop_all end text last) none in
          sym (same_text capacity (front ++ text)) ∙ rw found refl;
      long = written.long;
      within = written.fits;
      begins = written.begins;
    } where
      enough : (arcs : List ℕ) → IsIdentifier root_rule arcs → components_found capacity arcs [] ≡ Ok arcs
      enough [] identifier = absurd identifier
      enough (arc ∷ []) identifier = absurd identifier
      enough (first ∷ second ∷ later) identifier = refl

pub ruleset digits_read = (first_read, digit_read, big_fault, component_read, byte_fault, first_fault, end_fault, nat_tests)
