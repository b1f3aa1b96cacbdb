-- What a parser finds of one component of a text, and of the first two.
use Rattle.std.specs.Prelude.{◌≡◌, ◌≢◌, ℕ, ◌-◌, ◌*◌, ◌+◌, ◌<◌, ◌≤◌, ◌==◌, List, [], ◌∷◌, ◌++◌, length, drop, get_or}
use Rattle.std.specs.Prelude.{Option, Some, None, Result, Ok, Err, ⊤}
use Rattle.const_oid.specs.declared.error.Error.{Error}
use Rattle.const_oid.specs.declared.error.Error.TheVariants.{Length, TrailingDot}
use Rattle.const_oid.specs.declared.parser.Wrong.{Wrong}
use Rattle.const_oid.specs.declared.parser.Wrong.TheVariants.{Component, Value}
use Rattle.const_oid.specs.{Contents.arcs_of_octets, Identifier.{root_rule, max_arc, max_second, IsEncoding}, Items.{arc_fault, too_few_fault}, Output.written_over}
use Rattle.const_oid.specs.Stop.{component_at, or_trailing, stop_fault}
use Rattle.const_oid.specs.Text.{dot, is_empty, number_of, component_fault, components_of, text_answer, wrong_index}

-- a fault and the index of its component, or else what comes later
abbrev pub or_later : Option Error → ℕ → Result (List ℕ) (Error × ℕ) → Result (List ℕ) (Error × ℕ)
or_later None index later = later
or_later (Some fault) index later = Err (fault, index)

-- the arcs of components after some arcs, or the first fault at a capacity
abbrev pub components_found : ℕ → List ℕ → List (List ℕ) → Result (List ℕ) (Error × ℕ)
components_found capacity before [] = or_later (too_few_fault before) (length before - 1) (Ok before)
components_found capacity before (component ∷ after) =
    or_later (component_fault root_rule capacity before component after) (length before) (components_found capacity (before ++ number_of component ∷ []) after)

-- those of a text
abbrev pub text_found : ℕ → List ℕ → Result (List ℕ) (Error × ℕ)
text_found capacity text = components_found capacity [] (components_of text)

-- those of the components that come after one, by the bytes after it: a dot and theirs, or nothing
abbrev pub found_after : ℕ → List ℕ → List ℕ → Result (List ℕ) (Error × ℕ)
found_after capacity before [] = components_found capacity before []
found_after capacity before (_ ∷ []) = Err (TrailingDot, length before - 1)
found_after capacity before (_ ∷ byte ∷ bytes) = components_found capacity before (components_of (byte ∷ bytes))

-- those of an arc and of what follows it, by the bytes after its component and the fault of the arc
abbrev pub arc_found : ℕ → List ℕ → ℕ → List ℕ → Option Error → Result (List ℕ) (Error × ℕ)
arc_found capacity before arc bytes None = found_after capacity (before ++ arc ∷ []) bytes
arc_found capacity before arc bytes (Some fault) = Err (or_trailing fault bytes, length before)

-- the error of what is wrong with a text
abbrev pub error_of : List ℕ → Wrong → Error
error_of text (Component start index) = stop_fault text start index
error_of text (Value fault end) = or_trailing fault (drop end text)

-- where it is wrong
abbrev pub place_of : Wrong → ℕ
place_of (Component start index) = index
place_of (Value fault end) = end

-- a component that goes wrong at a dot, or where the text ends, is empty, so its fault needs no start
abbrev pub NeedsNoStart : List ℕ → Wrong → Type 0
NeedsNoStart text (Component start index) = stop_fault text start index ≡ stop_fault text index index
NeedsNoStart text (Value fault end) = ⊤

-- the text has the fault at a capacity, and the wrong component is at the place, unless its octets do not fit
pub record IsFaultAt (capacity : ℕ) (text : List ℕ) (fault : Error) (place : ℕ) : Type 0 where
  pub answer : text_answer root_rule text capacity ≡ Err fault
  pub within : place ≤ length text
  pub component : fault ≢ Length → component_at text place ≡ wrong_index [] (components_of text)

-- the first fault of two texts joined, at a capacity, is that of the component at a place of the second one, whose
-- first component has an index in both
pub record IsFoundAfter (capacity : ℕ) (front : List ℕ) (offset : ℕ) (text : List ℕ) (fault : Error) (place : ℕ) : Type 0 where
  pub index : ℕ
  pub found : text_found capacity (front ++ text) ≡ Err (fault, index)
  pub component : index ≡ component_at text place + offset
  pub within : place ≤ length text

-- the first fault of a text at a capacity is that of the component at a place
abbrev pub IsFoundAt : ℕ → List ℕ → Error → ℕ → Type 0
IsFoundAt capacity text fault place = IsFoundAfter capacity [] 0 text fault place

-- a place is in the component that starts at an index
pub record IsWithin (text : List ℕ) (start place : ℕ) : Type 0 where
  pub same : component_at text place ≡ component_at text start
  pub within : place ≤ length text

-- the component that starts at an index has a fault, whatever arcs are before it: none before the first component alone
pub record HasFault (text : List ℕ) (start : ℕ) (fault : Error) (place : ℕ) : Type 0 where
  pub is : (capacity : ℕ) (before : List ℕ) → is_empty before ≡ (start == 0)
      → components_found capacity before (components_of (drop start text)) ≡ Err (fault, length before)
  pub at : IsWithin text start place
  pub alike : fault ≡ stop_fault text place place

-- the component that starts at an index is the number of an arc, and ends at another one, with the text or at a dot
pub record IsComponent (text : List ℕ) (start number end : ℕ) : Type 0 where
  pub same : (capacity : ℕ) (before : List ℕ) → components_found capacity before (components_of (drop start text))
      ≡ arc_found capacity before number (drop end text) (arc_fault root_rule capacity before number)
  pub small : number ≤ max_arc
  pub further : start < end
  pub at : IsWithin text start end
  pub dotted : end < length text → get_or text end 0 ≡ dot

-- the first two components are arcs with a subidentifier, and end at an index, with the text or at a dot
pub record IsRoot (text : List ℕ) (root end : ℕ) : Type 0 where
  pub first : ℕ
  pub second : ℕ
  pub number : root ≡ 40 * first + second
  pub low : first ≤ 2
  pub high : second ≤ max_second root_rule first
  pub same : (capacity : ℕ) → text_found capacity text
      ≡ arc_found capacity (first ∷ []) second (drop end text) (arc_fault root_rule capacity (first ∷ []) second)
  pub component : component_at text end ≡ 1
  pub within : end ≤ length text
  pub dotted : end < length text → get_or text end 0 ≡ dot

-- the components of two texts joined that end at an index of the second one or before are arcs, without a fault
pub record AreRead (capacity : ℕ) (front : List ℕ) (offset : ℕ) (text before : List ℕ) (end : ℕ) : Type 0 where
  pub found : text_found capacity (front ++ text) ≡ found_after capacity before (drop end text)
  pub component : component_at text end + offset + 1 ≡ length before
  pub within : end ≤ length text
  pub dotted : end < length text → get_or text end 0 ≡ dot

-- if an output has the capacity, its first octets encode these arcs
pub record IsWrittenTo (capacity : ℕ) (front : List ℕ) (offset : ℕ) (text old new : List ℕ) (used end : ℕ) : Type 0 where
  pub octets : List ℕ
  pub encoding : IsEncoding root_rule (arcs_of_octets octets) octets
  pub arcs : AreRead capacity front offset text (arcs_of_octets octets) end
  pub same : length new ≡ length old
  pub long : used ≡ length octets
  pub fits : used ≤ capacity
  pub begins : capacity ≤ length old → new ≡ written_over octets old
