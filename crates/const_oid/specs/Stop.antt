-- What is wrong with a text, by where its reading stops.
use Rattle.std.specs.Prelude.{◌≡◌, ◌≢◌, ℕ, ◌+◌, ◌-◌, ◌++◌, ◌==◌, ◌&&◌, not, List, [], length, count_by, drop, get_or, min, take, nat_lt, if◌then◌else◌, Err}
use Rattle.std.specs.{Char.is_ascii_digit, Option.option_map_or}
use Rattle.const_oid.specs.declared.error.Error.{Error}
use Rattle.const_oid.specs.declared.error.Error.TheVariants.{ArcTooBig, DigitExpected, Empty, Length, RepeatedDot, TrailingDot}
use Rattle.const_oid.specs.declared.outputs.Stop.{Stop}
use Rattle.const_oid.specs.Identifier.{root_rule}
use Rattle.const_oid.specs.Text.{components_of, dot, text_answer, text_of, wrong_index}

-- the fault of an arc, by the bytes after its component: `TrailingDot` if an empty last one follows
abbrev pub or_trailing : Error → List ℕ → Error
or_trailing fault bytes = if length bytes == 1 then TrailingDot else fault

-- the fault of a component that starts at an index and goes wrong at another one
abbrev pub stop_fault : List ℕ → ℕ → ℕ → Error
stop_fault text start index =
    let b = get_or text index 0 in
    if nat_lt index (length text)
    then (if is_ascii_digit b then ArcTooBig else if b == dot && not (start == 0) then RepeatedDot else DigitExpected b)
    else (if start == 0 then Empty else TrailingDot)

-- the error of a text: a component that goes wrong at a dot, or where the text ends, starts there
abbrev pub error_at : List ℕ → Stop → Error
error_at text stop =
    let place = min stop.1 (length text) in
    option_map_or (λ fault. or_trailing fault (drop place text)) stop.0 (stop_fault text place place)

-- the index of the component at a place that follows digits and dots: of these, only dots are below the digits
abbrev pub component_at : List ℕ → ℕ → ℕ
component_at text place = count_by (λ b. nat_lt b 48) (take place text)

-- the text has the error at a capacity, and its wrong component is where the reading stops, unless its octets do not
-- fit
abbrev pub IsWrongAt : ℕ → List ℕ → Stop → Type 0
IsWrongAt capacity text stop = (text_answer root_rule text capacity ≡ Err (error_at text stop))
    × (error_at text stop ≢ Length → component_at text stop.1 ≡ wrong_index [] (components_of text))

-- the same of the text of arcs and another text after it, whose first component is the last arc
abbrev pub IsWrongBelow : ℕ → List ℕ → List ℕ → Stop → Type 0
IsWrongBelow capacity arcs text stop = let whole = text_of arcs ++ text in
    (text_answer root_rule whole capacity ≡ Err (error_at text stop))
    × (error_at text stop ≢ Length → component_at text stop.1 + (length arcs - 1) ≡ wrong_index [] (components_of whole))
