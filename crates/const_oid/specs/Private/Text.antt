-- Texts as they are written, one arc after another.
use Rattle.std.specs.Prelude.{ℕ, ◌+◌, ◌/◌, ◌%◌, Bool, true, false, List, [], ◌∷◌, ◌++◌, decimal, encode_utf8}
use Rattle.const_oid.specs.declared.error.Error.{Error}
use Rattle.const_oid.specs.declared.error.Error.TheVariants.{ArcInvalid, DigitExpected}
use Rattle.const_oid.specs.Text.{dot, text_of}
use Rattle.const_oid.specs.Typed.{dotted}

-- what an arc adds to the text, by whether it is the first
abbrev pub arc_text : Bool → ℕ → List ℕ
arc_text true arc = decimal arc
arc_text false arc = dot ∷ decimal arc

-- what arcs add to the text, by whether they are the first
abbrev pub arcs_text : Bool → List ℕ → List ℕ
arcs_text true arcs = text_of arcs
arcs_text false arcs = dotted arcs

-- two digits
abbrev pub pair_text : ℕ → List ℕ
pair_text pair = (48 + pair / 10) ∷ (48 + pair % 10) ∷ []

-- four digits
abbrev pub four_text : ℕ → List ℕ
four_text number = pair_text (number / 100) ++ pair_text (number % 100)

-- the text of the number that an error carries, if there is one
abbrev pub detail_text : Error → List ℕ
detail_text (ArcInvalid arc) = decimal arc
detail_text (DigitExpected actual) = encode_utf8 actual
detail_text _ = []
