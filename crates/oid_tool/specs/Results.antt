-- The output of the tool: one line for each line of its input.
use Rattle.std.specs.Prelude.{ℕ, ◌==◌, List, [], ◌∷◌, ◌++◌, if◌then◌else◌, codes, bytes_eq, Option, Some, None, Result, Ok, Err}
use Rattle.std.specs.List.{slice_split, before_first, after_first, flat_map}
use Rattle.std.specs.Str.{is_utf8}
use Rattle.hex.specs.Hex.{decode_of, encode_lower}
use Rattle.hex.specs.declared.error.FromHexError.{FromHexError}
use Rattle.const_oid.specs.declared.error.Error.{Error}
use Rattle.const_oid.specs.Contents.{octet_answer, borrowed_capacity}
use Rattle.const_oid.specs.Identifier.{root_rule, default_capacity, encoding_of}
use Rattle.const_oid.specs.Error.{message_of}
use Rattle.const_oid.specs.Text.{text_of, text_answer}
use Rattle.const_oid.specs.Tree.{parent_of}
use Rattle.oid_tool.specs.Names.{Row, row_name_or}

-- the line of an error
abbrev pub error_line : List ℕ → List ℕ
error_line reason = codes "error: " ++ reason

-- the line of a value, or of an error
abbrev pub line_of : {T : Type 0} → (T → List ℕ) → Result T Error → List ℕ
line_of line (Ok value) = line value
line_of line (Err fault) = error_line (message_of fault)

-- the dotted text of octets
abbrev pub octets_line : Result (List ℕ) FromHexError → List ℕ
octets_line (Ok octets) = line_of text_of (octet_answer root_rule octets borrowed_capacity)
octets_line (Err fault) = error_line (codes "not hex")

-- the result of `text` on hexadecimal digits
unfoldable pub text_line : List ℕ → List ℕ
text_line digits = octets_line (decode_of digits)

-- the line of the arcs that a text denotes
abbrev pub denoted_line : (List ℕ → List ℕ) → List ℕ → List ℕ
denoted_line line text =
    if is_utf8 text then line_of line (text_answer root_rule text default_capacity)
    else error_line (codes "not UTF-8")

-- the result of `hex` on dotted text: the contents octets as lower-case hexadecimal digits
unfoldable pub hex_line : List ℕ → List ℕ
hex_line text = denoted_line (λ arcs. encode_lower (encoding_of arcs)) text

-- the dotted text of arcs, if there are any
abbrev pub text_or_none : Option (List ℕ) → List ℕ
text_or_none None = codes "none"
text_or_none (Some arcs) = text_of arcs

-- the result of `parent` on dotted text
unfoldable pub parent_line : List ℕ → List ℕ
parent_line text = denoted_line (λ arcs. text_or_none (parent_of arcs)) text

-- the result of `name` on dotted text: the name in the table, or the text itself
unfoldable pub name_line : List Row → List ℕ → List ℕ
name_line table text = denoted_line (row_name_or table text) text

-- the result of a command on its argument, with a table of names
abbrev pub answer_to : List Row → List ℕ → List ℕ → List ℕ
answer_to table command argument =
    if bytes_eq command (codes "text") then text_line argument
    else (if bytes_eq command (codes "hex") then hex_line argument
    else (if bytes_eq command (codes "parent") then parent_line argument
    else (if bytes_eq command (codes "name") then name_line table argument
    else error_line (codes "unknown command"))))

-- the result of a line, whose command ends at its first space
unfoldable pub answer_line : List Row → List ℕ → List ℕ
answer_line table line = answer_to table (before_first (λ b. b == 32) line) (after_first (λ b. b == 32) line)

-- all lists except an empty last one
abbrev pub without_empty_last : List (List ℕ) → List (List ℕ)
without_empty_last [] = []
without_empty_last ([] ∷ []) = []
without_empty_last ((b ∷ bs) ∷ []) = (b ∷ bs) ∷ []
without_empty_last (piece ∷ next ∷ more) = piece ∷ without_empty_last (next ∷ more)

-- the lines of the input: the texts between its newlines, except an empty last one
abbrev pub lines : List ℕ → List (List ℕ)
lines input = without_empty_last (slice_split (λ b. b == 10) input)

-- the result of a line, and a newline
abbrev pub output_line : List Row → List ℕ → List ℕ
output_line table line = answer_line table line ++ 10 ∷ []

-- the results of all lines of the input
unfoldable pub answers : List Row → List ℕ → List ℕ
answers table input = flat_map (output_line table) (lines input)
