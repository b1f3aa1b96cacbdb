-- The results of functions: what a function writes, or its status.
use Rattle.std.specs.Prelude.{◌≡◌, ℕ, ◌-◌, ◌==◌, List, [], ◌∷◌, ◌++◌, codes, drop, length, nat_eq, nat_lt, take, slice_index_or, if◌then◌else◌, Option, Some, None, Result, Ok, Err}
use Rattle.std.specs.Cmp.Lexicographic.{pointwise}
use Rattle.std.specs.Option.{option_map, option_map_or}
use Rattle.std.specs.Result.{result_flatten, result_map_both}
use Rattle.std.specs.Str.{is_utf8}
use Rattle.const_oid.specs.declared.error.Error.{Error}
use Rattle.const_oid.specs.declared.error.Error.TheVariants.{ArcInvalid, ArcTooBig, Base128, DigitExpected, Empty, Length, Overflow, RepeatedDot, TrailingDot}
use Rattle.const_oid.specs.Contents.{octet_answer, borrowed_capacity}
use Rattle.const_oid.specs.Error.{message_of}
use Rattle.const_oid.specs.Identifier.{root_rule, encoding_of}
use Rattle.const_oid.specs.Text.{components_of, dot, text_answer, text_of, wrong_index}
use Rattle.const_oid.specs.Tree.{child_of, parent_of}
use Rattle.const_oid.specs.Typed.{dotted}
use Rattle.const_oid_c.specs.declared.status.Status.{Status}
use Rattle.const_oid_c.specs.Status.{error_status, fault_at, max_len, not_utf8_status, none_status, number_status}

-- the most octets that an owned identifier can have
abbrev pub owned_capacity : ℕ
owned_capacity = 255

-- the arcs of octets of any length, or their fault
abbrev pub borrowed_answer : List ℕ → Result (List ℕ) Error
borrowed_answer octets = octet_answer root_rule octets borrowed_capacity

-- the arcs of octets that fit an owned identifier, or their fault
abbrev pub owned_answer : List ℕ → Result (List ℕ) Error
owned_answer octets = octet_answer root_rule octets owned_capacity

-- the status of arcs, or of their fault
abbrev pub status_of : (List ℕ → Status) → Result (List ℕ) Error → Status
status_of status (Ok arcs) = status arcs
status_of status (Err fault) = error_status fault

-- the status of two identifiers, or of the first fault
abbrev pub IsStatusOfBoth : (List ℕ → List ℕ → Status → Type 0) → Result (List ℕ) Error → Result (List ℕ) Error → Status → Type 0
IsStatusOfBoth Is (Err fault) other status = status ≡ error_status fault
IsStatusOfBoth Is (Ok first) (Err fault) status = status ≡ error_status fault
IsStatusOfBoth Is (Ok first) (Ok second) status = Is first second status

-- the status of an arc, if there is one
abbrev pub arc_status : Option ℕ → Status
arc_status arc = option_map_or number_status arc none_status

-- the items made of arcs, or the status of their fault
abbrev pub output_of : (List ℕ → List ℕ) → Result (List ℕ) Error → Result (List ℕ) Status
output_of items answer = result_map_both items error_status answer

-- the items, if there are any
abbrev pub ok_or_none : Option (List ℕ) → Result (List ℕ) Status
ok_or_none items = option_map_or (λ items. Ok items) items (Err none_status)

-- the contents octets of arcs
abbrev pub octets_of_arcs : Result (List ℕ) Error → Result (List ℕ) Status
octets_of_arcs answer = output_of encoding_of answer

-- the contents octets of arcs, or the status of their fault at an index
abbrev pub octets_or_fault : ℕ → Result (List ℕ) Error → Result (List ℕ) Status
octets_or_fault index answer = result_map_both encoding_of (fault_at index) answer

-- the contents octets of the arcs that a text in ASCII denotes, of any length
abbrev pub octets_of_ascii : List ℕ → Result (List ℕ) Status
octets_of_ascii text = octets_or_fault (wrong_index [] (components_of text)) (text_answer root_rule text max_len)

-- the contents octets of the arcs that a text denotes, of any length
abbrev pub octets_of_text : List ℕ → Result (List ℕ) Status
octets_of_text text = if is_utf8 text then octets_of_ascii text else Err not_utf8_status

-- the contents octets of arcs and of those of a text in ASCII after them, each after a dot
-- a wrong component has its index in this text, whose first one is the last of the arcs before it
abbrev pub octets_of_later : List ℕ → List ℕ → Result (List ℕ) Status
octets_of_later arcs text = let whole = text_of arcs ++ text in
    octets_or_fault (wrong_index [] (components_of whole) - (length arcs - 1)) (text_answer root_rule whole max_len)

-- the same of any bytes: where the first one is no dot, it is wrong
abbrev pub octets_of_bytes_below : List ℕ → List ℕ → Result (List ℕ) Status
octets_of_bytes_below arcs [] = octets_of_later arcs []
octets_of_bytes_below arcs (byte ∷ bytes) = if byte == dot then octets_of_later arcs (byte ∷ bytes) else Err (fault_at 0 (DigitExpected byte))

-- the same of a text, after the arcs of octets
abbrev pub octets_of_text_below : List ℕ → List ℕ → Result (List ℕ) Status
octets_of_text_below octets text = result_flatten (result_map_both
    (λ arcs. if is_utf8 text then octets_of_bytes_below arcs text else Err not_utf8_status) error_status (borrowed_answer octets))

-- the contents octets of the parent, if there is one
abbrev pub octets_of_parent : List ℕ → Result (List ℕ) Status
octets_of_parent octets = result_flatten (result_map_both (λ arcs. ok_or_none (option_map encoding_of (parent_of arcs))) error_status (borrowed_answer octets))

-- the contents octets of the arcs of octets and one more
abbrev pub octets_of_child : List ℕ → ℕ → Result (List ℕ) Status
octets_of_child octets arc = output_of (λ arcs. encoding_of (child_of arcs arc)) (borrowed_answer octets)

-- the text of each code from 0 on, with this detail
abbrev pub code_texts : ℕ → List (Option (List ℕ))
code_texts detail =
    None
    ∷ Some (message_of (ArcInvalid detail))
    ∷ Some (message_of ArcTooBig)
    ∷ Some (message_of Base128)
    ∷ (if nat_lt detail 256 then Some (message_of (DigitExpected detail)) else None)
    ∷ Some (message_of Empty)
    ∷ Some (message_of Length)
    ∷ Some (message_of Overflow)
    ∷ Some (message_of RepeatedDot)
    ∷ Some (message_of TrailingDot)
    ∷ Some (codes "the output is too short for the result")
    ∷ Some (codes "the text is not UTF-8")
    ∷ Some (codes "there is no such arc, parent, item or text")
    ∷ Some (codes "the list is not sorted")
    ∷ Some (codes "the bytes do not begin with an OID in DER")
    ∷ []

-- the text of a code and its detail, if there is one
abbrev pub text_of_code : ℕ → ℕ → Result (List ℕ) Status
text_of_code code detail = ok_or_none (slice_index_or (code_texts detail) code None)

-- a dot and the decimal of each arc after those of a prefix, or the status of what is no identifier, or no prefix
abbrev pub text_below : Result (List ℕ) Error → Result (List ℕ) Error → Result (List ℕ) Status
text_below (Err fault) prefix = Err (error_status fault)
text_below (Ok arcs) (Err fault) = Err (error_status fault)
text_below (Ok arcs) (Ok prefix) = if pointwise nat_eq prefix (take (length prefix) arcs) then Ok (dotted (drop (length prefix) arcs)) else Err none_status
