-- What people type and read: blanks, a prefix, and names before arcs.
use Rattle.std.specs.Prelude.{◌≡◌, ℕ, zero, suc, ◌+◌, ◌-◌, ◌<◌, ◌==◌, ◌&&◌, ◌||◌, Bool, false, List, ◌∷◌, ◌++◌, length, All, map, take, drop, get_or, take_while, flat_map, decimal, nat_lt, nat_eq, if◌then◌else◌, is_some, Option, Some, None, option_map, unwrap_or, codes, Result}
use Rattle.std.specs.Char.{is_ascii_alphabetic, is_ascii_alphanumeric, is_ascii_digit, is_ascii_whitespace}
use Rattle.std.specs.Cmp.Lexicographic.{pointwise}
use Rattle.std.specs.List.{prefix_len, suffix_len}
use Rattle.std.specs.Option.{option_and_then, option_map_or, option_or}
use Rattle.std.specs.Str.{str_eq_ignore_ascii_case}
use Rattle.const_oid.specs.declared.error.Error.{Error}
use Rattle.const_oid.specs.declared.tables.Display.{Display}
use Rattle.const_oid.specs.Base128.{value_of}
use Rattle.const_oid.specs.Contents.{cut}
use Rattle.const_oid.specs.Identifier.{root_rule}
use Rattle.const_oid.specs.OidRef.{ref_arcs}
use Rattle.const_oid.specs.Rows.{Rows, led, named}
use Rattle.const_oid.specs.Text.{dot, is_empty, text_answer, text_of}

-- the text without the blanks around it
abbrev pub without_blanks : List ℕ → List ℕ
without_blanks text =
    let begun = drop (prefix_len is_ascii_whitespace text) text in
    take (length begun - suffix_len is_ascii_whitespace begun) begun

-- a letter, a digit or a hyphen
abbrev pub is_in_word : ℕ → Bool
is_in_word b = is_ascii_alphanumeric b || b == 45

-- the letters, digits and hyphens that a text begins with
abbrev pub word_of : List ℕ → List ℕ
word_of text = take_while is_in_word text

-- the text begins with these characters, in any case
abbrev pub begins_with : List ℕ → List ℕ → Bool
begins_with start text = str_eq_ignore_ascii_case (take (length start) text) start

-- how many bytes the prefix of a text has: a dot, `OID.` or `urn:oid:` in any case, or a module and two colons; a
-- module is a word that begins with a letter
abbrev pub prefix_of : List ℕ → ℕ
prefix_of text =
    let word = word_of text in
    let rest = drop (length word) text in
    if begins_with (codes ".") rest && (is_empty word || str_eq_ignore_ascii_case word (codes "OID")) then length word + 1
    else (if begins_with (codes ":oid:") rest && str_eq_ignore_ascii_case word (codes "urn") then length word + 5
    else (if begins_with (codes "::") rest && is_ascii_alphabetic (get_or text 0 0) then length word + 2 else 0))

-- the text without blanks around it, and then without a prefix
abbrev pub bare : List ℕ → List ℕ
bare text = drop (prefix_of (without_blanks text)) (without_blanks text)

-- the text begins with a digit
abbrev pub begins_with_digit : List ℕ → Bool
begins_with_digit text = is_ascii_digit (get_or text 0 0)

-- the text with arcs in place of its first n bytes, at most 255, if they are a name: all of it, or what is before a dot
abbrev pub spelt_at : Rows → List ℕ → ℕ → Option (List ℕ)
spelt_at rows text n =
    if (n == length text || get_or text n 0 == dot) && nat_lt n 256
    then option_map (λ arcs. text_of arcs ++ drop n text) (led rows (take n text)) else None

-- the same of the longest name of at most n bytes
abbrev pub spelt_up_to : Rows → List ℕ → ℕ → Option (List ℕ)
spelt_up_to rows text zero = spelt_at rows text 0
spelt_up_to rows text (suc n) = option_or (spelt_at rows text (suc n)) (spelt_up_to rows text n)

-- the text with arcs in place of the longest name that it begins with; one that begins with a digit has no name
abbrev pub spelt_out : Rows → List ℕ → List ℕ
spelt_out rows text =
    if begins_with_digit text then text else unwrap_or (spelt_up_to rows text (length text)) text

-- what a typed text is read as at a capacity: what it denotes without a prefix, and with arcs in place of a name
abbrev pub typed_answer : Rows → List ℕ → ℕ → Result (List ℕ) Error
typed_answer rows text capacity = text_answer root_rule (spelt_out rows (bare text)) capacity

-- the name that is shown for arcs: that of the first row with them, if it leads to them
abbrev pub shown : Rows → List ℕ → Option (List ℕ)
shown rows arcs = option_and_then (λ name. option_and_then
    (λ other. if pointwise nat_eq other arcs then Some name else None) (led rows name)) (named rows arcs)

-- a dot and the decimal of each arc
abbrev pub dotted : List ℕ → List ℕ
dotted arcs = flat_map (λ arc. dot ∷ decimal arc) arcs

-- the name of the longest prefix that has one, of three to n arcs, and the other arcs, or else the dotted text
abbrev pub displayed_up_to : Rows → List ℕ → ℕ → List ℕ
displayed_up_to rows arcs zero = text_of arcs
displayed_up_to rows arcs (suc n) =
    if nat_lt n 2 then text_of arcs else option_map_or (λ name. name ++ dotted (drop (suc n) arcs))
    (shown rows (take (suc n) arcs)) (displayed_up_to rows arcs n)

-- what is displayed of arcs
abbrev pub displayed : Rows → List ℕ → List ℕ
displayed rows arcs = displayed_up_to rows arcs (length arcs)

-- the text of what is displayed: a name, and a dot and the decimal of each arc after it, or else the dotted text
abbrev pub displayed_by : Display → List ℕ
displayed_by display = option_map_or (λ name. name.now ++ dotted (map value_of (cut display.below.now))) display.name (text_of (ref_arcs display.oid))

-- a name is read as itself, alone and before arcs
pub record IsReadable (name : List ℕ) : Type 0 where
  pub bare : bare name ≡ name
  pub named : begins_with_digit name ≡ false
  pub no_prefix : (is_empty name || str_eq_ignore_ascii_case name (codes "OID")) ≡ false
  pub short : length name < 256

-- each shown name is readable, and a name that is a shown name and arcs leads to these arcs
pub record AreReadable (rows : Rows) : Type 0 where
  pub names : (arcs name : List ℕ) → shown rows arcs ≡ Some name → IsReadable name
  pub below : (arcs name later other : List ℕ) (arc : ℕ) → shown rows arcs ≡ Some name
      → led rows (name ++ dotted (arc ∷ later)) ≡ Some other → other ≡ arcs ++ arc ∷ later

-- the first n bytes of a name are a name, too, and a dot and a digit follow
abbrev pub is_front : Rows → List ℕ → ℕ → Bool
is_front rows name n = (get_or name n 0 == dot && is_ascii_digit (get_or name (n + 1) 0)) && is_some (led rows (take n name))

-- a name does not begin with a name and arcs
abbrev pub HasNoFront : Rows → List ℕ → Type 0
HasNoFront rows name = (n : ℕ) → is_front rows name n ≡ false

-- a name is readable, and does not begin with a name and arcs
pub record IsPlain (rows : Rows) (name : List ℕ) : Type 0 where
  pub readable : IsReadable name
  pub no_front : HasNoFront rows name

-- each name of some rows is plain among all rows
abbrev pub ArePlain : Rows → Rows → Type 0
ArePlain rows some = All (λ row. IsPlain rows row.1) some
