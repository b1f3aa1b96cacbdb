-- Names in one table after another.
use Rattle.std.proofs.Common.{arith, ap, sym, refl, ◌∙◌, length, get_or, drop, take, ◌-◌}
use Rattle.std.specs.Prelude.{◌≡◌, ◌≤◌, Bool, List, [], ◌∷◌, find, flat_map, Option, Some, None}
use Rattle.std.specs.Option.{option_map, option_or}
use Rattle.std.proofs.lemmas.List.{take_all}
use Rattle.std.proofs.lemmas.List.Folds.{find-append}

map_or : {X Y : Type 0} (f : X → Y) (a b : Option X) → option_map f (option_or a b) ≡ option_or (option_map f a) (option_map f b)
map_or f (Some x) b = refl
map_or f None b = refl

-- what is found in the items of tables, and shown
module _ {Table Item Y : Type 0} (items_of : Table → List Item) (p : Item → Bool) (shown_of : Item → Y) where
  abbrev pub first_in : List Table → Option Y
  first_in tables = option_map shown_of (find p (flat_map items_of tables))

  abbrev first_of : Table → Option Y
  first_of table = option_map shown_of (find p (items_of table))

  step : (table : Table) (rest : List Table) → first_in (table ∷ rest) ≡ option_or (first_of table) (first_in rest)
  step table rest =
      ap (option_map shown_of) (find-append p (items_of table) (flat_map items_of rest))
      ∙ map_or shown_of (find p (items_of table)) (find p (flat_map items_of rest))

  pub here : (tables : List Table) (d table : Table) (found : Y) → 1 ≤ length tables
      → table ≡ get_or tables 0 d → first_of table ≡ Some found → Some found ≡ first_in tables
  here [] d table found some is e = absurd (omega arith)
  here (t ∷ ts) d table found some is e =
      sym (step t ts ∙ ap (λ x. option_or x (first_in ts)) (sym (ap first_of is) ∙ e))

  pub further : (tables : List Table) (d table : Table) → 1 ≤ length tables → table ≡ get_or tables 0 d
      → first_of table ≡ None → first_in (take (length tables - 1) (drop 1 tables)) ≡ first_in tables
  further [] d table some is none = absurd (omega arith)
  further (t ∷ ts) d table some is none =
      ap first_in (take_all (length (t ∷ ts) - 1) ts (omega arith))
      ∙ sym (step t ts ∙ ap (λ x. option_or x (first_in ts)) (sym (ap first_of is) ∙ none))
