-- How the contracts of private functions speak of items that were checked.
use Rattle.std.specs.Prelude.{ℕ, List, [], ◌∷◌, Option, Some, None, Result, Ok, Err}
use Rattle.std.specs.List.{flat_map}
use Rattle.item_tree.specs.Datum.{Datum, IsAtomic}
use Rattle.item_tree.specs.ItemText.{atom_text}

abbrev pub AreAtomic : List Datum → Type 0
AreAtomic [] = Unit {0}
AreAtomic (v ∷ vs) = IsAtomic v × AreAtomic vs

abbrev pub ArgumentsAreAtomic : List (List Datum) → Type 0
ArgumentsAreAtomic [] = Unit {0}
ArgumentsAreAtomic (vs ∷ more) = AreAtomic vs × ArgumentsAreAtomic more

-- the texts of all items, put together
abbrev pub text_of_all : List Datum → List ℕ
text_of_all = flat_map atom_text

-- with which error something is refused
abbrev pub refusal : {A E : Type 0} → Result A E → Option E
refusal (Ok x) = None
refusal (Err e) = Some e
