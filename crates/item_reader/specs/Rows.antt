-- Arrays of a few numbers, as they stand in a text.
use Rattle.std.specs.Prelude.{◌≡◌, ℕ, Bool, true, false, List, [], ◌∷◌, Ok}
use Rattle.num_fixed.specs.Numeral.{Numeral}
use Rattle.num_fixed.specs.Values.{said}
use Rattle.item_tree.specs.Datum.{Datum}
use Rattle.json_text.specs.inside.Machine as m
use Rattle.json_text.specs.inside.Build.{number_outcome}

-- a comma, or the bracket that closes an array
abbrev pub mark_of : Bool → ℕ
mark_of true = 44
mark_of false = 93

-- a number at the front with this value, this mark right behind it, and what is behind that
abbrev pub IsElement : Datum → ℕ → List ℕ → List ℕ → Type 0
IsElement y mark line behind =
    (n : Numeral) × (m.token_at line ≡ (m.numeral n, mark ∷ behind))
    × (number_outcome (said n) ≡ Ok y)

-- numbers with these values, with commas between them and a bracket behind them
abbrev pub IsRow : List Datum → List ℕ → List ℕ → Type 0
IsRow [] line behind = ⊥
IsRow (y ∷ []) line behind = IsElement y 93 line behind
IsRow (y ∷ z ∷ ys) line behind =
    (next : List ℕ) × IsElement y 44 line next × IsRow (z ∷ ys) next behind
