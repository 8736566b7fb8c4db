-- A list with one part more.
use Rattle.std.specs.Prelude.{◌≡◌, List, [], ◌∷◌, ◌++◌, Result, Ok, Err}

abbrev pub Pushed : {A E : Type 0} → List A → Result A E → List A → Type 0
Pushed front (Ok a) all = all ≡ front ++ a ∷ []
Pushed front (Err e) all = ⊥
