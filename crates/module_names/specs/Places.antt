-- Places in texts that are put together.
use Rattle.std.specs.Prelude.{ℕ, zero, suc, ◌+◌, List, [], ◌∷◌}

-- where the text of this file starts, where texts of these lengths stand one behind another
abbrev pub start_of : List ℕ → ℕ → ℕ
start_of [] file = 0
start_of (n ∷ lengths) zero = 0
start_of (n ∷ lengths) (suc file) = n + start_of lengths file
