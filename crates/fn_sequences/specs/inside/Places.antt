-- Positions, which count from 1.
use Rattle.std.specs.Prelude.{ℕ, ◌-◌, ℤ, pos, negsuc, List, map}
use Rattle.item_tree.specs.Datum.{Datum, integer}
use Rattle.value_rules.specs.Sequences.{positions, same_atomics}

-- how many places there are before a position
abbrev pub places_before : ℤ → ℕ
places_before (pos n) = n - 1
places_before (negsuc n) = 0

-- the positions of the values that are the same as v
abbrev pub position_values : Datum → List Datum → List Datum
position_values v ws = map (λ p. integer (pos p)) (positions (λ w. same_atomics w v) ws)
