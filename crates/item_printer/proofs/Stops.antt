-- The first byte that is escaped is the first one at which a string stops.
use Rattle.std.proofs.Common.{◌≡◌, ℕ, cond, List, [], ◌∷◌, length, nat_lt, Some, None, refl, ap, position}
use Rattle.std.proofs.Math.Bool.{not-not}
use Rattle.std.specs.List.{position_or_len, prefix_len}
use Rattle.byte_lanes.specs.Bytes.{is_raw, first_stop}
use Rattle.item_printer.specs.StringBytes.{is_escaped}

raw_front : (xs : List ℕ) → prefix_len is_raw xs ≡ position_or_len is_escaped xs
raw_front [] = refl
raw_front (x ∷ xs) = rw (not-not (is_raw x), raw_front xs) refl

pub first_stop_position : (xs : List ℕ) → first_stop xs ≡ position is_escaped xs
first_stop_position xs = ap (λ n. cond (nat_lt n (length xs)) (Some n) None) (raw_front xs)
