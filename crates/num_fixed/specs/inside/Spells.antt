-- What is read of digits while they are scanned. Nothing here is part of what a number says.
use Rattle.std.specs.Prelude.{◌≡◌, ◌<◌, ℕ, ◌+◌, ◌-◌, ◌*◌, ◌^◌, ◌==◌, Bool, if◌then◌else◌, List, [], ◌∷◌, take}
use Rattle.std.specs.Char.{is_ascii_digit}
use Rattle.num_fixed.specs.Fronts.{fraction_len, fraction_of}
use Rattle.num_fixed.specs.Numeral.{frac_digits}
use Rattle.num_fixed.specs.Signs.{with_sign}
use Rattle.num_fixed.specs.declared.number.Number.{Number}
use Rattle.num_fixed.specs.declared.number.Number.TheVariants.{Int, Dec}

-- the number that the digits at the front spell, behind n
unfoldable pub spelled : ℕ → List ℕ → ℕ
spelled n [] = n
spelled n (b ∷ l) = if is_ascii_digit b then spelled (n * 10 + (b - 48)) l else n

-- a number of 64 bits is this one, if it has room
abbrev pub IsKeptIn64 : ℕ → ℕ → Type 0
IsKeptIn64 n m = n < 2 ^ 64 → m ≡ n

-- the digits behind the point at the front
abbrev pub places_at : List ℕ → List ℕ
places_at l = frac_digits (fraction_of (take (fraction_len l) l))

-- digits as a number, of which those of a fraction of so many bytes stand behind the point
abbrev pub small_number : Bool → ℕ → ℕ → Number
small_number negative n fraction =
    if fraction == 0 then Int (with_sign negative n)
    else Dec (with_sign negative (n * 10 ^ (7 - fraction)))
