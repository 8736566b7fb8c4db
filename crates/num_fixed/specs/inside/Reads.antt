-- What is read from the parts of a number. Nothing here is part of what a number says.
use Rattle.std.specs.Prelude.{◌≡◌, ℕ, Bool, List, [], ◌++◌, length, Option, Result, IfOk, IfErr}
use Rattle.num_fixed.specs.Bounds.{InBounds, NumberInBounds, IsOver}
use Rattle.num_fixed.specs.Numeral.{Sign, IsExp, IsUnitsOf, IsDecimalOf, number_of}
use Rattle.num_fixed.specs.Signs.{with_sign}
use Rattle.num_fixed.specs.declared.number.Kind.TheVariants.{Whole, Units}
use Rattle.num_fixed.specs.declared.number.NumFault.{NumFault}
use Rattle.num_fixed.specs.declared.number.NumFault.TheVariants.{Overflow}
use Rattle.num_fixed.specs.declared.number.Number.{Number}
use Rattle.num_fixed.specs.declared.number.Number.TheVariants.{Int}

-- the integer that digits spell
abbrev pub IsIntegerOf : Bool → List ℕ → Number → Type 0
IsIntegerOf negative ds x = x ≡ Int (with_sign negative (number_of 0 ds))

-- it is out of bounds
abbrev pub IsIntegerOver : Bool → List ℕ → Type 0
IsIntegerOver negative ds = ¬ InBounds Whole (with_sign negative (number_of 0 ds))

-- what is read is the decimal that digits before and behind the point say with an exponent
abbrev pub IsDecimalRead : Bool → List ℕ → List ℕ → List ℕ → Result Number NumFault → Type 0
IsDecimalRead negative whole fraction exponent r =
    (x : Option (Sign × List ℕ)) → IsExp x exponent [] →
    IfOk r (λ y. IsDecimalOf negative (whole ++ fraction) (length fraction) x y × NumberInBounds y)

-- what is refused is out of bounds
abbrev pub IsDecimalOver : Bool → List ℕ → List ℕ → List ℕ → Result Number NumFault → Type 0
IsDecimalOver negative whole fraction exponent r =
    (x : Option (Sign × List ℕ)) → IsExp x exponent [] →
    let units = IsUnitsOf negative (whole ++ fraction) (length fraction) x in
    IfErr r (λ e. (e ≡ Overflow) × IsOver Units units)
