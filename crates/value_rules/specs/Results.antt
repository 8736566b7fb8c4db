-- Numbers that operators and functions give.
use Rattle.std.specs.Prelude.{ℤ, if◌then◌else◌, Result, Ok, Err}
use Rattle.item_tree.specs.declared.code.Code.{Code}
use Rattle.item_tree.specs.declared.code.Code.TheVariants.{FOAR0001, FOAR0002}
use Rattle.item_tree.specs.Datum.{Datum, integer, decimal}
use Rattle.num_fixed.specs.Values.{in_bounds}
use Rattle.num_fixed.specs.declared.number.Kind.{Kind}
use Rattle.num_fixed.specs.declared.number.Kind.TheVariants.{Whole, Units}
use Rattle.num_fixed.specs.declared.number.NumFault.{NumFault}
use Rattle.num_fixed.specs.declared.number.NumFault.TheVariants.{ZeroDivisor, Overflow}
use Rattle.num_fixed.specs.declared.number.Number.{Number}
use Rattle.num_fixed.specs.declared.number.Number.TheVariants.{Int, Dec}

abbrev pub number_of : Kind → ℤ → Number
number_of Whole n = Int n
number_of Units m = Dec m

abbrev pub number_datum : Number → Datum
number_datum (Int n) = integer n
number_datum (Dec m) = decimal m

-- a number of this kind, which must be in bounds
abbrev pub bounded : Kind → ℤ → Result Number Code
bounded kind n = if in_bounds kind n then Ok (number_of kind n) else Err FOAR0002

-- what arithmetic on fixed numbers tells, with the errors of the language
abbrev pub told : Kind → Result ℤ NumFault → Result Number Code
told kind (Ok n) = Ok (number_of kind n)
told kind (Err ZeroDivisor) = Err FOAR0001
told kind (Err Overflow) = Err FOAR0002
