-- What the functions of one number do.
use Rattle.std.specs.Prelude.{Result}
use Rattle.item_tree.specs.declared.code.Code.{Code}
use Rattle.num_fixed.specs.Values.{floor_of, ceiling_of, rounded_up, rounded_even}
use Rattle.num_fixed.specs.declared.number.Number.{Number}
use Rattle.value_rules.specs.Numbers.{magnitude, rounded}
use Rattle.fn_numbers.specs.declared.roundings.Step.{Step}
use Rattle.fn_numbers.specs.declared.roundings.Step.TheVariants.{Abs, Floor, Ceiling, Round, RoundHalfToEven}

abbrev pub stepped : Step → Number → Result Number Code
stepped Abs x = magnitude x
stepped Floor x = rounded floor_of x
stepped Ceiling x = rounded ceiling_of x
stepped Round x = rounded rounded_up x
stepped RoundHalfToEven x = rounded rounded_even x
