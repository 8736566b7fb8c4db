-- The effective boolean value.
use Rattle.std.specs.Prelude.{zero, suc, ℤ, pos, negsuc, Bool, true, false, Result, Ok, Err, List, [], ◌∷◌}
use Rattle.item_tree.specs.declared.code.Code.{Code}
use Rattle.item_tree.specs.declared.code.Code.TheVariants.{FORG0006}
use Rattle.item_tree.specs.Datum.{Datum, null, boolean, integer, decimal, text, date, date_time, array, object}

abbrev pub is_not_zero : ℤ → Bool
is_not_zero (pos zero) = false
is_not_zero (pos (suc n)) = true
is_not_zero (negsuc n) = true

-- one value: null, false, zero and the empty string are false; a date or date-time has none
abbrev pub value_of_one : Datum → Result Bool Code
value_of_one null = Ok false
value_of_one (boolean b) = Ok b
value_of_one (integer n) = Ok (is_not_zero n)
value_of_one (decimal m) = Ok (is_not_zero m)
value_of_one (text []) = Ok false
value_of_one (text (c ∷ cs)) = Ok true
value_of_one (date d) = Err FORG0006
value_of_one (date_time t) = Err FORG0006
value_of_one (array vs) = Ok true
value_of_one (object ms) = Ok true

-- a sequence: none is false, and two or more have no value
abbrev pub boolean_value : List Datum → Result Bool Code
boolean_value [] = Ok false
boolean_value (v ∷ []) = value_of_one v
boolean_value (v ∷ w ∷ vs) = Err FORG0006
