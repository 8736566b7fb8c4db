-- What the functions on numbers give.
use Rattle.std.specs.Prelude.{ℕ, ◌==◌, ℤ, pos, unsigned_abs, Bool, true, false, if◌then◌else◌, List, [], ◌∷◌, length, Option, Some, None, option_to_list, Result, Ok, Err}
use Rattle.std.specs.declared.cmp.Ordering.{Ordering}
use Rattle.std.specs.declared.cmp.Ordering.TheVariants.{Less}
use Rattle.item_tree.specs.declared.class.Class.{Class}
use Rattle.item_tree.specs.declared.class.Class.TheVariants as class
use Rattle.item_tree.specs.declared.code.Code.{Code}
use Rattle.item_tree.specs.declared.code.Code.TheVariants.{FORG0006}
use Rattle.item_tree.specs.Classes.{same_class}
use Rattle.item_tree.specs.Compare.{compare_atoms}
use Rattle.item_tree.specs.Datum.{Datum, null, boolean, integer, decimal, text, date, date_time, array, object}
use Rattle.num_fixed.specs.Totals.{Tally, tally_of}
use Rattle.num_fixed.specs.Values.{floor_of, ceiling_of, rounded_up, rounded_even, sum_of, mean_of}
use Rattle.num_fixed.specs.declared.number.Kind.TheVariants.{Whole, Units}
use Rattle.num_fixed.specs.declared.number.Number.{Number}
use Rattle.num_fixed.specs.declared.number.Number.TheVariants.{Int, Dec}
use Rattle.value_rules.specs.Operands.{and_then, optional_number}
use Rattle.value_rules.specs.Results.{number_datum, bounded}

-- a result of one number
abbrev pub one_number_value : Result Number Code → Result (List Datum) Code
one_number_value (Ok x) = Ok (number_datum x ∷ [])
one_number_value (Err e) = Err e

-- ---- functions of one number, or of nothing, which they leave

abbrev pub of_optional : (Number → Result Number Code) → Option Number → Result (List Datum) Code
of_optional f None = Ok []
of_optional f (Some x) = one_number_value (f x)

abbrev pub of_number : (Number → Result Number Code) → List Datum → Result (List Datum) Code
of_number f vs = and_then (optional_number vs) (of_optional f)

-- a number without its sign
abbrev pub magnitude : Number → Result Number Code
magnitude (Int n) = Ok (Int (pos (unsigned_abs n)))
magnitude (Dec m) = Ok (Dec (pos (unsigned_abs m)))

-- an integer is near itself
abbrev pub rounded : (ℤ → ℤ) → Number → Result Number Code
rounded f (Int n) = Ok (Int n)
rounded f (Dec m) = bounded Units (f m)

abbrev pub abs_values : List Datum → Result (List Datum) Code
abs_values vs = of_number magnitude vs

abbrev pub floor_values : List Datum → Result (List Datum) Code
floor_values vs = of_number (rounded floor_of) vs

abbrev pub ceiling_values : List Datum → Result (List Datum) Code
ceiling_values vs = of_number (rounded ceiling_of) vs

-- a half is rounded towards positive infinity
abbrev pub round_values : List Datum → Result (List Datum) Code
round_values vs = of_number (rounded rounded_up) vs

abbrev pub round_half_to_even_values : List Datum → Result (List Datum) Code
round_half_to_even_values vs = of_number (rounded rounded_even) vs

-- ---- sums and means

-- an item that is added
abbrev pub addend : Datum → Result Number Code
addend (integer n) = Ok (Int n)
addend (decimal m) = Ok (Dec m)
addend _ = Err FORG0006

abbrev pub addends : List Datum → Result (List Number) Code
addends [] = Ok []
addends (v ∷ vs) = and_then (addend v) (λ x. and_then (addends vs) (λ xs. Ok (x ∷ xs)))

-- the exact sum, which alone must be in bounds; an integer where all that was added are
abbrev pub total : Tally → Result Number Code
total t = let kind = if t.whole then Whole else Units in bounded kind (sum_of kind t)

-- of nothing, the integer 0
abbrev pub sum_values : List Datum → Result (List Datum) Code
sum_values vs = and_then (addends vs) (λ xs. one_number_value (total (tally_of xs)))

-- the exact sum divided by the number, to the nearest unit
abbrev pub mean : List Number → List Datum
mean [] = []
mean (x ∷ xs) = decimal (mean_of (tally_of (x ∷ xs))) ∷ []

abbrev pub avg_values : List Datum → Result (List Datum) Code
avg_values vs = and_then (addends vs) (λ xs. Ok (mean xs))

-- ---- the least and the greatest

-- what kind of items a list has, as they are compared: none but null, which goes with every class;
-- all others of one class; or such as do not compare: an array, an object, or two classes
pub data Kin : Type 0 where
  unbound : Kin
  of_class : Class → Kin
  mixed : Kin

abbrev pub kin_of : Datum → Kin
kin_of null = unbound
kin_of (boolean b) = of_class class.Boolean
kin_of (integer n) = of_class class.Number
kin_of (decimal m) = of_class class.Number
kin_of (text t) = of_class class.Text
kin_of (date d) = of_class class.Date
kin_of (date_time t) = of_class class.DateTime
kin_of (array vs) = mixed
kin_of (object ms) = mixed

abbrev pub joined_kin : Kin → Kin → Kin
joined_kin unbound k = k
joined_kin mixed k = mixed
joined_kin (of_class c) unbound = of_class c
joined_kin (of_class c) mixed = mixed
joined_kin (of_class c) (of_class d) = if same_class c d then of_class c else mixed

abbrev pub kin : List Datum → Kin
kin [] = unbound
kin (v ∷ vs) = joined_kin (kin_of v) (kin vs)

abbrev pub is_less_order : Option Ordering → Bool
is_less_order (Some Less) = true
is_less_order _ = false

abbrev pub is_less : Datum → Datum → Bool
is_less v w = is_less_order (compare_atoms v w)

abbrev pub is_greater : Datum → Datum → Bool
is_greater v w = is_less w v

-- of two that may be there: the later one only where it goes before the earlier one
abbrev pub better : (Datum → Datum → Bool) → Option Datum → Option Datum → Option Datum
better before None later = later
better before (Some v) None = Some v
better before (Some v) (Some w) = if before w v then Some w else Some v

-- the first of those that go before all others
abbrev pub best : (Datum → Datum → Bool) → List Datum → Option Datum
best before [] = None
best before (v ∷ vs) = better before (Some v) (best before vs)

abbrev pub unless_mixed : Kin → Option Datum → Result (List Datum) Code
unless_mixed mixed o = Err FORG0006
unless_mixed unbound o = Ok (option_to_list o)
unless_mixed (of_class c) o = Ok (option_to_list o)

abbrev pub best_values : (Datum → Datum → Bool) → List Datum → Result (List Datum) Code
best_values before vs = unless_mixed (kin vs) (best before vs)

-- the first of the least
abbrev pub min_values : List Datum → Result (List Datum) Code
min_values vs = best_values is_less vs

-- the first of the greatest
abbrev pub max_values : List Datum → Result (List Datum) Code
max_values vs = best_values is_greater vs
