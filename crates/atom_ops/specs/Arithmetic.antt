-- Arithmetic on two operands, and the sign of one.
use Rattle.std.specs.Prelude.{ℤ, ◌+ℤ◌, ◌-ℤ◌, neg_ℤ, int_div, int_rem, if◌then◌else◌, List, [], ◌∷◌, Option, Some, None, option_map, Result, Ok, Err}
use Rattle.item_tree.specs.declared.code.Code.{Code}
use Rattle.item_tree.specs.declared.code.Code.TheVariants.{FOAR0001}
use Rattle.item_tree.specs.declared.item.Item.{Item}
use Rattle.item_tree.specs.Datum.{Datum}
use Rattle.item_tree.specs.Item.{datum}
use Rattle.item_tree.specs.Truth.{is_not_zero}
use Rattle.num_fixed.specs.Rounding.{units_of}
use Rattle.num_fixed.specs.Values.{near_unit, product}
use Rattle.num_fixed.specs.declared.number.Kind.{Kind}
use Rattle.num_fixed.specs.declared.number.Kind.TheVariants.{Whole, Units}
use Rattle.num_fixed.specs.declared.number.Number.{Number}
use Rattle.num_fixed.specs.declared.number.Number.TheVariants.{Int, Dec}
use Rattle.atom_ops.specs.declared.arithmetic.Arith.{Arith}
use Rattle.atom_ops.specs.declared.arithmetic.Arith.TheVariants.{Add, Sub, Mul, Div, Idiv, Mod}
use Rattle.value_rules.specs.Operands.{and_then, one_number}
use Rattle.value_rules.specs.Results.{number_of, number_datum, bounded}

-- what there is for a divisor that is not zero
abbrev pub divided_by : ℤ → Result Number Code → Result Number Code
divided_by b r = if is_not_zero b then r else Err FOAR0001

-- of two numbers of one kind; a quotient is the same whichever kind both are of
abbrev pub calculation : Arith → Kind → ℤ → ℤ → Result Number Code
calculation Add kind a b = bounded kind (a +ℤ b)
calculation Sub kind a b = bounded kind (a -ℤ b)
calculation Mul kind a b = bounded kind (product kind a b)
calculation Div kind a b = divided_by b (bounded Units (near_unit a b))
calculation Idiv kind a b = divided_by b (bounded Whole (int_div a b))
calculation Mod kind a b = divided_by b (Ok (number_of kind (int_rem a b)))

-- two integers are taken as they are, and else both as decimals
abbrev pub calculated : Arith → Number → Number → Result Number Code
calculated op (Int a) (Int b) = calculation op Whole a b
calculated op (Int a) (Dec b) = calculation op Units (units_of a) b
calculated op (Dec a) (Int b) = calculation op Units a (units_of b)
calculated op (Dec a) (Dec b) = calculation op Units a b

abbrev pub some_datum : Result Number Code → Result (Option Datum) Code
some_datum (Ok x) = Ok (Some (number_datum x))
some_datum (Err e) = Err e

-- of two numbers; nothing where an operand is empty, whatever the other one is
abbrev pub arithmetic : Arith → List Datum → List Datum → Result (Option Datum) Code
arithmetic op [] ws = Ok None
arithmetic op (v ∷ vs) [] = Ok None
arithmetic op (v ∷ vs) (w ∷ ws) =
    and_then (one_number (v ∷ vs)) (λ x.
    and_then (one_number (w ∷ ws)) (λ y. some_datum (calculated op x y)))

abbrev pub negated : Number → Number
negated (Int n) = Int (neg_ℤ n)
negated (Dec m) = Dec (neg_ℤ m)

-- the number with the other sign; nothing where the operand is empty
abbrev pub negation : List Datum → Result (Option Datum) Code
negation [] = Ok None
negation (v ∷ vs) = and_then (one_number (v ∷ vs)) (λ x. some_datum (Ok (negated x)))

-- the value of the item that a call gives, if it gives one
abbrev pub value_given : Result (Option Item) Code → Result (Option Datum) Code
value_given (Ok x) = Ok (option_map datum x)
value_given (Err e) = Err e
