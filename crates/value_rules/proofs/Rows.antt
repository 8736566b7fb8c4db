-- Rows of the functions on numbers, which compute.
use Rattle.std.proofs.Common.{◌≡◌, pos, negsuc, [], ◌∷◌, Ok, Err, refl}
use Rattle.std.specs.Prelude.{codes}
use Rattle.item_tree.specs.declared.code.Code.TheVariants.{FOAR0002, FORG0006, JNTY0004, XPTY0004}
use Rattle.item_tree.specs.Datum.{null, integer, decimal, text, array_of_list}
use Rattle.value_rules.specs.Numbers.{abs_values, floor_values, ceiling_values, round_values, round_half_to_even_values, sum_values, avg_values, min_values, max_values}
use Rattle.value_rules.specs.Sequences.{count}
use Rattle.num_fixed.specs.Values.{near, near_natural}

sums_are_exact : sum_values (integer (pos 99999999999999999999) ∷ integer (pos 1) ∷ integer (negsuc 0) ∷ []) ≡ Ok (integer (pos 99999999999999999999) ∷ [])
sums_are_exact = refl

sums_have_bounds : sum_values (integer (pos 99999999999999999999) ∷ integer (pos 1) ∷ []) ≡ Err FOAR0002
sums_have_bounds = refl

one_decimal_makes_a_decimal : sum_values (integer (pos 1) ∷ decimal (pos 2000000) ∷ []) ≡ Ok (decimal (pos 3000000) ∷ [])
one_decimal_makes_a_decimal = refl

a_string_is_no_addend : sum_values (text (codes "a") ∷ []) ≡ Err FORG0006
a_string_is_no_addend = refl

mean_of_two : avg_values (integer (pos 1) ∷ decimal (pos 2500000) ∷ []) ≡ Ok (decimal (pos 1750000) ∷ [])
unfolding near near_natural
mean_of_two = refl

half_up : round_values (decimal (negsuc 2499999) ∷ []) ≡ Ok (decimal (negsuc 1999999) ∷ [])
half_up = refl

half_to_even : round_half_to_even_values (decimal (pos 3500000) ∷ []) ≡ Ok (decimal (pos 4000000) ∷ [])
unfolding near near_natural
half_to_even = refl

down : floor_values (decimal (negsuc 2499999) ∷ []) ≡ Ok (decimal (negsuc 2999999) ∷ [])
down = refl

up : ceiling_values (decimal (pos 99999999999999999999000001) ∷ []) ≡ Err FOAR0002
up = refl

no_sign : abs_values (integer (negsuc 6) ∷ []) ≡ Ok (integer (pos 7) ∷ [])
no_sign = refl

two_numbers : abs_values (integer (negsuc 6) ∷ integer (negsuc 6) ∷ []) ≡ Err XPTY0004
two_numbers = refl

an_array : floor_values (array_of_list [] ∷ []) ≡ Err JNTY0004
an_array = refl

first_of_equals : min_values (integer (pos 2) ∷ integer (pos 1) ∷ decimal (pos 1000000) ∷ []) ≡ Ok (integer (pos 1) ∷ [])
first_of_equals = refl

null_goes_with_all : max_values (null ∷ text (codes "a") ∷ text (codes "b") ∷ []) ≡ Ok (text (codes "b") ∷ [])
null_goes_with_all = refl

two_classes : min_values (null ∷ integer (pos 1) ∷ text (codes "a") ∷ []) ≡ Err FORG0006
two_classes = refl

counted : count (null ∷ null ∷ []) ≡ Ok (integer (pos 2) ∷ [])
counted = refl
