-- The texts of atomics other than strings are ASCII, so their bytes are their characters.
use Rattle.std.proofs.Common.{◌≡◌, ℕ, zero, suc, ◌+◌, ◌/◌, ◌%◌, ◌^◌, ◌<◌, ◌==◌, Bool, true, false, if◌then◌else◌, List, [], ◌∷◌, drop, refl, arith, ℤ, pos, negsuc}
use Rattle.std.specs.Prelude.{codes}
use Rattle.std.specs.Fmt.{decimal}
use Rattle.std.specs.List.{list_all}
use Rattle.std.specs.Str.{IsAscii, chars}
use Rattle.std.proofs.lemmas.Fmt.{IsAscii-decimal, IsAscii-decimal_wide}
use Rattle.std.proofs.lemmas.Int.{ints}
use Rattle.std.proofs.lemmas.Str.{IsAscii-append, IsAscii-drop}
use Rattle.std.proofs.lemmas.Str.Ascii.{IsAscii-nil, IsAscii-cons}
use Rattle.item_tree.specs.Datum.{IsUnits}
use Rattle.item_tree.specs.Digits.{last_digits}
use Rattle.item_tree.specs.ItemText.{without_last_zeros, fraction_text, units_text, decimal_text, boolean_text}

pub last_zeros_ascii : (ds : List ℕ) → IsAscii ds → IsAscii (without_last_zeros ds)
last_zeros_ascii [] h = IsAscii-nil
last_zeros_ascii (d ∷ ds) h = by (list_all (λ e. e == 48) (d ∷ ds)) (IsAscii-cons d (without_last_zeros ds) (h 0) (last_zeros_ascii ds (λ i. h (suc i))))
  where
    by : (b : Bool) → IsAscii (d ∷ without_last_zeros ds) → IsAscii (if b then [] else d ∷ without_last_zeros ds)
    by true k = IsAscii-nil
    by false k = k

pub digits_ascii : (count n : ℕ) → IsAscii (last_digits count n)
digits_ascii zero n = IsAscii-nil
digits_ascii (suc count) n =
    IsAscii-append (last_digits count (n / 10)) ((48 + n % 10) ∷ []) (digits_ascii count (n / 10)) (IsAscii-cons (48 + n % 10) [] (omega arith) IsAscii-nil)

fraction_ascii : (units : ℕ) → units < 1000000 → IsAscii (fraction_text units)
fraction_ascii units l = by (units == 0) (IsAscii-cons 46 _ (omega arith) (last_zeros_ascii _ (IsAscii-drop (decimal (1000000 + units)) 1 (IsAscii-decimal (1000000 + units) (omega arith)))))
  where
    by : (b : Bool) → IsAscii (46 ∷ without_last_zeros (drop 1 (decimal (1000000 + units)))) → IsAscii (if b then [] else 46 ∷ without_last_zeros (drop 1 (decimal (1000000 + units))))
    by true k = IsAscii-nil
    by false k = k

units_ascii : (units : ℕ) → units < 10 ^ 26 → IsAscii (units_text units)
units_ascii units l = IsAscii-append (decimal (units / 1000000)) (fraction_text (units % 1000000)) (IsAscii-decimal_wide (units / 1000000) (omega arith)) (fraction_ascii (units % 1000000) (omega arith))

pub decimal_ascii : (m : ℤ) → IsUnits m → IsAscii (decimal_text m)
decimal_ascii (pos units) h = units_ascii units (omega (arith, ints))
decimal_ascii (negsuc units) h = IsAscii-cons 45 (units_text (suc units)) (omega arith) (units_ascii (suc units) (omega (arith, ints)))

pub chars_null : chars (codes "null") ≡ codes "null"
unfolding chars
chars_null = refl

chars_true : chars (codes "true") ≡ codes "true"
unfolding chars
chars_true = refl

chars_false : chars (codes "false") ≡ codes "false"
unfolding chars
chars_false = refl

pub chars_boolean : (b : Bool) → chars (boolean_text b) ≡ boolean_text b
chars_boolean true = chars_true
chars_boolean false = chars_false
