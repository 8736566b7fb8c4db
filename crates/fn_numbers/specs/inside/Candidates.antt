-- What is kept of a list of which the least or the greatest item is wanted.
use Rattle.std.specs.Prelude.{◌≡◌, Bool, true, false, List, Option}
use Rattle.item_tree.specs.Datum.{Datum}
use Rattle.value_rules.specs.Numbers as numbers
use Rattle.value_rules.specs.Numbers.{is_less, is_greater, kin, best}
use Rattle.fn_numbers.specs.declared.candidates.Extreme.{Extreme}
use Rattle.fn_numbers.specs.declared.candidates.Extreme.TheVariants.{Least, Greatest}
use Rattle.fn_numbers.specs.declared.kinds.Kin.{Kin}
use Rattle.fn_numbers.specs.declared.kinds.Kin.TheVariants.{Unbound, Of, Mixed}

abbrev pub kin_value : Kin → numbers.Kin
kin_value Unbound = numbers.unbound
kin_value (Of c) = numbers.of_class c
kin_value Mixed = numbers.mixed

abbrev pub is_mixed : numbers.Kin → Bool
is_mixed numbers.unbound = false
is_mixed (numbers.of_class c) = false
is_mixed numbers.mixed = true

abbrev pub goes_before : Extreme → Datum → Datum → Bool
goes_before Least v w = is_less v w
goes_before Greatest v w = is_greater v w

-- this kind, and where it is no mixed one this item, is that of the list
abbrev pub Keeps
    : (Datum → Datum → Bool) → numbers.Kin → Option Datum → List Datum → Type 0
Keeps before k found vs = (k ≡ kin vs) × (is_mixed k ≡ false → found ≡ best before vs)
