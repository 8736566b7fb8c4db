-- What the laws say.
use Rattle.std.specs.Prelude.{◌≡◌, ℕ, Bool, true, false, List, [], None}
use Rattle.num_fixed.specs.Numeral.{Numeral, IsNumeral}

-- without an exponent, and without a point where there may be none
abbrev pub IsPlain : Bool → Numeral → Type 0
IsPlain true n = n.exp ≡ None
IsPlain false n = (n.exp ≡ None) × (n.frac ≡ None)

-- the whole text is such a numeral
abbrev pub IsPlainText : Bool → List ℕ → Numeral → Type 0
IsPlainText point l n = IsNumeral n l [] × IsPlain point n
