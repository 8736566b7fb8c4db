-- How the text of a number is taken apart from its front on.
use Rattle.std.specs.Prelude.{ℕ, Bool, true, false, ◌||◌, ◌&&◌, ◌==◌, nat_lt, if◌then◌else◌, List, [], ◌∷◌, length, drop}
use Rattle.std.specs.Char.{is_ascii_digit}
use Rattle.std.specs.List.{list_all, prefix_len}

abbrev pub minus_at : List ℕ → Bool
minus_at [] = false
minus_at (b ∷ l) = b == 45

abbrev pub behind_sign : List ℕ → List ℕ
behind_sign [] = []
behind_sign (b ∷ l) = if b == 45 || b == 43 then l else b ∷ l

abbrev pub digits_len : List ℕ → ℕ
digits_len l = prefix_len is_ascii_digit l

-- the exponent's sign and digits are what stands behind its letter
abbrev pub exp_minus_at : List ℕ → Bool
exp_minus_at [] = false
exp_minus_at (b ∷ l) = minus_at l

abbrev pub exp_digits_at : List ℕ → List ℕ
exp_digits_at [] = []
exp_digits_at (b ∷ l) = behind_sign l

-- ---- whether a text is a number

abbrev pub only_digits : List ℕ → Bool
only_digits l = nat_lt 0 (length l) && list_all is_ascii_digit l

abbrev pub only_exp : List ℕ → Bool
only_exp [] = true
only_exp (b ∷ l) = (b == 101 || b == 69) && only_digits (behind_sign l)

-- what may stand behind the digits before the point, where these are some
abbrev pub ends_well : Bool → List ℕ → Bool
ends_well some [] = some
ends_well some (b ∷ l) =
    if b == 46 then (some || nat_lt 0 (digits_len l)) && only_exp (drop (digits_len l) l)
    else some && only_exp (b ∷ l)

abbrev pub number_at : List ℕ → Bool
number_at l =
    let u = behind_sign l in ends_well (nat_lt 0 (digits_len u)) (drop (digits_len u) u)
