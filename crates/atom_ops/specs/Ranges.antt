-- The integers from one operand to another.
use Rattle.std.specs.Prelude.{ℕ, zero, suc, ◌+◌, nat_lt, ℤ, pos, ◌+ℤ◌, ◌-ℤ◌, int_lt, unsigned_abs, if◌then◌else◌, List, [], ◌∷◌, Result, Ok, Err}
use Rattle.item_tree.specs.declared.code.Code.{Code}
use Rattle.item_tree.specs.declared.code.Code.TheVariants.{PJDY0003}
use Rattle.item_tree.specs.Datum.{Datum, integer}
use Rattle.value_rules.specs.Operands.{and_then, one_integer}

-- so many integers from n on
abbrev pub counted : ℤ → ℕ → List Datum
counted n zero = []
counted n (suc count) = integer n ∷ counted (n +ℤ pos 1) count

-- those from a to b are too many beyond ten million
abbrev pub counted_to : ℤ → ℕ → Result (List Datum) Code
counted_to a count = if nat_lt 10000000 count then Err PJDY0003 else Ok (counted a count)

-- none where a is greater
abbrev pub between : ℤ → ℤ → Result (List Datum) Code
between a b = if int_lt b a then Ok [] else counted_to a (unsigned_abs (b -ℤ a) + 1)

-- none where an operand is empty, whatever the other one is
abbrev pub range_values : List Datum → List Datum → Result (List Datum) Code
range_values [] ws = Ok []
range_values (v ∷ vs) [] = Ok []
range_values (v ∷ vs) (w ∷ ws) =
    and_then (one_integer (v ∷ vs)) (λ a.
    and_then (one_integer (w ∷ ws)) (λ b. between a b))
