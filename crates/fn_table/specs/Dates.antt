-- The functions on dates, each under its name in the language.
use Rattle.std.specs.Prelude.{ℕ, zero, suc, ℤ, pos, negsuc, ◌-ℤ◌, List, [], ◌∷◌, Option, Some, None, option_and_then, Result, Ok, Err}
use Rattle.item_tree.specs.declared.code.Code.{Code}
use Rattle.item_tree.specs.declared.code.Code.TheVariants.{XPTY0004, JNTY0004, FOAR0002}
use Rattle.item_tree.specs.Dates.{Date, day_number}
use Rattle.item_tree.specs.Datum.{Datum, integer, date, array, object}
use Rattle.date_atoms.specs.Values.{day_after, day_before}
use Rattle.value_rules.specs.Operands.{and_then, one_integer}

abbrev pub date_of : Datum → Result Date Code
date_of (date d) = Ok d
date_of (array vs) = Err JNTY0004
date_of (object ms) = Err JNTY0004
date_of _ = Err XPTY0004

-- an empty sequence, or one date
abbrev pub optional_date : List Datum → Result (Option Date) Code
optional_date [] = Ok None
optional_date (v ∷ []) = and_then (date_of v) (λ d. Ok (Some d))
optional_date (v ∷ w ∷ vs) = Err XPTY0004

-- a number of a date; nothing where there is no date
abbrev pub part_of : (Date → ℕ) → Option Date → List Datum
part_of part None = []
part_of part (Some d) = integer (pos (part d)) ∷ []

abbrev pub year_from_date : List Datum → Result (List Datum) Code
year_from_date vs = and_then (optional_date vs) (λ o. Ok (part_of (λ d. d.year) o))

abbrev pub month_from_date : List Datum → Result (List Datum) Code
month_from_date vs = and_then (optional_date vs) (λ o. Ok (part_of (λ d. d.month) o))

abbrev pub day_from_date : List Datum → Result (List Datum) Code
day_from_date vs = and_then (optional_date vs) (λ o. Ok (part_of (λ d. d.day) o))

-- the day after, so many times, and the day before
unfoldable pub days_after : ℕ → Date → Option Date
days_after zero d = Some d
days_after (suc n) d = option_and_then (days_after n) (day_after d)

unfoldable pub days_before : ℕ → Date → Option Date
days_before zero d = Some d
days_before (suc n) d = option_and_then (days_before n) (day_before d)

-- the date so many days later, or earlier for a number below 0; none where there is no such date
abbrev pub days_later : Date → ℤ → Option Date
days_later d (pos n) = days_after n d
days_later d (negsuc n) = days_before (suc n) d

abbrev pub date_or_over : Option Date → Result (List Datum) Code
date_or_over None = Err FOAR0002
date_or_over (Some d) = Ok (date d ∷ [])

abbrev pub sum_of : Option Date → ℤ → Result (List Datum) Code
sum_of None days = Ok []
sum_of (Some d) days = date_or_over (days_later d days)

-- all arguments are checked before an empty date counts
abbrev pub add_days : List Datum → List Datum → Result (List Datum) Code
add_days vs ws =
    and_then (optional_date vs) (λ o. and_then (one_integer ws) (λ days. sum_of o days))

-- from the first date to the second; nothing where one is not there
abbrev pub distance : Option Date → Option Date → List Datum
distance None o = []
distance (Some d) None = []
distance (Some d) (Some e) = integer (day_number e -ℤ day_number d) ∷ []

abbrev pub days_between : List Datum → List Datum → Result (List Datum) Code
days_between vs ws =
    and_then (optional_date vs) (λ o. and_then (optional_date ws) (λ p. Ok (distance o p)))
