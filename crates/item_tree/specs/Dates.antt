-- Dates and date-times, and their texts.
-- The calendar is the Gregorian one, also for the years before it was in use. A date-time is in
-- UTC.
use Rattle.std.specs.Prelude.{ℕ, zero, suc, ◌+◌, ◌-◌, ◌*◌, ◌/◌, ◌%◌, ◌^◌, ◌<◌, ℤ, pos, ◌-ℤ◌, Bool, not, ◌&&◌, ◌||◌, ◌==◌, if◌then◌else◌, List, [], ◌∷◌, ◌++◌}
use Rattle.std.specs.Int.{IsInRange}
use Rattle.std.specs.Ordering.{nat_cmp, on, then_cmp}
use Rattle.std.specs.declared.cmp.Ordering.{Ordering}
use Rattle.item_tree.specs.Digits.{last_digits, without_last_zeros}

-- a year, a month and a day
pub record Date : Type 0 where
  pub year : ℕ
  pub month : ℕ
  pub day : ℕ

-- a date, and the nanoseconds since its midnight
pub record DateTime : Type 0 where
  pub date : Date
  pub nanos : ℕ

-- every fourth year, but of the centuries only every fourth
abbrev pub is_leap_year : ℕ → Bool
is_leap_year y = (y % 4 == 0) && (not (y % 100 == 0) || (y % 400 == 0))

-- thirty days have September, April, June and November
abbrev pub days_in_month : ℕ → ℕ → ℕ
days_in_month y m =
    if m == 2 then (if is_leap_year y then 29 else 28)
    else if (m == 4) || (m == 6) || (m == 9) || (m == 11) then 30 else 31

-- the calendar has this date
abbrev pub IsDate : Date → Type 0
IsDate d =
    IsInRange 1 9999 d.year × IsInRange 1 12 d.month
    × IsInRange 1 (days_in_month d.year d.month) d.day

-- a day has 86,400 seconds
abbrev pub nanos_of_day : ℕ
nanos_of_day = 86400 * 10 ^ 9

abbrev pub IsDateTime : DateTime → Type 0
IsDateTime t = IsDate t.date × (t.nanos < nanos_of_day)

-- by year, then by month, then by day
abbrev pub date_cmp : Date → Date → Ordering
date_cmp =
    then_cmp (on (λ d. d.year) nat_cmp)
    (then_cmp (on (λ d. d.month) nat_cmp) (on (λ d. d.day) nat_cmp))

-- by date, and on one date by the time of day
abbrev pub date_time_cmp : DateTime → DateTime → Ordering
date_time_cmp = then_cmp (on (λ t. t.date) date_cmp) (on (λ t. t.nanos) nat_cmp)

abbrev pub days_in_year : ℕ → ℕ
days_in_year y = if is_leap_year y then 366 else 365

-- the days of the years from 1 to n
unfoldable pub days_of_years : ℕ → ℕ
days_of_years zero = 0
days_of_years (suc n) = days_of_years n + days_in_year (suc n)

-- the days of the first n months of the year
unfoldable pub days_of_months : ℕ → ℕ → ℕ
days_of_months y zero = 0
days_of_months y (suc n) = days_of_months y n + days_in_month y (suc n)

-- the place of a date among all dates: 1 for the first of January of the year 1
unfoldable pub day_count : Date → ℕ
day_count d = days_of_years (d.year - 1) + days_of_months d.year (d.month - 1) + d.day

abbrev pub first_of_1970 : Date
first_of_1970 = record { year = 1970; month = 1; day = 1 }

-- a date's day number: 0 for 1970-01-01, and less than 0 before it
unfoldable pub day_number : Date → ℤ
day_number d = pos (day_count d) -ℤ pos (day_count first_of_1970)

-- YYYY-MM-DD
abbrev pub date_text : Date → List ℕ
date_text d = last_digits 4 d.year ++ 45 ∷ last_digits 2 d.month ++ 45 ∷ last_digits 2 d.day

-- HH:MM:SS, of so many seconds since midnight
abbrev pub clock_text : ℕ → List ℕ
clock_text s =
    last_digits 2 (s / 3600) ++ 58 ∷ last_digits 2 (s / 60 % 60) ++ 58 ∷ last_digits 2 (s % 60)

-- a point and the fraction of a second, in nanoseconds, without zeros at its end; nothing for 0
abbrev pub nanos_text : ℕ → List ℕ
nanos_text n = if n == 0 then [] else 46 ∷ without_last_zeros (last_digits 9 n)

-- the date, `T`, the time of day, and `Z`
abbrev pub date_time_text : DateTime → List ℕ
date_time_text t =
    date_text t.date ++ 84 ∷ clock_text (t.nanos / 10 ^ 9)
    ++ nanos_text (t.nanos % 10 ^ 9) ++ 90 ∷ []
