-- Texts, and the date or the moment that they say, row by row.
use Rattle.std.proofs.Common.{◌+◌, ◌*◌, ◌^◌, ℕ, refl, arith}
use Rattle.std.specs.Prelude.{codes}
use Rattle.item_tree.specs.Dates.{Date, DateTime, days_of_years, days_of_months, day_count, day_number}
use Rattle.date_atoms.specs.Texts.{IsDateText, no_fraction, fraction, no_offset, ahead, behind, IsDateTimeText}

abbrev date_of : ℕ → ℕ → ℕ → Date
date_of y m d = record { year = y; month = m; day = d }

abbrev moment_of : Date → ℕ → DateTime
moment_of d n = record { date = d; nanos = n }

leap_day : IsDateText (date_of 2024 2 29) (codes "2024-02-29")
leap_day = (((omega arith, omega arith), (omega arith, omega arith), (omega arith, omega arith)), refl)

-- two hours ahead of UTC, half a second after half past one
over_midnight : IsDateTimeText (moment_of (date_of 2024 4 30) (84600 * 10 ^ 9 + 5 * 10 ^ 8)) (codes "2024-05-01T01:30:00.50+02:00")
unfolding day_number day_count days_of_years days_of_months
over_midnight = (
  record { date = date_of 2024 5 1; clock = 5400; fraction = fraction 2 50; offset = ahead 120 },
  (((omega arith, omega arith), (omega arith, omega arith), (omega arith, omega arith)), omega arith, ((omega arith, omega arith), omega arith), omega arith),
  refl,
  ((((omega arith, omega arith), (omega arith, omega arith), (omega arith, omega arith)), omega arith), refl),
)

-- a minute behind UTC, a second before the year ends
over_new_year : IsDateTimeText (moment_of (date_of 1970 1 1) (59 * 10 ^ 9)) (codes "1969-12-31T23:59:59-00:01")
unfolding day_number day_count days_of_years days_of_months
over_new_year = (
  record { date = date_of 1969 12 31; clock = 86399; fraction = no_fraction; offset = behind 1 },
  (((omega arith, omega arith), (omega arith, omega arith), (omega arith, omega arith)), omega arith, tt, omega arith),
  refl,
  ((((omega arith, omega arith), (omega arith, omega arith), (omega arith, omega arith)), omega arith), refl),
)

-- no offset means UTC
no_offset_is_utc : IsDateTimeText (moment_of (date_of 2024 5 1) (43200 * 10 ^ 9)) (codes "2024-05-01T12:00:00")
unfolding day_number day_count days_of_years days_of_months
no_offset_is_utc = (
  record { date = date_of 2024 5 1; clock = 43200; fraction = no_fraction; offset = no_offset },
  (((omega arith, omega arith), (omega arith, omega arith), (omega arith, omega arith)), omega arith, tt, tt),
  refl,
  ((((omega arith, omega arith), (omega arith, omega arith), (omega arith, omega arith)), omega arith), refl),
)
