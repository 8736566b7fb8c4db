-- Dates in the calendar, their numbers and their texts, row by row.
use Rattle.std.proofs.Common.{◌≡◌, ◌+◌, ◌*◌, ◌^◌, ℕ, true, false, pos, negsuc, refl}
use Rattle.std.specs.Prelude.{codes}
use Rattle.item_tree.specs.Dates.{Date, is_leap_year, days_in_month, days_of_years, days_of_months, day_count, day_number, date_text, date_time_text}

abbrev date_of : ℕ → ℕ → ℕ → Date
date_of y m d = record { year = y; month = m; day = d }

leap_2000 : is_leap_year 2000 ≡ true
leap_2000 = refl

leap_1900 : is_leap_year 1900 ≡ false
leap_1900 = refl

leap_2024 : is_leap_year 2024 ≡ true
leap_2024 = refl

leap_2023 : is_leap_year 2023 ≡ false
leap_2023 = refl

february_2000 : days_in_month 2000 2 ≡ 29
february_2000 = refl

february_1900 : days_in_month 1900 2 ≡ 28
february_1900 = refl

number_1970 : day_number (date_of 1970 1 1) ≡ pos 0
unfolding day_number day_count days_of_years days_of_months
number_1970 = refl

number_before : day_number (date_of 1969 12 31) ≡ negsuc 0
unfolding day_number day_count days_of_years days_of_months
number_before = refl

number_2000 : day_number (date_of 2000 2 29) ≡ pos 11016
unfolding day_number day_count days_of_years days_of_months
number_2000 = refl

number-first : day_number (date_of 1 1 1) ≡ negsuc 719161
unfolding day_number day_count days_of_years days_of_months
number-first = refl

text_of_date : date_text (date_of 612 10 9) ≡ codes "0612-10-09"
text_of_date = refl

text_of_second : date_time_text (record { date = date_of 1970 1 1; nanos = 10 ^ 9 }) ≡ codes "1970-01-01T00:00:01Z"
text_of_second = refl

text_of_fraction : date_time_text (record { date = date_of 2024 4 30; nanos = 84600 * 10 ^ 9 + 5 * 10 ^ 8 }) ≡ codes "2024-04-30T23:30:00.5Z"
text_of_fraction = refl
