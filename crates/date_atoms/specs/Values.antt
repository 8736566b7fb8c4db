-- What a text says, as functions that compute. The law `texts_compute` says that they give what the
-- relations of `Texts` hold of.
use Rattle.std.specs.Prelude.{ℕ, suc, ◌+◌, ◌-◌, ◌*◌, ◌^◌, ◌==◌, nat_lt, nat_le, ℤ, pos, negsuc, ◌-ℤ◌, ◌*ℤ◌, Bool, true, ◌&&◌, if◌then◌else◌, List, [], ◌∷◌, length, take, drop, Option, Some, None}
use Rattle.std.specs.List.{prefix_len}
use Rattle.std.specs.Str.{bytes_eq}
use Rattle.item_tree.specs.Dates.{Date, DateTime, days_in_month, nanos_of_day, date_text}
use Rattle.date_atoms.specs.Texts.{Fraction, no_fraction, fraction, Offset, no_offset, utc, ahead, behind, offset_minutes, Said, said_text, shown_nanos}
use Rattle.date_atoms.specs.inside.Fronts.{is_fraction_byte}

-- the number n and these digits behind it
abbrev pub number_from : ℕ → List ℕ → ℕ
number_from n [] = n
number_from n (b ∷ l) = number_from (n * 10 + (b - 48)) l

abbrev pub in_range : ℕ → ℕ → ℕ → Bool
in_range low high n = nat_le low n && nat_le n high

-- ---- dates

-- whether the calendar has this date
abbrev pub is_date : Date → Bool
is_date d =
    in_range 1 9999 d.year && in_range 1 12 d.month
    && in_range 1 (days_in_month d.year d.month) d.day

-- the numbers at the places of a date's
abbrev pub date_at : List ℕ → Date
date_at t = record {
  year = number_from 0 (take 4 t);
  month = number_from 0 (take 2 (drop 5 t));
  day = number_from 0 (take 2 (drop 8 t));
}

-- the date that a text says
abbrev pub said_date : List ℕ → Option Date
said_date t =
    let d = date_at t in if is_date d && bytes_eq t (date_text d) then Some d else None

-- the day after; none after the last date
abbrev pub day_after : Date → Option Date
day_after d =
    if nat_lt d.day (days_in_month d.year d.month)
    then Some (record { year = d.year; month = d.month; day = d.day + 1 }) else
    if nat_lt d.month 12 then Some (record { year = d.year; month = d.month + 1; day = 1 }) else
    if nat_lt d.year 9999 then Some (record { year = d.year + 1; month = 1; day = 1 }) else None

-- the last day of a month
abbrev pub month_end : ℕ → ℕ → Date
month_end year month = record { year = year; month = month; day = days_in_month year month }

-- the day before; none before the first date
abbrev pub day_before : Date → Option Date
day_before d =
    if nat_lt 1 d.day then Some (record { year = d.year; month = d.month; day = d.day - 1 }) else
    if nat_lt 1 d.month then Some (month_end d.year (d.month - 1)) else
    if nat_lt 1 d.year then Some (month_end (d.year - 1) 12) else None

-- ---- moments

abbrev pub is_fraction : Fraction → Bool
is_fraction no_fraction = true
is_fraction (fraction count n) = in_range 1 9 count && nat_lt n (10 ^ count)

abbrev pub is_offset : Offset → Bool
is_offset no_offset = true
is_offset utc = true
is_offset (ahead m) = nat_lt m 1440
is_offset (behind m) = nat_lt m 1440

abbrev pub is_said : Said → Bool
is_said s =
    is_date s.date && nat_lt s.clock 86400 && is_fraction s.fraction && is_offset s.offset

abbrev pub minutes_at : List ℕ → ℕ
minutes_at l = number_from 0 (take 2 l) * 60 + number_from 0 (take 2 (drop 3 l))

abbrev pub fraction_at : List ℕ → Fraction
fraction_at [] = no_fraction
fraction_at (b ∷ l) = fraction (length l) (number_from 0 l)

abbrev pub offset_at : List ℕ → Offset
offset_at [] = no_offset
offset_at (b ∷ l) =
    if b == 90 then utc else if b == 43 then ahead (minutes_at l) else behind (minutes_at l)

-- seconds since midnight
abbrev pub clock_at : List ℕ → ℕ
clock_at l =
    number_from 0 (take 2 l) * 3600 + number_from 0 (take 2 (drop 3 l)) * 60
    + number_from 0 (take 2 (drop 6 l))

-- what stands at the places of a date-time's parts
abbrev pub said_at : List ℕ → Said
said_at t = record {
  date = date_at (take 10 t);
  clock = clock_at (drop 11 t);
  fraction = fraction_at (take (prefix_len is_fraction_byte (drop 19 t)) (drop 19 t));
  offset = offset_at (drop (prefix_len is_fraction_byte (drop 19 t)) (drop 19 t));
}

abbrev pub at_nanos : ℕ → Option Date → Option DateTime
at_nanos n None = None
at_nanos n (Some d) = Some (record { date = d; nanos = n })

-- the moment so many nanoseconds after a date's midnight, less than two days, or before it, not
-- more than one day
abbrev pub moment_since : Date → ℤ → Option DateTime
moment_since d (pos n) =
    if nat_lt n nanos_of_day then at_nanos n (Some d)
    else at_nanos (n - nanos_of_day) (day_after d)
moment_since d (negsuc n) = at_nanos (nanos_of_day - suc n) (day_before d)

-- the nanoseconds from the date's midnight in UTC to what is said
abbrev pub nanos_at : Said → ℤ
nanos_at s = pos (shown_nanos s) -ℤ offset_minutes s.offset *ℤ pos (60 * 10 ^ 9)

-- the moment that a text says
abbrev pub said_moment : List ℕ → Option DateTime
said_moment t =
    let s = said_at t in
    if is_said s && bytes_eq t (said_text s) then moment_since s.date (nanos_at s) else None
