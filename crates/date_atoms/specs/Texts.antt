-- Which texts say a date or a date-time. They are written in ISO 8601's extended format, by the
-- productions of RFC 3339, section 5.6: full-date; and full-date, `T`, partial-time and
-- time-offset. Other than there the offset may be left out, which means UTC; a fraction has nine
-- digits at most; no second is 60; letters are capitals; and the year 0 is none.
use Rattle.std.specs.Prelude.{◌≡◌, ℕ, ◌+◌, ◌-◌, ◌*◌, ◌/◌, ◌%◌, ◌^◌, ◌<◌, ℤ, pos, ◌+ℤ◌, ◌-ℤ◌, ◌*ℤ◌, List, [], ◌∷◌, ◌++◌}
use Rattle.std.specs.Int.{IsInRange}
use Rattle.item_tree.specs.Digits.{last_digits}
use Rattle.item_tree.specs.Dates.{Date, DateTime, IsDate, IsDateTime, day_number, nanos_of_day, date_text, clock_text}

-- full-date: YYYY-MM-DD, a date that the calendar has
abbrev pub IsDateText : Date → List ℕ → Type 0
IsDateText d t = IsDate d × (t ≡ date_text d)

-- time-secfrac, if there is one: so many digits, which are those of a number
pub data Fraction : Type 0 where
  no_fraction : Fraction
  fraction : ℕ → ℕ → Fraction

abbrev pub IsFraction : Fraction → Type 0
IsFraction no_fraction = Unit {0}
IsFraction (fraction count n) = IsInRange 1 9 count × (n < 10 ^ count)

-- a point and the digits
abbrev pub fraction_text : Fraction → List ℕ
fraction_text no_fraction = []
fraction_text (fraction count n) = 46 ∷ last_digits count n

-- in nanoseconds
abbrev pub fraction_nanos : Fraction → ℕ
fraction_nanos no_fraction = 0
fraction_nanos (fraction count n) = n * 10 ^ (9 - count)

-- time-offset, if there is one: `Z`, or so many minutes ahead of UTC or behind it
pub data Offset : Type 0 where
  no_offset : Offset
  utc : Offset
  ahead : ℕ → Offset
  behind : ℕ → Offset

-- to 23:59
abbrev pub IsOffset : Offset → Type 0
IsOffset no_offset = Unit {0}
IsOffset utc = Unit {0}
IsOffset (ahead m) = m < 1440
IsOffset (behind m) = m < 1440

-- HH:MM, of so many minutes
abbrev pub minutes_text : ℕ → List ℕ
minutes_text m = last_digits 2 (m / 60) ++ 58 ∷ last_digits 2 (m % 60)

-- nothing, `Z`, `+HH:MM` or `-HH:MM`
abbrev pub offset_text : Offset → List ℕ
offset_text no_offset = []
offset_text utc = 90 ∷ []
offset_text (ahead m) = 43 ∷ minutes_text m
offset_text (behind m) = 45 ∷ minutes_text m

-- how many minutes its clock is ahead of UTC
abbrev pub offset_minutes : Offset → ℤ
offset_minutes no_offset = pos 0
offset_minutes utc = pos 0
offset_minutes (ahead m) = pos m
offset_minutes (behind m) = pos 0 -ℤ pos m

-- a date, the seconds since its midnight, the fraction of a second, and the offset
pub record Said : Type 0 where
  pub date : Date
  pub clock : ℕ
  pub fraction : Fraction
  pub offset : Offset

-- to 23:59:59
abbrev pub IsSaid : Said → Type 0
IsSaid s = IsDate s.date × (s.clock < 86400) × IsFraction s.fraction × IsOffset s.offset

-- the date, `T`, HH:MM:SS, the fraction and the offset
abbrev pub said_text : Said → List ℕ
said_text s =
    date_text s.date ++ 84 ∷ clock_text s.clock ++ fraction_text s.fraction
    ++ offset_text s.offset

-- so many nanoseconds after the midnight with which a date begins, as nanoseconds since 1970-01-01
abbrev pub nanos_since : Date → ℤ → ℤ
nanos_since d n = day_number d *ℤ pos nanos_of_day +ℤ n

-- what the clock shows, as nanoseconds since its midnight
abbrev pub shown_nanos : Said → ℕ
shown_nanos s = s.clock * 10 ^ 9 + fraction_nanos s.fraction

-- what is said, in UTC: what the clock shows less what it is ahead
abbrev pub said_nanos : Said → ℤ
said_nanos s =
    nanos_since s.date
    (pos (shown_nanos s) -ℤ offset_minutes s.offset *ℤ pos (60 * 10 ^ 9))

-- a moment that is so many nanoseconds after 1970-01-01
abbrev pub IsMomentAt : ℤ → DateTime → Type 0
IsMomentAt n t = IsDateTime t × (nanos_since t.date (pos t.nanos) ≡ n)

-- the text says this moment
abbrev pub IsDateTimeText : DateTime → List ℕ → Type 0
IsDateTimeText t text =
    (s : Said) × IsSaid s × (text ≡ said_text s) × IsMomentAt (said_nanos s) t
