-- What the laws say.
use Rattle.std.specs.Prelude.{ℤ, MatchOption}
use Rattle.item_tree.specs.Dates.{Date, IsDate}
use Rattle.date_atoms.specs.Sums.{IsDaysLater}
use Rattle.fn_table.specs.Dates.{days_later}

-- the day after or before, so many times, is the date whose day number is greater or less by so
-- much, and there is none where there is no such date
abbrev pub DaysAreAdded : Type 0
DaysAreAdded = (d : Date) (days : ℤ) → IsDate d
    → MatchOption (days_later d days) ((e : Date) → ¬ IsDaysLater d days e) (IsDaysLater d days)
