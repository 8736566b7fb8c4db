-- Dates and numbers of days.
use Rattle.std.specs.Prelude.{◌≡◌, ℤ, pos, negsuc, ◌+ℤ◌, ◌≤ℤ◌}
use Rattle.item_tree.specs.Dates.{Date, IsDate, day_number}

-- a number from that of 0001-01-01, which is -719,162, to that of 9999-12-31
abbrev pub IsDayNumber : ℤ → Type 0
IsDayNumber n = (negsuc 719_161 ≤ℤ n) × (n ≤ℤ pos 2_932_896)

-- the date whose day number is greater by so many days, or less for a number below 0
abbrev pub IsDaysLater : Date → ℤ → Date → Type 0
IsDaysLater start days d = IsDate d × (day_number d ≡ day_number start +ℤ days)
