-- Dates of `jiff`, which has more years.
use Rattle.std.specs.Prelude.{pos}
use Rattle.jiff.specs.Words.{IsYmd}
use Rattle.jiff_core.specs.declared.civil.date.Date.{Date as CivilDate}
use Rattle.item_tree.specs.Dates.{Date, IsDate}

-- the date of `jiff` is this date
abbrev pub IsCivil : CivilDate → Date → Type 0
IsCivil date d = IsDate d × IsYmd (pos d.year) (pos d.month) (pos d.day) date
