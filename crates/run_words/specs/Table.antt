-- The table of commands: their first words, their options and their arguments.
use Rattle.std.specs.Prelude.{◌-◌, ◌^◌, ◌&&◌, ◌||◌, ℕ, Bool, true, false, List, Option, Some, None, if◌then◌else◌, codes, length, nat_le, nat_lt}
use Rattle.std.specs.Str.{bytes_eq, all_ascii_digits}
use Rattle.std.specs.Str.Parse.{digits_value, without_leading_plus}
use Rattle.run_words.specs.declared.table.Verb.{Verb}
use Rattle.run_words.specs.declared.table.Verb.TheVariants.{Run, Check, Explain, Trial}
use Rattle.run_words.specs.declared.table.Name.{Name}
use Rattle.run_words.specs.declared.table.Name.TheVariants.{Workers, Partition, Mode, Stats, Query, Number, Lines}

-- a word, as its bytes
abbrev pub Text : Type 0
Text = List ℕ

abbrev pub verb_of : Text → Option Verb
verb_of word =
    if bytes_eq word (codes "run") then Some Run
    else (if bytes_eq word (codes "check") then Some Check
    else (if bytes_eq word (codes "explain") then Some Explain
    else (if bytes_eq word (codes "trial") then Some Trial else None)))

-- the options of a run and of a trial
abbrev pub is_run_option : Name → Bool
is_run_option Workers = true
is_run_option Partition = true
is_run_option Mode = true
is_run_option Stats = true
is_run_option _ = false

abbrev pub is_trial_option : Name → Bool
is_trial_option Workers = true
is_trial_option Partition = true
is_trial_option _ = false

-- `run QUERY [--workers N] [--partition N] [--mode auto or local] [--stats]`, `check QUERY`,
-- `explain QUERY`, `trial NUMBER LINES [--workers N] [--partition N]`
abbrev pub has_option : Verb → Name → Bool
has_option Run name = is_run_option name
has_option Trial name = is_trial_option name
has_option Check name = false
has_option Explain name = false

-- the argument that comes next, by whether the number of a trial is given
abbrev pub next_of : Verb → Bool → Name
next_of Trial true = Lines
next_of Trial false = Number
next_of Run has_number = Query
next_of Check has_number = Query
next_of Explain has_number = Query

abbrev pub last_of : Verb → Name
last_of Trial = Lines
last_of _ = Query

abbrev pub id_of : Name → Text
id_of Workers = codes "workers"
id_of Partition = codes "partition"
id_of Mode = codes "mode"
id_of Stats = codes "stats"
id_of Query = codes "query"
id_of Number = codes "number"
id_of Lines = codes "lines"

-- the value of a text of decimal digits behind an optional plus
abbrev pub number_of : Text → ℕ
number_of text = digits_value 10 (without_leading_plus text)

-- decimal digits behind an optional plus, for a number within these bounds
abbrev pub is_number_in : ℕ → ℕ → Text → Bool
is_number_in low high text =
    let digits = without_leading_plus text in
    nat_lt 0 (length digits) && (all_ascii_digits digits
    && (nat_le low (number_of text) && nat_le (number_of text) high))

-- what may be given for a name
abbrev pub fits : Name → Text → Bool
fits Workers value = is_number_in 1 64 value
fits Partition value = is_number_in 1 (2 ^ 30) value
fits Mode value = bytes_eq value (codes "auto") || bytes_eq value (codes "local")
fits Stats value = bytes_eq value (codes "true")
fits Query value = true
fits Number value = is_number_in 0 (2 ^ 31 - 1) value
fits Lines value = is_number_in 0 1000000 value
