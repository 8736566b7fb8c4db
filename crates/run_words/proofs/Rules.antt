-- The commands, as a parse reads them.
use Rattle.std.proofs.Common.{◌≡◌, true, List, [], ◌∷◌, map, Some, None, refl}
use Rattle.std.specs.List.{slice_index_or}
use Rattle.clap.specs.Walk.{Row, Rule, reading_by}
use Rattle.clap.specs.Simple.{Shape, new_rule, built, is_simple}
use Rattle.run_words.specs.inside.Command.{app_for}
use Rattle.clap.specs.declared.parser.matches.ValueSource.TheVariants.{CommandLine}
use Rattle.run_words.specs.Table.{id_of}
use Rattle.run_words.specs.Given.{Use}
use Rattle.run_words.specs.declared.table.Verb.{Verb}
use Rattle.run_words.specs.declared.table.Verb.TheVariants.{Run, Check, Explain, Trial}
use Rattle.run_words.specs.declared.table.Name.{Name}
use Rattle.run_words.specs.declared.table.Name.TheVariants.{Workers, Partition, Mode, Stats, Query, Number, Lines}

-- the commands as built, and their rules
abbrev pub shape_of : Verb → Shape
shape_of v = (built (app_for v)).top

abbrev pub rules_of : Verb → List Rule
rules_of v = (shape_of v).rules

pub simple : (v : Verb) → is_simple (app_for v) ≡ true
simple Run = refl
simple Check = refl
simple Explain = refl
simple Trial = refl

-- the built rule of each name
abbrev pub rule_for : Name → Rule
rule_for Workers = slice_index_or (rules_of Run) 0 (new_rule [])
rule_for Partition = slice_index_or (rules_of Run) 1 (new_rule [])
rule_for Mode = slice_index_or (rules_of Run) 2 (new_rule [])
rule_for Stats = slice_index_or (rules_of Run) 3 (new_rule [])
rule_for Query = slice_index_or (rules_of Run) 4 (new_rule [])
rule_for Number = slice_index_or (rules_of Trial) 2 (new_rule [])
rule_for Lines = slice_index_or (rules_of Trial) 3 (new_rule [])

abbrev pub row_for : Use → Row
row_for u = record { id = id_of u.name; values = u.value ∷ []; count = None; source = Some CommandLine; reading = reading_by (rule_for u.name) }

abbrev pub rows_for : List Use → List Row
rows_for = map row_for
