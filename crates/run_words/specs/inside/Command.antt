-- The commands, as a parse reads them.
use Rattle.std.specs.Prelude.{Bool, true, false, Option, Some, codes, if◌then◌else◌}
use Rattle.clap.specs.Words.{App, Rule, Text, new_app, new_rule, with_rule}
use Rattle.clap.specs.declared.builder.ArgAction.TheVariants.{Set, SetTrue}
use Rattle.run_words.specs.declared.table.Verb.{Verb}
use Rattle.run_words.specs.declared.table.Verb.TheVariants.{Run, Check, Explain, Trial}
use Rattle.run_words.specs.declared.table.Name.{Name}
use Rattle.run_words.specs.declared.table.Name.TheVariants.{Stats}

abbrev pub option_rule : Text → Rule
option_rule id = record (new_rule id) { long = Some id; action = Some Set }

abbrev pub flag_rule : Text → Rule
flag_rule id = record (new_rule id) { long = Some id; action = Some SetTrue }

abbrev pub argument_rule : Text → Rule
argument_rule id = record (new_rule id) { action = Some Set }

-- a command with the options that a run and a trial have
abbrev pub working_app : Text → App
working_app name =
    with_rule (with_rule (new_app name) (option_rule (codes "workers")))
    (option_rule (codes "partition"))

abbrev pub run_app : App
run_app =
    with_rule (with_rule (with_rule (working_app (codes "run")) (option_rule (codes "mode")))
    (flag_rule (codes "stats"))) (argument_rule (codes "query"))

abbrev pub query_app : Text → App
query_app name = with_rule (new_app name) (argument_rule (codes "query"))

abbrev pub trial_app : App
trial_app =
    with_rule (with_rule (working_app (codes "trial")) (argument_rule (codes "number")))
    (argument_rule (codes "lines"))

-- the command of each first word, before it is built
abbrev pub app_for : Verb → App
app_for Run = run_app
app_for Check = query_app (codes "check")
app_for Explain = query_app (codes "explain")
app_for Trial = trial_app

-- an option that takes no value
abbrev pub is_flag : Name → Bool
is_flag Stats = true
is_flag _ = false

-- how a parse tells whether it is given
abbrev pub flag_text : Bool → Option Text
flag_text given = Some (if given then codes "true" else codes "false")
