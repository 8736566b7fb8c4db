-- What a command line asks for.
use Rattle.std.specs.Prelude.{ℕ, Bool, false, List, map, Option, None, Some, option_and_then}
use Rattle.std.specs.Str.{encode_utf8_all}
use Rattle.run_words.specs.Asked.{asked, WorksWithin}
use Rattle.run_words.specs.declared.task.Task.{Task}
use Rattle.run_words.specs.declared.task.Task.TheVariants as task
use Rattle.rumble_run.specs.declared.command.Action.{Action}
use Rattle.rumble_run.specs.declared.command.Running.{Running}
use Rattle.rumble_run.specs.declared.command.Action.TheVariants as action
use Rattle.rumble_run.specs.declared.command.Command.{Command}
use Rattle.rumble_run.specs.declared.command.Command.TheVariants.{Query, Trial}

-- a run with these options
abbrev pub running : Bool → (workers size : ℕ) → Bool → Running
running stats workers size local =
    record { stats = stats; workers = workers; size = size; local = local }

abbrev pub command_for : Task → Option Command
command_for (task.Run query workers size local stats) =
    Some (Query (action.Run (running stats workers size local)) query)
command_for (task.Check query) = Some (Query action.Check query)
command_for (task.Explain query) = Some (Query action.Explain query)
command_for (task.Trial number lines workers size) =
    Some (Trial number lines (running false workers size false))

-- what the words ask for
abbrev pub command_of : List (List ℕ) → Option Command
command_of words = option_and_then command_for (asked (map encode_utf8_all words))

-- whether the statistics are asked for
abbrev pub stats_of : Action → Bool
stats_of (action.Run run) = run.stats
stats_of action.Check = false
stats_of action.Explain = false

abbrev pub wants_stats : Option Command → Bool
wants_stats (Some (Query act name)) = stats_of act
wants_stats (Some (Trial number lines run)) = run.stats
wants_stats None = false

-- only a run reads inputs
abbrev pub ReadsNone : Action → Type 0
ReadsNone (action.Run run) = ⊥
ReadsNone action.Check = Unit {0}
ReadsNone action.Explain = Unit {0}

-- ---- the bounds of the options of a run

abbrev pub ActionWithin : Action → Type 0
ActionWithin (action.Run run) = WorksWithin run.workers run.size
ActionWithin action.Check = Unit {0}
ActionWithin action.Explain = Unit {0}

abbrev pub CommandWithin : Command → Type 0
CommandWithin (Query act name) = ActionWithin act
CommandWithin (Trial number lines run) = WorksWithin run.workers run.size
