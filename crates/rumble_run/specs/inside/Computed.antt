-- The answer, computed; it is the answer, and nothing else is, by the lemmas of `Computing`.
use Rattle.std.specs.Prelude.{ℕ, Bool, List, Ok, Err}
use Rattle.outside.specs.World.{World}
use Rattle.query_tree.specs.Inputs.{input_names}
use Rattle.query_meaning.specs.Queries.{query_value}
use Rattle.query_meaning.specs.inside.Computed.{inputs_of}
use Rattle.rumble_run.specs.Answer.{Answer, of_outcome, refused, accepted, explained}
use Rattle.rumble_run.specs.Front.{Executable, Front}
use Rattle.rumble_run.specs.declared.command.Action.{Action}
use Rattle.rumble_run.specs.declared.command.Action.TheVariants as action

-- it does not compute by itself: nothing above looks into what queries mean
unfoldable pub of_run : Bool → List ℕ → World → Executable → Answer
of_run stats text world query =
    of_outcome stats text
    (query_value query.width query.trees (inputs_of world (input_names query.trees)))

abbrev pub of_executable : Action → List ℕ → World → Executable → Answer
of_executable action.Check text world query = accepted
of_executable action.Explain text world query = explained text query.trees
of_executable (action.Run run) text world query = of_run run.stats text world query

abbrev pub of_front : Action → List ℕ → World → Front → Answer
of_front act text world (Ok query) = of_executable act text world query
of_front act text world (Err fault) = refused text fault
