-- The answer is the one that is computed.
use Rattle.std.proofs.Common.{◌≡◌, ℕ, Bool, List, Ok, Err, refl, ap, ◌∙◌}
use Rattle.outside.specs.World.{World}
use Rattle.query_tree.specs.Inputs.{input_names}
use Rattle.query_meaning.specs.Queries.{query_value}
use Rattle.query_meaning.specs.inside.Computed.{inputs_of}
use Rattle.query_meaning.proofs.Given.{inputs_read, inputs_one}
use Rattle.rumble_run.specs.Answer.{Answer, of_outcome, IsOfRun, IsOfExecutable, IsOfFront}
use Rattle.rumble_run.specs.Front.{Executable, Front}
use Rattle.rumble_run.specs.inside.Computed.{of_run, of_executable, of_front}
use Rattle.rumble_run.specs.declared.command.Action.{Action}
use Rattle.rumble_run.specs.declared.command.Action.TheVariants as action

-- ---- what is computed is the answer

run_answered : (stats : Bool) (text : List ℕ) (world : World) (query : Executable) → IsOfRun stats text world query (of_run stats text world query)
unfolding of_run
run_answered stats text world query =
    let names = input_names query.trees in
    (inputs_of world names, inputs_read world names, refl)

pub executable_answered : (act : Action) (text : List ℕ) (world : World) (query : Executable) → IsOfExecutable act text world query (of_executable act text world query)
executable_answered action.Check text world query = refl
executable_answered action.Explain text world query = refl
executable_answered (action.Run run) text world query = run_answered run.stats text world query

pub front_answered : (act : Action) (text : List ℕ) (world : World) (front : Front) → IsOfFront act text world front (of_front act text world front)
front_answered act text world (Ok query) = executable_answered act text world query
front_answered act text world (Err fault) = refl

-- ---- and nothing else is

only_of_run : (stats : Bool) (text : List ℕ) (world : World) (query : Executable) (a : Answer) → IsOfRun stats text world query a → a ≡ of_run stats text world query
unfolding of_run
only_of_run stats text world query a h =
    h.2 ∙ ap (λ l. of_outcome stats text (query_value query.width query.trees l)) (inputs_one world (input_names query.trees) h.0 h.1)

only_of_executable : (act : Action) (text : List ℕ) (world : World) (query : Executable) (a : Answer) → IsOfExecutable act text world query a → a ≡ of_executable act text world query
only_of_executable action.Check text world query a h = h
only_of_executable action.Explain text world query a h = h
only_of_executable (action.Run run) text world query a h = only_of_run run.stats text world query a h

pub only_of_front : (act : Action) (text : List ℕ) (world : World) (front : Front) (a : Answer) → IsOfFront act text world front a → a ≡ of_front act text world front
only_of_front act text world (Ok query) a h = only_of_executable act text world query a h
only_of_front act text world (Err fault) a h = h
