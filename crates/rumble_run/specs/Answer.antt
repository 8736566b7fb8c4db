-- The answer to a command line over a world of inputs: a status, with the bytes for the output
-- and for the errors.
use Rattle.std.specs.Prelude.{◌≡◌, ℕ, Bool, false, List, [], ◌∷◌, ◌++◌, ◌⊎◌, length, Option, None, Some, Ok, Err, codes, if◌then◌else◌}
use Rattle.std.specs.Fmt.{decimal}
use Rattle.std.specs.Str.{encode_utf8_all}
use Rattle.item_tree.specs.declared.fault.Fault.{Fault}
use Rattle.item_tree.specs.declared.fault.Spot.{Spot}
use Rattle.item_tree.specs.Codes.{code_text}
use Rattle.item_tree.specs.Datum.{Datum}
use Rattle.item_tree.specs.ItemText.{item_text}
use Rattle.item_reader.specs.Lines.{without_mark}
use Rattle.outside.specs.World.{World, file_of}
use Rattle.query_tree.specs.Compiled.{BoundTrees}
use Rattle.query_tree.specs.Inputs.{input_names}
use Rattle.query_meaning.specs.Inputs.{InputsReadAs}
use Rattle.query_meaning.specs.Library.{Library}
use Rattle.query_meaning.specs.Outcome.{Outcome}
use Rattle.query_meaning.specs.Queries.{query_value}
use Rattle.mode_planner.specs.Plans.{plan}
use Rattle.plan_text.specs.Explained.{explain_text}
use Rattle.text_places.specs.Places.{place_text}
use Rattle.rumble_run.specs.Commands.{command_of}
use Rattle.rumble_run.specs.Front.{Executable, Front, IsFront}
use Rattle.rumble_run.specs.Trial.{trial_query, trial_world}
use Rattle.rumble_run.specs.declared.status.Status.{Status}
use Rattle.rumble_run.specs.declared.status.Status.TheVariants.{Done, Raised, Refused, Usage, NoQuery}
use Rattle.rumble_run.specs.declared.command.Action.{Action}
use Rattle.rumble_run.specs.declared.command.Action.TheVariants as action
use Rattle.rumble_run.specs.declared.command.Command.{Command}
use Rattle.rumble_run.specs.declared.command.Running.{Running}
use Rattle.rumble_run.specs.declared.command.Command.TheVariants.{Query, Trial}

pub record Answer : Type 0 where
  pub status : Status
  pub out : List ℕ
  pub err : List ℕ

-- a text with the line feed that ends it
abbrev pub lined : List ℕ → List ℕ
lined text = text ++ 10 ∷ []

-- an answer that only tells something
abbrev pub says : Status → List ℕ → Answer
says status text = record { status = status; out = []; err = lined text }

-- a fault of a query's text, as `CODE at LINE:COLUMN`
abbrev pub fault_text : List ℕ → Fault → List ℕ
fault_text text fault = code_text fault.code ++ codes " at " ++ place_text text fault.place

abbrev pub refused : List ℕ → Fault → Answer
refused text fault = says Refused (codes "refused " ++ fault_text text fault)

-- the clause and the tuple of a FLWOR expression that a fault left, after one space
abbrev pub clause_text : Spot → List ℕ
clause_text s = (codes " clause " ++ decimal s.clause) ++ (codes " tuple " ++ decimal s.tuple)

abbrev pub spot_text : Option Spot → List ℕ
spot_text None = []
spot_text (Some s) = clause_text s

abbrev pub raised : List ℕ → Fault → Answer
raised text fault = says Raised (codes "raised " ++ fault_text text fault ++ spot_text fault.spot)

-- an answer that writes something
abbrev pub writes : List ℕ → Answer
writes out = record { status = Done; out = out; err = [] }

abbrev pub accepted : Answer
accepted = writes (lined (codes "accepted"))

-- the lines of the plan of a query, as it is run where no option asks for less
abbrev pub explained : List ℕ → BoundTrees → Answer
explained text query = writes (explain_text text (plan false query.body))

-- the text of each item on a line of its own
abbrev pub output_of : List Datum → List ℕ
output_of [] = []
output_of (x ∷ xs) = item_text x ++ 10 ∷ output_of xs

-- how many items were printed, and in how many bytes
abbrev pub stats_text : ℕ → ℕ → List ℕ
stats_text items bytes = (codes "items " ++ decimal items) ++ (codes " bytes " ++ decimal bytes)

-- these bytes are written, and the items in them counted where the statistics are asked for
abbrev pub writes_items : Bool → ℕ → List ℕ → Answer
writes_items stats items out = record {
  status = Done;
  out = out;
  err = if stats then lined (stats_text items (length out)) else [];
}

abbrev pub prints : Bool → List Datum → Answer
prints stats items = writes_items stats (length items) (output_of items)

-- what a query's value comes to
abbrev pub of_outcome : Bool → List ℕ → Outcome → Answer
of_outcome stats text (Ok items) = prints stats items
of_outcome stats text (Err fault) = raised text fault

-- A query that is run over its inputs. How many workers share the work, how inputs are cut into
-- pieces, and whether they are cut at all, changes nothing.
abbrev pub IsOfRun : Bool → List ℕ → World → Executable → Answer → Type 0
IsOfRun stats text world query answer =
    (library : Library)
    × InputsReadAs world (input_names query.trees) library
    × (answer ≡ of_outcome stats text (query_value query.width query.trees library))

abbrev pub IsOfExecutable : Action → List ℕ → World → Executable → Answer → Type 0
IsOfExecutable action.Check text world query answer = answer ≡ accepted
IsOfExecutable action.Explain text world query answer = answer ≡ explained text query.trees
IsOfExecutable (action.Run run) text world query answer =
    IsOfRun run.stats text world query answer

-- a query with this front: refused, or the action is done
abbrev pub IsOfFront : Action → List ℕ → World → Front → Answer → Type 0
IsOfFront act text world (Ok query) answer = IsOfExecutable act text world query answer
IsOfFront act text world (Err fault) answer = answer ≡ refused text fault

-- the answer to a query of these bytes
abbrev pub IsOfQuery : Action → World → List ℕ → Answer → Type 0
IsOfQuery act world query answer =
    (front : Front)
    × IsFront query front × IsOfFront act (without_mark query) world front answer

abbrev pub IsOfFile : Action → List ℕ → World → Option (List ℕ) → Answer → Type 0
IsOfFile act name world None answer =
    answer ≡ says NoQuery (codes "no query " ++ encode_utf8_all name)
IsOfFile act name world (Some query) answer = IsOfQuery act world query answer

-- a trial runs its query over its own lines, whatever inputs there are
abbrev pub IsOfTrial : ℕ → ℕ → Running → Answer → Type 0
IsOfTrial number lines run answer =
    IsOfQuery (action.Run run) (trial_world number lines) trial_query answer

abbrev pub usage : Answer
usage =
    says Usage (codes "usage: rumble run QUERY | check QUERY | explain QUERY | trial NUMBER LINES")

abbrev pub IsOfCommand : World → Option Command → Answer → Type 0
IsOfCommand world None answer = answer ≡ usage
IsOfCommand world (Some (Query act name)) answer =
    IsOfFile act name world (file_of world name) answer
IsOfCommand world (Some (Trial number lines run)) answer = IsOfTrial number lines run answer

-- the answer to a command line over a world; by a law there is one, and only one
unfoldable pub IsAnswer : List (List ℕ) → World → Answer → Type 0
IsAnswer words world answer = IsOfCommand world (command_of words) answer

-- these read no file: a trial, and words of no command
abbrev pub ReadsNoFile : Option Command → Type 0
ReadsNoFile None = Unit {0}
ReadsNoFile (Some (Query act name)) = ⊥
ReadsNoFile (Some (Trial number lines run)) = Unit {0}

-- a call is answered over the world that is told; and over every one, where no file is read
abbrev pub AnswersOver : Option World → Option Command → World → Type 0
AnswersOver told command world = (told ≡ Some world) ⊎ ReadsNoFile command

-- this holds of the answer: where the world is told, and of a trial whatever is told
abbrev pub OfAnswer : Option World → List (List ℕ) → (Answer → Type 0) → Type 0
OfAnswer told words Holds =
    (world : World) (answer : Answer) → AnswersOver told (command_of words) world
    → IsAnswer words world answer → Holds answer
