-- How contracts see an ending, and a front.
use Rattle.std.specs.Prelude.{◌≡◌, ℕ, Bool, List, [], Option, None, Some, Result, Ok, Err, IfOk, string_bytes}
use Rattle.outside.specs.Counted.{Rose}
use Rattle.outside.specs.Opens.{InputCounts}
use Rattle.outside.specs.World.{World}
use Rattle.query_tree.specs.Compiled.{CompiledTree, bound_trees}
use Rattle.rumble_run.specs.Answer.{Answer, AnswersOver, IsAnswer}
use Rattle.rumble_run.specs.Commands.{command_of}
use Rattle.rumble_run.specs.Ends.{HasText, LooksForNone, TellsStats}
use Rattle.rumble_run.specs.Front.{Executable, Front}
use Rattle.rumble_run.specs.declared.front.FrontFault.{FrontFault}
use Rattle.rumble_run.specs.declared.front.FrontFault.TheVariants as front
use Rattle.rumble_run.specs.inside.Reads.{Leaves}
use Rattle.rumble_run.specs.declared.status.Status.{Status}
use Rattle.rumble_run.specs.declared.status.Stop.{Stop}
use Rattle.rumble_run.specs.declared.status.Stop.TheVariants as stop
use Rattle.rumble_run.specs.declared.status.Status.TheVariants.{Done, Raised, Refused, Usage, ReadFault, WriteFault, NoMemory}
use Rattle.rumble_run.specs.declared.command.Command.{Command}
use Rattle.rumble_run.specs.declared.ending.Ending.{Ending}

-- the ending as an answer
abbrev pub answer_of : Ending → Answer
answer_of e = record { status = e.status; out = e.out.items; err = string_bytes e.err }

-- this is the answer over each world over which the call is answered
abbrev pub IsToldAnswer : Option World → List (List ℕ) → Answer → Type 0
IsToldAnswer told words answer =
    (world : World) → AnswersOver told (command_of words) world → IsAnswer words world answer

abbrev pub status_of_stop : Stop → Status
status_of_stop stop.ReadFault = ReadFault
status_of_stop stop.NoMemory = NoMemory

-- the status that was decided, or that of the stop
abbrev pub decided_status : Result Ending Stop → Status
decided_status (Ok e) = e.status
decided_status (Err stop) = status_of_stop stop

-- only Done has output, and an ending that was decided is no fault of reading, writing or memory
abbrev pub IsSilent : List ℕ → Status → Type 0
IsSilent out Done = Unit {0}
IsSilent out ReadFault = ⊥
IsSilent out WriteFault = ⊥
IsSilent out NoMemory = ⊥
IsSilent out _ = out ≡ []

-- usage is for words outside the table alone
abbrev pub IsUsage : Option Command → Status → Type 0
IsUsage command Usage = command ≡ None
IsUsage command _ = Unit {0}

-- an ending that was decided: its text has its status's form, only Done has output, and no fault
-- is among them
pub record IsShaped (command : Option Command) (a : Answer) : Type 0 where
  pub text : HasText command a.err a.status
  pub silent : IsSilent a.out a.status
  pub usage : IsUsage command a.status

-- what a query that was read comes to: items, with statistics where these are asked for, or a
-- fault or a refusal with its code
abbrev pub IsOfStatus : Bool → List ℕ → List ℕ → Status → Type 0
IsOfStatus stats out err Done = TellsStats stats err
IsOfStatus stats out err Raised = HasText None err Raised × (out ≡ [])
IsOfStatus stats out err Refused = HasText None err Refused × (out ≡ [])
IsOfStatus stats out err _ = ⊥

-- the status that an ending comes to: its own, or that writing Done's output failed
abbrev pub EndsAs : Status → Status → ℕ → ℕ → Type 0
EndsAs status WriteFault before after = (status ≡ Done) × Rose before after
EndsAs status result before after = (result ≡ status) × (after ≡ before)

-- a compiled query as a plain value
abbrev pub executable_of : CompiledTree → Executable
executable_of query = record { trees = bound_trees query.tree; width = query.width }

-- a front that was found, where memory was there
abbrev pub front_of : Result CompiledTree FrontFault → Option Front
front_of (Ok query) = Some (Ok (executable_of query))
front_of (Err (front.Refused fault)) = Some (Err fault)
front_of (Err front.NoMemory) = None

-- what a run of a query that was read leaves of the counts; with a refusal no file was looked for
pub record LeavesRun (result : Result Ending Stop) (before after : InputCounts) : Type 0 where
  pub leaves : Leaves result before after
  pub refused : IfOk result (λ e. e.status ≡ Refused → LooksForNone before after)
