-- How contracts see a run with parts before its parts are written.
use Rattle.std.specs.Prelude.{◌≡◌, ℕ, List, Option, None, Result, Ok, Err}
use Rattle.outside.specs.World.{World}
use Rattle.run_words.specs.declared.task.PartsTask.{PartsTask}
use Rattle.rumble_run.specs.Answer.{Answer, AnswersOver}
use Rattle.rumble_run.specs.Parts.{HasPartsText, IsPartsAnswer, parts_task, run_of_parts}
use Rattle.rumble_run.specs.declared.status.Status.{Status}
use Rattle.rumble_run.specs.declared.status.Status.TheVariants.{Done, Usage, WriteFault, NoMemory}
use Rattle.rumble_run.specs.declared.status.Stop.{Stop}
use Rattle.rumble_run.specs.declared.parts.Parted.{Parted}
use Rattle.rumble_run.specs.inside.Seen.{IsSilent, status_of_stop}

-- an ending that was decided: its text has its status's form, only Done has output, and no fault
-- is among them
pub record IsPartsShaped (task : Option PartsTask) (a : Answer) : Type 0 where
  pub text : HasPartsText task a.err a.status
  pub silent : IsSilent a.out a.status
  pub usage : a.status ≡ Usage → task ≡ None

-- parts that were written, or not
abbrev pub IsWriting : Status → Type 0
IsWriting Done = Unit {0}
IsWriting WriteFault = Unit {0}
IsWriting NoMemory = Unit {0}
IsWriting _ = ⊥

-- the status that an ending comes to: where it is Done, that of writing its parts
abbrev pub PartsEnd : Status → Status → Type 0
PartsEnd Done result = IsWriting result
PartsEnd status result = result ≡ status

-- this is the answer over each world over which the call is answered
abbrev pub IsToldParts : Option World → List (List ℕ) → Answer → Type 0
IsToldParts told words answer =
    (world : World) → AnswersOver told (run_of_parts (parts_task words)) world
    → IsPartsAnswer words world answer

-- the status that was decided, or that of the stop
abbrev pub parted_status : Result Parted Stop → Status
parted_status (Ok p) = p.ending.status
parted_status (Err stop) = status_of_stop stop
