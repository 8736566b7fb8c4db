-- What a run comes to whose result is written as numbered parts, and what a call leaves of it.
use Rattle.std.specs.Prelude.{◌≡◌, ◌≤◌, ◌⊎◌, ℕ, true, false, List, map, Option, None, Some, codes}
use Rattle.std.specs.Str.{encode_utf8_all}
use Rattle.outside.specs.Counted.{Rose, appended, CutShort}
use Rattle.outside.specs.Outputs.{Made}
use Rattle.outside.specs.World.{World}
use Rattle.part_list.specs.Lists.{list_of}
use Rattle.part_writer.specs.Parts.{parts_of}
use Rattle.part_writer.specs.Written.{made_with, StopAtFault, StopForMemory}
use Rattle.run_words.specs.PartsAsked.{begins_parts, parts_asked}
use Rattle.run_words.specs.declared.task.PartsTask.{PartsTask}
use Rattle.rumble_run.specs.Answer.{Answer, AnswersOver, IsOfCommand, says}
use Rattle.rumble_run.specs.Commands.{running}
use Rattle.rumble_run.specs.Ends.{HasText}
use Rattle.rumble_run.specs.declared.status.Status.{Status}
use Rattle.rumble_run.specs.declared.status.Status.TheVariants.{Done, Usage, WriteFault, NoMemory}
use Rattle.rumble_run.specs.declared.command.Action.TheVariants as action
use Rattle.rumble_run.specs.declared.command.Command.{Command}
use Rattle.rumble_run.specs.declared.command.Command.TheVariants.{Query}

-- the first word is `parts`
abbrev pub AsksParts : List (List ℕ) → Type 0
AsksParts words = begins_parts (map encode_utf8_all words) ≡ true

-- what the words ask for
abbrev pub parts_task : List (List ℕ) → Option PartsTask
parts_task words = parts_asked (map encode_utf8_all words)

-- the run whose output is written as parts
abbrev pub run_of_parts : Option PartsTask → Option Command
run_of_parts None = None
run_of_parts (Some task) =
    Some (Query (action.Run (running false task.workers task.size false)) task.query)

abbrev pub parts_usage : Answer
parts_usage = says Usage (codes "usage: rumble parts QUERY COUNT")

-- the answer is that of the run, however many parts there are
abbrev pub IsOfParts : World → Option PartsTask → Answer → Type 0
IsOfParts world None answer = answer ≡ parts_usage
IsOfParts world (Some task) answer = IsOfCommand world (run_of_parts (Some task)) answer

unfoldable pub IsPartsAnswer : List (List ℕ) → World → Answer → Type 0
IsPartsAnswer words world answer = IsOfParts world (parts_task words) answer

-- this holds of the answer, where the world is told, or no file is read
abbrev pub OfPartsAnswer : Option World → List (List ℕ) → (Answer → Type 0) → Type 0
OfPartsAnswer told words Holds =
    (world : World) (answer : Answer) → AnswersOver told (run_of_parts (parts_task words)) world
    → IsPartsAnswer words world answer → Holds answer

-- the form of the text for the errors that a status has, whatever the world
abbrev pub HasPartsText : Option PartsTask → List ℕ → Status → Type 0
HasPartsText task text Usage = text ≡ parts_usage.err
HasPartsText task text status = HasText (run_of_parts task) text status

-- the parts of an output, as many as are asked for
abbrev pub parts_count : Option PartsTask → ℕ
parts_count None = 1
parts_count (Some task) = task.count

abbrev pub output_parts : List (List ℕ) → List ℕ → Made
output_parts words out = parts_of (parts_count (parts_task words)) out

-- what is told of the outputs and of the sink for the list, with their counts of faults
pub record Written : Type 0 where
  pub made : Option Made
  pub faults : ℕ
  pub listed : Option (List ℕ)
  pub list_faults : ℕ

-- the same from its parts
abbrev pub written : Option Made → ℕ → Option (List ℕ) → ℕ → Written
written made faults listed list_faults =
    record { made = made; faults = faults; listed = listed; list_faults = list_faults }

-- the list was not touched
pub record IsUnlisted (before after : Written) : Type 0 where
  pub listed : after.listed ≡ before.listed
  pub faults : after.list_faults ≡ before.list_faults

-- nothing was written
pub record IsUnwritten (before after : Written) : Type 0 where
  pub made : after.made ≡ before.made
  pub faults : after.faults ≡ before.faults
  pub list : IsUnlisted before after

-- all parts were made in order, and the list of them was added
pub record IsWritten (parts : Made) (before after : Written) : Type 0 where
  pub made : after.made ≡ made_with before.made parts
  pub faults : after.faults ≡ before.faults
  pub listed : after.listed ≡ appended before.listed (list_of parts)
  pub list_faults : after.list_faults ≡ before.list_faults

-- one part failed: those before it were made, and none behind it
pub record PartFailed (parts : Made) (before after : Written) : Type 0 where
  pub made : StopAtFault parts before.made after.made
  pub cause : Rose before.faults after.faults
  pub rises : before.faults ≤ after.faults
  pub list : IsUnlisted before after

-- all parts were made, and the list of them was cut short
pub record ListFailed (parts : Made) (before after : Written) : Type 0 where
  pub made : after.made ≡ made_with before.made parts
  pub faults : after.faults ≡ before.faults
  pub listed : CutShort (list_of parts) before.listed after.listed
  pub cause : Rose before.list_faults after.list_faults

-- memory was short: no part was made, or some of the first ones
pub record PartsStopped (parts : Made) (before after : Written) : Type 0 where
  pub made : (after.made ≡ before.made) ⊎ StopForMemory parts before.made after.made
  pub faults : after.faults ≡ before.faults
  pub list : IsUnlisted before after

-- what stands of the parts and of their list, by the status
abbrev pub PartsBy : Made → Status → Written → Written → Type 0
PartsBy parts Done before after = IsWritten parts before after
PartsBy parts WriteFault before after = PartFailed parts before after ⊎ ListFailed parts before after
PartsBy parts NoMemory before after = PartsStopped parts before after
PartsBy parts _ before after = IsUnwritten before after
