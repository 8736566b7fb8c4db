-- What a call of the program tells, as one record: the clauses of `rumble`.
use Rattle.std.specs.Prelude.{◌≡◌, ◌≢◌, ◌<◌, ◌⊎◌, ℕ, List, Option, None}
use Rattle.outside.specs.Counted.{Rose}
use Rattle.outside.specs.Opens.{InputCounts}
use Rattle.outside.specs.World.{World}
use Rattle.rumble_run.specs.Answer.{OfAnswer}
use Rattle.rumble_run.specs.Commands.{command_of}
use Rattle.rumble_run.specs.Ends.{StatusBy, OutBy, err_by, HasText, Wrote, Calm, Completes, FaultsRose, MissesRose, OpensBy, OpenedBy, MissedBy, ChecksAlone, IsBalanced, NoCountFalls}
use Rattle.rumble_run.specs.Opens.{OfSearch}
use Rattle.rumble_run.specs.Parts.{OfPartsAnswer, HasPartsText, parts_task, run_of_parts, output_parts, Written, PartsBy}
use Rattle.rumble_run.specs.declared.status.Status.{Status}
use Rattle.rumble_run.specs.declared.status.Status.TheVariants.{Usage, ReadFault, WriteFault, NoMemory, NoQuery}

-- what a sink tells, with its count of faults
pub record Told : Type 0 where
  pub wrote : Option (List ℕ)
  pub faults : ℕ

-- what is told of the world, and what was counted of the inputs
pub record Looked : Type 0 where
  pub world : Option World
  pub counts : InputCounts

-- both from their parts
abbrev pub told : Option (List ℕ) → ℕ → Told
told wrote faults = record { wrote = wrote; faults = faults }

abbrev pub looked : Option World → InputCounts → Looked
looked world counts = record { world = world; counts = counts }

-- the clauses of `rumble`, each under its own name
pub record RunsAsRumble (words : List (List ℕ)) (result : Status) (inputs inputs' : Looked)
    (out out' err err' : Told) : Type 0 where
  pub status : OfAnswer inputs.world words (λ answer. StatusBy answer result)
  pub output : OfAnswer inputs.world words (λ answer.
      OutBy answer.out result out.wrote out'.wrote)
  pub text : OfAnswer inputs.world words (λ answer.
      Wrote (err_by answer.err result) err.wrote err'.wrote err.faults err'.faults)
  pub completes : Calm inputs.counts.faults inputs'.counts.faults → Calm out.faults out'.faults
      → OfAnswer inputs.world words (λ answer. Completes answer result)
  pub untold_output : (bytes : List ℕ) × OutBy bytes result out.wrote out'.wrote
  pub untold_text : (text : List ℕ) × HasText (command_of words) text result
      × Wrote text err.wrote err'.wrote err.faults err'.faults
  pub usage : result ≡ Usage → command_of words ≡ None
  pub only_usage : command_of words ≡ None → (result ≡ Usage) ⊎ (result ≡ NoMemory)
  pub no_query : result ≡ NoQuery → MissesRose inputs.counts inputs'.counts
  pub read_fault : result ≡ ReadFault → FaultsRose inputs.counts inputs'.counts
  pub read_first : inputs.counts.faults < inputs'.counts.faults
      → (result ≡ ReadFault) ⊎ (result ≡ NoMemory)
  pub write_fault : result ≡ WriteFault → Rose out.faults out'.faults
  pub out_calm : result ≢ WriteFault → out'.faults ≡ out.faults
  pub opened : OfSearch inputs.world (command_of words) (λ search.
      OpenedBy search result inputs.counts inputs'.counts)
  pub missed : OfSearch inputs.world (command_of words) (λ search.
      MissedBy search result inputs.counts inputs'.counts)
  pub opens : OpensBy (command_of words) result inputs.counts inputs'.counts
  pub alone : ChecksAlone (command_of words) result inputs.counts inputs'.counts
  pub closed : IsBalanced inputs.counts inputs'.counts
  pub rises : NoCountFalls inputs.counts inputs'.counts
  pub world : inputs'.world ≡ inputs.world

-- the same of words whose first is `parts`
pub record RunsParts (words : List (List ℕ)) (result : Status) (inputs inputs' : Looked)
    (written written' : Written) (err err' : Told) : Type 0 where
  pub status : OfPartsAnswer inputs.world words (λ answer. StatusBy answer result)
  pub parts : OfPartsAnswer inputs.world words (λ answer.
      PartsBy (output_parts words answer.out) result written written')
  pub text : OfPartsAnswer inputs.world words (λ answer.
      Wrote (err_by answer.err result) err.wrote err'.wrote err.faults err'.faults)
  pub completes : Calm inputs.counts.faults inputs'.counts.faults
      → Calm written.faults written'.faults → Calm written.list_faults written'.list_faults
      → OfPartsAnswer inputs.world words (λ answer. Completes answer result)
  pub untold_parts : (bytes : List ℕ)
      × PartsBy (output_parts words bytes) result written written'
  pub untold_text : (text : List ℕ) × HasPartsText (parts_task words) text result
      × Wrote text err.wrote err'.wrote err.faults err'.faults
  pub usage : result ≡ Usage → parts_task words ≡ None
  pub only_usage : parts_task words ≡ None → (result ≡ Usage) ⊎ (result ≡ NoMemory)
  pub no_query : result ≡ NoQuery → MissesRose inputs.counts inputs'.counts
  pub read_fault : result ≡ ReadFault → FaultsRose inputs.counts inputs'.counts
  pub read_first : inputs.counts.faults < inputs'.counts.faults
      → (result ≡ ReadFault) ⊎ (result ≡ NoMemory)
  pub opened : OfSearch inputs.world (run_of_parts (parts_task words)) (λ search.
      OpenedBy search result inputs.counts inputs'.counts)
  pub missed : OfSearch inputs.world (run_of_parts (parts_task words)) (λ search.
      MissedBy search result inputs.counts inputs'.counts)
  pub opens : OpensBy (run_of_parts (parts_task words)) result inputs.counts inputs'.counts
  pub closed : IsBalanced inputs.counts inputs'.counts
  pub rises : NoCountFalls inputs.counts inputs'.counts
  pub world : inputs'.world ≡ inputs.world
