-- How contracts see what the top calls begin with: an ending, or a stop that is told.
use Rattle.std.specs.Prelude.{◌≡◌, ℕ, length, Result, Ok, Err}
use Rattle.outside.specs.Counted.{Rose}
use Rattle.outside.specs.Opens.{InputCounts}
use Rattle.rumble_run.specs.Ends.{OpenedBy, MissedBy}
use Rattle.rumble_run.specs.Opens.{Search}
use Rattle.rumble_run.specs.declared.ending.Ending.{Ending}
use Rattle.rumble_run.specs.declared.status.Status.{Status}
use Rattle.rumble_run.specs.declared.status.Status.TheVariants.{ReadFault, NoMemory}

-- the status of an ending, or that of a stop
abbrev pub ended : Result Ending Status → Status
ended (Ok e) = e.status
ended (Err status) = status

-- reading failed, or memory was short
abbrev pub IsStop : Status → Type 0
IsStop ReadFault = Unit {0}
IsStop NoMemory = Unit {0}
IsStop _ = ⊥

-- the faults rose where reading failed
abbrev pub StopsBy : Status → ℕ → ℕ → Type 0
StopsBy ReadFault before after = Rose before after
StopsBy _ before after = Unit {0}

-- the faults stay at an ending
abbrev pub FaultsBy : Result Ending Status → ℕ → ℕ → Type 0
FaultsBy (Ok e) before after = after ≡ before
FaultsBy (Err status) before after = StopsBy status before after

-- the search was gone through, or some of it, by the status
abbrev pub SearchedBy : Search → Status → InputCounts → InputCounts → Type 0
SearchedBy search status before after =
    OpenedBy search status before after × MissedBy search status before after
