-- The number that the program ends with, by how the run ended.
use Rattle.std.specs.Prelude.{ℕ}
use Rattle.rumble_run.specs.declared.status.Status.{Status}
use Rattle.rumble_run.specs.declared.status.Status.TheVariants.{Done, Raised, Refused, Usage, ReadFault, WriteFault, NoMemory, NoQuery}

abbrev pub number_of : Status → ℕ
number_of Done = 0
number_of Raised = 1
number_of Refused = 2
number_of Usage = 3
number_of ReadFault = 4
number_of WriteFault = 5
number_of NoMemory = 6
number_of NoQuery = 7
