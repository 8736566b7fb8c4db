-- The status of a call that hands out its output.
use Rattle.std.specs.Prelude.{Result, Ok, Err}
use Rattle.rumble_run.specs.declared.status.Status.{Status}
use Rattle.rumble_run.specs.declared.status.Status.TheVariants.{Done}

abbrev pub status_of : {T : Type 0} → Result T Status → Status
status_of (Ok out) = Done
status_of (Err status) = status
