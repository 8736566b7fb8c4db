-- How contracts see a run along the plan.
use Rattle.std.specs.Prelude.{◌≡◌, ℕ, List, [], ◌∷◌, Option, None, Some, false, if◌then◌else◌, Result, Ok, Err}
use Rattle.outside.specs.Opens.{InputCounts}
use Rattle.outside.specs.World.{World}
use Rattle.query_tree.specs.Compiled.{BoundTrees}
use Rattle.mode_planner.specs.Beside.{names_beside}
use Rattle.mode_planner.specs.Plans.{plan}
use Rattle.query_meaning.specs.Library.{Library}
use Rattle.query_meaning.specs.Queries.{program_of, globals_value, query_value}
use Rattle.rumble_run.specs.Opens.{can_run_along}
use Rattle.rumble_run.specs.declared.command.Running.{Running}
use Rattle.rumble_run.specs.declared.ending.Ending.{Ending}
use Rattle.rumble_run.specs.declared.status.Status.TheVariants as status
use Rattle.rumble_run.specs.declared.status.Stop.{Stop}
use Rattle.rumble_run.specs.declared.status.Stop.TheVariants as stop
use Rattle.piece_seats.specs.declared.text.Text.{Text}
use Rattle.piece_run.specs.Kept.{KeptIs}
use Rattle.rumble_run.specs.inside.LeafCounts.{Drove}
use Rattle.rumble_run.specs.inside.Walked.{Finds, Prints, files_on, drivers_on, none_handled}
use Rattle.piece_run.specs.declared.leaf_fault.LeafFault.{LeafFault}
use Rattle.piece_run.specs.declared.leaf_fault.LeafFault.TheVariants as leaf

-- the names beside the drivers, where a query can be run along its plan
abbrev pub names_along : BoundTrees → Option (List (List ℕ))
names_along m = if can_run_along m then Some (names_beside (plan false m.body) m) else None

-- an ending by what was printed
abbrev pub EndedFrom : Result Text LeafFault → Result Ending Stop → Type 0
EndedFrom (Ok text) (Ok e) = e.status ≡ status.Done
EndedFrom (Ok text) (Err s) = s ≡ stop.NoMemory
EndedFrom (Err (leaf.Raised fault)) (Ok e) = e.status ≡ status.Raised
EndedFrom (Err (leaf.Raised fault)) (Err s) = s ≡ stop.NoMemory
EndedFrom (Err leaf.ReadFault) result = result ≡ Err stop.ReadFault
EndedFrom (Err leaf.NoMemory) result = result ≡ Err stop.NoMemory

-- What is printed of the body of a query, over a told world: of its value over a library with which
-- all but the drivers finds what it finds in the run's own library.
pub record PrintsAlong (run : Running) (width : ℕ) (m : BoundTrees) (own : Library) (w : World)
    (printed : Result Text LeafFault) (before after : InputCounts) : Type 0 where
  pub value : (full : Library) → globals_value width m own ≡ globals_value width m full
      → Finds (program_of width m own) (program_of width m full) w (m.body ∷ [])
      → KeptIs Prints printed (query_value width m full)
  pub drove : Drove printed (none_handled (m.body ∷ []))
      (files_on w run.workers run.size (m.body ∷ [])) (drivers_on (m.body ∷ [])) before after
