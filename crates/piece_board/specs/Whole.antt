-- What a whole run gives: each piece once and in order, beside the schedule by which it was run.
use Rattle.std.specs.Prelude.{◌≡◌, ℕ, List, [], ◌∷◌, Option, Some, length, slice_get, false}
use Rattle.std.specs.Option.{option_to_list}
use Rattle.fault_merge.specs.declared.done.Done.{Done}
use Rattle.board_core.specs.declared.state.CoreState.{CoreState}
use Rattle.board_core.specs.declared.event.CoreEvent.{CoreEvent}
use Rattle.board_core.specs.Core.{replay, opening}
use Rattle.board_core.specs.Schedules.{limits_of, tells_of}

-- a schedule from the opening state, which takes all pieces and is not stopped
pub record Ends (total full : ℕ) (events : List CoreEvent) : Type 0 where
  pub state : CoreState
  pub replays : replay (Some (opening total full)) events ≡ Some state
  pub takes_all : state.next ≡ total
  pub going : state.stopped ≡ false

-- The output stands for this piece. It is good at its limit, which is the one limit at which the
-- schedule takes the piece, and what it tells is all that the schedule tells of the piece.
pub record IsAt {O : Type 0} (tells : O → Option ℕ) (good : ℕ → ℕ → O → Type 0)
    (events : List CoreEvent) (p : ℕ) (d : Done O) : Type 0 where
  pub here : d.piece ≡ p
  pub is_good : good p d.limit d.out
  pub taken : limits_of p events ≡ d.limit ∷ []
  pub told : tells_of p events ≡ option_to_list (tells d.out)

-- the outputs of all pieces, each once and in order, with the schedule by which they were run
pub record IsWhole {O : Type 0} (tells : O → Option ℕ) (good : ℕ → ℕ → O → Type 0) (total full : ℕ)
    (done : List (Done O)) (events : List CoreEvent) : Type 0 where
  pub count : length done ≡ total
  pub each : (p : ℕ) (d : Done O) → slice_get done p ≡ Some d → IsAt tells good events p d
  pub ends : Ends total full events
