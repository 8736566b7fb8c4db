-- Laws of schedules, which are lists of events that replay from the opening state.
use Rattle.std.specs.Prelude.{◌≡◌, ℕ, List, Option, Some}
use Rattle.fault_merge.specs.declared.at.At.{At}
use Rattle.fault_merge.specs.Faults.{IsLeastFault}
use Rattle.board_core.specs.declared.state.CoreState.{CoreState}
use Rattle.board_core.specs.declared.event.CoreEvent.{CoreEvent}
use Rattle.board_core.specs.Core.{opening, replay}
use Rattle.board_core.specs.Schedules.{IsFaults, Truthful, TakesEnough, pieces_of, numbers_from}

-- In each schedule that is truthful for f, each limit is enough for the least fault of f, and full
-- where f has none.
abbrev pub LimitsSuffice : Type 0
LimitsSuffice =
    (f : ℕ → Option ℕ) (a : Option At) (total full : ℕ) (events : List CoreEvent) (s : CoreState)
    → IsFaults f total full → IsLeastFault f a → Truthful f events
    → replay (Some (opening total full)) events ≡ Some s → TakesEnough a full events

-- The pieces before the next one were taken, each once and in order.
abbrev pub PiecesInOrder : Type 0
PiecesInOrder =
    (total full : ℕ) (events : List CoreEvent) (s : CoreState)
    → replay (Some (opening total full)) events ≡ Some s
    → pieces_of events ≡ numbers_from 0 s.next
