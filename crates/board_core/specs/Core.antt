-- The core: which events may come next, and what a list of them leaves.
use Rattle.std.specs.Prelude.{◌+◌, ◌==◌, ◌&&◌, not, nat_lt, ℕ, true, false, List, [], ◌∷◌, Option, None, Some, if◌then◌else◌}
use Rattle.fault_merge.specs.declared.at.At.{At}
use Rattle.fault_merge.specs.Places.{least_of}
use Rattle.board_core.specs.declared.state.CoreState.{CoreState}
use Rattle.board_core.specs.declared.event.CoreEvent.{CoreEvent}
use Rattle.board_core.specs.declared.event.CoreEvent.TheVariants.{Took, Told, Stopped}

-- before the first event
abbrev pub opening : ℕ → ℕ → CoreState
opening total full = record {
  total = total;
  full = full;
  next = 0;
  least = None;
  stopped = false;
}

-- the least clause told, or full
abbrev pub limit_of : ℕ → Option At → ℕ
limit_of full None = full
limit_of full (Some a) = a.clause

-- the state after an event, where it is allowed
abbrev pub stepped : CoreState → CoreEvent → Option CoreState
stepped s (Took piece limit) =
    if (not s.stopped && (piece == s.next))
    && (nat_lt piece s.total && (limit == limit_of s.full s.least))
    then Some (record s { next = piece + 1 })
    else None
stepped s (Told clause piece) =
    if nat_lt piece s.next && nat_lt clause s.full
    then Some (record s {
      least = Some (least_of s.least (record { clause = clause; piece = piece }));
    })
    else None
stepped s Stopped = Some (record s { stopped = true })

-- the state after all events, where each is allowed
abbrev pub replay : Option CoreState → List CoreEvent → Option CoreState
replay s [] = s
replay None (e ∷ es) = None
replay (Some s) (e ∷ es) = replay (stepped s e) es
