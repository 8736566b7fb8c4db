-- What a board is, and what its calls do to it.
use Rattle.std.specs.Prelude.{◌≡◌, ◌++◌, ◌∷◌, [], ◌<◌, ◌≤◌, ◌+◌, ◌*◌, ◌^◌, ℕ, List, Option, None, Some, length, count_by, nat_lt, if◌then◌else◌}
use Rattle.board_core.specs.declared.state.CoreState.{CoreState}
use Rattle.board_core.specs.declared.event.CoreEvent.{CoreEvent}
use Rattle.board_core.specs.declared.event.CoreEvent.TheVariants.{Told}
use Rattle.board_core.specs.Core.{stepped, replay, opening}
use Rattle.board_core.specs.Schedules.{is_told}

-- a state, with the events that led to it
pub record Logged : Type 0 where
  pub state : CoreState
  pub log : List CoreEvent

abbrev pub told_count : List CoreEvent → ℕ
told_count events = count_by is_told events

-- The log replays to the state from the opening one.
abbrev pub Replays : Logged → Type 0
Replays b = replay (Some (opening b.state.total b.state.full)) b.log ≡ Some b.state

-- what is kept of the fields: the log replays, and its room is enough for all takes, as many tells
-- and one stop
pub record IsKept (s : CoreState) (log : List CoreEvent) (tells room : ℕ) : Type 0 where
  pub replays : replay (Some (opening s.total s.full)) log ≡ Some s
  pub has_room : 2 * s.total + 1 ≤ room
  pub counted : tells ≡ told_count log
  pub length : length log ≡ s.next + tells + (if s.stopped then 1 else 0)
  pub bounded : s.next ≤ s.total
  pub tells_fit : tells ≤ s.total
  pub small : s.total < 2 ^ 62

-- an event with the state that it leads to, where it is allowed
abbrev pub noted : Logged → CoreEvent → Option CoreState → Logged
noted b e None = b
noted b e (Some s) = record { state = s; log = b.log ++ e ∷ [] }

-- after a tell: it is noted where the core allows it, and fewer tells than pieces were noted
abbrev pub after_tell : Logged → CoreEvent → Logged
after_tell b e =
    if nat_lt (told_count b.log) b.state.total then noted b e (stepped b.state e) else b

-- after a stop: the first one is noted
abbrev pub after_stop : Logged → CoreEvent → Logged
after_stop b e = if b.state.stopped then b else noted b e (stepped b.state e)

-- after the report of a piece, which may have a fault to tell
abbrev pub reported : Logged → Option ℕ → ℕ → Logged
reported b None piece = b
reported b (Some clause) piece = after_tell b (Told clause piece)
