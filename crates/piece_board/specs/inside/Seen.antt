-- What a log says of each piece, and when the outputs agree with it.
use Rattle.std.specs.Prelude.{◌≡◌, ◌<◌, ℕ, List, Option, Some, slice_get}
use Rattle.std.specs.Option.{option_to_list}
use Rattle.fault_merge.specs.declared.done.Done.{Done}
use Rattle.board_core.specs.declared.event.CoreEvent.{CoreEvent}
use Rattle.board_core.specs.Schedules.{limits_of, tells_of}
use Rattle.piece_board.specs.declared.settle.Seen.{Seen}

-- this piece was taken and told of in these events as seen, at most once each
pub record IsSeen (p : ℕ) (events : List CoreEvent) (x : Seen) : Type 0 where
  pub taken : limits_of p events ≡ option_to_list x.limit
  pub told : tells_of p events ≡ option_to_list x.clause

abbrev pub AllSeen : List Seen → List CoreEvent → Type 0
AllSeen xs events = (p : ℕ) (x : Seen) → slice_get xs p ≡ Some x → IsSeen p events x

-- the output is that of this piece, as it was seen
pub record Agrees {O : Type 0} (tells : O → Option ℕ) (p : ℕ) (x : Seen) (d : Done O) : Type 0 where
  pub here : d.piece ≡ p
  pub limit : x.limit ≡ Some d.limit
  pub clause : x.clause ≡ tells d.out

-- the outputs of the first n pieces are
abbrev pub AllAgree : {O : Type 0} → (O → Option ℕ) → List Seen → List (Done O) → ℕ → Type 0
AllAgree {O = O} tells xs ds n =
    (p : ℕ) → p < n → (x : Seen) (d : Done O)
    → slice_get xs p ≡ Some x → slice_get ds p ≡ Some d → Agrees tells p x d
