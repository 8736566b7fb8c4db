-- What a stage makes of a whole input, by the outputs of its pieces.
use Rattle.std.specs.Prelude.{◌≡◌, ℕ, ◌+◌, List, [], flat_map, length, Result}
use Rattle.std.specs.List.{range_with_len}
use Rattle.item_tree.specs.declared.fault.Fault.{Fault}
use Rattle.item_reader.specs.Lines.{Line}
use Rattle.tuple_rows.specs.Keys.{KeyList, Keyed}
use Rattle.stage_laws.specs.Runs.{Met}
use Rattle.stage_laws.specs.Stages.{Stage}
use Rattle.stage_laws.specs.Ends.{in_order}
use Rattle.stage_laws.specs.Laws.{Falls}
use Rattle.clause_stages.specs.Drivers.{numbered_lines}
use Rattle.piece_board.specs.declared.job.Pieces.{Pieces}
use Rattle.piece_board.specs.Whole.{IsWhole}
use Rattle.piece_outcomes.specs.Came.{Came, Seen, nothing_came, follow}
use Rattle.piece_outcomes.specs.Counting.{told_step, order_told_step}
use Rattle.piece_outcomes.specs.Orders.{clash_at, IsWide}
use Rattle.piece_outcomes.specs.declared.outcome.Counted.{Counted}
use Rattle.piece_outcomes.specs.declared.outcome.OrderCounted.{OrderCounted}
pub use Rattle.piece_seats.specs.Counting.{lines_before}
use Rattle.piece_run.specs.Outcomes.{IsOutcomeOf}
use Rattle.piece_run.specs.Ordering.{IsOrderOutcomeOf}

-- a stage with steps from `first` to `last`, and the lists of so many pieces, in order
pub record OnPieces (B K : Type 0) : Type 0 where
  pub first : ℕ
  pub last : ℕ
  pub stage : Stage (ℕ × Line) B K Fault
  pub total : ℕ
  pub lists : ℕ → List (ℕ × Line)

-- all lists, one after the other
abbrev pub all_lists : {B K : Type 0} → OnPieces B K → List (ℕ × Line)
all_lists o = flat_map o.lists (range_with_len 0 o.total)

-- what the stage makes of them all
abbrev pub whole_run : {B K : Type 0} → OnPieces B K → Result B (Met K Fault)
whole_run o = o.stage.run (all_lists o)

-- the lines of a piece with their numbers in the whole input
abbrev pub numbered_piece : (ℕ → List Line) → ℕ → List (ℕ × Line)
numbered_piece lists p = numbered_lines (lines_before lists p + 1) (lists p)

-- so numbered, all pieces one after the other are the lines of the input with their numbers
abbrev pub PiecesAreNumbered : Type 0
PiecesAreNumbered = (lists : ℕ → List Line) (total : ℕ)
    → flat_map (numbered_piece lists) (range_with_len 0 total)
    ≡ numbered_lines 1 (flat_map lists (range_with_len 0 total))

-- The outputs of all pieces are those of the stage on their lists, at the limits of one schedule;
-- and the stage falls into pieces.
pub record IsWholeRun {W : Type 0} (stands : W → Came → Type 0) (o : OnPieces Came Seen)
    (pieces : Pieces (Counted W)) : Type 0 where
  pub falls : Falls o.first o.last nothing_came follow o.stage
  pub outputs : IsWhole told_step
      (λ p limit out. IsOutcomeOf stands o.first o.last o.stage (o.lists p) limit out)
      o.total (o.last + 1) pieces.done.items pieces.events.items

-- an output at an order, with as many columns as the order has
pub record IsWideOutcomeOf {W : Type 0} (stands : W → Came → Type 0) (width : ℕ)
    (o : OnPieces (List Keyed) KeyList) (p limit : ℕ) (out : OrderCounted W) : Type 0 where
  pub outcome : IsOrderOutcomeOf stands o.first o.last o.stage (o.lists p) limit out
  pub wide : IsWide width out.outcome

-- the same where the last step is an order, whose columns have these places
pub record IsWholeOrder {W : Type 0} (stands : W → Came → Type 0) (places : List ℕ)
    (o : OnPieces (List Keyed) KeyList) (pieces : Pieces (OrderCounted W)) : Type 0 where
  pub falls : Falls o.first o.last [] (in_order o.last (clash_at places)) o.stage
  pub outputs : IsWhole order_told_step (IsWideOutcomeOf stands (length places) o)
      o.total (o.last + 1) pieces.done.items pieces.events.items
