-- What workers give for all pieces of an input, as a run of a stage on its lines.
use Rattle.std.specs.Prelude.{◌≡◌, ℕ, ◌+◌, ◌<◌, List, flat_map, Option, Some}
use Rattle.std.specs.List.{range_with_len}
use Rattle.item_tree.specs.Datum.{Datum}
use Rattle.item_reader.specs.Lines.{Line}
use Rattle.line_pieces.specs.Pieces.{told_piece}
use Rattle.seq_types.specs.declared.types.SeqType.{SeqType}
use Rattle.tuple_rows.specs.Keys.{KeyList, Keyed}
use Rattle.query_tree.specs.declared.bound.Slot.{Slot}
use Rattle.query_tree.specs.declared.bound.Target.{Target}
use Rattle.query_tree.specs.Bound.{BoundTree}
use Rattle.query_tree.specs.BoundViews.{bound_clauses}
use Rattle.query_tree.specs.Plain.{PlainOrderKeys}
use Rattle.query_meaning.specs.Orders.{column_places}
use Rattle.query_meaning.specs.inside.Views.{tuple_of}
use Rattle.clause_stages.specs.Ends.{orders_step}
use Rattle.piece_board.specs.declared.job.Pieces.{Pieces}
use Rattle.piece_board.specs.Whole.{IsWhole}
use Rattle.piece_outcomes.specs.Came.{Came, Seen}
use Rattle.piece_outcomes.specs.Counting.{told_step, order_told_step}
use Rattle.piece_outcomes.specs.declared.outcome.Counted.{Counted}
use Rattle.piece_outcomes.specs.declared.outcome.OrderCounted.{OrderCounted}
use Rattle.piece_seats.specs.Seats.{first_line}
use Rattle.piece_run.specs.Driven.{MayBegin, stage_of, order_stage_of}
use Rattle.piece_run.specs.Ends.{end_step}
use Rattle.piece_run.specs.Gathering.{OnPieces, IsWholeRun, IsWholeOrder, lines_before, numbered_piece, whole_run}
use Rattle.piece_run.specs.Meanings.{LinesFor, lines_run}
use Rattle.piece_run.specs.Outcomes.{CameIs}
use Rattle.piece_run.specs.Seats.{IsKeyedPiece, IsWidePiece}
use Rattle.piece_run.specs.Staged.{end_of, stage_inner, stage_environment, last_step}
use Rattle.piece_run.specs.declared.came.CameOut.{CameOut}
use Rattle.piece_run.specs.declared.stage.DrivenStage.{DrivenStage}

-- the clauses of a stage, where this is the source of its `for`
abbrev pub lines_for : {F : Type 0} → DrivenStage F → BoundTree → LinesFor
lines_for s source = record {
  inner = stage_inner s;
  env = stage_environment s;
  reading = s.reading;
  place = s.place;
  variable = s.binding.variable.now;
  of = s.binding.of.now;
  at = s.binding.at.now;
  source = source;
  tuple = tuple_of s.leading.now;
  clauses = bound_clauses s.clauses.now;
}

-- the stage on that many pieces, with these lists
abbrev pub on_lists : {F : Type 0} → DrivenStage F → ℕ → (ℕ → List (ℕ × Line)) → OnPieces Came Seen
on_lists s total lists = record {
  first = s.reading;
  last = last_step s;
  stage = stage_of s;
  total = total;
  lists = lists;
}

-- the stage on that many pieces with these lines
abbrev pub on_pieces : {F : Type 0} → DrivenStage F → ℕ → (ℕ → List Line) → OnPieces Came Seen
on_pieces s total lines = on_lists s total (numbered_piece lines)

-- These are the lines of all pieces, as the files tell them; and where the `for` has a variable for
-- their numbers, the stage has how many lines stand before each piece.
pub record AreLines {F : Type 0} (s : DrivenStage F) (told : List (Option (List ℕ))) (total : ℕ)
    (lines : ℕ → List Line) : Type 0 where
  pub pieces : (p : ℕ) → p < total → told_piece s.cut.now told p ≡ Some (lines p)
  pub numbers : (p : ℕ) → p < total
      → MayBegin s.binding.at.now (first_line s.before.now p) (lines_before lines p + 1)

-- The outputs that workers give for all pieces are a whole run of the stage: on some lines, and on
-- those of the input, where its files tell them; and that is what the clauses of the stage make of
-- the lines of the input.
pub record RunsAreWhole {I : Type 0} (F : Type 0) (stands : I → List Datum → Type 0) : Type 0 where
  pub some : (s : DrivenStage F) (told : List (Option (List ℕ))) (total : ℕ)
      (pieces : Pieces (Counted (CameOut I)))
      → IsWhole told_step (IsKeyedPiece stands s told) total (last_step s + 1)
      pieces.done.items pieces.events.items
      → (lists : ℕ → List (ℕ × Line))
      × IsWholeRun (CameIs stands) (on_lists s total lists) pieces
  pub told : (s : DrivenStage F) (told : List (Option (List ℕ))) (total : ℕ)
      (lines : ℕ → List Line) (pieces : Pieces (Counted (CameOut I)))
      → AreLines s told total lines
      → IsWhole told_step (IsKeyedPiece stands s told) total (last_step s + 1)
      pieces.done.items pieces.events.items
      → IsWholeRun (CameIs stands) (on_pieces s total lines) pieces
  pub runs : (s : DrivenStage F) (source : BoundTree) (total : ℕ) (lines : ℕ → List Line)
      → whole_run (on_pieces s total lines)
      ≡ lines_run (lines_for s source)
      (end_step (stage_inner s) (stage_environment s) (end_of s.end))
      (flat_map lines (range_with_len 0 total))

-- ---- a stage that ends in `order by` these keys

abbrev pub orders_on_pieces : {F : Type 0} → DrivenStage F → PlainOrderKeys Slot Target SeqType
    → ℕ → (ℕ → List Line) → OnPieces (List Keyed) KeyList
orders_on_pieces s keys total lines = record {
  first = s.reading;
  last = last_step s;
  stage = order_stage_of s keys;
  total = total;
  lists = numbered_piece lines;
}

-- The same for outputs at an order; its columns have the places of the keys.
pub record OrdersAreWhole {I : Type 0} (F : Type 0) (stands : I → List Datum → Type 0)
    : Type 0 where
  pub some : (s : DrivenStage F) (keys : PlainOrderKeys Slot Target SeqType)
      (told : List (Option (List ℕ))) (total : ℕ) (pieces : Pieces (OrderCounted (CameOut I)))
      → IsWhole order_told_step (IsWidePiece stands s keys told) total (last_step s + 1)
      pieces.done.items pieces.events.items
      → (o : OnPieces (List Keyed) KeyList) × (o.last ≡ last_step s)
      × IsWholeOrder (CameIs stands) (column_places keys) o pieces
  pub told : (s : DrivenStage F) (keys : PlainOrderKeys Slot Target SeqType)
      (told : List (Option (List ℕ))) (total : ℕ) (lines : ℕ → List Line)
      (pieces : Pieces (OrderCounted (CameOut I)))
      → AreLines s told total lines
      → IsWhole order_told_step (IsWidePiece stands s keys told) total (last_step s + 1)
      pieces.done.items pieces.events.items
      → IsWholeOrder (CameIs stands) (column_places keys) (orders_on_pieces s keys total lines)
      pieces
  pub runs : (s : DrivenStage F) (keys : PlainOrderKeys Slot Target SeqType) (source : BoundTree)
      (total : ℕ) (lines : ℕ → List Line)
      → whole_run (orders_on_pieces s keys total lines)
      ≡ lines_run (lines_for s source)
      (orders_step (stage_inner s) keys (stage_environment s))
      (flat_map lines (range_with_len 0 total))
