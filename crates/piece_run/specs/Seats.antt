-- What a stage makes of a piece that a worker reads.
use Rattle.std.specs.Prelude.{◌≡◌, ℕ, List, length, Option, IfSome}
use Rattle.item_tree.specs.Datum.{Datum}
use Rattle.item_reader.specs.Lines.{Line}
use Rattle.line_pieces.specs.Pieces.{told_piece}
use Rattle.seq_types.specs.declared.types.SeqType.{SeqType}
use Rattle.query_tree.specs.declared.bound.Slot.{Slot}
use Rattle.query_tree.specs.declared.bound.Target.{Target}
use Rattle.query_tree.specs.Plain.{PlainOrderKeys}
use Rattle.query_meaning.specs.Orders.{column_places}
use Rattle.clause_stages.specs.Drivers.{numbered_lines}
use Rattle.piece_outcomes.specs.Orders.{IsWide}
use Rattle.piece_outcomes.specs.declared.outcome.Counted.{Counted}
use Rattle.piece_outcomes.specs.declared.outcome.OrderCounted.{OrderCounted}
use Rattle.piece_seats.specs.Seats.{first_line}
use Rattle.piece_run.specs.Driven.{MayBegin, stage_of, order_stage_of}
use Rattle.piece_run.specs.Ordering.{IsOrderOutcomeOf}
use Rattle.piece_run.specs.Outcomes.{CameIs, IsOutcomeOf}
use Rattle.piece_run.specs.Staged.{EndKeyedBy, last_step}
use Rattle.piece_run.specs.declared.came.CameOut.{CameOut}
use Rattle.piece_run.specs.declared.stage.DrivenStage.{DrivenStage}

-- what the stage makes of these lines, which are those of a piece
abbrev pub IsOfLines : {F I : Type 0} → (I → List Datum → Type 0) → DrivenStage F → List Line
    → (piece limit : ℕ) → Counted (CameOut I) → Type 0
IsOfLines stands s lines piece limit out = (n : ℕ)
    → MayBegin s.binding.at.now (first_line s.before.now piece) n
    → IsOutcomeOf (CameIs stands) s.reading (last_step s) (stage_of s) (numbered_lines n lines)
    limit out

-- What the stage makes of a piece of files that tell this: of the piece's lines, where its file
-- tells its bytes, and else of some lines.
pub record IsOfPiece {F I : Type 0} (stands : I → List Datum → Type 0) (s : DrivenStage F)
    (told : List (Option (List ℕ))) (piece limit : ℕ) (out : Counted (CameOut I)) : Type 0 where
  pub lines : List Line
  pub are : IfSome (told_piece s.cut.now told piece) (λ ls. lines ≡ ls)
  pub outcome : IsOfLines stands s lines piece limit out

-- the same, where what came out for `group by` has its keys
pub record IsKeyedPiece {F I : Type 0} (stands : I → List Datum → Type 0) (s : DrivenStage F)
    (told : List (Option (List ℕ))) (piece limit : ℕ) (out : Counted (CameOut I)) : Type 0 where
  pub of_piece : IsOfPiece stands s told piece limit out
  pub keys : EndKeyedBy s.end out.outcome

-- ---- a stage that ends in `order by` these keys

abbrev pub IsOrderOfLines : {F I : Type 0} → (I → List Datum → Type 0) → DrivenStage F
    → PlainOrderKeys Slot Target SeqType → List Line → (piece limit : ℕ)
    → OrderCounted (CameOut I) → Type 0
IsOrderOfLines stands s keys lines piece limit out = (n : ℕ)
    → MayBegin s.binding.at.now (first_line s.before.now piece) n
    → IsOrderOutcomeOf (CameIs stands) s.reading (last_step s) (order_stage_of s keys)
    (numbered_lines n lines) limit out

pub record IsOrderOfPiece {F I : Type 0} (stands : I → List Datum → Type 0) (s : DrivenStage F)
    (keys : PlainOrderKeys Slot Target SeqType) (told : List (Option (List ℕ)))
    (piece limit : ℕ) (out : OrderCounted (CameOut I)) : Type 0 where
  pub lines : List Line
  pub are : IfSome (told_piece s.cut.now told piece) (λ ls. lines ≡ ls)
  pub outcome : IsOrderOfLines stands s keys lines piece limit out

-- the same, with as many columns as there are keys
pub record IsWidePiece {F I : Type 0} (stands : I → List Datum → Type 0) (s : DrivenStage F)
    (keys : PlainOrderKeys Slot Target SeqType) (told : List (Option (List ℕ)))
    (piece limit : ℕ) (out : OrderCounted (CameOut I)) : Type 0 where
  pub of_piece : IsOrderOfPiece stands s keys told piece limit out
  pub wide : IsWide (length (column_places keys)) out.outcome
