-- A lone call of `json-lines` over the pieces of its input.
use Rattle.std.specs.Prelude.{◌≡◌, ℕ, List, Option, IfSome}
use Rattle.item_tree.specs.Datum.{Datum}
use Rattle.item_tree.specs.declared.fault.Fault.{Fault}
use Rattle.item_reader.specs.Lines.{Line}
use Rattle.line_pieces.specs.Cuts.{Cutting}
use Rattle.line_pieces.specs.Pieces.{told_piece}
use Rattle.query_meaning.specs.Outcome.{OrFault, Outcome}
use Rattle.stage_laws.specs.Stages.{Stage, ended, driver, kept_as}
use Rattle.clause_stages.specs.Drivers.{numbered_lines, line_item}
use Rattle.clause_stages.specs.InputLines.{line_read}
use Rattle.piece_outcomes.specs.Came.{Came, Seen}
use Rattle.piece_outcomes.specs.declared.outcome.Counted.{Counted}
use Rattle.piece_run.specs.Ends.{items_came}
use Rattle.piece_run.specs.Outcomes.{IsOutcomeOf}
use Rattle.piece_run.specs.Gathering.{OnPieces, numbered_piece}
use Rattle.piece_run.specs.declared.lone_lines.ItemsCame.{ItemsCame}

-- this is kept of the items that came
abbrev pub ItemsAre : {K : Type 0} → (K → List Datum → Type 0) → ItemsCame K → Came → Type 0
ItemsAre stands w came = stands w.items came.items

-- a line with its number, which makes no difference, gives the item that it reads as
abbrev pub numbered_item : {L : Type 0} → (L → OrFault Datum) → ℕ × L → Outcome
numbered_item read line = line_item read line.1

-- lines with their numbers are read for the call at this place, and their items come out
abbrev pub lone_stage : ℕ → Stage (ℕ × Line) Came Seen Fault
lone_stage place = driver 0 (numbered_item (line_read place)) (kept_as items_came ended)

-- what it makes of these lines at a limit, whatever numbers they have
abbrev pub IsOfLone : {K : Type 0} → (K → List Datum → Type 0) → (place : ℕ) → List Line
    → (limit : ℕ) → Counted (ItemsCame K) → Type 0
IsOfLone stands place lines limit out =
    (n : ℕ) → IsOutcomeOf (ItemsAre stands) 0 0 (lone_stage place) (numbered_lines n lines) limit
    out

-- What it makes of a piece of files that tell this: of the piece's lines, where its file tells its
-- bytes, and else of some lines.
pub record IsLonePiece {K : Type 0} (stands : K → List Datum → Type 0) (place : ℕ) (cut : Cutting)
    (told : List (Option (List ℕ))) (piece limit : ℕ) (out : Counted (ItemsCame K)) : Type 0 where
  pub lines : List Line
  pub are : IfSome (told_piece cut told piece) (λ ls. lines ≡ ls)
  pub outcome : IsOfLone stands place lines limit out

-- all pieces of the input, of which these are the lines
abbrev pub lone_pieces : ℕ → ℕ → (ℕ → List Line) → OnPieces Came Seen
lone_pieces place total lines = record {
  first = 0;
  last = 0;
  stage = lone_stage place;
  total = total;
  lists = numbered_piece lines;
}
