use Rattle.std.proofs.Common.{◌≡◌, List, map, IfSome, sym, subst}
use Rattle.item_reader.specs.Lines.{Line}
use Rattle.line_pieces.specs.Pieces.{told_piece}
use Rattle.piece_run.specs.Driven.{stage_of}
use Rattle.piece_run.specs.Outcomes.{CameIs, IsOutcomeOf}
use Rattle.piece_run.specs.Staged.{last_step}
use Rattle.piece_run.proofs.ToldBelow.{outcome_below, begins_first, piece_lines}
use Rattle.piece_run.proofs.stage.DrivenStage.of_piece.Goals as goal

pub returns-clause-outcome : goal.returns-clause-outcome
returns-clause-outcome g c =
    let s = c.args.self.now in
    record {
      lines = c.lines.result;
      are = subst (λ (lines : List Line). IfSome (told_piece s.cut.now (map g.S.InputFile.held c.args.seat.now.files.items) c.args.piece) (λ ls. lines ≡ ls)) (sym c.lines.ensures) c.in_ok-read_piece.ensures.lines;
      outcome = piece_lines s (λ ls. IsOutcomeOf (CameIs g.I.ItemsKept.stands) s.reading (last_step s) (stage_of s) ls c.args.limit c.in_ok-out.out) c.lines.result c.args.piece c.in_ok-first.first c.in_ok-first.ensures c.in_ok-out.ensures.outcome;
    }

pub returns-clause-below : goal.returns-clause-below
returns-clause-below g c =
    let s = c.args.self.now in
    outcome_below _ s.reading (last_step s) (stage_of s) _ c.args.limit c.in_ok-out.out
    (c.in_ok-out.ensures.outcome (c.in_ok-first.first) (begins_first s.binding.at.now c.in_ok-first.first))
