use Rattle.std.proofs.Common.{◌≡◌, List, ℕ, map, IfSome, sym, subst}
use Rattle.item_reader.specs.Lines.{Line}
use Rattle.line_pieces.specs.Pieces.{told_piece}
use Rattle.query_tree.specs.BoundViews.{bound_order_keys}
use Rattle.piece_outcomes.specs.Orders.{IsWide}
use Rattle.piece_run.specs.Driven.{order_stage_of}
use Rattle.piece_run.specs.Ordering.{IsOrderOutcomeOf}
use Rattle.piece_run.specs.Outcomes.{CameIs}
use Rattle.piece_run.specs.Staged.{last_step}
use Rattle.piece_run.proofs.ToldBelow.{order_below, begins_first, piece_lines, columns_count}
use Rattle.piece_run.proofs.stage.DrivenStage.of_piece_ordered.Goals as goal

pub returns-clause-outcome : goal.returns-clause-outcome
returns-clause-outcome g c =
    let s = c.args.self.now in
    record {
      lines = c.lines.result;
      are = subst (λ (lines : List Line). IfSome (told_piece s.cut.now (map g.S.InputFile.held c.args.seat.now.files.items) c.args.piece) (λ ls. lines ≡ ls)) (sym c.lines.ensures) c.in_ok-read_piece.ensures.lines;
      outcome = piece_lines s (λ ls. IsOrderOutcomeOf (CameIs g.I.ItemsKept.stands) s.reading (last_step s) (order_stage_of s (bound_order_keys c.args.keys.now)) ls c.args.limit c.in_ok-out.out) c.lines.result c.args.piece c.in_ok-first.first c.in_ok-first.ensures c.in_ok-out.ensures.outcome;
    }

pub returns-clause-wide : goal.returns-clause-wide
returns-clause-wide g c = subst (λ (n : ℕ). IsWide n c.in_ok-out.out.outcome) (columns_count c.args.keys.now) c.in_ok-out.ensures.wide

pub returns-clause-below : goal.returns-clause-below
returns-clause-below g c =
    let s = c.args.self.now in
    order_below _ s.reading (last_step s) (order_stage_of s (bound_order_keys c.args.keys.now)) _ c.args.limit c.in_ok-out.out
    (c.in_ok-out.ensures.outcome (c.in_ok-first.first) (begins_first s.binding.at.now c.in_ok-first.first))
