use Rattle.std.proofs.Common.{◌+◌, refl, subst}
use Rattle.piece_outcomes.specs.declared.outcome.OrderOutcome.TheVariants as outcome
use Rattle.query_tree.specs.BoundViews.{bound_order_keys}
use Rattle.piece_run.specs.DriverGives.{GivesBelow, read_lines}
use Rattle.piece_run.specs.declared.driver.Driven.{Driven}
use Rattle.piece_run.proofs.DriverTells.{order_clean, order_met, order_next, on_ok, none_before}
use Rattle.piece_run.proofs.stage.DrivenStage.of_lines_ordered.Goals as goal

pub returns-in-Tuples-clause-outcome : goal.returns-in-Tuples-clause-outcome
returns-in-Tuples-clause-outcome g c =
    let s = c.args.self.now in let q = read_lines s c.args.lines in
    on_ok _ _ _ c.carry_ordered.result c.carry_ordered.ensures.outcome c.carry_ordered.ensures.first
    (λ out is starts n begins.
    order_next _ s (bound_order_keys c.args.keys.now) c.args.first n c.args.limit begins c.args.lines out (λ k l. none_before out.into (s.reading + 2) k starts l) c.in-Tuples.frames q refl
    (subst (λ (d : Driven). GivesBelow s c.args.first c.args.limit q d) c.in-Tuples.is c.in_ok-frames.ensures) is)

pub returns-in-Tuples-clause-before : goal.returns-in-Tuples-clause-before
returns-in-Tuples-clause-before g c =
    on_ok _ _ _ c.carry_ordered.result c.carry_ordered.ensures.first c.carry_ordered.ensures.first
    (λ out starts again n l. none_before out.into (c.args.self.now.reading + 2) n starts l)

pub returns-in_ok-seen-in-Met-clause-outcome : goal.returns-in_ok-seen-in-Met-clause-outcome
returns-in_ok-seen-in-Met-clause-outcome g c = λ n begins.
    let s = c.args.self.now in let q = read_lines s c.args.lines in
    order_met _ s (bound_order_keys c.args.keys.now) c.args.first n c.args.limit begins c.args.lines
    (record { outcome = outcome.Met c.in-Met.met c.in_ok-seen-in-Met.seen; into = c.none_taken.result }) (λ k l. c.none_taken.ensures k) c.in-Met.met c.in_ok-seen-in-Met.seen c.in_ok-seen-in-Met.ensures.stands refl
    (subst (λ (d : Driven). GivesBelow s c.args.first c.args.limit q d) c.in-Met.is c.in_ok-frames.ensures)

pub returns-in-Clean-clause-outcome : goal.returns-in-Clean-clause-outcome
returns-in-Clean-clause-outcome g c = λ n begins.
    let s = c.args.self.now in let q = read_lines s c.args.lines in
    order_clean _ s (bound_order_keys c.args.keys.now) c.args.first n c.args.limit begins c.args.lines (record { outcome = outcome.Clean; into = c.none_taken-in-Clean.result }) (λ k l. c.none_taken-in-Clean.ensures k) refl
    (subst (λ (d : Driven). GivesBelow s c.args.first c.args.limit q d) c.in-Clean.is c.in_ok-frames.ensures)
