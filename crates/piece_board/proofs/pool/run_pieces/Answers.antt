use Rattle.piece_board.proofs.Limits.{some_enough, whole_enough}
use Rattle.piece_board.proofs.pool.run_pieces.Goals as goal

pub returns-in-Ok-Some-clause-enough : goal.returns-in-Ok-Some-clause-enough
returns-in-Ok-Some-clause-enough g c =
    some_enough g.J.Job.tells (g.J.Job.good c.args.job.now) c.args.total c.args.full (λ p. p.done.items) (λ p. p.events.items)
    c.in-Ok-Some.field-0 c.in-Ok-Some.pieces c.in-Ok-Some.field-0-is c.in-Ok-Some.ensures.whole

pub returns-in-Ok-None-clause-enough : goal.returns-in-Ok-None-clause-enough
returns-in-Ok-None-clause-enough g c =
    whole_enough g.J.Job.tells (g.J.Job.good c.args.job.now) c.args.total c.args.full (λ p. p.done.items) (λ p. p.events.items) c.run_first-answer.result c.run_first-answer.ensures.whole
