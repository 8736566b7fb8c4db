use Rattle.std.proofs.Common.{◌+◌}
use Rattle.query_meaning.specs.inside.Views.{environment_of, eval_in}
use Rattle.clause_eval.specs.Frames.{tuples_of}
use Rattle.piece_run.proofs.Passing.{passing_turn}
use Rattle.piece_run.proofs.leading.passed.Goals as goal

pub passing-preserved : goal.passing-preserved
passing-preserved g c =
    passing_turn (eval_in c.args.env.now) (c.passing.index + 1) c.args.clauses.now c.passing.index (environment_of c.args.env.now) (tuples_of c.passing.frames) c.index-clauses-index.result _
    c.passing.invariant c.passing-test.true c.index-clauses-index.is (tuples_of c.in-Ok.next) c.in-Ok.ensures
