use Rattle.std.proofs.Common.{ap, ◌+◌}
use Rattle.piece_run.proofs.FlworParts.{narrow_more}
use Rattle.piece_run.proofs.first_end.first_end.Goals as goal

pub loop-clause-preserved : goal.loop-clause-preserved
loop-clause-preserved c = (
  narrow_more c.args.clauses.now c.loop-clause.clause-index c.clause-item.result c.loop-clause-test.true c.clause-item.is c.loop-clause.invariant.0 c.in-None.ensures,
  ap (λ n. n + 1) c.loop-clause.invariant.1,
)
