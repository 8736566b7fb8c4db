use Rattle.std.proofs.Common.{ap, sym, ◌∙◌, ◌+◌}
use Rattle.clause_eval.proofs.Segments.{narrow_more}
use Rattle.clause_eval.proofs.narrow.narrow_count.Goals as goal

pub loop-clause-preserved : goal.loop-clause-preserved
loop-clause-preserved c = (
  narrow_more c.args.clauses.now c.loop-clause.clause-index c.clause-item.result c.loop-clause-test.true c.clause-item.is c.loop-clause.invariant.0 (sym c.is_narrow.ensures ∙ c.if-is_narrow.true),
  ap (λ n. n + 1) c.loop-clause.invariant.1,
)
