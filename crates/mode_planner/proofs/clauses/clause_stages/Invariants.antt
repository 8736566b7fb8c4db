use Rattle.std.proofs.Common.{◌≡◌, ◌+◌, ◌++◌, drop}
use Rattle.query_tree.specs.BoundViews.{bound_clauses}
use Rattle.mode_planner.specs.Clauses.{stages_from}
use Rattle.mode_planner.proofs.clauses.clause_stages.Given as goal

abbrev pub invariant-loop-clause : goal.invariant-loop-clause
invariant-loop-clause l = record {
  left : l.stages.items ++ stages_from l.first l.number l.end (bound_clauses (drop l.clause-index l.clauses)) ≡ stages_from l.fn.lets 1 l.end (bound_clauses l.clauses);
  counted : l.number ≡ l.clause-index + 1;
}
