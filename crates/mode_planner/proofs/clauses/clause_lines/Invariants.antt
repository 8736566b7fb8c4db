use Rattle.std.proofs.Common.{◌≡◌, ◌+◌, ◌++◌, drop}
use Rattle.query_tree.specs.BoundViews.{bound_clauses}
use Rattle.mode_planner.specs.Clauses.{lines_from}
use Rattle.mode_planner.proofs.clauses.clause_lines.Given as goal

abbrev pub invariant-loop-clause : goal.invariant-loop-clause
invariant-loop-clause l = record {
  left : l.lines.items ++ lines_from l.lets l.number (bound_clauses (drop l.clause-index l.clauses)) ≡ lines_from l.lets 1 (bound_clauses l.clauses);
  counted : l.number ≡ l.clause-index + 1;
}
