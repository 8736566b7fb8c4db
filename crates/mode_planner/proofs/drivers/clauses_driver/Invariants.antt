use Rattle.std.proofs.Common.{◌≡◌, drop}
use Rattle.query_tree.specs.BoundViews.{bound_clauses}
use Rattle.mode_planner.specs.Drivers.{clauses_driver}
use Rattle.mode_planner.proofs.drivers.clauses_driver.Given as goal

-- all clauses so far are `let`s
abbrev pub invariant-loop-clause : goal.invariant-loop-clause
invariant-loop-clause l = record {
  left : clauses_driver l.lets (bound_clauses (drop l.clause-index l.clauses)) ≡ clauses_driver 0 (bound_clauses l.clauses);
  counted : l.lets ≡ l.clause-index;
}
