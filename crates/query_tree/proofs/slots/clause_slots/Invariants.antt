use Rattle.std.proofs.Common.{◌≡◌, drop}
use Rattle.query_tree.specs.BoundViews.{bound_clauses}
use Rattle.query_tree.specs.Scoped.{and_slots, clause_slots}
use Rattle.query_tree.proofs.slots.clause_slots.Given as goal

abbrev pub invariant-loop-clause : goal.invariant-loop-clause
invariant-loop-clause l = and_slots l.slots.items (bound_clauses (drop l.clause-index l.clauses)) ≡ clause_slots (bound_clauses l.clauses)
