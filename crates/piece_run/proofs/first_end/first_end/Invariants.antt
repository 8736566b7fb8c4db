use Rattle.std.proofs.Common.{◌≡◌, true, take}
use Rattle.query_tree.specs.BoundViews.{bound_clauses}
use Rattle.query_meaning.specs.Pieces.{are_narrow}
use Rattle.piece_run.proofs.first_end.first_end.Given as goal

abbrev pub invariant-loop-clause : goal.invariant-loop-clause
invariant-loop-clause l = (are_narrow (bound_clauses (take l.clause-index l.clauses)) ≡ true) × (l.count ≡ l.clause-index)
