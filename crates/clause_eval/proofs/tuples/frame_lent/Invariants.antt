use Rattle.std.proofs.Common.{◌≡◌, ◌++◌, drop}
use Rattle.query_meaning.specs.inside.Views.{tuple_of}
use Rattle.clause_eval.proofs.tuples.frame_lent.Given as goal

abbrev pub invariant-loop-value : goal.invariant-loop-value
invariant-loop-value l = (tuple_of l.slots.items ++ tuple_of (drop l.value-index l.frame)) ≡ tuple_of l.frame
