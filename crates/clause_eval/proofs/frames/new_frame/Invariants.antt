use Rattle.std.proofs.Common.{◌≡◌, []}
use Rattle.std.specs.Prelude.{replicate}
use Rattle.query_meaning.specs.inside.Views.{tuple_of}
use Rattle.clause_eval.proofs.frames.new_frame.Given as goal

abbrev pub invariant-loop-slot : goal.invariant-loop-slot
invariant-loop-slot l = tuple_of l.slots.items ≡ replicate l.slot []
