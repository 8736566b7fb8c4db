-- The `let`s before a driver, as the code has them.
use Rattle.std.specs.Prelude.{◌≡◌, true, List, [], ◌∷◌, All}
use Rattle.seq_types.specs.declared.types.SeqType.{SeqType}
use Rattle.query_tree.specs.BoundViews.{bound_clause}
use Rattle.query_tree.specs.declared.bound.Slot.{Slot}
use Rattle.query_tree.specs.declared.bound.Target.{Target}
use Rattle.query_tree.specs.declared.clause.Clause.{Clause}
use Rattle.query_meaning.specs.Environment.{Tuple}
use Rattle.mode_planner.specs.Drivers.{is_let}
use Rattle.clause_eval.specs.Frames.{frame_tuple}
use Rattle.clause_eval.specs.declared.tuples.Frame.{Frame}

-- all of these clauses are `let`s
abbrev pub AreLets : List (Clause Slot Target SeqType) → Type 0
AreLets cs = All (λ c. is_let (bound_clause c) ≡ true) cs

-- a frame as the one tuple that there is
abbrev pub one_tuple : Frame → List Tuple
one_tuple f = frame_tuple f ∷ []
