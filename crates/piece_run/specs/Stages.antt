-- A stage of narrow clauses with an end after them, as a stage of the laws.
use Rattle.std.specs.Prelude.{ℕ, ◌+◌, length}
use Rattle.query_tree.specs.BoundViews.{bound_clauses}
use Rattle.query_meaning.specs.Environment.{Environment, Inner}
use Rattle.clause_stages.specs.Steps.{TupleStage, clauses_stage}
use Rattle.piece_outcomes.specs.Came.{Came, Seen}
use Rattle.piece_run.specs.Ends.{StageEnd, end_step}
use Rattle.piece_run.specs.declared.stage.NarrowSteps.{NarrowSteps}

-- the number of the end, which is the last step
abbrev pub last_of : NarrowSteps → ℕ
last_of s = s.first + length s.clauses.now

abbrev pub ends_in : Inner → Environment → NarrowSteps → StageEnd → TupleStage Came Seen
ends_in inner env s end =
    clauses_stage inner s.first (bound_clauses s.clauses.now) env (end_step inner env end)
