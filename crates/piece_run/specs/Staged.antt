-- What a stage that reads an input is evaluated in, and what it ends in.
use Rattle.std.specs.Prelude.{ℕ, ◌+◌, List, length, None}
use Rattle.seq_types.specs.declared.types.SeqType.{SeqType}
use Rattle.tuple_rows.specs.Keys.{KeyList, Keyed}
use Rattle.query_tree.specs.declared.bound.Slot.{Slot}
use Rattle.query_tree.specs.declared.bound.Target.{Target}
use Rattle.query_tree.specs.Plain.{PlainOrderKeys}
use Rattle.query_tree.specs.BoundViews.{bound_tree, bound_clauses, bound_group_vars}
use Rattle.query_tree.specs.Compiled.{bound_trees}
use Rattle.query_meaning.specs.Calls.{Program}
use Rattle.query_meaning.specs.Environment.{Environment, Inner}
use Rattle.query_meaning.specs.Meaning.{eval}
use Rattle.query_meaning.specs.inside.Views.{tuple_of, lists_of, library_of}
use Rattle.clause_stages.specs.Steps.{TupleStage, clauses_stage}
use Rattle.clause_stages.specs.Ends.{orders_step}
use Rattle.piece_outcomes.specs.Came.{Came, Seen}
use Rattle.piece_outcomes.specs.declared.outcome.Outcome.{Outcome}
use Rattle.piece_run.specs.Keying.{OutKeyedBy}
use Rattle.piece_run.specs.declared.came.CameOut.{CameOut}
use Rattle.piece_run.specs.Ends.{StageEnd, items, numbers, groups, end_step}
use Rattle.piece_run.specs.declared.stage.DrivenStage.{DrivenStage}
use Rattle.piece_run.specs.declared.stage.StageEnd as code
use Rattle.piece_run.specs.declared.stage.StageEnd.TheVariants as own

-- what a stage ends in
abbrev pub end_of : code.StageEnd → StageEnd
end_of (own.Items body) = items (bound_tree body.now)
end_of own.Numbers = numbers
end_of (own.Groups keys) = groups (bound_group_vars keys.now)

unfoldable pub stage_program : {F : Type 0} → DrivenStage F → Program
stage_program s = record {
  functions = (bound_trees s.query.now.tree).functions;
  width = s.query.now.width;
  library = library_of s.library.now;
}

-- how it evaluates expressions, and in what
unfoldable pub stage_inner : {F : Type 0} → DrivenStage F → Inner
stage_inner s = eval (stage_program s) s.depth

unfoldable pub stage_environment : {F : Type 0} → DrivenStage F → Environment
stage_environment s = record {
  frame = tuple_of s.leading.now;
  globals = lists_of s.globals.now;
  item = None;
}

-- the tuples that came out for `group by` have its keys
abbrev pub EndKeyedBy : {I : Type 0} → code.StageEnd → Outcome (CameOut I) → Type 0
EndKeyedBy (own.Items body) o = Unit {0}
EndKeyedBy own.Numbers o = Unit {0}
EndKeyedBy (own.Groups keys) o = OutKeyedBy (length keys.now) o

-- the number of its end, which is the last step
abbrev pub last_step : {F : Type 0} → DrivenStage F → ℕ
last_step s = s.reading + 2 + length s.clauses.now

-- what is run on the tuples of its `for`
abbrev pub tuples_stage : {F : Type 0} → DrivenStage F → TupleStage Came Seen
tuples_stage s = clauses_stage (stage_inner s) (s.reading + 2) (bound_clauses s.clauses.now)
    (stage_environment s) (end_step (stage_inner s) (stage_environment s) (end_of s.end))

-- the same, where it ends in `order by` these keys
abbrev pub ordered_stage : {F : Type 0} → DrivenStage F → PlainOrderKeys Slot Target SeqType
    → TupleStage (List Keyed) KeyList
ordered_stage s keys = clauses_stage (stage_inner s) (s.reading + 2) (bound_clauses s.clauses.now)
    (stage_environment s) (orders_step (stage_inner s) keys (stage_environment s))
