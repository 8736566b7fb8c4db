-- Stages that read an input fall into pieces.
use Rattle.std.proofs.Common.{◌≡◌, ℕ, ◌+◌, ◌≤◌, List, [], length, Option, refl, subst, arith}
use Rattle.item_tree.specs.declared.fault.Fault.{Fault}
use Rattle.item_reader.specs.Lines.{Line}
use Rattle.seq_types.specs.declared.types.SeqType.{SeqType}
use Rattle.tuple_rows.specs.Keys.{KeyList}
use Rattle.query_tree.specs.declared.bound.Slot.{Slot}
use Rattle.query_tree.specs.declared.bound.Target.{Target}
use Rattle.query_tree.specs.BoundViews.{bound_clauses}
use Rattle.query_tree.specs.Plain.{PlainOrderKeys}
use Rattle.query_meaning.specs.Environment.{Environment, Inner}
use Rattle.query_meaning.specs.Orders.{column_places}
use Rattle.query_meaning.specs.inside.Views.{tuple_of}
use Rattle.stage_laws.specs.Ends.{in_order}
use Rattle.stage_laws.specs.Laws.{Falls}
use Rattle.stage_laws.specs.Pieces.{Follow}
use Rattle.stage_laws.proofs.Ends.{kept_falls}
use Rattle.clause_stages.specs.Ends.{items_step, numbers_step, groups_step, orders_step, order_clash}
use Rattle.clause_stages.specs.InputLines.{line_read}
use Rattle.clause_stages.specs.Steps.{TupleStage, clauses_stage}
use Rattle.clause_stages.specs.Values.{how_many}
use Rattle.clause_stages.proofs.CameOut.{how_many_bound}
use Rattle.clause_stages.proofs.Clauses.{falls_from}
use Rattle.clause_stages.proofs.Driving.{drivers_are_stages}
use Rattle.clause_stages.proofs.EndSteps.{ends_are_steps}
use Rattle.clause_stages.proofs.OrderSteps.{orders_are_steps}
use Rattle.piece_outcomes.specs.Came.{Seen, nothing_came, came_behind, follow, keyed_came}
use Rattle.piece_outcomes.specs.Orders.{clash_at}
use Rattle.piece_run.specs.Driven.{driven_by}
use Rattle.piece_run.specs.Ends.{StageEnd, items, numbers, groups, items_came, tuples_came, end_step}
use Rattle.piece_run.specs.Staged.{end_of, stage_inner, stage_environment, last_step, tuples_stage, ordered_stage}
use Rattle.piece_run.specs.declared.stage.DrivenStage.{DrivenStage}

end_falls : (inner : Inner) (env : Environment) (end : StageEnd) (number : ℕ) → Falls number number nothing_came follow (end_step inner env end number)
end_falls inner env (items body) number =
    kept_falls number number items_came came_behind (items_step inner body env number) (λ xs ys. refl) ((ends_are_steps Seen).items_fall inner body env number)
end_falls inner env numbers number =
    kept_falls number number tuples_came came_behind (numbers_step number) (λ xs ys. refl) ((ends_are_steps Seen).numbers_fall number)
end_falls inner env (groups keys) number =
    kept_falls number number keyed_came came_behind (groups_step inner keys env number) (λ xs ys. refl) ((ends_are_steps Seen).groups_fall inner keys env number)

-- the clauses of a stage, where its end falls into pieces
clauses_fall : {F B K : Type 0} (s : DrivenStage F) (last : ℕ → TupleStage B K) (empty : B) (follow : Follow B K Fault) → Falls (last_step s) (last_step s) empty follow (last (last_step s))
    → Falls (s.reading + 2) (last_step s) empty follow (clauses_stage (stage_inner s) (s.reading + 2) (bound_clauses s.clauses.now) (stage_environment s) last)
clauses_fall s last empty follow falls =
    let cs = bound_clauses s.clauses.now in
    let k : how_many cs ≡ length s.clauses.now = how_many_bound s.clauses.now in
    let up : last_step s ≤ last_step s + 1 = omega arith in
    let is : s.reading + 2 + how_many cs ≡ last_step s = omega arith in
    falls_from (stage_inner s) (stage_environment s) (last_step s) (last_step s) empty follow last up falls (s.reading + 2) cs is

pub tuples_fall : {F : Type 0} (s : DrivenStage F) → Falls (s.reading + 2) (last_step s) nothing_came follow (tuples_stage s)
tuples_fall s =
    clauses_fall s (end_step (stage_inner s) (stage_environment s) (end_of s.end)) nothing_came follow (end_falls (stage_inner s) (stage_environment s) (end_of s.end) (last_step s))

same_clash : (keys : PlainOrderKeys Slot Target SeqType) → order_clash keys ≡ clash_at (column_places keys)
same_clash keys = refl

pub ordered_fall : {F : Type 0} (s : DrivenStage F) (keys : PlainOrderKeys Slot Target SeqType) → Falls (s.reading + 2) (last_step s) [] (in_order (last_step s) (clash_at (column_places keys))) (ordered_stage s keys)
ordered_fall s keys =
    let inner = stage_inner s in let env = stage_environment s in let last = last_step s in
    clauses_fall s (orders_step inner keys env) [] (in_order last (clash_at (column_places keys)))
    (subst (λ (clash : List KeyList → KeyList → Option Fault). Falls last last [] (in_order last clash) (orders_step inner keys env last)) (same_clash keys) (orders_are_steps.orders_fall inner keys env last))

-- a stage, where what is after its driver falls into pieces
pub driven_fall : {F B K : Type 0} (s : DrivenStage F) (empty : B) (follow : Follow B K Fault) (rest : TupleStage B K) → Falls (s.reading + 2) (last_step s) empty follow rest
    → Falls s.reading (last_step s) empty follow (driven_by s rest)
driven_fall {B = B} {K = K} s empty follow rest falls =
    let up : s.reading + 1 ≤ last_step s = omega arith in
    (drivers_are_stages Line B B K).falls s.reading (last_step s) s.binding.variable.now s.binding.of.now s.binding.at.now (tuple_of s.leading.now) (line_read s.place) empty follow rest falls up
