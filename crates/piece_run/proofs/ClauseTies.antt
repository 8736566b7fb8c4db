-- The stages that `clause_eval` runs are those of the laws, and fall into two phases: the narrow
-- clauses, and the end after them.
use Rattle.std.proofs.Common.{◌≡◌, ℕ, ◌+◌, ◌<◌, ◌≤◌, ◌==◌, if◌then◌else◌, List, [], length, Option, Some, None, Result, Ok, Err, refl, ap, ◌∙◌, subst, arith}
use Rattle.item_tree.specs.Datum.{Datum}
use Rattle.item_tree.specs.declared.fault.Fault.{Fault}
use Rattle.seq_types.specs.declared.types.SeqType.{SeqType}
use Rattle.query_tree.specs.declared.bound.Slot.{Slot}
use Rattle.query_tree.specs.declared.bound.Target.{Target}
use Rattle.query_tree.specs.Bound.{BoundTree}
use Rattle.query_tree.specs.Plain as p
use Rattle.query_tree.specs.Plain.{PlainClause, PlainClauses}
use Rattle.query_meaning.specs.Environment.{Tuple, Environment, Inner}
use Rattle.query_meaning.specs.Clauses.{for_tuples, let_tuples, where_tuples, count_tuples}
use Rattle.stage_laws.specs.Runs.{Met, ◌>>=◌, each_from}
use Rattle.stage_laws.specs.Stages.{into_next, narrow, ended, viewed}
use Rattle.stage_laws.specs.Ends.{appended}
use Rattle.stage_laws.proofs.Steps.{ended_falls}
use Rattle.clause_stages.specs.Steps.{TupleStage, tuples_at, clauses_stage}
use Rattle.clause_stages.specs.Ends.{tuples_step, returned}
use Rattle.clause_stages.specs.Values.{how_many}
use Rattle.clause_stages.proofs.Clauses.{falls_from}
use Rattle.clause_eval.specs.OneByOne as one
use Rattle.clause_eval.specs.Carrying as run
use Rattle.piece_outcomes.specs.Came.{Seen}
use Rattle.piece_run.specs.Remade.{remade, IsRemade}
use Rattle.piece_run.specs.Phases.{IsThen}
use Rattle.piece_run.specs.Ends.{items_came, items, end_step}
use Rattle.piece_run.specs.Outcomes.{came_seen}
use Rattle.piece_run.proofs.Remaking.{each_remade, narrow_remade}
use Rattle.piece_run.proofs.TwoPhases.{ended_then, narrow_then}

-- ---- the same clauses

clause_remade : {B W K J : Type 0} (view : B → W) (number : ℕ) (inner : Inner) (c : PlainClause Slot Target SeqType) (env : Environment) (s : TupleStage B K) (t : TupleStage W J)
    → IsRemade view s t → IsRemade view (narrow number (one.tuples_at inner c env 0) s) (narrow number (tuples_at inner c env 0) t)
clause_remade view number inner (p.for_clause variable t allowing_empty at source) env s r h = narrow_remade _ _ view number (for_tuples inner variable t allowing_empty at source env) s r h
clause_remade view number inner (p.let_clause variable t e) env s r h = narrow_remade _ _ view number (let_tuples inner variable t e env) s r h
clause_remade view number inner (p.where_clause place test) env s r h = narrow_remade _ _ view number (where_tuples inner test env) s r h
clause_remade view number inner (p.count_clause place variable) env s r h = narrow_remade _ _ view number (count_tuples variable 0) s r h
clause_remade view number inner (p.group_clause place keys) env s r h = narrow_remade _ _ view number (λ tuple. Ok []) s r h
clause_remade view number inner (p.order_clause place stable keys) env s r h = narrow_remade _ _ view number (λ tuple. Ok []) s r h

module _ {W J : Type 0} (inner : Inner) (body : Option BoundTree) (env : Environment) (view : run.Came → W) (last_step : ℕ → TupleStage W J) (base : (n : ℕ) → IsRemade view (run.last_stage inner n body env) (last_step n)) where
  pub stage_remade : (number : ℕ) (cs : PlainClauses Slot Target SeqType) → IsRemade view (run.stage_from inner number cs body env) (clauses_stage inner number cs env last_step)
  stage_remade number p.no_clauses = base number
  stage_remade number (p.more_clauses c cs) = clause_remade view number inner c env (run.stage_from inner (number + 1) cs body env) (clauses_stage inner (number + 1) cs env last_step) (stage_remade (number + 1) cs)

-- ---- the two ends that `clause_eval` has

items_came_out : (q : Result (List Datum) (Met Seen Fault)) → viewed {K = Seen} items_came (remade {J = Seen} (λ ds. ds) q >>= λ ds. Ok ds) ≡ remade came_seen (q >>= λ ds. Ok (record { tuples = []; items = ds }))
items_came_out (Ok ds) = refl
items_came_out (Err e) = refl

none_taken : (c : ℕ) (q : Result (List Datum) (Met Seen Fault)) → into_next ended c q ≡ into_next run.items_out c q
none_taken c (Ok ds) = refl
none_taken c (Err e) = refl

items_remade : (inner : Inner) (body : BoundTree) (env : Environment) (number : ℕ) → IsRemade came_seen (run.last_stage inner number (Some body) env) (end_step inner env (items body) number)
items_remade inner body env number = record {
  run = λ ts. ap (λ (q : Result (List Datum) (Met Seen Fault)). viewed items_came (q >>= λ ds. Ok ds)) (each_remade Seen Seen number (returned inner body env) 1 ts) ∙ items_came_out (each_from {K = Seen} number (returned inner body env) 1 ts);
  into = λ c ts. ap (λ (n : ℕ). if c == number then length ts else n) (none_taken c (each_from {K = Seen} number (returned inner body env) 1 ts));
}

pub items_stage : (inner : Inner) (body : BoundTree) (env : Environment) (number : ℕ) (cs : PlainClauses Slot Target SeqType)
    → IsRemade came_seen (run.stage_from inner number cs (Some body) env) (clauses_stage inner number cs env (end_step inner env (items body)))
items_stage inner body env number cs = stage_remade inner (Some body) env came_seen (end_step inner env (items body)) (items_remade inner body env) number cs

tuples_remade : (J : Type 0) (inner : Inner) (env : Environment) (number : ℕ) → IsRemade {J = J} (λ w. w.tuples) (run.last_stage inner number None env) (tuples_step number)
tuples_remade J inner env number = record { run = λ ts. refl; into = λ c ts. refl }

pub tuples_stage : (J : Type 0) (inner : Inner) (env : Environment) (number : ℕ) (cs : PlainClauses Slot Target SeqType)
    → IsRemade {J = J} (λ w. w.tuples) (run.stage_from inner number cs None env) (clauses_stage inner number cs env tuples_step)
tuples_stage J inner env number cs = stage_remade inner None env (λ w. w.tuples) tuples_step (tuples_remade J inner env) number cs

-- ---- two phases

module _ {B K : Type 0} (inner : Inner) (env : Environment) (last_step : ℕ → TupleStage B K) where
  pub clauses_then : (at number : ℕ) (cs : PlainClauses Slot Target SeqType) → number + how_many cs ≡ at
      → IsThen number at (clauses_stage inner number cs env tuples_step) (last_step at) (clauses_stage inner number cs env last_step)
  clauses_then at number p.no_clauses h =
      let e : at ≡ number = omega arith in
      subst (λ (n : ℕ). IsThen n at ended (last_step at) (last_step n)) e (ended_then at (last_step at))
  clauses_then at number (p.more_clauses c cs) h =
      narrow_then number at (tuples_at inner c env 0) (clauses_stage inner (number + 1) cs env tuples_step) (last_step at) (clauses_stage inner (number + 1) cs env last_step) (clauses_then at (number + 1) cs (omega arith)) (omega arith)

pub tuples_before : {K : Type 0} (inner : Inner) (env : Environment) (number last at : ℕ) (cs : PlainClauses Slot Target SeqType) → number + how_many cs ≡ at → last + 1 ≡ at → (ts : List Tuple) (e : Met K Fault)
    → (clauses_stage inner number cs env tuples_step).run ts ≡ Err e → e.step < at
tuples_before inner env number last at cs is h ts e r =
    let falls = falls_from inner env last (number + how_many cs) [] appended tuples_step (omega arith) (ended_falls (number + how_many cs) last) number cs refl in
    let w = falls.steps ts e r in
    let up : e.step ≤ last = w.1 in
    omega arith
