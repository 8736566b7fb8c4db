-- Narrow clauses are stages.
use Rattle.std.proofs.Common.{◌≡◌, ℕ, ◌+◌, ◌≤◌, Bool, true, false, ◌&&◌, List, refl, ap, ◌∙◌, subst, arith}
use Rattle.item_tree.specs.declared.fault.Fault.{Fault}
use Rattle.seq_types.specs.declared.types.SeqType.{SeqType}
use Rattle.query_tree.specs.declared.bound.Slot.{Slot}
use Rattle.query_tree.specs.declared.bound.Target.{Target}
use Rattle.query_tree.specs.Plain as p
use Rattle.query_tree.specs.Plain.{PlainClause, PlainClauses}
use Rattle.query_tree.specs.Scoped.{and_slots}
use Rattle.query_meaning.specs.Outcome as m
use Rattle.query_meaning.specs.Outcome.{OrFault}
use Rattle.query_meaning.specs.Environment.{Tuple, Environment, Inner}
use Rattle.query_meaning.specs.Clauses.{clause_value, for_tuples, let_tuples, where_tuples}
use Rattle.query_meaning.specs.Flwors.{with_slots}
use Rattle.query_meaning.specs.Pieces.{is_narrow, are_narrow}
use Rattle.stage_laws.specs.Runs as run
use Rattle.stage_laws.specs.Pieces.{Follow}
use Rattle.stage_laws.specs.Ends.{stage}
use Rattle.stage_laws.specs.Laws.{Falls}
use Rattle.stage_laws.proofs.Steps.{narrow_falls}
use Rattle.clause_stages.specs.Steps.{TupleStage, marked, tuples_at, clauses_stage}
use Rattle.clause_stages.specs.Values.{how_many, EndValue, behind_clauses, IsEnd}
use Rattle.clause_stages.specs.Laws.{ClausesAreStages}
use Rattle.clause_stages.proofs.Marking.{meant, meant_tuples, then_ended}

pub both : (a b : Bool) → (a && b) ≡ true → (a ≡ true) × (b ≡ true)
both true b h = (refl, h)
both false b h = absurd cc

pub clause_meant : (K : Type 0) (inner : Inner) (number : ℕ) (stream : List Slot) (c : PlainClause Slot Target SeqType) (env : Environment) (ts : List Tuple) → is_narrow c ≡ true
    → clause_value inner number stream c env ts ≡ meant (run.each_from {K = K} number (tuples_at inner c env 0) 1 ts)
clause_meant K inner number stream (p.for_clause variable t allowing_empty at source) env ts h = meant_tuples K number (for_tuples inner variable t allowing_empty at source env) ts
clause_meant K inner number stream (p.let_clause variable t e) env ts h = meant_tuples K number (let_tuples inner variable t e env) ts
clause_meant K inner number stream (p.where_clause place test) env ts h = meant_tuples K number (where_tuples inner test env) ts
clause_meant K inner number stream (p.count_clause place variable) env ts h = absurd cc
clause_meant K inner number stream (p.group_clause place keys) env ts h = absurd cc
clause_meant K inner number stream (p.order_clause place stable keys) env ts h = absurd cc

module _ {B C K : Type 0} (inner : Inner) (env : Environment) (value : EndValue C) (last_step : ℕ → TupleStage B K) (finish : List Slot → B → OrFault C) (is_end : IsEnd value last_step finish) where
  pub means : (number : ℕ) (stream : List Slot) (cs : PlainClauses Slot Target SeqType) → are_narrow cs ≡ true → (ts : List Tuple)
      → behind_clauses inner number stream cs env value ts ≡ stage marked (finish (and_slots stream cs)) (clauses_stage inner number cs env last_step) ts
  means number stream p.no_clauses h ts = is_end number stream ts
  means number stream (p.more_clauses c cs) h ts =
      let w = both (is_narrow c) (are_narrow cs) h in
      ap (λ (q : OrFault (List Tuple)). m.◌>>=◌ q (behind_clauses inner (number + 1) (with_slots stream c) cs env value)) (clause_meant K inner number stream c env ts w.0)
      ∙ then_ended (run.each_from number (tuples_at inner c env 0) 1 ts) (clauses_stage inner (number + 1) cs env last_step).run (finish (and_slots stream (p.more_clauses c cs)))
      (behind_clauses inner (number + 1) (with_slots stream c) cs env value) (λ next. means (number + 1) (with_slots stream c) cs w.1 next)

module _ {B K : Type 0} (inner : Inner) (env : Environment) (last at : ℕ) (empty : B) (follow : Follow B K Fault) (last_step : ℕ → TupleStage B K) (up : at ≤ last + 1) (falls : Falls at last empty follow (last_step at)) where
  pub falls_from : (number : ℕ) (cs : PlainClauses Slot Target SeqType) → number + how_many cs ≡ at → Falls number last empty follow (clauses_stage inner number cs env last_step)
  falls_from number p.no_clauses h =
      let e : at ≡ number = omega arith in subst (λ (n : ℕ). Falls n last empty follow (last_step n)) e falls
  falls_from number (p.more_clauses c cs) h =
      narrow_falls number (number + 1) last empty follow (tuples_at inner c env 0) (clauses_stage inner (number + 1) cs env last_step) (falls_from (number + 1) cs (omega arith)) (omega arith) (omega arith)

pub clauses_are_stages : (B C K : Type 0) → ClausesAreStages B C K
clauses_are_stages B C K = record {
  means = λ inner number stream cs env value last_step finish narrow is_end ts. means inner env value last_step finish is_end number stream cs narrow ts;
  falls = λ inner number last cs env empty follow last_step up falls. falls_from inner env last (number + how_many cs) empty follow last_step up falls number cs refl;
}
