-- FLWORs go from one gathered clause to the next in stages.
use Rattle.std.proofs.Common.{◌≡◌, ℕ, suc, ◌+◌, List, [], Ok, refl, sym, ap, ◌∙◌, arith}
use Rattle.seq_types.specs.declared.types.SeqType.{SeqType}
use Rattle.query_tree.specs.declared.bound.Slot.{Slot}
use Rattle.query_tree.specs.declared.bound.Target.{Target}
use Rattle.query_tree.specs.Bound.{BoundTree}
use Rattle.query_tree.specs.Scoped.{and_slots}
use Rattle.query_tree.specs.Plain as p
use Rattle.query_tree.specs.Plain.{PlainClause, PlainClauses}
use Rattle.query_meaning.specs.Outcome.{Outcome, ◌>>=◌}
use Rattle.query_meaning.specs.Environment.{Tuple, Environment, Inner}
use Rattle.query_meaning.specs.Clauses.{clause_value}
use Rattle.query_meaning.specs.Flwors.{with_slots, flwor_from}
use Rattle.stage_laws.specs.Ends.{appended}
use Rattle.clause_stages.specs.Ends.{items_step}
use Rattle.clause_stages.specs.Values.{how_many, and_clauses, behind_clauses}
use Rattle.clause_stages.specs.Laws.{clause_end, return_end, FlworsAreStages}
use Rattle.clause_stages.proofs.Marking.{then_then, same_after}
use Rattle.clause_stages.proofs.Clauses.{means, falls_from}
use Rattle.clause_stages.proofs.EndSteps.{ends_are_steps}

module _ (inner : Inner) (body : BoundTree) (env : Environment) where
  ends : (number : ℕ) (stream : List Slot) (cs : PlainClauses Slot Target SeqType) (ts : List Tuple)
      → flwor_from inner number stream cs body env ts ≡ behind_clauses inner number stream cs env (return_end inner body env) ts
  ends number stream p.no_clauses ts = refl
  ends number stream (p.more_clauses c cs) ts =
      same_after (clause_value inner number stream c env ts) (flwor_from inner (number + 1) (with_slots stream c) cs body env)
      (behind_clauses inner (number + 1) (with_slots stream c) cs env (return_end inner body env)) (λ next. ends (number + 1) (with_slots stream c) cs next)

  goes_on : (number : ℕ) (stream : List Slot) (cs rest : PlainClauses Slot Target SeqType) (g : PlainClause Slot Target SeqType) (ts : List Tuple)
      → flwor_from inner number stream (and_clauses cs (p.more_clauses g rest)) body env ts
      ≡ (behind_clauses inner number stream cs env (clause_end inner g env) ts >>= flwor_from inner (number + how_many cs + 1) (with_slots (and_slots stream cs) g) rest body env)
  goes_on number stream p.no_clauses rest g ts =
      let e : number + 1 ≡ number + 0 + 1 = omega arith in
      ap (λ (n : ℕ). clause_value inner number stream g env ts >>= flwor_from inner n (with_slots stream g) rest body env) e
  goes_on number stream (p.more_clauses c cs) rest g ts =
      let e : number + 1 + how_many cs + 1 ≡ number + suc (how_many cs) + 1 = omega arith in
      let next : List Slot = with_slots stream c in
      let behind : ℕ → List Tuple → Outcome = λ n. flwor_from inner n (with_slots (and_slots next cs) g) rest body env in
      same_after (clause_value inner number stream c env ts) (flwor_from inner (number + 1) next (and_clauses cs (p.more_clauses g rest)) body env)
      (λ ys. behind_clauses inner (number + 1) next cs env (clause_end inner g env) ys >>= behind (number + suc (how_many cs) + 1))
      (λ ys. goes_on (number + 1) next cs rest g ys ∙ ap (λ (n : ℕ). behind_clauses inner (number + 1) next cs env (clause_end inner g env) ys >>= behind n) e)
      ∙ sym (then_then (clause_value inner number stream c env ts) (behind_clauses inner (number + 1) next cs env (clause_end inner g env)) (behind (number + suc (how_many cs) + 1)))

pub flwors_are_stages : (K : Type 0) → FlworsAreStages K
flwors_are_stages K = record {
  means = λ inner number stream cs body env narrow ts.
      ends inner body env number stream cs ts
      ∙ means inner env (return_end inner body env) (items_step {K = K} inner body env) (λ stream items. Ok items) ((ends_are_steps K).items inner body env) number stream cs narrow ts;
  falls = λ inner number cs body env.
      falls_from inner env (number + how_many cs) (number + how_many cs) [] appended (items_step {K = K} inner body env) (omega arith) ((ends_are_steps K).items_fall inner body env (number + how_many cs)) number cs refl;
  ends = λ inner number stream cs body env ts. ends inner body env number stream cs ts;
  goes_on = λ inner number stream cs rest g body env ts. goes_on inner body env number stream cs rest g ts;
}
