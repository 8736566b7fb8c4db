-- How many tuples clauses take in.
use Rattle.std.proofs.Common.{◌≡◌, ℕ, ◌+◌, ◌≤◌, ◌==◌, Bool, true, false, if◌then◌else◌, List, length, Result, Ok, Err, refl, sym, subst, arith}
use Rattle.item_tree.specs.declared.fault.Fault.{Fault}
use Rattle.seq_types.specs.declared.types.SeqType.{SeqType}
use Rattle.query_tree.specs.declared.bound.Slot.{Slot}
use Rattle.query_tree.specs.declared.bound.Target.{Target}
use Rattle.query_tree.specs.Plain as p
use Rattle.query_tree.specs.Plain.{PlainClause, PlainClauses}
use Rattle.query_meaning.specs.Outcome as m
use Rattle.query_meaning.specs.Outcome.{OrFault}
use Rattle.query_meaning.specs.Environment.{Tuple, Environment, Inner}
use Rattle.query_meaning.specs.Clauses.{clause_value}
use Rattle.query_meaning.specs.Flwors.{with_slots}
use Rattle.query_meaning.specs.Pieces.{is_narrow, are_narrow, taken_in}
use Rattle.stage_laws.specs.Runs as run
use Rattle.stage_laws.specs.Runs.{Met}
use Rattle.stage_laws.specs.Stages.{into_next}
use Rattle.stage_laws.specs.Laws.{ClearBelow}
use Rattle.stage_laws.proofs.Basics.{eq_not}
use Rattle.stage_laws.proofs.Steps.{LeftAt, each_splits}
use Rattle.clause_stages.specs.Steps.{TupleStage, tuples_at, clauses_stage}
use Rattle.clause_stages.specs.Values.{how_many, TakesSoMany}
use Rattle.clause_stages.specs.Laws.{ClausesTakeIn}
use Rattle.clause_stages.proofs.Marking.{meant}
use Rattle.clause_stages.proofs.Clauses.{both, clause_meant}

module _ {B K : Type 0} (inner : Inner) (env : Environment) (last_step : ℕ → TupleStage B K) (at clause : ℕ) (counts : clause ≡ at → (ts : List Tuple) → (last_step at).into at ts ≡ length ts) where
  abbrev from : ℕ → PlainClauses Slot Target SeqType → TupleStage B K
  from number cs = clauses_stage inner number cs env last_step

  taken_next : (number : ℕ) (stream : List Slot) (cs : PlainClauses Slot Target SeqType) (q : Result (List Tuple) (Met K Fault)) → number + 1 ≤ clause → LeftAt number q
      → ClearBelow clause (run.◌>>=◌ q (from (number + 1) cs).run)
      → ((ys : List Tuple) → ClearBelow clause ((from (number + 1) cs).run ys) → TakesSoMany (taken_in inner (number + 1) stream cs env clause ys) ((from (number + 1) cs).into clause ys))
      → TakesSoMany (m.◌>>=◌ (meant q) (taken_in inner (number + 1) stream cs env clause)) (into_next (from (number + 1) cs) clause q)
  taken_next number stream cs (Ok ys) le l clear f = f ys clear
  taken_next number stream cs (Err e) le l clear f =
      let a : e.step ≡ number = l in let b : clause ≤ e.step = clear in absurd (omega arith)

  taken_case : (number : ℕ) (stream : List Slot) (c : PlainClause Slot Target SeqType) (cs : PlainClauses Slot Target SeqType) (ts : List Tuple) → is_narrow c ≡ true → number ≤ clause
      → ClearBelow clause ((from number (p.more_clauses c cs)).run ts)
      → ((ys : List Tuple) → number + 1 ≤ clause → ClearBelow clause ((from (number + 1) cs).run ys) → TakesSoMany (taken_in inner (number + 1) (with_slots stream c) cs env clause ys) ((from (number + 1) cs).into clause ys))
      → (b : Bool) → (clause == number) ≡ b
      → TakesSoMany (if b then Ok ts else m.◌>>=◌ (clause_value inner number stream c env ts) (taken_in inner (number + 1) (with_slots stream c) cs env clause))
      (if b then length ts else into_next (from (number + 1) cs) clause (run.each_from number (tuples_at inner c env 0) 1 ts))
  taken_case number stream c cs ts n le clear ih true is = refl
  taken_case number stream c cs ts n le clear ih false is =
      let ne : clause ≡ number → ⊥ = eq_not clause number is in
      let lt : number + 1 ≤ clause = omega arith in
      let own : Result (List Tuple) (Met K Fault) = run.each_from number (tuples_at inner c env 0) 1 ts in
      subst (λ (q : OrFault (List Tuple)). TakesSoMany (m.◌>>=◌ q (taken_in inner (number + 1) (with_slots stream c) cs env clause)) (into_next (from (number + 1) cs) clause own))
      (sym (clause_meant K inner number stream c env ts n))
      (taken_next number (with_slots stream c) cs own lt ((each_splits K number (tuples_at inner c env 0)).left ts) clear (λ ys cl. ih ys lt cl))

  pub taken : (number : ℕ) (stream : List Slot) (cs : PlainClauses Slot Target SeqType) (ts : List Tuple) → are_narrow cs ≡ true → number + how_many cs ≡ at → number ≤ clause → clause ≤ at
      → ClearBelow clause ((from number cs).run ts) → TakesSoMany (taken_in inner number stream cs env clause ts) ((from number cs).into clause ts)
  taken number stream p.no_clauses ts n e le up clear =
      let x : at ≡ number = omega arith in
      let y : at ≡ clause = omega arith in
      subst (λ (k : ℕ). (last_step k).into clause ts ≡ length ts) x (subst (λ (k : ℕ). (last_step at).into k ts ≡ length ts) y (counts (sym y) ts))
  taken number stream (p.more_clauses c cs) ts n e le up clear =
      let w = both (is_narrow c) (are_narrow cs) n in
      taken_case number stream c cs ts w.0 le clear
      (λ ys lt cl. taken (number + 1) (with_slots stream c) cs ys w.1 (omega arith) lt up cl) (clause == number) refl

pub clauses_take_in : (B K : Type 0) → ClausesTakeIn B K
clauses_take_in B K inner number stream cs env last_step clause ts narrow le up counts clear =
    taken inner env last_step (number + how_many cs) clause counts number stream cs ts narrow refl le up clear
