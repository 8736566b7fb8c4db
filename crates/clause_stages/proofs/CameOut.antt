-- What is known of a run of narrow clauses, in the words of the meaning.
use Rattle.std.proofs.Common.{◌≡◌, ℕ, suc, ◌+◌, ◌≤◌, ◌==◌, true, List, [], ◌∷◌, length, Option, Some, None, Result, Ok, Err, refl, sym, ap, subst, ◌∙◌, arith}
use Rattle.item_tree.specs.declared.fault.Fault.{Fault}
use Rattle.seq_types.specs.declared.types.SeqType.{SeqType}
use Rattle.query_tree.specs.BoundViews.{bound_clauses}
use Rattle.query_tree.specs.Bound.{BoundTree}
use Rattle.query_tree.specs.declared.bound.Slot.{Slot}
use Rattle.query_tree.specs.declared.bound.Target.{Target}
use Rattle.query_tree.specs.declared.clause.Clause.{Clause}
use Rattle.query_tree.specs.Plain as p
use Rattle.query_tree.specs.Plain.{PlainClauses}
use Rattle.query_meaning.specs.Outcome as m
use Rattle.query_meaning.specs.Outcome.{OrFault, Outcome}
use Rattle.query_meaning.specs.Environment.{Tuple, Environment, Inner}
use Rattle.query_meaning.specs.Clauses.{clause_value}
use Rattle.query_meaning.specs.Flwors.{with_slots, return_value, flwor_from}
use Rattle.query_meaning.specs.Pieces.{are_narrow, taken_in}
use Rattle.stage_laws.specs.Runs as run
use Rattle.stage_laws.specs.Runs.{Met}
use Rattle.stage_laws.specs.Stages.{into_next}
use Rattle.stage_laws.specs.Pieces.{Known, known, clear, SoFar}
use Rattle.stage_laws.specs.Laws.{Falls, IsTrueOf, ClearBelow, Tells, reach}
use Rattle.stage_laws.specs.Tuples.{Began}
use Rattle.stage_laws.specs.Ends.{stage}
use Rattle.stage_laws.proofs.Basics.{eq_true, picks}
use Rattle.stage_laws.proofs.Steps.{narrow_falls}
use Rattle.stage_laws.proofs.Ends.{merged_follows}
use Rattle.clause_stages.specs.Steps.{marked}
use Rattle.clause_stages.specs.Ends.{returned}
use Rattle.clause_stages.specs.Values.{how_many, TakesSoMany}
use Rattle.clause_stages.specs.Came.{Came, nothing_came, came_behind, Seen, follow, tuples_out, items_out, last_stage, stage_from, steps_of, IsLast, clauses_value, end_value, came_value, CleanBefore, TellsOf, Runs, RunsTell}
use Rattle.clause_stages.proofs.Marking.{meant, meant_each, then_ended, then_then, then_itself, same_after}
use Rattle.clause_stages.proofs.Clauses.{means, falls_from}
use Rattle.clause_stages.proofs.TakingIn.{taken}

-- as many as there are in the code
pub how_many_bound : (cs : List (Clause Slot Target SeqType)) → how_many (bound_clauses cs) ≡ length cs
how_many_bound [] = refl
how_many_bound (c ∷ cs) = ap suc (how_many_bound cs)

-- ---- stages fall into pieces

pub tuples_fall : (first last : ℕ) → Falls first last nothing_came follow tuples_out
tuples_fall first last = record {
  none = refl;
  none_in = λ c. refl;
  outside = λ c xs h. refl;
  steps = λ xs e h. absurd cc;
  parts = λ xs ys. refl;
  counts = λ c xs ys h k. refl;
  before = λ x e h. refl;
  follows = merged_follows last came_behind;
}

pub items_fall : (first last : ℕ) → Falls first last nothing_came follow items_out
items_fall first last = record {
  none = refl;
  none_in = λ c. refl;
  outside = λ c xs h. refl;
  steps = λ xs e h. absurd cc;
  parts = λ xs ys. refl;
  counts = λ c xs ys h k. refl;
  before = λ x e h. refl;
  follows = merged_follows last came_behind;
}

pub last_falls : (inner : Inner) (number : ℕ) (body : Option BoundTree) (env : Environment) (last : ℕ) → number + steps_of body ≡ last + 1 → Falls number last nothing_came follow (last_stage inner number body env)
last_falls inner number None env last h = tuples_fall number last
last_falls inner number (Some body) env last h = narrow_falls number (number + 1) last nothing_came follow (returned inner body env) items_out (items_fall (number + 1) last) (omega arith) (omega arith)

within : (at last : ℕ) (body : Option BoundTree) → at + steps_of body ≡ last + 1 → at ≤ last + 1
within at last None h = omega arith
within at last (Some body) h = omega arith

pub falls : (inner : Inner) (number last : ℕ) (cs : PlainClauses Slot Target SeqType) (body : Option BoundTree) (env : Environment) → IsLast number cs body last → Falls number last nothing_came follow (stage_from inner number cs body env)
falls inner number last cs body env h =
    falls_from inner env last (number + how_many cs) nothing_came follow (λ n. last_stage inner n body env) (within (number + how_many cs) last body h)
    (last_falls inner (number + how_many cs) body env last h) number cs refl

-- ---- what is meant

end_meant : (inner : Inner) (number : ℕ) (body : Option BoundTree) (env : Environment) (ts : List Tuple) → end_value inner number body env ts ≡ stage marked (λ w. Ok w) (last_stage inner number body env) ts
unfolding return_value
end_meant inner number None env ts = refl
end_meant inner number (Some body) env ts =
    ap (λ (q : Outcome). m.◌>>=◌ q (λ ds. Ok (record { tuples = []; items = ds }))) (meant_each Seen number (returned inner body env) 1 ts)
    ∙ then_ended (run.each_from number (returned inner body env) 1 ts) items_out.run (λ w. Ok w) (λ ds. Ok (record { tuples = []; items = ds })) (λ ds. refl)

pub came_meant : (inner : Inner) (number : ℕ) (stream : List Slot) (cs : PlainClauses Slot Target SeqType) (body : Option BoundTree) (env : Environment) (ts : List Tuple) → are_narrow cs ≡ true
    → came_value inner number stream cs body env ts ≡ stage marked (λ w. Ok w) (stage_from inner number cs body env) ts
came_meant inner number stream cs body env ts h =
    means inner env (λ n s ts. end_value inner n body env ts) (λ n. last_stage inner n body env) (λ s w. Ok w) (λ n s ts. end_meant inner n body env ts) number stream cs h ts

-- ---- tuples, or items

pub tuples_of_came : (inner : Inner) (number : ℕ) (stream : List Slot) (cs : PlainClauses Slot Target SeqType) (env : Environment) (ts : List Tuple)
    → clauses_value inner number stream cs env ts ≡ m.◌>>=◌ (came_value inner number stream cs None env ts) (λ w. Ok w.tuples)
tuples_of_came inner number stream p.no_clauses env ts = refl
tuples_of_came inner number stream (p.more_clauses c cs) env ts =
    same_after (clause_value inner number stream c env ts) (clauses_value inner (number + 1) (with_slots stream c) cs env) (λ next. m.◌>>=◌ (came_value inner (number + 1) (with_slots stream c) cs None env next) (λ w. Ok w.tuples))
    (λ next. tuples_of_came inner (number + 1) (with_slots stream c) cs env next)
    ∙ sym (then_then (clause_value inner number stream c env ts) (came_value inner (number + 1) (with_slots stream c) cs None env) (λ w. Ok w.tuples))

pub items_of_came : (inner : Inner) (number : ℕ) (stream : List Slot) (cs : PlainClauses Slot Target SeqType) (body : BoundTree) (env : Environment) (ts : List Tuple)
    → flwor_from inner number stream cs body env ts ≡ m.◌>>=◌ (came_value inner number stream cs (Some body) env ts) (λ w. Ok w.items)
items_of_came inner number stream p.no_clauses body env ts =
    then_itself (return_value inner number body env ts) ∙ sym (then_then (return_value inner number body env ts) (λ ds. Ok (record { tuples = []; items = ds })) (λ w. Ok w.items))
items_of_came inner number stream (p.more_clauses c cs) body env ts =
    same_after (clause_value inner number stream c env ts) (flwor_from inner (number + 1) (with_slots stream c) cs body env) (λ next. m.◌>>=◌ (came_value inner (number + 1) (with_slots stream c) cs (Some body) env next) (λ w. Ok w.items))
    (λ next. items_of_came inner (number + 1) (with_slots stream c) cs body env next)
    ∙ sym (then_then (clause_value inner number stream c env ts) (came_value inner (number + 1) (with_slots stream c) cs (Some body) env) (λ w. Ok w.items))

-- ---- a run at a limit

clear_meant : (limit : ℕ) (q : Result Came (Met Seen Fault)) → ClearBelow limit q → CleanBefore limit (meant q)
clear_meant limit (Ok w) h = tt
clear_meant limit (Err e) h = h

tells_of : (last limit : ℕ) (k : Known Came Seen Fault) (q : Result Came (Met Seen Fault)) (o : OrFault Came) → o ≡ meant q → IsTrueOf last k q → Began last limit k → TellsOf last limit o k
tells_of last limit (known (Ok w)) q o e is b = (b, e ∙ ap meant is)
tells_of last limit (known (Err d)) q o e is b = (b, e ∙ ap meant is)
tells_of last limit (clear l) q o e (le, is) (same, up) = (same, up, subst (CleanBefore limit) (sym e) (clear_meant limit q (subst (λ (n : ℕ). ClearBelow n q) same is)))

less_clear : (k l : ℕ) (q : Result Came (Met Seen Fault)) → k ≤ l → ClearBelow l q → ClearBelow k q
less_clear k l (Ok w) le h = tt
less_clear k l (Err e) le h = let a : l ≤ e.step = h in omega arith

reach_clear : (last k : ℕ) (w : Known Came Seen Fault) (q : Result Came (Met Seen Fault)) → IsTrueOf last w q → ((e : Met Seen Fault) → q ≡ Err e → e.step ≤ last) → k ≤ reach last w → ClearBelow k q × (k ≤ last)
reach_clear last k (known (Ok w)) q is up le = (subst (ClearBelow k) (sym is) tt, le)
reach_clear last k (known (Err e)) q is up le = let a : k ≤ e.step = le in let b : e.step ≤ last = up e is in (subst (ClearBelow k) (sym is) a, omega arith)
reach_clear last k (clear l) q (i, is) up le = let a : k ≤ l = le in (less_clear k l q a is, omega arith)

counted_last : (inner : Inner) (at : ℕ) (body : BoundTree) (env : Environment) (ts : List Tuple) → (last_stage inner at (Some body) env).into at ts ≡ length ts
counted_last inner at body env ts = picks (at == at) (length ts) (into_next items_out at (run.each_from {K = Seen} at (returned inner body env) 1 ts)) (eq_true at at refl)

module _ (inner : Inner) (env : Environment) where
  taken_came : (number last c : ℕ) (stream : List Slot) (cs : PlainClauses Slot Target SeqType) (body : Option BoundTree) (ts : List Tuple) → are_narrow cs ≡ true → IsLast number cs body last → number ≤ c → c ≤ last
      → ClearBelow c ((stage_from inner number cs body env).run ts) → TakesSoMany (taken_in inner number stream cs env c ts) ((stage_from inner number cs body env).into c ts)
  taken_came number last c stream cs None ts n h le up none =
      taken inner env (λ n. last_stage inner n None env) (number + how_many cs) c (λ (e : c ≡ number + how_many cs) ts. absurd (omega arith)) number stream cs ts n refl le (omega arith) none
  taken_came number last c stream cs (Some body) ts n h le up none =
      taken inner env (λ n. last_stage inner n (Some body) env) (number + how_many cs) c (λ e ts. counted_last inner (number + how_many cs) body env ts) number stream cs ts n refl le (omega arith) none

  pub runs : (number last limit : ℕ) (stream : List Slot) (cs : PlainClauses Slot Target SeqType) (body : Option BoundTree) (ts : List Tuple) (g : SoFar Came Seen Fault) → are_narrow cs ≡ true → IsLast number cs body last → Began last limit g.what
      → Tells number last (stage_from inner number cs body env) ts g → Runs inner number stream cs body env last limit ts g
  runs number last limit stream cs body ts g n h began tg = record {
    tells = tells_of last limit g.what ((stage_from inner number cs body env).run ts) (came_value inner number stream cs body env ts) (came_meant inner number stream cs body env ts n) tg.is began;
    into = λ c from k.
        let r = reach_clear last c g.what ((stage_from inner number cs body env).run ts) tg.is (λ e k. ((falls inner number last cs body env h).steps ts e k).1) k in
        subst (TakesSoMany (taken_in inner number stream cs env c ts)) (sym (tg.counts c from k)) (taken_came number last c stream cs body ts n h from r.1 r.0);
  }

pub runs_tell : RunsTell
runs_tell = record {
  falls = λ inner number last cs body env h. falls inner number last cs body env h;
  means = λ inner number stream cs body env ts h. came_meant inner number stream cs body env ts h;
  tuples = tuples_of_came;
  items = items_of_came;
  runs = λ inner number last limit stream cs body env ts g n h began tg. runs inner env number last limit stream cs body ts g n h began tg;
}
