-- What is known of a run of narrow clauses, in the words of the meaning.
use Rattle.std.proofs.Common.{◌≡◌, ℕ, ◌+◌, ◌≤◌, ◌==◌, Bool, true, false, ◌&&◌, if◌then◌else◌, List, [], ◌∷◌, length, Option, Some, None, Result, Ok, Err, refl, sym, ap, ap₂, subst, ◌∙◌, arith}
use Rattle.item_tree.specs.declared.fault.Fault.{Fault}
use Rattle.seq_types.specs.declared.types.SeqType.{SeqType}
use Rattle.query_tree.specs.BoundViews.{bound_clause, bound_clauses}
use Rattle.query_tree.specs.Bound.{BoundTree}
use Rattle.query_tree.specs.declared.bound.Slot.{Slot}
use Rattle.query_tree.specs.declared.bound.Target.{Target}
use Rattle.query_tree.specs.declared.clause.Clause.{Clause}
use Rattle.query_tree.specs.Plain as p
use Rattle.query_tree.specs.Plain.{PlainClause, PlainClauses}
use Rattle.query_meaning.specs.Outcome as m
use Rattle.query_meaning.specs.Outcome.{OrFault, Outcome}
use Rattle.query_meaning.specs.Environment.{Tuple, Environment, Inner}
use Rattle.query_meaning.specs.Clauses.{clause_value, each_tuple, for_tuples, let_tuples, where_tuples}
use Rattle.query_meaning.specs.Flwors.{with_slots, return_value, flwor_from}
use Rattle.query_meaning.specs.Pieces.{is_narrow, are_narrow, taken_in}
use Rattle.stage_laws.specs.Runs as run
use Rattle.stage_laws.specs.Runs.{Met}
use Rattle.stage_laws.specs.Stages.{into_next}
use Rattle.stage_laws.specs.Pieces.{Known, known, clear}
use Rattle.stage_laws.specs.Ends.{ended_by}
use Rattle.stage_laws.specs.Laws.{IsTrueOf, ClearBelow, Tells, IsCarry, reach}
use Rattle.stage_laws.specs.Tuples.{Began, RunsThrough, as_told, opening_known, opening}
use Rattle.stage_laws.proofs.Basics.{eq_true, eq_is, eq_not, picks}
use Rattle.stage_laws.proofs.Steps.{LeftAt, each_splits}
use Rattle.stage_laws.proofs.Tuples.{tuples_tell}
use Rattle.piece_outcomes.specs.Counting.{marked}
use Rattle.clause_eval.specs.OneByOne.{tuples_at}
use Rattle.clause_eval.specs.Carrying.{Came, nothing_came, Seen, follow, StageFor, items_out, returned, last_stage, stage_from, steps_of, known_of, counted, so_far, TellsAt, IsLast, Carries}
use Rattle.clause_eval.specs.NarrowRuns.{clauses_value, end_value, came_value, CleanBefore, TellsOf, TakesSoMany, Runs}
use Rattle.clause_eval.specs.declared.progress.Progress.{Progress}
use Rattle.clause_eval.proofs.Carrying.{Clauses, falls}

-- what steps leave, as the meaning has it
abbrev pub meant : {B : Type 0} → Result B (Met Seen Fault) → OrFault B
meant r = ended_by marked (λ x. Ok x) r

meant_joined : {B : Type 0} (q r : Result (List B) (Met Seen Fault)) → m.joined (meant q) (meant r) ≡ meant (run.joined q r)
meant_joined (Ok xs) (Ok ys) = refl
meant_joined (Ok xs) (Err e) = refl
meant_joined (Err e) r = refl

meant_met : {B : Type 0} (number n : ℕ) (r : OrFault (List B)) → m.at_tuple number n r ≡ meant (run.met_at {K = Seen} number n r)
meant_met number n (Ok ys) = refl
meant_met number n (Err fault) = refl

meant_each : {A B : Type 0} (number : ℕ) (f : A → OrFault (List B)) (n : ℕ) (xs : List A)
    → m.each_from (λ n x. m.at_tuple number n (f x)) n xs ≡ meant (run.each_from {K = Seen} number f n xs)
meant_each number f n [] = refl
meant_each number f n (x ∷ xs) =
    ap₂ m.joined (meant_met number n (f x)) (meant_each number f (n + 1) xs)
    ∙ meant_joined (run.met_at number n (f x)) (run.each_from number f (n + 1) xs)

meant_tuples : (number : ℕ) (f : Tuple → OrFault (List Tuple)) (xs : List Tuple) → each_tuple number (λ n. f) xs ≡ meant (run.each_from {K = Seen} number f 1 xs)
unfolding each_tuple
meant_tuples number f xs = meant_each number f 1 xs

meant_then : {A B : Type 0} (q : Result A (Met Seen Fault)) (f : A → Result B (Met Seen Fault)) (g : A → OrFault B) → ((x : A) → g x ≡ meant (f x))
    → m.◌>>=◌ (meant q) g ≡ meant (run.◌>>=◌ q f)
meant_then (Ok x) f g h = h x
meant_then (Err e) f g h = refl

both : (a b : Bool) → (a && b) ≡ true → (a ≡ true) × (b ≡ true)
both true b h = (refl, h)
both false b h = absurd cc

clause_meant : (inner : Inner) (number : ℕ) (stream : List Slot) (c : PlainClause Slot Target SeqType) (env : Environment) (ts : List Tuple) → is_narrow c ≡ true
    → clause_value inner number stream c env ts ≡ meant (run.each_from {K = Seen} number (tuples_at inner c env 0) 1 ts)
clause_meant inner number stream (p.for_clause variable t allowing_empty at source) env ts h = meant_tuples number (for_tuples inner variable t allowing_empty at source env) ts
clause_meant inner number stream (p.let_clause variable t e) env ts h = meant_tuples number (let_tuples inner variable t e env) ts
clause_meant inner number stream (p.where_clause place test) env ts h = meant_tuples number (where_tuples inner test env) ts
clause_meant inner number stream (p.count_clause place variable) env ts h = absurd cc
clause_meant inner number stream (p.group_clause place keys) env ts h = absurd cc
clause_meant inner number stream (p.order_clause place stable keys) env ts h = absurd cc

end_meant : (inner : Inner) (number : ℕ) (body : Option BoundTree) (env : Environment) (ts : List Tuple) → end_value inner number body env ts ≡ meant ((last_stage inner number body env).run ts)
unfolding return_value
end_meant inner number None env ts = refl
end_meant inner number (Some body) env ts =
    ap (λ (q : Outcome). m.◌>>=◌ q (λ ds. Ok (record { tuples = []; items = ds }))) (meant_each number (returned inner body env) 1 ts)
    ∙ meant_then (run.each_from number (returned inner body env) 1 ts) items_out.run (λ ds. Ok (record { tuples = []; items = ds })) (λ ds. refl)

pub came_meant : (inner : Inner) (number : ℕ) (stream : List Slot) (cs : PlainClauses Slot Target SeqType) (body : Option BoundTree) (env : Environment) (ts : List Tuple) → are_narrow cs ≡ true
    → came_value inner number stream cs body env ts ≡ meant ((stage_from inner number cs body env).run ts)
came_meant inner number stream p.no_clauses body env ts h = end_meant inner number body env ts
came_meant inner number stream (p.more_clauses c cs) body env ts h =
    let w = both (is_narrow c) (are_narrow cs) h in
    ap (λ (q : OrFault (List Tuple)). m.◌>>=◌ q (came_value inner (number + 1) (with_slots stream c) cs body env)) (clause_meant inner number stream c env ts w.0)
    ∙ meant_then (run.each_from number (tuples_at inner c env 0) 1 ts) (stage_from inner (number + 1) cs body env).run (came_value inner (number + 1) (with_slots stream c) cs body env)
    (λ next. came_meant inner (number + 1) (with_slots stream c) cs body env next w.1)

-- ---- how many tuples a clause takes in

taken_next : (inner : Inner) (number : ℕ) (stream : List Slot) (c : Clause Slot Target SeqType) (cs : Clauses) (body : Option BoundTree) (env : Environment) (k : ℕ) (q : Result (List Tuple) (Met Seen Fault)) → number + 1 ≤ k → LeftAt number q
    → ClearBelow k (run.◌>>=◌ q (stage_from inner (number + 1) (bound_clauses cs) body env).run)
    → ((ys : List Tuple) → ClearBelow k ((stage_from inner (number + 1) (bound_clauses cs) body env).run ys) → TakesSoMany (taken_in inner (number + 1) stream (bound_clauses cs) env k ys) ((stage_from inner (number + 1) (bound_clauses cs) body env).into k ys))
    → TakesSoMany (m.◌>>=◌ (meant q) (taken_in inner (number + 1) stream (bound_clauses cs) env k)) (into_next (stage_from inner (number + 1) (bound_clauses cs) body env) k q)
taken_next inner number stream c cs body env k (Ok ys) le l clean f = f ys clean
taken_next inner number stream c cs body env k (Err e) le l clean f =
    let a : e.step ≡ number = l in let b : k ≤ e.step = clean in absurd (omega arith)

taken_last : (inner : Inner) (number : ℕ) (body : Option BoundTree) (env : Environment) (last k : ℕ) (ts : List Tuple) → number + steps_of body ≡ last + 1 → number ≤ k → k ≤ last
    → TakesSoMany (Ok ts) ((last_stage inner number body env).into k ts)
taken_last inner number None env last k ts h le up = absurd (omega arith)
taken_last inner number (Some body) env last k ts h le up = picks (k == number) (length ts) (into_next items_out k (run.each_from {K = Seen} number (returned inner body env) 1 ts)) (eq_true k number (omega arith))

taken_case : (inner : Inner) (number : ℕ) (stream : List Slot) (c : Clause Slot Target SeqType) (cs : Clauses) (body : Option BoundTree) (env : Environment) (last k : ℕ) (ts : List Tuple) → are_narrow (bound_clauses (c ∷ cs)) ≡ true → IsLast number (c ∷ cs) body last → number ≤ k → k ≤ last
    → ClearBelow k ((stage_from inner number (bound_clauses (c ∷ cs)) body env).run ts)
    → ((ys : List Tuple) → are_narrow (bound_clauses cs) ≡ true → number + 1 ≤ k → ClearBelow k ((stage_from inner (number + 1) (bound_clauses cs) body env).run ys)
    → TakesSoMany (taken_in inner (number + 1) (with_slots stream (bound_clause c)) (bound_clauses cs) env k ys) ((stage_from inner (number + 1) (bound_clauses cs) body env).into k ys))
    → (b : Bool) → (k == number) ≡ b
    → TakesSoMany (if b then Ok ts else m.◌>>=◌ (clause_value inner number stream (bound_clause c) env ts) (taken_in inner (number + 1) (with_slots stream (bound_clause c)) (bound_clauses cs) env k))
    (if b then length ts else into_next (stage_from inner (number + 1) (bound_clauses cs) body env) k (run.each_from number (tuples_at inner (bound_clause c) env 0) 1 ts))
taken_case inner number stream c cs body env last k ts n h le up clean ih true is = refl
taken_case inner number stream c cs body env last k ts n h le up clean ih false is =
    let w = both (is_narrow (bound_clause c)) (are_narrow (bound_clauses cs)) n in
    let ne : k ≡ number → ⊥ = eq_not k number is in
    let own : Result (List Tuple) (Met Seen Fault) = run.each_from number (tuples_at inner (bound_clause c) env 0) 1 ts in
    subst (λ (q : OrFault (List Tuple)). TakesSoMany (m.◌>>=◌ q (taken_in inner (number + 1) (with_slots stream (bound_clause c)) (bound_clauses cs) env k)) (into_next (stage_from inner (number + 1) (bound_clauses cs) body env) k own))
    (sym (clause_meant inner number stream (bound_clause c) env ts w.0))
    (taken_next inner number (with_slots stream (bound_clause c)) c cs body env k own (omega arith) ((each_splits Seen number (tuples_at inner (bound_clause c) env 0)).left ts) clean
    (λ ys cl. ih ys w.1 (omega arith) cl))

taken : (inner : Inner) (number : ℕ) (stream : List Slot) (cs : Clauses) (body : Option BoundTree) (env : Environment) (last k : ℕ) (ts : List Tuple) → are_narrow (bound_clauses cs) ≡ true → IsLast number cs body last → number ≤ k → k ≤ last
    → ClearBelow k ((stage_from inner number (bound_clauses cs) body env).run ts)
    → TakesSoMany (taken_in inner number stream (bound_clauses cs) env k ts) ((stage_from inner number (bound_clauses cs) body env).into k ts)
taken inner number stream [] body env last k ts n h le up clean = taken_last inner number body env last k ts (omega arith) le up
taken inner number stream (c ∷ cs) body env last k ts n h le up clean = taken_case inner number stream c cs body env last k ts n h le up clean
    (λ ys w from cl. taken inner (number + 1) (with_slots stream (bound_clause c)) cs body env last k ys w (omega arith) from up cl) (k == number) refl

-- ---- a run at a limit

clear_meant : (limit : ℕ) (q : Result Came (Met Seen Fault)) → ClearBelow limit q → CleanBefore limit (meant q)
clear_meant limit (Ok w) h = tt
clear_meant limit (Err e) h = h

tells_of : (last limit : ℕ) (k : Known Came Seen Fault) (q : Result Came (Met Seen Fault)) (o : OrFault Came) → o ≡ meant q → IsTrueOf last k q → Began last limit k → TellsOf last limit o k
tells_of last limit (known (Ok w)) q o e is b = (b, e ∙ ap meant is)
tells_of last limit (known (Err d)) q o e is b = (b, e ∙ ap meant is)
tells_of last limit (clear l) q o e (le, is) (same, up) = (same, up, subst (CleanBefore limit) (sym e) (clear_meant limit q (subst (λ (n : ℕ). ClearBelow n q) same is)))

less_clear : (k l : ℕ) (q : Result Came (Met Seen Fault)) → k ≤ l → ClearBelow l q → ClearBelow k q
less_clear k l (Ok w) le h = tt
less_clear k l (Err e) le h = let a : l ≤ e.step = h in omega arith

reach_clear : (last k : ℕ) (w : Known Came Seen Fault) (q : Result Came (Met Seen Fault)) → IsTrueOf last w q → ((e : Met Seen Fault) → q ≡ Err e → e.step ≤ last) → k ≤ reach last w → ClearBelow k q × (k ≤ last)
reach_clear last k (known (Ok w)) q is up le = (subst (ClearBelow k) (sym is) tt, le)
reach_clear last k (known (Err e)) q is up le = let a : k ≤ e.step = le in let b : e.step ≤ last = up e is in (subst (ClearBelow k) (sym is) a, omega arith)
reach_clear last k (clear l) q (i, is) up le = let a : k ≤ l = le in (less_clear k l q a is, omega arith)

open_case : (last limit : ℕ) (b : Bool) → (limit == last + 1) ≡ b → limit ≤ last + 1 → Began {B = Came} {K = Seen} {F = Fault} last limit (opening_known b limit nothing_came)
open_case last limit true h le = eq_is limit (last + 1) h
open_case last limit false h le = let ne : limit ≡ last + 1 → ⊥ = eq_not limit (last + 1) h in (refl, omega arith)

module _ (inner : Inner) (number : ℕ) (cs : Clauses) (body : Option BoundTree) (env : Environment) (last limit : ℕ) (is_last : IsLast number cs body last) where
  abbrev steps : StageFor Tuple
  steps = stage_from inner number (bound_clauses cs) body env

  through : RunsThrough number last nothing_came steps
  through = (tuples_tell Tuple Tuple Came Seen Fault).through number last nothing_came follow steps (falls inner number cs body env last is_last)

  begins : (p : Progress) → limit ≤ last + 1 → known_of p.what ≡ opening_known (limit == last + 1) limit nothing_came → ((c : ℕ) → counted p c ≡ 0) → TellsAt inner env number cs body last [] p
  begins p le w none =
      let tg : Tells number last steps [] (opening last limit nothing_came) = through.begins limit le in
      record {
        is = subst (λ (k : Known Came Seen Fault). IsTrueOf last k (steps.run [])) (sym w) tg.is;
        counts = λ c from h. none c ∙ tg.counts c from (subst (λ (k : Known Came Seen Fault). c ≤ reach last k) w h);
      }

  module _ (ts : List Tuple) (p q : Progress) (le : limit ≤ last + 1) (w : known_of p.what ≡ opening_known (limit == last + 1) limit nothing_came) (none : (c : ℕ) → counted p c ≡ 0)
      (d : Carries inner env number cs body ts p q) where
    carried_tells : TellsAt inner env number cs body last ts q
    carried_tells = d.tells last is_last [] (begins p le w none)

    carried_began : Began last limit (known_of q.what)
    carried_began = d.began last is_last limit (subst (Began last limit) (sym w) (open_case last limit (limit == last + 1) refl le))

    pub carried_ends : IsCarry number last steps ts limit (as_told (so_far q))
    carried_ends = through.ends limit ts (so_far q) carried_began carried_tells

    pub carried_runs : (stream : List Slot) → are_narrow (bound_clauses cs) ≡ true → Runs inner number stream (bound_clauses cs) body env last limit ts q
    carried_runs stream n = record {
      tells = tells_of last limit (known_of q.what) (steps.run ts) (came_value inner number stream (bound_clauses cs) body env ts) (came_meant inner number stream (bound_clauses cs) body env ts n) carried_tells.is carried_began;
      into = λ c from h.
          let r = reach_clear last c (known_of q.what) (steps.run ts) carried_tells.is (λ e k. ((falls inner number cs body env last is_last).steps ts e k).1) h in
          subst (TakesSoMany (taken_in inner number stream (bound_clauses cs) env c ts)) (sym (carried_tells.counts c from h)) (taken inner number stream cs body env last c ts n is_last from r.1 r.0);
    }

-- ---- tuples, or items

then_then : {A B C : Type 0} (q : OrFault A) (f : A → OrFault B) (g : B → OrFault C) → m.◌>>=◌ (m.◌>>=◌ q f) g ≡ m.◌>>=◌ q (λ a. m.◌>>=◌ (f a) g)
then_then (Ok a) f g = refl
then_then (Err e) f g = refl

same_after : {A B : Type 0} (q : OrFault A) (f g : A → OrFault B) → ((a : A) → f a ≡ g a) → m.◌>>=◌ q f ≡ m.◌>>=◌ q g
same_after (Ok a) f g h = h a
same_after (Err fault) f g h = refl

then_itself : {A : Type 0} (q : OrFault A) → q ≡ m.◌>>=◌ q (λ x. Ok x)
then_itself (Ok x) = refl
then_itself (Err e) = refl

pub tuples_of_came : (inner : Inner) (number : ℕ) (stream : List Slot) (cs : PlainClauses Slot Target SeqType) (env : Environment) (ts : List Tuple)
    → clauses_value inner number stream cs env ts ≡ m.◌>>=◌ (came_value inner number stream cs None env ts) (λ w. Ok w.tuples)
tuples_of_came inner number stream p.no_clauses env ts = refl
tuples_of_came inner number stream (p.more_clauses c cs) env ts =
    same_after (clause_value inner number stream c env ts) (clauses_value inner (number + 1) (with_slots stream c) cs env) (λ next. m.◌>>=◌ (came_value inner (number + 1) (with_slots stream c) cs None env next) (λ w. Ok w.tuples))
    (λ next. tuples_of_came inner (number + 1) (with_slots stream c) cs env next)
    ∙ sym (then_then (clause_value inner number stream c env ts) (came_value inner (number + 1) (with_slots stream c) cs None env) (λ w. Ok w.tuples))

pub items_of_came : (inner : Inner) (number : ℕ) (stream : List Slot) (cs : PlainClauses Slot Target SeqType) (body : BoundTree) (env : Environment) (ts : List Tuple)
    → flwor_from inner number stream cs body env ts ≡ m.◌>>=◌ (came_value inner number stream cs (Some body) env ts) (λ w. Ok w.items)
items_of_came inner number stream p.no_clauses body env ts =
    then_itself (return_value inner number body env ts) ∙ sym (then_then (return_value inner number body env ts) (λ ds. Ok (record { tuples = []; items = ds })) (λ w. Ok w.items))
items_of_came inner number stream (p.more_clauses c cs) body env ts =
    same_after (clause_value inner number stream c env ts) (flwor_from inner (number + 1) (with_slots stream c) cs body env) (λ next. m.◌>>=◌ (came_value inner (number + 1) (with_slots stream c) cs (Some body) env next) (λ w. Ok w.items))
    (λ next. items_of_came inner (number + 1) (with_slots stream c) cs body env next)
    ∙ sym (then_then (clause_value inner number stream c env ts) (came_value inner (number + 1) (with_slots stream c) cs (Some body) env) (λ w. Ok w.items))
