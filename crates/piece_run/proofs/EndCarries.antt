-- What a run of narrow clauses tells of the stage with an end.
use Rattle.std.proofs.Common.{◌≡◌, ℕ, ◌+◌, ◌-◌, ◌<◌, ◌≤◌, ◌==◌, suc, nat_lt, List, [], ◌∷◌, length, map, Vec, Some, None, Result, Ok, Err, refl, sym, ap, subst, ◌∙◌, arith}
use Rattle.std.specs.declared.alloc.Global.{Global}
use Rattle.item_tree.specs.declared.fault.Fault.{Fault}
use Rattle.seq_types.specs.declared.types.SeqType.{SeqType}
use Rattle.query_tree.specs.declared.bound.Slot.{Slot}
use Rattle.query_tree.specs.declared.bound.Target.{Target}
use Rattle.tuple_rows.specs.Keys.{Keyed}
use Rattle.query_tree.specs.BoundViews.{bound_clauses}
use Rattle.query_tree.specs.declared.clause.Clause.{Clause}
use Rattle.query_tree.specs.Bound.{BoundTree}
use Rattle.query_tree.specs.Plain.{PlainClauses, PlainGroupVars}
use Rattle.query_meaning.specs.Environment.{Tuple, Environment, Inner}
use Rattle.query_meaning.specs.declared.value.Value.{Value}
use Rattle.stage_laws.specs.Runs.{Met, ◌>>=◌, joined, each_from}
use Rattle.stage_laws.specs.Stages.{Stage, into_next, narrow, ended, viewed, kept_as}
use Rattle.stage_laws.specs.Pieces as laws
use Rattle.stage_laws.specs.Pieces.{whole, told_below}
use Rattle.stage_laws.specs.Laws.{IsCarry}
use Rattle.stage_laws.specs.Tuples.{as_told, outcome_of}
use Rattle.stage_laws.proofs.Basics.{eq_true, lt_true, picks}
use Rattle.stage_laws.proofs.Steps.{LeftAt, each_splits}
use Rattle.clause_stages.specs.Steps.{clauses_stage}
use Rattle.clause_stages.specs.Ends.{tuples_step, returned, let_through, group_keyed}
use Rattle.clause_stages.specs.Values.{how_many}
use Rattle.clause_eval.specs.Carrying as run
use Rattle.clause_eval.specs.Frames.{frame_tuple, tuples_of}
use Rattle.clause_eval.specs.declared.tuples.Frame.{Frame}
use Rattle.clause_eval.specs.declared.progress.Progress.{Progress}
use Rattle.clause_eval.specs.declared.progress.Told.{Told}
use Rattle.clause_eval.specs.declared.progress.Told.TheVariants as what
use Rattle.piece_outcomes.specs.Came.{Came, Seen, keyed_came}
use Rattle.piece_outcomes.specs.Counting.{met_of, taken_by}
use Rattle.piece_outcomes.specs.Outcomes.{OutcomeIs}
use Rattle.piece_outcomes.specs.declared.met.MetFault.{MetFault}
use Rattle.piece_outcomes.specs.declared.outcome.Outcome.TheVariants as own
use Rattle.piece_outcomes.specs.declared.outcome.Counted.{Counted}
use Rattle.piece_run.specs.Remade.{outcome_remade}
use Rattle.piece_run.specs.Phases.{lower, LeavesAt, next_outcome}
use Rattle.piece_run.specs.Ends.{StageEnd, items, numbers, groups, items_came, tuples_came, numbers_end, groups_end, end_step}
use Rattle.piece_run.specs.Outcomes.{PlainOutcome, IsOutcomeOf, came_seen, passed, EndsAs}
use Rattle.piece_run.specs.Keying.{KeyedIs}
use Rattle.piece_run.specs.declared.keying.KeyedTuples.{KeyedTuples}
use Rattle.piece_run.specs.declared.keying.KeyedTuples.TheVariants as found
use Rattle.piece_run.proofs.Remaking.{carry_remade}
use Rattle.piece_run.proofs.TwoPhases.{clean_below, carry_then}
use Rattle.piece_run.proofs.ClauseTies.{items_stage, tuples_stage, clauses_then, tuples_before}

-- ---- an end as a step

pub kept_leaves : {A B W F : Type 0} (K : Type 0) (view : List B → W) (at : ℕ) (f : A → Result (List B) F) → LeavesAt {K = K} at (kept_as view (narrow at f ended))
kept_leaves {A} {B} {W} {F} K view at f ys e h = left (each_from at f 1 ys) ((each_splits K at f).left ys) h
  where
    left : (q : Result (List B) (Met K F)) → LeftAt at q → viewed view (q >>= λ zs. Ok zs) ≡ Err e → e.step ≡ at
    left (Ok zs) l h = absurd cc
    left (Err d) l h = let same : d ≡ e = cc in ap (λ (m : Met K F). m.step) (sym same) ∙ l

pub end_leaves : (inner : Inner) (env : Environment) (end : StageEnd) (at : ℕ) → LeavesAt at (end_step inner env end at)
end_leaves inner env (items body) at = kept_leaves Seen items_came at (returned inner body env)
end_leaves inner env numbers at = kept_leaves Seen tuples_came at let_through
end_leaves inner env (groups keys) at = kept_leaves Seen keyed_came at (group_keyed inner keys env)

narrow_takes : {A M B K F : Type 0} (at : ℕ) (f : A → Result (List M) F) (rest : Stage M B K F) (ys : List A) → (narrow at f rest).into at ys ≡ length ys
narrow_takes at f rest ys = picks (at == at) (length ys) (into_next rest at (each_from at f 1 ys)) (eq_true at at refl)

pub end_takes : (inner : Inner) (env : Environment) (end : StageEnd) (at : ℕ) (ys : List Tuple) → (end_step inner env end at).into at ys ≡ length ys
end_takes inner env (items body) at ys = narrow_takes at (returned inner body env) ended ys
end_takes inner env numbers at ys = narrow_takes at let_through ended ys
end_takes inner env (groups keys) at ys = narrow_takes at (group_keyed inner keys env) ended ys

-- `count` lets all through
all_through : (at n : ℕ) (ts : List Tuple) → each_from {K = Seen} at let_through n ts ≡ Ok ts
all_through at n [] = refl
all_through at n (t ∷ ts) = ap (joined (Ok (t ∷ []))) (all_through at (n + 1) ts)

numbers_run : (at : ℕ) (ts : List Tuple) → (numbers_end at).run ts ≡ Ok (tuples_came ts)
numbers_run at ts = ap (λ (q : Result (List Tuple) (Met Seen Fault)). viewed tuples_came (q >>= λ zs. Ok zs)) (all_through at 1 ts)

pub how_many_bound : (cs : List (Clause Slot Target SeqType)) → how_many (bound_clauses cs) ≡ length cs
how_many_bound [] = refl
how_many_bound (c ∷ cs) = ap suc (how_many_bound cs)

length_tuples : (fs : List Frame) → length (map frame_tuple fs) ≡ length fs
length_tuples [] = refl
length_tuples (f ∷ fs) = ap suc (length_tuples fs)

-- how many tuples a list has
pub count_is : (tuples : Vec Frame Global) (n : ℕ) → n ≡ length tuples.items → n ≡ length (tuples_of tuples)
count_is tuples n h = h ∙ sym (length_tuples tuples.items)

-- ---- what the code tells of an end

-- a limit that the end is not below tells nothing of it
pub clean_told : {M W : Type 0} (stands : W → Came → Type 0) (at limit : ℕ) (step : Stage M Came Seen Fault) → LeavesAt at step → limit ≤ at → (ys : List M) → OutcomeIs stands own.Clean (told_below (at + 1) limit (step.run ys))
clean_told stands at limit step leaves le ys = subst (λ (o : PlainOutcome). OutcomeIs stands own.Clean o) (sym (clean_below at limit (step.run ys) (leaves ys) le)) tt

-- all came through
module _ {W : Type 0} (stands : W → Came → Type 0) (at limit : ℕ) (p : Progress) (out : Counted W) (tuples : Vec Frame Global) (value : Value) (is : p.what ≡ what.Whole tuples value)
    (same : (n : ℕ) → n < at → taken_by out.into n ≡ run.counted p n) (here : taken_by out.into at ≡ length (tuples_of tuples)) where
  all_came : (passed {K = Seen} p).outcome ≡ whole (tuples_of tuples)
  all_came = ap (λ (k : Told). outcome_remade (λ w. w.tuples) (outcome_of (run.known_of k))) is

  pub whole_ends : (step : Stage Tuple Came Seen Fault) → OutcomeIs stands out.outcome (told_below (at + 1) limit (step.run (tuples_of tuples))) → EndsAs stands at limit step (passed p) out
  whole_ends step h = record {
    is = subst (λ (o : PlainOutcome). OutcomeIs stands out.outcome o) (sym (ap (next_outcome at limit step) all_came)) h;
    same = same;
    here = λ ys e.
        let j : whole (tuples_of tuples) ≡ whole ys = sym all_came ∙ e in
        let i : tuples_of tuples ≡ ys = cc in
        here ∙ ap length i;
  }

  pub numbers_whole : OutcomeIs stands out.outcome (told_below (at + 1) limit (Ok (tuples_came (tuples_of tuples)))) → EndsAs stands at limit (numbers_end at) (passed p) out
  numbers_whole h = whole_ends (numbers_end at) (subst (λ (q : Result Came (Met Seen Fault)). OutcomeIs stands out.outcome (told_below (at + 1) limit q)) (sym (numbers_run at (tuples_of tuples))) h)

-- a tuple has no keys
pub groups_met : {W : Type 0} (stands : W → Came → Type 0) (inner : Inner) (keys : PlainGroupVars Slot Target SeqType) (env : Environment) (at limit : ℕ) (ts : List Tuple) (k : KeyedTuples) (m : MetFault) → k ≡ found.Met m
    → KeyedIs (each_from at (group_keyed inner keys env) 1 ts) k → at < limit → OutcomeIs stands (own.Met m) (told_below (at + 1) limit ((groups_end inner keys env at).run ts))
groups_met stands inner keys env at limit ts k m is value less =
    let e : each_from {K = Seen} at (group_keyed inner keys env) 1 ts ≡ Err (met_of m) = subst (KeyedIs (each_from at (group_keyed inner keys env) 1 ts)) is value in
    let r : (groups_end inner keys env at).run ts ≡ Err (met_of m) = ap (λ (q : Result (List Keyed) (Met Seen Fault)). viewed keyed_came (q >>= λ zs. Ok zs)) e in
    let here : m.step ≡ at = kept_leaves Seen keyed_came at (group_keyed inner keys env) ts (met_of m) r in
    subst (λ (o : PlainOutcome). OutcomeIs stands (own.Met m) o)
    (sym (ap (told_below (at + 1) limit) r ∙ picks (nat_lt m.step limit) (laws.met (met_of m)) laws.clean (lt_true m.step limit (omega arith)))) refl

-- ---- what is told of the stage

module _ {W : Type 0} (stands : W → Came → Type 0) (inner : Inner) (env : Environment) (first last limit : ℕ) (cs : PlainClauses Slot Target SeqType) (ts : List Tuple) (p : Progress) (out : Counted W) where
  -- `return` is run with the clauses
  pub items_outcome : (body : BoundTree) → IsCarry first last (run.stage_from inner first cs (Some body) env) ts limit (as_told (run.so_far p))
      → OutcomeIs stands out.outcome (outcome_remade came_seen (as_told (run.so_far p)).outcome)
      → ((n : ℕ) → taken_by out.into n ≡ run.counted p n)
      → IsOutcomeOf stands first last (clauses_stage inner first cs env (end_step inner env (items body))) ts limit out
  items_outcome body carry is same =
      let c = carry_remade came_seen (run.stage_from inner first cs (Some body) env) (clauses_stage inner first cs env (end_step inner env (items body))) (items_stage inner body env first cs) first last limit ts (as_told (run.so_far p)) carry in
      record {
        plain = outcome_remade came_seen (as_told (run.so_far p)).outcome;
        is = is;
        carry = record { outcome = c.outcome; into = λ n from k. same n ∙ c.into n from k };
      }

  -- another end is run on the tuples that come through
  pub end_outcome : (end : StageEnd) → first + how_many cs ≡ last → 0 < first → limit ≤ last + 1
      → ((l : ℕ) → l + 1 ≡ last → IsCarry first l (run.stage_from inner first cs None env) ts (lower limit last) (as_told (run.so_far p)))
      → EndsAs stands last limit (end_step inner env end last) (passed p) out
      → IsOutcomeOf stands first last (clauses_stage inner first cs env (end_step inner env end)) ts limit out
  end_outcome end is later within carry ends =
      let less : last - 1 + 1 ≡ last = omega arith in
      let c = carry_remade (λ w. w.tuples) (run.stage_from inner first cs None env) (clauses_stage inner first cs env tuples_step) (tuples_stage Seen inner env first cs) first (last - 1) (lower limit last) ts (as_told (run.so_far p)) (carry (last - 1) less) in
      record {
        plain = next_outcome last limit (end_step inner env end last) (passed p).outcome;
        is = ends.is;
        carry = carry_then first last (last - 1) limit (clauses_stage inner first cs env tuples_step) (end_step inner env end last) (clauses_stage inner first cs env (end_step inner env end))
            (clauses_then inner env (end_step inner env end) last first cs is) (end_leaves inner env end last) (tuples_before inner env first (last - 1) last cs is less) less within
            ts (passed p) (record { outcome = next_outcome last limit (end_step inner env end last) (passed p).outcome; into = taken_by out.into }) c refl
            (λ n from k. ends.same n k) (λ ys e. ends.here ys e ∙ sym (end_takes inner env end last ys));
      }

-- the same, where all that it is told of is known by other names
module _ {W : Type 0} (stands : W → Came → Type 0) (ts : List Tuple) (limit : ℕ) (out : Counted W) where
  abbrev pub OutcomeAt : Inner → Environment → ℕ → List (Clause Slot Target SeqType) → StageEnd → Type 0
  OutcomeAt inner env first cs end = IsOutcomeOf stands first (first + length cs) (clauses_stage inner first (bound_clauses cs) env (end_step inner env end)) ts limit out

  pub restaged : (inner inner2 : Inner) (env env2 : Environment) (first first2 : ℕ) (cs cs2 : List (Clause Slot Target SeqType)) (end end2 : StageEnd)
      → inner ≡ inner2 → env ≡ env2 → first ≡ first2 → cs ≡ cs2 → end ≡ end2 → OutcomeAt inner env first cs end → OutcomeAt inner2 env2 first2 cs2 end2
  restaged inner inner2 env env2 first first2 cs cs2 end end2 i e f c n h =
      subst (λ (x : Inner). OutcomeAt x env2 first2 cs2 end2) i
      (subst (λ (x : Environment). OutcomeAt inner x first2 cs2 end2) e
      (subst (λ (x : ℕ). OutcomeAt inner env x cs2 end2) f
      (subst (λ (x : List (Clause Slot Target SeqType)). OutcomeAt inner env first x end2) c
      (subst (λ (x : StageEnd). OutcomeAt inner env first cs x) n h))))
