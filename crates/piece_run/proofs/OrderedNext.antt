-- Tuples with the keys of `order by`, one after the other, and their outcomes.
use Rattle.std.proofs.Common.{◌≡◌, ℕ, ◌+◌, ◌-◌, ◌<◌, ◌≤◌, ◌==◌, nat_lt, List, [], ◌∷◌, ◌++◌, length, Vec, Option, Some, None, Result, Ok, Err, refl, sym, ap, subst, ◌∙◌, append_assoc, arith}
use Rattle.std.proofs.lemmas.List.{map-append}
use Rattle.std.specs.declared.alloc.Global.{Global}
use Rattle.item_tree.specs.declared.fault.Fault.{Fault}
use Rattle.seq_types.specs.declared.types.SeqType.{SeqType}
use Rattle.tuple_rows.specs.Keys.{KeyList, Keyed}
use Rattle.query_tree.specs.declared.bound.Slot.{Slot}
use Rattle.query_tree.specs.declared.bound.Target.{Target}
use Rattle.query_tree.specs.Plain.{PlainClauses, PlainOrderKeys}
use Rattle.query_meaning.specs.Environment.{Tuple, Environment, Inner}
use Rattle.stage_laws.specs.Runs.{Met, ◌>>=◌, with_first, unless_clash, with_keys, keyed_from}
use Rattle.query_meaning.specs.declared.value.Value.{Value}
use Rattle.stage_laws.specs.Stages.{Stage, ordered}
use Rattle.stage_laws.specs.Pieces as laws
use Rattle.stage_laws.specs.Pieces.{told_below}
use Rattle.stage_laws.specs.Ends.{keys_of, in_front}
use Rattle.stage_laws.specs.Laws.{IsCarry}
use Rattle.stage_laws.specs.Tuples.{as_told, outcome_of}
use Rattle.stage_laws.proofs.Basics.{eq_true, lt_true, picks}
use Rattle.clause_stages.specs.Steps.{clauses_stage}
use Rattle.clause_stages.specs.Ends.{tuples_step, tuple_keys, order_clash, orders_step}
use Rattle.clause_stages.specs.Values.{how_many}
use Rattle.clause_eval.specs.Carrying as run
use Rattle.clause_eval.specs.Frames.{frame_tuple, frame_tuples, tuples_of, keyed_list}
use Rattle.clause_eval.specs.declared.tuples.Frame.{Frame}
use Rattle.clause_eval.specs.declared.progress.Progress.{Progress}
use Rattle.clause_eval.specs.declared.progress.Told.{Told}
use Rattle.clause_eval.specs.declared.progress.Told.TheVariants as what
use Rattle.piece_outcomes.specs.Came.{Came}
use Rattle.piece_outcomes.specs.Counting.{taken_by}
use Rattle.piece_outcomes.specs.declared.met.MetFault.{MetFault}
use Rattle.piece_outcomes.specs.declared.outcome.OrderOutcome.TheVariants as own
use Rattle.piece_outcomes.specs.declared.outcome.OrderCounted.{OrderCounted}
use Rattle.piece_run.specs.Remade.{outcome_remade}
use Rattle.piece_run.specs.declared.ordering.OrderedTuples.{OrderedTuples}
use Rattle.piece_run.specs.declared.ordering.Ordering.{Ordering}
use Rattle.piece_run.specs.declared.ordering.Ordering.TheVariants as found
use Rattle.order_runs.specs.Seen.{Seen}
use Rattle.piece_run.specs.Phases.{lower, LeavesAt, next_outcome}
use Rattle.piece_run.specs.Outcomes.{passed}
use Rattle.piece_run.specs.Ordering.{PlainOrder, OrderOutcomeIs, FaultIs, OrderingIs, IsOrderOutcomeOf, OrderEndsAs}
use Rattle.piece_run.proofs.Remaking.{carry_remade}
use Rattle.piece_run.proofs.TwoPhases.{clean_below, carry_then}
use Rattle.piece_run.proofs.ClauseTies.{tuples_stage, clauses_then, tuples_before}

keys_behind : {A K : Type 0} (front : List (K × A)) (p : K × A) → keys_of (front ++ p ∷ []) ≡ keys_of front ++ p.0 ∷ []
keys_behind {A} {K} front p = map-append (λ (p : K × A). p.0) front (p ∷ [])

module _ {A K F : Type 0} where
  front_first : (front : List (K × A)) (p : K × A) (q : Result (List (K × A)) (Met K F)) → in_front front (with_first p q) ≡ in_front (front ++ p ∷ []) q
  front_first front p (Ok qs) = ap Ok (sym (append_assoc front (p ∷ []) qs))
  front_first front p (Err e) =
      ap (λ (l : List K). Err (record e { seen = l }))
      (sym (append_assoc (keys_of front) (p.0 ∷ []) e.seen) ∙ ap (λ (l : List K). l ++ e.seen) (sym (keys_behind front p)))

  pub nothing_front : (q : Result (List (K × A)) (Met K F)) → in_front [] q ≡ q
  nothing_front (Ok qs) = refl
  nothing_front (Err e) = refl

  clash_case : (step n : ℕ) (keys : A → Result K F) (clash : List K → K → Option F) (front : List (K × A)) (x : A) (xs : List A) (r : K) (o : Option F)
      → in_front front (unless_clash step n x r o (keyed_from step keys clash (keys_of front ++ r ∷ []) (n + 1) xs))
      ≡ (in_front front (unless_clash step n x r o (Ok [])) >>= λ G. in_front G (keyed_from step keys clash (keys_of G) (n + 1) xs))
  clash_case step n keys clash front x xs r None =
      front_first front (r, x) (keyed_from step keys clash (keys_of front ++ r ∷ []) (n + 1) xs)
      ∙ ap (λ (l : List K). in_front (front ++ (r, x) ∷ []) (keyed_from step keys clash l (n + 1) xs)) (sym (keys_behind front (r, x)))
  clash_case step n keys clash front x xs r (Some fault) = refl

  keys_case : (step n : ℕ) (keys : A → Result K F) (clash : List K → K → Option F) (front : List (K × A)) (x : A) (xs : List A) (o : Result K F)
      → in_front front (with_keys step n o (λ r. unless_clash step n x r (clash (keys_of front) r) (keyed_from step keys clash (keys_of front ++ r ∷ []) (n + 1) xs)))
      ≡ (in_front front (with_keys step n o (λ r. unless_clash step n x r (clash (keys_of front) r) (Ok []))) >>= λ G. in_front G (keyed_from step keys clash (keys_of G) (n + 1) xs))
  keys_case step n keys clash front x xs (Ok r) = clash_case step n keys clash front x xs r (clash (keys_of front) r)
  keys_case step n keys clash front x xs (Err fault) = refl

  -- one more tuple
  pub ordered_next : (step n : ℕ) (keys : A → Result K F) (clash : List K → K → Option F) (front : List (K × A)) (x : A) (xs : List A)
      → in_front front (keyed_from step keys clash (keys_of front) n (x ∷ xs))
      ≡ (in_front front (keyed_from step keys clash (keys_of front) n (x ∷ [])) >>= λ G. in_front G (keyed_from step keys clash (keys_of G) (n + 1) xs))
  ordered_next step n keys clash front x xs = keys_case step n keys clash front x xs (keys x)

  pub next_kept : (step n : ℕ) (keys : A → Result K F) (clash : List K → K → Option F) (front more : List (K × A)) (x : A) (xs : List A) (all : Result (List (K × A)) (Met K F))
      → in_front front (keyed_from step keys clash (keys_of front) n (x ∷ xs)) ≡ all → in_front front (keyed_from step keys clash (keys_of front) n (x ∷ [])) ≡ Ok more
      → in_front more (keyed_from step keys clash (keys_of more) (n + 1) xs) ≡ all
  next_kept step n keys clash front more x xs all h found =
      sym (ap (λ (q : Result (List (K × A)) (Met K F)). q >>= λ G. in_front G (keyed_from step keys clash (keys_of G) (n + 1) xs)) found)
      ∙ sym (ordered_next step n keys clash front x xs) ∙ h

  -- one more tuple, where it faults
  pub next_met : (step n : ℕ) (keys : A → Result K F) (clash : List K → K → Option F) (front : List (K × A)) (x : A) (xs : List A) (all : Result (List (K × A)) (Met K F)) (m : Met K F)
      → in_front front (keyed_from step keys clash (keys_of front) n (x ∷ xs)) ≡ all → in_front front (keyed_from step keys clash (keys_of front) n (x ∷ [])) ≡ Err m → all ≡ Err m
  next_met step n keys clash front x xs all m h found =
      sym h ∙ ordered_next step n keys clash front x xs
      ∙ ap (λ (q : Result (List (K × A)) (Met K F)). q >>= λ G. in_front G (keyed_from step keys clash (keys_of G) (n + 1) xs)) found

  -- ---- an order as a step

  first_leaves : (step : ℕ) (p : K × A) (q : Result (List (K × A)) (Met K F)) (e : Met K F) → ((d : Met K F) → q ≡ Err d → d.step ≡ step) → with_first p q ≡ Err e → e.step ≡ step
  first_leaves step p (Ok qs) e l h = absurd cc
  first_leaves step p (Err d) e l h = let same : record d { seen = p.0 ∷ d.seen } ≡ e = cc in ap (λ (m : Met K F). m.step) (sym same) ∙ l d refl

  unless_leaves : (step n : ℕ) (x : A) (r : K) (o : Option F) (q : Result (List (K × A)) (Met K F)) (e : Met K F) → ((d : Met K F) → q ≡ Err d → d.step ≡ step) → unless_clash step n x r o q ≡ Err e → e.step ≡ step
  unless_leaves step n x r None q e l h = first_leaves step (r, x) q e l h
  unless_leaves step n x r (Some fault) q e l h =
      let same : record { step = step; tuple = n; fault = fault; seen = r ∷ [] } ≡ e = cc in ap (λ (m : Met K F). m.step) (sym same)

  keys_leave : (step n : ℕ) (o : Result K F) (rest : K → Result (List (K × A)) (Met K F)) (e : Met K F) → ((r : K) (d : Met K F) → rest r ≡ Err d → d.step ≡ step) → with_keys step n o rest ≡ Err e → e.step ≡ step
  keys_leave step n (Ok r) rest e l h = l r e h
  keys_leave step n (Err fault) rest e l h =
      let same : record { step = step; tuple = n; fault = fault; seen = [] } ≡ e = cc in ap (λ (m : Met K F). m.step) (sym same)

  from_leaves : (step : ℕ) (keys : A → Result K F) (clash : List K → K → Option F) (before : List K) (n : ℕ) (xs : List A) (e : Met K F) → keyed_from step keys clash before n xs ≡ Err e → e.step ≡ step
  from_leaves step keys clash before n [] e h = absurd cc
  from_leaves step keys clash before n (x ∷ xs) e h =
      keys_leave step n (keys x) (λ r. unless_clash step n x r (clash before r) (keyed_from step keys clash (before ++ r ∷ []) (n + 1) xs)) e
      (λ r d k. unless_leaves step n x r (clash before r) (keyed_from step keys clash (before ++ r ∷ []) (n + 1) xs) d (λ c j. from_leaves step keys clash (before ++ r ∷ []) (n + 1) xs c j) k) h

  pub ordered_leaves : (at : ℕ) (keys : A → Result K F) (clash : List K → K → Option F) → LeavesAt at (ordered at keys clash)
  ordered_leaves at keys clash xs e h = from_leaves at keys clash [] 1 xs e h

  pub ordered_takes : (at : ℕ) (keys : A → Result K F) (clash : List K → K → Option F) (xs : List A) → (ordered at keys clash).into at xs ≡ length xs
  ordered_takes at keys clash xs = picks (at == at) (length xs) 0 (eq_true at at refl)

-- ---- a turn of the code

pub left_counted : (its left : List Frame) (x : Frame) (m n : ℕ) → its ≡ x ∷ left → n + 1 ≡ m → m ≡ length its → n ≡ length left
left_counted its left x m n e h i = let l : length its ≡ length (x ∷ left) = ap length e in omega arith

pub ordered_turn : (inner : Inner) (keys : PlainOrderKeys Slot Target SeqType) (env : Environment) (at position : ℕ) (its left : List Frame) (x : Frame) (all : Result (List Keyed) (Met KeyList Fault)) (ordered more : OrderedTuples) (k : Ordering) → its ≡ x ∷ left
    → in_front (keyed_list ordered.entries.items) (keyed_from at (tuple_keys inner keys env) (order_clash keys) (keys_of (keyed_list ordered.entries.items)) (position + 1) (frame_tuples its)) ≡ all
    → OrderingIs (in_front (keyed_list ordered.entries.items) (keyed_from at (tuple_keys inner keys env) (order_clash keys) (keys_of (keyed_list ordered.entries.items)) (position + 1) (frame_tuple x ∷ []))) k → k ≡ found.All more
    → in_front (keyed_list more.entries.items) (keyed_from at (tuple_keys inner keys env) (order_clash keys) (keys_of (keyed_list more.entries.items)) (position + 1 + 1) (frame_tuples left)) ≡ all
ordered_turn inner keys env at position its left x all ordered more k e h value is =
    let r = in_front (keyed_list ordered.entries.items) (keyed_from at (tuple_keys inner keys env) (order_clash keys) (keys_of (keyed_list ordered.entries.items)) (position + 1) (frame_tuple x ∷ [])) in
    next_kept at (position + 1) (tuple_keys inner keys env) (order_clash keys) (keyed_list ordered.entries.items) (keyed_list more.entries.items) (frame_tuple x) (frame_tuples left) all
    (subst (λ (l : List Frame). in_front (keyed_list ordered.entries.items) (keyed_from at (tuple_keys inner keys env) (order_clash keys) (keys_of (keyed_list ordered.entries.items)) (position + 1) (frame_tuples l)) ≡ all) e h)
    (subst (OrderingIs r) is value)

pub ordered_met : (inner : Inner) (keys : PlainOrderKeys Slot Target SeqType) (env : Environment) (at position : ℕ) (its left : List Frame) (x : Frame) (all : Result (List Keyed) (Met KeyList Fault)) (ordered : OrderedTuples) (k : Ordering) (m : MetFault) (seen : Seen) → its ≡ x ∷ left
    → in_front (keyed_list ordered.entries.items) (keyed_from at (tuple_keys inner keys env) (order_clash keys) (keys_of (keyed_list ordered.entries.items)) (position + 1) (frame_tuples its)) ≡ all
    → OrderingIs (in_front (keyed_list ordered.entries.items) (keyed_from at (tuple_keys inner keys env) (order_clash keys) (keys_of (keyed_list ordered.entries.items)) (position + 1) (frame_tuple x ∷ []))) k → k ≡ found.Met m seen
    → FaultIs all m seen
ordered_met inner keys env at position its left x all ordered k m seen e h value is =
    let r = in_front (keyed_list ordered.entries.items) (keyed_from at (tuple_keys inner keys env) (order_clash keys) (keys_of (keyed_list ordered.entries.items)) (position + 1) (frame_tuple x ∷ [])) in
    let f : FaultIs r m seen = subst (OrderingIs r) is value in
    record {
      fault = f.fault;
      is = next_met at (position + 1) (tuple_keys inner keys env) (order_clash keys) (keyed_list ordered.entries.items) (frame_tuple x) (frame_tuples left) all f.fault
          (subst (λ (l : List Frame). in_front (keyed_list ordered.entries.items) (keyed_from at (tuple_keys inner keys env) (order_clash keys) (keys_of (keyed_list ordered.entries.items)) (position + 1) (frame_tuples l)) ≡ all) e h)
          f.is;
      met = f.met;
      keys = f.keys;
    }

-- ---- what the code tells of an order

pub orders_clean : {W : Type 0} (stands : W → Came → Type 0) (inner : Inner) (keys : PlainOrderKeys Slot Target SeqType) (env : Environment) (at limit : ℕ) (ts : List Tuple) → limit ≤ at
    → OrderOutcomeIs stands own.Clean (told_below (at + 1) limit ((orders_step inner keys env at).run ts))
orders_clean stands inner keys env at limit ts le =
    subst (λ (o : PlainOrder). OrderOutcomeIs stands own.Clean o) (sym (clean_below at limit ((orders_step inner keys env at).run ts) (ordered_leaves at (tuple_keys inner keys env) (order_clash keys) ts) le)) tt

pub orders_met : {W : Type 0} (stands : W → Came → Type 0) (inner : Inner) (keys : PlainOrderKeys Slot Target SeqType) (env : Environment) (at limit : ℕ) (ts : List Tuple) (k : Ordering) (m : MetFault) (seen : Seen) → k ≡ found.Met m seen
    → OrderingIs ((orders_step inner keys env at).run ts) k → at < limit → OrderOutcomeIs stands (own.Met m seen) (told_below (at + 1) limit ((orders_step inner keys env at).run ts))
orders_met stands inner keys env at limit ts k m seen is value less =
    let r = (orders_step inner keys env at).run ts in
    let f : FaultIs r m seen = subst (OrderingIs r) is value in
    let here : f.fault.step ≡ at = ordered_leaves at (tuple_keys inner keys env) (order_clash keys) ts f.fault f.is in
    subst (λ (o : PlainOrder). OrderOutcomeIs stands (own.Met m seen) o)
    (sym (ap (told_below (at + 1) limit) f.is ∙ picks (nat_lt f.fault.step limit) (laws.met f.fault) laws.clean (lt_true f.fault.step limit (omega arith)))) (f.met, f.keys)

module _ {W : Type 0} (stands : W → Came → Type 0) (at limit : ℕ) (p : Progress) (out : OrderCounted W) (tuples : Vec Frame Global) (value : Value) (is : p.what ≡ what.Whole tuples value)
    (same : (n : ℕ) → n < at → taken_by out.into n ≡ run.counted p n) (here : taken_by out.into at ≡ length (tuples_of tuples)) where
  all_came : (passed {K = KeyList} p).outcome ≡ laws.whole (tuples_of tuples)
  all_came = ap (λ (k : Told). outcome_remade (λ w. w.tuples) (outcome_of (run.known_of k))) is

  pub orders_whole : (step : Stage Tuple (List Keyed) KeyList Fault) → OrderOutcomeIs stands out.outcome (told_below (at + 1) limit (step.run (tuples_of tuples))) → OrderEndsAs stands at limit step (passed p) out
  orders_whole step h = record {
    is = subst (λ (o : PlainOrder). OrderOutcomeIs stands out.outcome o) (sym (ap (next_outcome at limit step) all_came)) h;
    same = same;
    here = λ ys e.
        let j : laws.whole (tuples_of tuples) ≡ laws.whole ys = sym all_came ∙ e in
        let i : tuples_of tuples ≡ ys = cc in
        here ∙ ap length i;
  }

-- ---- what is told of the stage

module _ {W : Type 0} (stands : W → Came → Type 0) (inner : Inner) (env : Environment) (first last limit : ℕ) (cs : PlainClauses Slot Target SeqType) (ts : List Tuple) (p : Progress) (out : OrderCounted W) where
  pub order_outcome : (keys : PlainOrderKeys Slot Target SeqType) → first + how_many cs ≡ last → 0 < first → limit ≤ last + 1
      → ((l : ℕ) → l + 1 ≡ last → IsCarry first l (run.stage_from inner first cs None env) ts (lower limit last) (as_told (run.so_far p)))
      → OrderEndsAs stands last limit (orders_step inner keys env last) (passed p) out
      → IsOrderOutcomeOf stands first last (clauses_stage inner first cs env (orders_step inner keys env)) ts limit out
  order_outcome keys is later within carry ends =
      let less : last - 1 + 1 ≡ last = omega arith in
      let c = carry_remade (λ w. w.tuples) (run.stage_from inner first cs None env) (clauses_stage inner first cs env tuples_step) (tuples_stage KeyList inner env first cs) first (last - 1) (lower limit last) ts (as_told (run.so_far p)) (carry (last - 1) less) in
      record {
        plain = next_outcome last limit (orders_step inner keys env last) (passed p).outcome;
        is = ends.is;
        carry = carry_then first last (last - 1) limit (clauses_stage inner first cs env tuples_step) (orders_step inner keys env last) (clauses_stage inner first cs env (orders_step inner keys env))
            (clauses_then inner env (orders_step inner keys env) last first cs is) (ordered_leaves last (tuple_keys inner keys env) (order_clash keys)) (tuples_before inner env first (last - 1) last cs is less) less within
            ts (passed p) (record { outcome = next_outcome last limit (orders_step inner keys env last) (passed p).outcome; into = taken_by out.into }) c refl
            (λ n from k. ends.same n k) (λ ys e. ends.here ys e ∙ sym (ordered_takes last (tuple_keys inner keys env) (order_clash keys) ys));
      }
