-- What stages that read an input make of its lines is what is meant.
use Rattle.std.proofs.Common.{◌≡◌, ℕ, ◌+◌, true, List, [], ◌∷◌, Option, Result, Ok, Err, refl, sym, ap, ◌∙◌, subst, arith}
use Rattle.item_tree.specs.declared.fault.Fault.{Fault}
use Rattle.item_reader.specs.Lines.{Line}
use Rattle.tuple_rows.specs.Keys.{KeyList, Keyed}
use Rattle.query_tree.specs.declared.bound.Slot.{Slot}
use Rattle.query_tree.specs.Scoped.{and_slots}
use Rattle.query_tree.specs.declared.bound.Target.{Target}
use Rattle.query_tree.specs.Plain as p
use Rattle.query_tree.specs.Plain.{PlainOrderKeys}
use Rattle.seq_types.specs.declared.types.SeqType.{SeqType}
use Rattle.query_meaning.specs.Orders.{column_places}
use Rattle.query_meaning.specs.Outcome as m
use Rattle.query_meaning.specs.Outcome.{OrFault, Outcome}
use Rattle.query_meaning.specs.Clauses.{clause_value}
use Rattle.query_meaning.specs.Environment.{Tuple, Environment, Inner}
use Rattle.query_meaning.specs.Flwors.{with_slots, flwor_from}
use Rattle.query_meaning.specs.Pieces.{are_narrow}
use Rattle.stage_laws.specs.Runs.{Met}
use Rattle.stage_laws.specs.Stages.{viewed, kept_as}
use Rattle.stage_laws.specs.Pieces.{Follow}
use Rattle.stage_laws.specs.Ends.{in_order, ended_by, stage}
use Rattle.stage_laws.specs.Laws.{Falls}
use Rattle.stage_laws.proofs.Ends.{kept_falls}
use Rattle.clause_stages.specs.Steps.{TupleStage, marked, clauses_stage}
use Rattle.clause_stages.specs.Ends.{items_step, numbers_step, numbered, groups_step, grouped, orders_step, order_clash, in_key_order}
use Rattle.clause_stages.specs.Values.{how_many, and_clauses, EndValue, behind_clauses, IsEnd}
use Rattle.clause_stages.specs.Laws.{clause_end, return_end}
use Rattle.clause_stages.specs.Drivers.{driver_marked}
use Rattle.clause_stages.specs.InputLines.{line_read}
use Rattle.clause_stages.proofs.Clauses.{clauses_are_stages}
use Rattle.clause_stages.proofs.Marking.{then_then, same_after}
use Rattle.clause_stages.proofs.Driving.{drivers_are_stages}
use Rattle.clause_stages.proofs.EndSteps.{ends_are_steps}
use Rattle.clause_stages.proofs.OrderSteps.{orders_are_steps}
use Rattle.clause_stages.proofs.Flwors.{flwors_are_stages}
use Rattle.piece_outcomes.specs.Came.{Came, Seen, nothing_came, came_behind, follow, keyed_came}
use Rattle.piece_outcomes.specs.Counting.{met_of}
use Rattle.piece_outcomes.specs.Outcomes.{ResultIs}
use Rattle.piece_outcomes.specs.Orders as order
use Rattle.piece_outcomes.specs.declared.met.MetFault.{MetFault}
use Rattle.piece_outcomes.specs.declared.outcome.Gathered.{Gathered}
use Rattle.piece_outcomes.specs.declared.outcome.Gathered.TheVariants as given
use Rattle.piece_run.specs.Ends.{StageEnd, items, numbers, groups, end_step, items_came, tuples_came, items_end, numbers_end, groups_end}
use Rattle.piece_run.specs.Meanings.{LinesFor, for_of, all_clauses, bound_after, for_then, input_stage, end_number, DrivenStagesFall, GivesLines, lines_run, lines_ended, DrivenStagesGiveValues, ResultsMean, GatheredMeans}

-- the `for`, the clauses after it and any end
driven_means : {B C K : Type 0} (outer : Inner) (d : LinesFor) (stream : List Slot) (lines : List Line) (value : EndValue C) (last_step : ℕ → TupleStage B K) (finish : List Slot → B → OrFault C)
    (empty : B) (follow : ℕ → Follow B K Fault)
    → ((number : ℕ) → Falls number number empty (follow number) (last_step number)) → IsEnd value last_step finish → GivesLines outer d lines → are_narrow d.clauses ≡ true
    → for_then outer d stream (behind_clauses d.inner (d.reading + 2) (with_slots stream (for_of d)) d.clauses d.env value)
    ≡ lines_ended d (finish (and_slots stream (all_clauses d))) (lines_run d last_step lines)
driven_means {B = B} {C = C} {K = K} outer d stream lines value last_step finish empty follow falls is_end gives narrow =
    let law = clauses_are_stages B C K in
    let first = d.reading + 2 in
    let bound = with_slots stream (for_of d) in
    let last = first + how_many d.clauses in
    let rest = clauses_stage d.inner first d.clauses d.env last_step in
    let ended = finish (and_slots bound d.clauses) in
    let rest_falls : Falls first last empty (follow last) rest = law.falls d.inner first last d.clauses d.env empty (follow last) last_step (omega arith) (falls last) in
    let is : (ts : List Tuple) → behind_clauses d.inner first bound d.clauses d.env value ts ≡ stage marked ended rest ts =
    λ ts. law.means d.inner first bound d.clauses d.env value last_step finish narrow is_end ts in
    (drivers_are_stages Line B C K).means outer d.reading last stream d.variable d.of d.at d.source d.env d.tuple (line_read d.place) lines empty (follow last) rest
    (behind_clauses d.inner first bound d.clauses d.env value) ended gives rest_falls is

-- the same steps, where something else is kept of what comes out
ended_view : {B W C K : Type 0} (mark : Met K Fault → Fault) (view : B → W) (finish : B → OrFault C) (finish_kept : W → OrFault C) → ((x : B) → finish x ≡ finish_kept (view x))
    → (q : Result B (Met K Fault)) → ended_by mark finish q ≡ ended_by mark finish_kept (viewed view q)
ended_view mark view finish finish_kept h (Ok x) = h x
ended_view mark view finish finish_kept h (Err e) = refl

kept_end : {B W C K : Type 0} (view : B → W) (value : EndValue C) (last_step : ℕ → TupleStage B K) (finish : List Slot → B → OrFault C) (finish_kept : List Slot → W → OrFault C)
    → ((stream : List Slot) (x : B) → finish stream x ≡ finish_kept stream (view x)) → IsEnd value last_step finish
    → IsEnd value (λ n. kept_as view (last_step n)) finish_kept
kept_end view value last_step finish finish_kept h is number stream ts =
    is number stream ts ∙ ended_view marked view (finish stream) (finish_kept stream) (h stream) ((last_step number).run ts)

pub driven_stages_give_values : DrivenStagesGiveValues
driven_stages_give_values = record {
  items = λ outer d stream lines body gives narrow.
      let steps = items_step {K = Seen} d.inner body d.env in
      let bound = with_slots stream (for_of d) in
      let first = d.reading + 2 in
      same_after (clause_value outer (d.reading + 1) stream (for_of d) d.env (d.tuple ∷ [])) (flwor_from d.inner first bound d.clauses body d.env)
      (behind_clauses d.inner first bound d.clauses d.env (return_end d.inner body d.env)) ((flwors_are_stages Seen).ends d.inner first bound d.clauses body d.env)
      ∙ driven_means outer d stream lines (return_end d.inner body d.env) (items_end d.inner body d.env) (λ s came. Ok came.items) nothing_came (λ n. follow)
      (λ n. kept_falls n n items_came came_behind (steps n) (λ xs ys. refl) ((ends_are_steps Seen).items_fall d.inner body d.env n))
      (kept_end items_came (return_end d.inner body d.env) steps (λ s xs. Ok xs) (λ s came. Ok came.items) (λ s x. refl) ((ends_are_steps Seen).items d.inner body d.env)) gives narrow;
  numbers = λ outer d stream lines place variable gives narrow.
      let value = clause_end d.inner (p.count_clause place variable) d.env in
      driven_means outer d stream lines value numbers_end (λ s came. Ok (numbered variable came.tuples)) nothing_came (λ n. follow)
      (λ n. kept_falls n n tuples_came came_behind (numbers_step n) (λ xs ys. refl) ((ends_are_steps Seen).numbers_fall n))
      (kept_end tuples_came value (numbers_step {K = Seen}) (λ s ts. Ok (numbered variable ts)) (λ s came. Ok (numbered variable came.tuples)) (λ s x. refl) ((ends_are_steps Seen).numbers d.inner place variable d.env)) gives narrow;
  groups = λ outer d stream lines place keys gives narrow.
      let value = clause_end d.inner (p.group_clause place keys) d.env in
      let steps = groups_step {K = Seen} d.inner keys d.env in
      driven_means outer d stream lines value (groups_end d.inner keys d.env) (λ s came. Ok (grouped keys d.env s came.keyed)) nothing_came (λ n. follow)
      (λ n. kept_falls n n keyed_came came_behind (steps n) (λ xs ys. refl) ((ends_are_steps Seen).groups_fall d.inner keys d.env n))
      (kept_end keyed_came value steps (λ s ks. Ok (grouped keys d.env s ks)) (λ s came. Ok (grouped keys d.env s came.keyed)) (λ s x. refl) ((ends_are_steps Seen).groups d.inner place keys d.env)) gives narrow;
  orders = λ outer d stream lines place stable keys gives narrow.
      let value = clause_end d.inner (p.order_clause place stable keys) d.env in
      driven_means outer d stream lines value (orders_step d.inner keys d.env) (λ s ks. Ok (in_key_order keys ks)) [] (λ n. in_order n (order_clash keys))
      (orders_are_steps.orders_fall d.inner keys d.env) (orders_are_steps.orders d.inner place stable keys d.env) gives narrow;
  goes_on = λ outer d stream c rest body.
      let bound = with_slots stream (for_of d) in
      let first = d.reading + 2 in
      let tuples = clause_value outer (d.reading + 1) stream (for_of d) d.env (d.tuple ∷ []) in
      let until = behind_clauses d.inner first bound d.clauses d.env (clause_end d.inner c d.env) in
      let after : List Tuple → Outcome = flwor_from d.inner (end_number d + 1) (with_slots (bound_after d stream) c) rest body d.env in
      same_after tuples (flwor_from d.inner first bound (and_clauses d.clauses (p.more_clauses c rest)) body d.env) (λ ts. m.◌>>=◌ (until ts) after)
      ((flwors_are_stages Seen).goes_on d.inner first bound d.clauses rest c body d.env)
      ∙ sym (then_then tuples until after);
}

-- ---- stages that fall into pieces

driven_falls : {B K : Type 0} (d : LinesFor) (last_step : ℕ → TupleStage B K) (empty : B) (follow : Follow B K Fault) → Falls (end_number d) (end_number d) empty follow (last_step (end_number d))
    → Falls d.reading (end_number d) empty follow (input_stage d last_step)
driven_falls {B = B} {K = K} d last_step empty follow falls =
    let first = d.reading + 2 in
    let last = end_number d in
    let rest = clauses_stage d.inner first d.clauses d.env last_step in
    let rest_falls : Falls first last empty follow rest = (clauses_are_stages B B K).falls d.inner first last d.clauses d.env empty follow last_step (omega arith) falls in
    (drivers_are_stages Line B B K).falls d.reading last d.variable d.of d.at d.tuple (line_read d.place) empty follow rest rest_falls (omega arith)

end_falls : (inner : Inner) (env : Environment) (end : StageEnd) (number : ℕ) → Falls number number nothing_came follow (end_step inner env end number)
end_falls inner env (items body) number =
    kept_falls number number items_came came_behind (items_step inner body env number) (λ xs ys. refl) ((ends_are_steps Seen).items_fall inner body env number)
end_falls inner env numbers number =
    kept_falls number number tuples_came came_behind (numbers_step number) (λ xs ys. refl) ((ends_are_steps Seen).numbers_fall number)
end_falls inner env (groups keys) number =
    kept_falls number number keyed_came came_behind (groups_step inner keys env number) (λ xs ys. refl) ((ends_are_steps Seen).groups_fall inner keys env number)

same_clash : (keys : PlainOrderKeys Slot Target SeqType) → order_clash keys ≡ order.clash_at (column_places keys)
same_clash keys = refl

pub driven_stages_fall : DrivenStagesFall
driven_stages_fall = record {
  ends = λ d end. driven_falls d (end_step d.inner d.env end) nothing_came follow (end_falls d.inner d.env end (end_number d));
  orders = λ d keys.
      let last = end_number d in
      driven_falls d (orders_step d.inner keys d.env) [] (in_order last (order.clash_at (column_places keys)))
      (subst (λ (clash : List KeyList → KeyList → Option Fault). Falls last last [] (in_order last clash) (orders_step d.inner keys d.env last)) (same_clash keys) (orders_are_steps.orders_fall d.inner keys d.env last));
}

-- ---- what was gathered

came_means : {W C : Type 0} (stands : W → Came → Type 0) (g : Gathered W) (r : Result Came (Met Seen Fault)) (finish : Came → OrFault C) (number : ℕ) (meant : OrFault C)
    → ResultIs stands g r → meant ≡ ended_by (driver_marked number) finish r → GatheredMeans stands finish number meant g
came_means stands (given.Whole w) (Ok came) finish number meant is e = (came, is, e)
came_means stands (given.Whole w) (Err d) finish number meant is e = absurd is
came_means stands (given.Met m) (Ok came) finish number meant is e = absurd is
came_means stands (given.Met m) (Err d) finish number meant is e = e ∙ ap (λ (f : Met Seen Fault). Err (driver_marked number f)) is

marked_so : (number : ℕ) (m : MetFault) (d : Met KeyList Fault) → order.MetIs m d → driver_marked number d ≡ driver_marked number (met_of {K = Seen} m)
marked_so number m d is =
    let at : ℕ → ℕ → Fault → Fault = λ step tuple fault. driver_marked {K = Seen} number (record { step = step; tuple = tuple; fault = fault; seen = [] }) in
    ap (λ (n : ℕ). at n d.tuple d.fault) is.step ∙ ap (λ (n : ℕ). at m.step n d.fault) is.tuple ∙ ap (at m.step m.tuple) is.fault

ordered_means : {W C : Type 0} (stands : W → Came → Type 0) (g : Gathered W) (r : Result (List Keyed) (Met KeyList Fault)) (finish : List Keyed → OrFault C) (number : ℕ) (meant : OrFault C)
    → order.ResultIs stands g r → meant ≡ ended_by (driver_marked number) finish r → GatheredMeans (λ w keyed. stands w (keyed_came keyed)) finish number meant g
ordered_means stands (given.Whole w) (Ok ks) finish number meant is e = (ks, is, e)
ordered_means stands (given.Whole w) (Err d) finish number meant is e = absurd is
ordered_means stands (given.Met m) (Ok ks) finish number meant is e = absurd is
ordered_means stands (given.Met m) (Err d) finish number meant is e = e ∙ ap Err (marked_so number m d is)

pub results_mean : {W : Type 0} (stands : W → Came → Type 0) (C : Type 0) → ResultsMean stands C
results_mean stands C = record {
  came = λ g r finish number meant is e. came_means stands g r finish number meant is e;
  ordered = λ g r finish number meant is e. ordered_means stands g r finish number meant is e;
}
