-- The outputs of all pieces tell what a stage makes of the whole.
use Rattle.std.proofs.Common.{◌≡◌, ℕ, suc, ◌+◌, ◌≤◌, List, [], ◌∷◌, ◌++◌, length, flat_map, slice_get, Option, None, Some, Result, Ok, Err, IfOk, refl, sym, ap, ◌∙◌, subst, arith}
use Rattle.std.specs.List.{range_with_len}
use Rattle.item_tree.specs.declared.fault.Fault.{Fault}
use Rattle.item_reader.specs.Lines.{Line}
use Rattle.tuple_rows.specs.Keys.{KeyList, Keyed}
use Rattle.fault_merge.specs.declared.done.Done.{Done}
use Rattle.fault_merge.specs.Enough.{AllEnough}
use Rattle.stage_laws.specs.Runs.{Met}
use Rattle.stage_laws.specs.Stages.{Stage}
use Rattle.stage_laws.specs.Pieces as plain
use Rattle.stage_laws.specs.Pieces.{PieceDone, Known, known, step_told, fault_step, concat, nothing_yet, gathered}
use Rattle.stage_laws.specs.Ends.{in_order}
use Rattle.stage_laws.specs.Laws.{AllWithin, AllCarry}
use Rattle.stage_laws.specs.Limits.{TellTheSame}
use Rattle.stage_laws.proofs.Ends.{outcomes_tell}
use Rattle.stage_laws.proofs.Limits.{limits_are_enough}
use Rattle.board_core.specs.declared.event.CoreEvent.{CoreEvent}
use Rattle.piece_board.specs.declared.job.Pieces.{Pieces}
use Rattle.piece_board.specs.Whole.{IsWhole}
use Rattle.piece_board.proofs.Limits.{limits_enough}
use Rattle.piece_outcomes.specs.Came.{Came, Seen, nothing_came, follow}
use Rattle.piece_outcomes.specs.Counting.{taken_by, step_of, told_step, order_step_of, order_told_step}
use Rattle.piece_outcomes.specs.Outcomes.{OutcomeIs, AllDone, GatheredIs, ResultIs}
use Rattle.piece_outcomes.specs.Orders as order
use Rattle.piece_outcomes.specs.Orders.{clash_at, AllWide}
use Rattle.piece_outcomes.proofs.Reading.{result_is, order_result_is}
use Rattle.piece_outcomes.specs.declared.outcome.Outcome.{Outcome}
use Rattle.piece_outcomes.specs.declared.outcome.Outcome.TheVariants as own
use Rattle.piece_outcomes.specs.declared.outcome.Counted.{Counted}
use Rattle.piece_outcomes.specs.declared.outcome.OrderOutcome.{OrderOutcome}
use Rattle.piece_outcomes.specs.declared.outcome.OrderOutcome.TheVariants as ordering
use Rattle.piece_outcomes.specs.declared.outcome.OrderCounted.{OrderCounted}
use Rattle.piece_outcomes.specs.declared.outcome.Gathered.{Gathered}
use Rattle.piece_run.specs.Outcomes.{IsOutcomeOf}
use Rattle.piece_run.specs.Ordering.{IsOrderOutcomeOf}
use Rattle.piece_run.specs.Gathering.{OnPieces, IsWholeRun, IsWholeOrder, IsWideOutcomeOf, whole_run}
use Rattle.piece_run.proofs.Within.{limit_within}

-- ---- lists by place

abbrev AllBy : {X : Type 0} → (ℕ → X → Type 0) → List X → Type 0
AllBy good [] = Unit {0}
AllBy good (x ∷ xs) = good 0 x × AllBy (λ n y. good (suc n) y) xs

all_by : {X : Type 0} (good : ℕ → X → Type 0) (xs : List X) → ((n : ℕ) (x : X) → slice_get xs n ≡ Some x → good n x) → AllBy good xs
all_by good [] each = tt
all_by good (x ∷ xs) each = (each 0 x refl, all_by (λ n y. good (suc n) y) xs (λ n y e. each (suc n) y e))

-- as many of these as there are in the list
abbrev firsts : {X Y : Type 0} → (ℕ → Y) → List X → List Y
firsts f [] = []
firsts f (x ∷ xs) = f 0 ∷ firsts (λ n. f (suc n)) xs

joined_from : {X Y : Type 0} (lists f : ℕ → List Y) (k : ℕ) (xs : List X) → ((n : ℕ) → f n ≡ lists (k + n)) → concat (firsts f xs) ≡ flat_map lists (range_with_len k (length xs))
joined_from lists f k [] h = refl
joined_from {Y = Y} lists f k (x ∷ xs) h =
    let here : f 0 ≡ lists k = h 0 ∙ ap lists (omega arith) in
    let there : concat (firsts (λ n. f (suc n)) xs) ≡ flat_map lists (range_with_len (k + 1) (length xs)) =
    joined_from lists (λ n. f (suc n)) (k + 1) xs (λ n. h (suc n) ∙ ap lists (omega arith)) in
    ap (λ (ys : List Y). ys ++ concat (firsts (λ n. f (suc n)) xs)) here ∙ ap (λ (ys : List Y). lists k ++ ys) there

joined : {X Y : Type 0} (lists : ℕ → List Y) (total : ℕ) (xs : List X) → length xs ≡ total → concat (firsts lists xs) ≡ flat_map lists (range_with_len 0 total)
joined lists total xs e =
    joined_from lists lists 0 xs (λ n. ap lists (omega arith)) ∙ ap (λ (n : ℕ). flat_map lists (range_with_len 0 n)) e

-- ---- without an order

same_step : {W : Type 0} (stands : W → Came → Type 0) (o : Outcome W) (q : plain.Outcome Came Seen Fault) → OutcomeIs stands o q → step_of o ≡ fault_step q
same_step stands (own.Whole w) (plain.whole c) h = refl
same_step stands (own.Whole w) (plain.met e) h = absurd h
same_step stands (own.Whole w) plain.clean h = absurd h
same_step stands (own.Met m) (plain.whole c) h = absurd h
same_step stands (own.Met m) (plain.met e) h = ap (λ (d : Met Seen Fault). Some d.step) (sym h)
same_step stands (own.Met m) plain.clean h = absurd h
same_step stands own.Clean (plain.whole c) h = absurd h
same_step stands own.Clean (plain.met e) h = absurd h
same_step stands own.Clean plain.clean h = refl

-- an output within the limit of all, of the list at its place
record Good {A W : Type 0} (stands : W → Came → Type 0) (first last : ℕ) (s : Stage A Came Seen Fault) (xs : List A) (d : Done (Counted W)) : Type 0 where
  within : d.limit ≤ last + 1
  outcome : IsOutcomeOf stands first last s xs d.limit d.out

abbrev plain_of : {W : Type 0} → Done (Counted W) → plain.Outcome Came Seen Fault → PieceDone Came Seen Fault
plain_of d o = record { piece = d.piece; limit = d.limit; out = record { outcome = o; into = taken_by d.out.into } }

-- plain outcomes that these outputs stand for
record Plains {A W : Type 0} (stands : W → Came → Type 0) (first last : ℕ) (s : Stage A Came Seen Fault) (pieces : List (List A)) (ds : List (Done (Counted W))) : Type 0 where
  plains : List (PieceDone Came Seen Fault)
  done : AllDone stands ds plains
  within : AllWithin (last + 1) plains
  carry : AllCarry first last s pieces plains
  same : TellTheSame told_step ds plains

plains_of : {A W : Type 0} (stands : W → Came → Type 0) (first last : ℕ) (s : Stage A Came Seen Fault) (lists : ℕ → List A) (ds : List (Done (Counted W)))
    → AllBy (λ n d. Good stands first last s (lists n) d) ds → Plains stands first last s (firsts lists ds) ds
plains_of stands first last s lists [] h = record { plains = []; done = tt; within = tt; carry = tt; same = tt }
plains_of stands first last s lists (d ∷ ds) h =
    let rest = plains_of stands first last s (λ n. lists (suc n)) ds h.1 in
    let is = h.0.outcome in
    record {
      plains = plain_of d is.plain ∷ rest.plains;
      done = (record { limit = refl; outcome = is.is; into = refl }, rest.done);
      within = (h.0.within, rest.within);
      carry = (is.carry, rest.carry);
      same = (refl, same_step stands d.out.outcome is.plain is.is, rest.same);
    }

-- what the pieces tell together is what the stage makes of the whole
record Told {W : Type 0} (stands : W → Came → Type 0) (o : OnPieces Came Seen) (pieces : Pieces (Counted W)) : Type 0 where
  pub plains : List (PieceDone Came Seen Fault)
  pub done : AllDone stands pieces.done.items plains
  pub is : (gathered follow (nothing_yet nothing_came) plains).what ≡ known (whole_run o)

told_whole : {W : Type 0} (stands : W → Came → Type 0) (o : OnPieces Came Seen) (pieces : Pieces (Counted W)) → IsWholeRun stands o pieces → Told stands o pieces
told_whole {W = W} stands o pieces w =
    let good : ℕ → ℕ → Counted W → Type 0 = λ p limit out. IsOutcomeOf stands o.first o.last o.stage (o.lists p) limit out in
    let full = o.last + 1 in
    let ds = pieces.done.items in
    let events = pieces.events.items in
    let each : AllBy (λ n d. Good stands o.first o.last o.stage (o.lists n) d) ds = all_by (λ n d. Good stands o.first o.last o.stage (o.lists n) d) ds (λ p d e.
    let at = w.outputs.each p d e in
    record { within = limit_within told_step good o.total full ds events w.outputs p d at; outcome = at.is_good }) in
    let ps = plains_of stands o.first o.last o.stage o.lists ds each in
    let enough : AllEnough step_told full ps.plains =
    limits_are_enough (Counted W) Came Seen Fault told_step full ds ps.plains ps.same (limits_enough told_step good o.total full ds events w.outputs) in
    let law = outcomes_tell (ℕ × Line) Came Seen Fault o.first o.last nothing_came follow o.stage w.falls in
    record {
      plains = ps.plains;
      done = ps.done;
      is = law.whole (firsts o.lists ds) ps.plains ps.within ps.carry enough ∙ ap (λ (xs : List (ℕ × Line)). known (o.stage.run xs)) (joined o.lists o.total ds w.outputs.count);
    }

pub all_known : {W : Type 0} (stands : W → Came → Type 0) (pieces : Pieces (Counted W)) → (o : OnPieces Came Seen) × IsWholeRun stands o pieces
    → (ds : List (PieceDone Came Seen Fault)) × (r : Result Came (Met Seen Fault)) × AllDone stands pieces.done.items ds
    × ((gathered follow (nothing_yet nothing_came) ds).what ≡ known r)
all_known stands pieces h =
    let t = told_whole stands h.0 pieces h.1 in
    (t.plains, whole_run h.0, t.done, t.is)

pub whole_gathered : {W E : Type 0} (stands : W → Came → Type 0) (pieces : Pieces (Counted W)) (r : Result (Gathered W) E)
    → IfOk r (λ g. (ds : List (PieceDone Came Seen Fault)) → AllDone stands pieces.done.items ds → GatheredIs stands g (gathered follow (nothing_yet nothing_came) ds).what)
    → IfOk r (λ g. (o : OnPieces Came Seen) → IsWholeRun stands o pieces → ResultIs stands g (whole_run o))
whole_gathered stands pieces (Ok g) h = λ o w.
    let t = told_whole stands o pieces w in
    result_is stands g (gathered follow (nothing_yet nothing_came) t.plains).what (whole_run o) t.is (h t.plains t.done)
whole_gathered stands pieces (Err e) h = tt

-- ---- with an order

same_order_step : {W : Type 0} (stands : W → Came → Type 0) (o : OrderOutcome W) (q : plain.Outcome (List Keyed) KeyList Fault) → order.OutcomeIs stands o q → order_step_of o ≡ fault_step q
same_order_step stands (ordering.Whole w seen) (plain.whole c) h = refl
same_order_step stands (ordering.Whole w seen) (plain.met e) h = absurd h
same_order_step stands (ordering.Whole w seen) plain.clean h = absurd h
same_order_step stands (ordering.Met m seen) (plain.whole c) h = absurd h
same_order_step stands (ordering.Met m seen) (plain.met e) h = ap (λ (n : ℕ). Some n) (sym h.0.step)
same_order_step stands (ordering.Met m seen) plain.clean h = absurd h
same_order_step stands ordering.Clean (plain.whole c) h = absurd h
same_order_step stands ordering.Clean (plain.met e) h = absurd h
same_order_step stands ordering.Clean plain.clean h = refl

record OrderGood {A W : Type 0} (stands : W → Came → Type 0) (first last : ℕ) (s : Stage A (List Keyed) KeyList Fault) (xs : List A) (d : Done (OrderCounted W)) : Type 0 where
  within : d.limit ≤ last + 1
  outcome : IsOrderOutcomeOf stands first last s xs d.limit d.out

abbrev order_plain_of : {W : Type 0} → Done (OrderCounted W) → plain.Outcome (List Keyed) KeyList Fault → PieceDone (List Keyed) KeyList Fault
order_plain_of d o = record { piece = d.piece; limit = d.limit; out = record { outcome = o; into = taken_by d.out.into } }

record OrderPlains {A W : Type 0} (stands : W → Came → Type 0) (first last : ℕ) (s : Stage A (List Keyed) KeyList Fault) (pieces : List (List A)) (ds : List (Done (OrderCounted W))) : Type 0 where
  plains : List (PieceDone (List Keyed) KeyList Fault)
  done : order.AllDone stands ds plains
  within : AllWithin (last + 1) plains
  carry : AllCarry first last s pieces plains
  same : TellTheSame order_told_step ds plains

order_plains_of : {A W : Type 0} (stands : W → Came → Type 0) (first last : ℕ) (s : Stage A (List Keyed) KeyList Fault) (lists : ℕ → List A) (ds : List (Done (OrderCounted W)))
    → AllBy (λ n d. OrderGood stands first last s (lists n) d) ds → OrderPlains stands first last s (firsts lists ds) ds
order_plains_of stands first last s lists [] h = record { plains = []; done = tt; within = tt; carry = tt; same = tt }
order_plains_of stands first last s lists (d ∷ ds) h =
    let rest = order_plains_of stands first last s (λ n. lists (suc n)) ds h.1 in
    let is = h.0.outcome in
    record {
      plains = order_plain_of d is.plain ∷ rest.plains;
      done = (record { limit = refl; outcome = is.is; into = refl }, rest.done);
      within = (h.0.within, rest.within);
      carry = (is.carry, rest.carry);
      same = (refl, same_order_step stands d.out.outcome is.plain is.is, rest.same);
    }

record OrderTold {W : Type 0} (stands : W → Came → Type 0) (places : List ℕ) (step : ℕ) (o : OnPieces (List Keyed) KeyList) (pieces : Pieces (OrderCounted W)) : Type 0 where
  pub plains : List (PieceDone (List Keyed) KeyList Fault)
  pub done : order.AllDone stands pieces.done.items plains
  pub is : (gathered (in_order step (clash_at places)) (nothing_yet []) plains).what ≡ known (whole_run o)

order_told_whole : {W : Type 0} (stands : W → Came → Type 0) (places : List ℕ) (step : ℕ) (o : OnPieces (List Keyed) KeyList) (pieces : Pieces (OrderCounted W))
    → o.last ≡ step → IsWholeOrder stands places o pieces → OrderTold stands places step o pieces
order_told_whole {W = W} stands places step o pieces same w =
    let good : ℕ → ℕ → OrderCounted W → Type 0 = IsWideOutcomeOf stands (length places) o in
    let full = o.last + 1 in
    let ds = pieces.done.items in
    let events = pieces.events.items in
    let each : AllBy (λ n d. OrderGood stands o.first o.last o.stage (o.lists n) d) ds = all_by (λ n d. OrderGood stands o.first o.last o.stage (o.lists n) d) ds (λ p d e.
    let at = w.outputs.each p d e in
    record { within = limit_within order_told_step good o.total full ds events w.outputs p d at; outcome = at.is_good.outcome }) in
    let ps = order_plains_of stands o.first o.last o.stage o.lists ds each in
    let enough : AllEnough step_told full ps.plains =
    limits_are_enough (OrderCounted W) (List Keyed) KeyList Fault order_told_step full ds ps.plains ps.same (limits_enough order_told_step good o.total full ds events w.outputs) in
    let law = outcomes_tell (ℕ × Line) (List Keyed) KeyList Fault o.first o.last [] (in_order o.last (clash_at places)) o.stage w.falls in
    record {
      plains = ps.plains;
      done = ps.done;
      is = subst (λ (n : ℕ). (gathered (in_order n (clash_at places)) (nothing_yet []) ps.plains).what ≡ known (whole_run o)) same
          (law.whole (firsts o.lists ds) ps.plains ps.within ps.carry enough ∙ ap (λ (xs : List (ℕ × Line)). known (o.stage.run xs)) (joined o.lists o.total ds w.outputs.count));
    }

all_wide_of : {W : Type 0} (width : ℕ) (ds : List (Done (OrderCounted W))) → AllBy (λ p d. order.IsWide width d.out.outcome) ds → AllWide width ds
all_wide_of width [] h = tt
all_wide_of width (d ∷ ds) h = (h.0, all_wide_of width ds h.1)

pub all_wide : {W : Type 0} (stands : W → Came → Type 0) (places : List ℕ) (step : ℕ) (pieces : Pieces (OrderCounted W))
    → (o : OnPieces (List Keyed) KeyList) × (o.last ≡ step) × IsWholeOrder stands places o pieces
    → AllWide (length places) pieces.done.items
all_wide {W = W} stands places step pieces h =
    let wide : ℕ → Done (OrderCounted W) → Type 0 = λ p d. order.IsWide (length places) d.out.outcome in
    let w : IsWholeOrder stands places h.0 pieces = h.2 in
    all_wide_of (length places) pieces.done.items (all_by wide pieces.done.items (λ p d e. (w.outputs.each p d e).is_good.wide))

pub orders_known : {W : Type 0} (stands : W → Came → Type 0) (places : List ℕ) (step : ℕ) (pieces : Pieces (OrderCounted W))
    → (o : OnPieces (List Keyed) KeyList) × (o.last ≡ step) × IsWholeOrder stands places o pieces
    → (ds : List (PieceDone (List Keyed) KeyList Fault)) × (r : Result (List Keyed) (Met KeyList Fault)) × order.AllDone stands pieces.done.items ds
    × ((gathered (in_order step (clash_at places)) (nothing_yet []) ds).what ≡ known r)
orders_known stands places step pieces h =
    let t = order_told_whole stands places step h.0 pieces h.1 h.2 in
    (t.plains, whole_run h.0, t.done, t.is)

pub orders_gathered : {W E : Type 0} (stands : W → Came → Type 0) (places : List ℕ) (step : ℕ) (pieces : Pieces (OrderCounted W)) (r : Result (Gathered W) E)
    → IfOk r (λ g. (ds : List (PieceDone (List Keyed) KeyList Fault)) → order.AllDone stands pieces.done.items ds → order.GatheredIs stands g (gathered (in_order step (clash_at places)) (nothing_yet []) ds).what)
    → IfOk r (λ g. (o : OnPieces (List Keyed) KeyList) → o.last ≡ step → IsWholeOrder stands places o pieces → order.ResultIs stands g (whole_run o))
orders_gathered stands places step pieces (Ok g) h = λ o same w.
    let t = order_told_whole stands places step o pieces same w in
    order_result_is stands g (gathered (in_order step (clash_at places)) (nothing_yet []) t.plains).what (whole_run o) t.is (h t.plains t.done)
orders_gathered stands places step pieces (Err e) h = tt

-- ---- lists that stand for outputs

-- where each output is that of some list, there is a list for each piece
pub lists_chosen : {X O : Type 0} (none : X) (tells : O → Option ℕ) (of : X → ℕ → ℕ → O → Type 0) (total full : ℕ) (done : List (Done O)) (events : List CoreEvent)
    → IsWhole tells (λ p limit out. (x : X) × of x p limit out) total full done events
    → (lists : ℕ → X) × IsWhole tells (λ p limit out. of (lists p) p limit out) total full done events
lists_chosen {X = X} {O = O} none tells of total full done events w =
    let pick : (p : ℕ) (o : Option (Done O)) → slice_get done p ≡ o → X = λ p o.
    elim o as (λ q. slice_get done p ≡ q → X) [
      | None ↦ λ e. none
      | Some d ↦ λ e. (w.each p d e).is_good.0
    ] in
    let lists : ℕ → X = λ p. pick p (slice_get done p) refl in
    let is : (p : ℕ) (o : Option (Done O)) (e : slice_get done p ≡ o) (d : Done O) → o ≡ Some d → of (pick p o e) p d.limit d.out = λ p o.
    elim o as (λ q. (e : slice_get done p ≡ q) (d : Done O) → q ≡ Some d → of (pick p q e) p d.limit d.out) [
      | None ↦ λ e d s. absurd cc
      | Some c ↦ λ e d s.
          let same : c ≡ d = cc in
          subst (λ (b : Done O). of (w.each p c e).is_good.0 p b.limit b.out) same (w.each p c e).is_good.1
    ] in (
      lists,
      record {
        count = w.count;
        each = λ p d e.
            let at = w.each p d e in
            record { here = at.here; is_good = is p (slice_get done p) refl d e; taken = at.taken; told = at.told };
        ends = w.ends;
      },
    )
