-- What the outcome of a piece says: its fault is in a step below its limit, its lines have their
-- numbers in the input, and an order has a column for each key.
use Rattle.std.proofs.Common.{◌≡◌, ℕ, ◌+◌, ◌<◌, ◌==◌, suc, Bool, true, false, nat_lt, if◌then◌else◌, List, [], ◌∷◌, length, Option, Some, None, Result, Ok, Err, IfSome, refl, sym, ap, subst}
use Rattle.item_tree.specs.declared.fault.Fault.{Fault}
use Rattle.item_reader.specs.Lines.{Line}
use Rattle.seq_types.specs.declared.types.SeqType.{SeqType}
use Rattle.tuple_rows.specs.Keys.{KeyList, Keyed}
use Rattle.query_tree.specs.BoundViews.{bound_order_keys}
use Rattle.query_tree.specs.declared.bound.Slot.{Slot}
use Rattle.query_tree.specs.declared.bound.Target.{Target}
use Rattle.query_tree.specs.declared.clause.OrderKey.{OrderKey}
use Rattle.query_tree.specs.declared.expr.Expr.{Expr}
use Rattle.query_tree.specs.declared.names.Placed.{Placed}
use Rattle.query_meaning.specs.Orders.{column_places}
use Rattle.stage_laws.specs.Runs.{Met}
use Rattle.stage_laws.specs.Stages.{Stage}
use Rattle.stage_laws.specs.Pieces as laws
use Rattle.stage_laws.specs.Pieces.{told_below}
use Rattle.stage_laws.proofs.Basics.{lt_is}
use Rattle.clause_stages.specs.Drivers.{numbered_lines}
use Rattle.piece_outcomes.specs.Came.{Came, Seen}
use Rattle.piece_outcomes.specs.Counting.{step_of, told_step, order_step_of, order_told_step}
use Rattle.piece_outcomes.specs.Outcomes.{OutcomeIs}
use Rattle.piece_outcomes.specs.declared.outcome.Outcome.{Outcome}
use Rattle.piece_outcomes.specs.declared.outcome.Outcome.TheVariants as own
use Rattle.piece_outcomes.specs.declared.outcome.Counted.{Counted}
use Rattle.piece_outcomes.specs.declared.outcome.OrderOutcome.{OrderOutcome}
use Rattle.piece_outcomes.specs.declared.outcome.OrderOutcome.TheVariants as order
use Rattle.piece_outcomes.specs.declared.outcome.OrderCounted.{OrderCounted}
use Rattle.piece_seats.specs.Seats.{first_line}
use Rattle.piece_run.specs.Driven.{MayBegin}
use Rattle.piece_run.specs.Ordering.{PlainOrder, OrderOutcomeIs, IsOrderOutcomeOf}
use Rattle.piece_run.specs.Outcomes.{IsOutcomeOf}
use Rattle.piece_run.specs.declared.stage.DrivenStage.{DrivenStage}

met_below : {B K : Type 0} (e d : Met K Fault) (limit : ℕ) (b : Bool) → ◌≡◌ {A = laws.Outcome B K Fault} (laws.met e) (if b then laws.met d else laws.clean) → nat_lt d.step limit ≡ b → e.step < limit
met_below e d limit true is h =
    let same : e ≡ d = cc in
    subst (λ (m : Met _ Fault). m.step < limit) (sym same) (lt_is d.step limit h)
met_below e d limit false is h = absurd cc

not_met : {B K : Type 0} (e : Met K Fault) (ys : B) (b : Bool) → ◌≡◌ {A = laws.Outcome B K Fault} (laws.met e) (if b then laws.whole ys else laws.clean) → ⊥
not_met e ys true h = absurd cc
not_met e ys false h = absurd cc

told : {B K : Type 0} (last limit : ℕ) (e : Met K Fault) (q : Result B (Met K Fault)) → laws.met e ≡ told_below (last + 1) limit q → e.step < limit
told last limit e (Ok ys) h = absurd (not_met e ys (limit == last + 1) h)
told last limit e (Err d) h = met_below e d limit (nat_lt d.step limit) h refl

by_plain : {W : Type 0} (stands : W → Came → Type 0) (last limit : ℕ) (q : Result Came (Met Seen Fault)) (o : Outcome W) (p : laws.Outcome Came Seen Fault) → OutcomeIs stands o p → p ≡ told_below (last + 1) limit q → IfSome (step_of o) (λ step. step < limit)
by_plain stands last limit q (own.Whole w) p is h = tt
by_plain stands last limit q own.Clean p is h = tt
by_plain stands last limit q (own.Met m) (laws.whole c) is h = absurd is
by_plain stands last limit q (own.Met m) laws.clean is h = absurd is
by_plain stands last limit q (own.Met m) (laws.met e) is h =
    subst (λ (n : ℕ). n < limit) (ap (λ (d : Met Seen Fault). d.step) is) (told last limit e q h)

pub outcome_below : {A W : Type 0} (stands : W → Came → Type 0) (first last : ℕ) (s : Stage A Came Seen Fault) (xs : List A) (limit : ℕ) (out : Counted W) → IsOutcomeOf stands first last s xs limit out → IfSome (told_step out) (λ step. step < limit)
outcome_below stands first last s xs limit out h = by_plain stands last limit (s.run xs) out.outcome h.plain h.is h.carry.outcome

order_by_plain : {W : Type 0} (stands : W → Came → Type 0) (last limit : ℕ) (q : Result (List Keyed) (Met KeyList Fault)) (o : OrderOutcome W) (p : PlainOrder) → OrderOutcomeIs stands o p → p ≡ told_below (last + 1) limit q → IfSome (order_step_of o) (λ step. step < limit)
order_by_plain stands last limit q (order.Whole w seen) p is h = tt
order_by_plain stands last limit q order.Clean p is h = tt
order_by_plain stands last limit q (order.Met m seen) (laws.whole ks) is h = absurd is
order_by_plain stands last limit q (order.Met m seen) laws.clean is h = absurd is
order_by_plain stands last limit q (order.Met m seen) (laws.met e) is h =
    subst (λ (n : ℕ). n < limit) is.0.step (told last limit e q h)

pub order_below : {A W : Type 0} (stands : W → Came → Type 0) (first last : ℕ) (s : Stage A (List Keyed) KeyList Fault) (xs : List A) (limit : ℕ) (out : OrderCounted W) → IsOrderOutcomeOf stands first last s xs limit out → IfSome (order_told_step out) (λ step. step < limit)
order_below stands first last s xs limit out h = order_by_plain stands last limit (s.run xs) out.outcome h.plain h.is h.carry.outcome

-- lines may have their own numbers
pub begins_first : (at : Option (Placed Slot)) (first : ℕ) → MayBegin at first first
begins_first None first = tt
begins_first (Some at) first = refl

-- what is said of outcomes on lines whose first one has the number that the piece's first one has
pub piece_lines : {F : Type 0} (s : DrivenStage F) (of : List (ℕ × Line) → Type 0) (lines : List Line) (piece first : ℕ) → first ≡ first_line s.before.now piece
    → ((n : ℕ) → MayBegin s.binding.at.now first n → of (numbered_lines n lines))
    → (n : ℕ) → MayBegin s.binding.at.now (first_line s.before.now piece) n → of (numbered_lines n lines)
piece_lines s of lines piece first e h =
    subst (λ (k : ℕ). (n : ℕ) → MayBegin s.binding.at.now k n → of (numbered_lines n lines)) e h

-- a column for each key
pub columns_count : (keys : List (OrderKey (Expr Slot Target SeqType))) → length keys ≡ length (column_places (bound_order_keys keys))
columns_count [] = refl
columns_count (k ∷ ks) = ap suc (columns_count ks)
