-- What a stage that reads lines tells below a limit, as the outcomes of the code.
use Rattle.std.proofs.Common.{◌≡◌, ℕ, ◌+◌, ◌-◌, ◌<◌, nat_lt, get_or, List, [], Vec, Result, Ok, Err, IfOk, refl, sym, subst, arith}
use Rattle.std.specs.declared.alloc.Global.{Global}
use Rattle.item_tree.specs.Datum.{Datum}
use Rattle.item_reader.specs.Lines.{Line}
use Rattle.seq_types.specs.declared.types.SeqType.{SeqType}
use Rattle.query_tree.specs.declared.bound.Slot.{Slot}
use Rattle.query_tree.specs.declared.bound.Target.{Target}
use Rattle.query_tree.specs.Plain.{PlainOrderKeys}
use Rattle.query_meaning.specs.Orders.{column_places}
use Rattle.query_meaning.specs.Outcome.{OrFault}
use Rattle.stage_laws.specs.Ends.{in_order}
use Rattle.stage_laws.specs.Pieces as laws
use Rattle.stage_laws.proofs.Basics.{lt_true, picks}
use Rattle.clause_eval.specs.Frames.{tuples_of}
use Rattle.clause_eval.specs.declared.tuples.Frame.{Frame}
use Rattle.clause_stages.specs.Drivers.{numbered_lines}
use Rattle.order_runs.specs.Seen as classes
use Rattle.order_runs.specs.Seen.{SeenStandsFor}
use Rattle.piece_outcomes.specs.Came.{Came, nothing_came, follow}
use Rattle.piece_outcomes.specs.Counting.{met_of, taken_by}
use Rattle.piece_outcomes.specs.Orders.{clash_at}
use Rattle.piece_outcomes.specs.Outcomes.{OutcomeIs}
use Rattle.piece_outcomes.specs.declared.counts.Counts.{Counts}
use Rattle.piece_outcomes.specs.declared.met.MetFault.{MetFault}
use Rattle.piece_outcomes.specs.declared.outcome.Outcome.{Outcome}
use Rattle.piece_outcomes.specs.declared.outcome.Outcome.TheVariants as own
use Rattle.piece_outcomes.specs.declared.outcome.OrderOutcome.TheVariants as order
use Rattle.piece_outcomes.specs.declared.outcome.Counted.{Counted}
use Rattle.piece_outcomes.specs.declared.outcome.OrderCounted.{OrderCounted}
use Rattle.piece_run.specs.Driven.{MayBegin, stage_of, order_stage_of}
use Rattle.piece_run.specs.DriverGives.{read_lines, GivesBelow}
use Rattle.piece_run.specs.Ordering.{OrderOutcomeIs, IsOrderOutcomeOf}
use Rattle.piece_run.specs.Outcomes.{IsOutcomeOf}
use Rattle.piece_run.specs.Staged.{EndKeyedBy, last_step, tuples_stage, ordered_stage}
use Rattle.piece_run.specs.declared.came.CameOut.{CameOut}
use Rattle.piece_run.specs.declared.driver.Driven.TheVariants as given
use Rattle.piece_run.specs.declared.stage.DrivenStage.{DrivenStage}
use Rattle.piece_run.specs.declared.stage.StageEnd as code
use Rattle.piece_run.specs.declared.stage.StageEnd.TheVariants as end
use Rattle.piece_run.proofs.DriverCarries.{told_clean, told_met, told_next}
use Rattle.piece_run.proofs.EndFalls.{tuples_fall, ordered_fall}

-- no step before the first one took in a tuple
pub none_before : (into : Counts) (first n : ℕ) → into.first ≡ first → n < first → taken_by into n ≡ 0
none_before into first n e l =
    let less : n < into.first = omega arith in
    picks (nat_lt n into.first) 0 (get_or into.taken.items (n - into.first) 0) (lt_true n into.first less)

-- ---- without an order

module _ {F W : Type 0} (stands : W → Came → Type 0) (s : DrivenStage F) (first n limit : ℕ) (begins : MayBegin s.binding.at.now first n) (lines : List Line) (out : Counted W)
    (none : (c : ℕ) → c < s.reading + 2 → taken_by out.into c ≡ 0) where
  abbrev Told : Type 0
  Told = IsOutcomeOf stands s.reading (last_step s) (stage_of s) (numbered_lines n lines) limit out

  pub tells_clean : out.outcome ≡ own.Clean → GivesBelow s first limit (read_lines s lines) given.Clean → Told
  tells_clean is h = record {
    plain = laws.clean;
    is = subst (λ o. OutcomeIs stands o laws.clean) (sym is) tt;
    carry = told_clean s (tuples_stage s) nothing_came follow (tuples_fall s) first n limit begins lines (taken_by out.into) none (read_lines s lines) refl h;
  }

  pub tells_met : (m : MetFault) → out.outcome ≡ own.Met m → GivesBelow s first limit (read_lines s lines) (given.Met m) → Told
  tells_met m is h = record {
    plain = laws.met (met_of m);
    is = subst (λ o. OutcomeIs stands o (laws.met (met_of m))) (sym is) refl;
    carry = told_met s (tuples_stage s) nothing_came follow (tuples_fall s) first n limit begins lines (taken_by out.into) none m (read_lines s lines) refl h;
  }

  pub tells_next : (frames : Vec Frame Global) (q : OrFault (List Datum)) → read_lines s lines ≡ q → GivesBelow s first limit q (given.Tuples frames)
      → IsOutcomeOf stands (s.reading + 2) (last_step s) (tuples_stage s) (tuples_of frames) limit out → Told
  tells_next frames (Ok items) is h o = record {
    plain = o.plain;
    is = o.is;
    carry = told_next s (tuples_stage s) nothing_came follow (tuples_fall s) first n limit begins lines (taken_by out.into) none (tuples_of frames) items is h o.plain o.carry;
  }
  tells_next frames (Err fault) is h o = absurd h

-- ---- with an order

module _ {F W : Type 0} (stands : W → Came → Type 0) (s : DrivenStage F) (keys : PlainOrderKeys Slot Target SeqType) (first n limit : ℕ) (begins : MayBegin s.binding.at.now first n) (lines : List Line)
    (out : OrderCounted W) (none : (c : ℕ) → c < s.reading + 2 → taken_by out.into c ≡ 0) where
  abbrev OrderTold : Type 0
  OrderTold = IsOrderOutcomeOf stands s.reading (last_step s) (order_stage_of s keys) (numbered_lines n lines) limit out

  pub order_clean : out.outcome ≡ order.Clean → GivesBelow s first limit (read_lines s lines) given.Clean → OrderTold
  order_clean is h = record {
    plain = laws.clean;
    is = subst (λ o. OrderOutcomeIs stands o laws.clean) (sym is) tt;
    carry = told_clean s (ordered_stage s keys) [] (in_order (last_step s) (clash_at (column_places keys))) (ordered_fall s keys) first n limit begins lines (taken_by out.into) none (read_lines s lines) refl h;
  }

  pub order_met : (m : MetFault) (seen : classes.Seen) → SeenStandsFor seen [] → out.outcome ≡ order.Met m seen → GivesBelow s first limit (read_lines s lines) (given.Met m) → OrderTold
  order_met m seen saw is h = record {
    plain = laws.met (met_of m);
    is = subst (λ o. OrderOutcomeIs stands o (laws.met (met_of m))) (sym is) (record { step = refl; tuple = refl; fault = refl }, saw);
    carry = told_met s (ordered_stage s keys) [] (in_order (last_step s) (clash_at (column_places keys))) (ordered_fall s keys) first n limit begins lines (taken_by out.into) none m (read_lines s lines) refl h;
  }

  pub order_next : (frames : Vec Frame Global) (q : OrFault (List Datum)) → read_lines s lines ≡ q → GivesBelow s first limit q (given.Tuples frames)
      → IsOrderOutcomeOf stands (s.reading + 2) (last_step s) (ordered_stage s keys) (tuples_of frames) limit out → OrderTold
  order_next frames (Ok items) is h o = record {
    plain = o.plain;
    is = o.is;
    carry = told_next s (ordered_stage s keys) [] (in_order (last_step s) (clash_at (column_places keys))) (ordered_fall s keys) first n limit begins lines (taken_by out.into) none (tuples_of frames) items is h o.plain o.carry;
  }
  order_next frames (Err fault) is h o = absurd h

-- ---- two facts of an answer, and keys

-- two facts of an answer give a third
pub on_ok : {A E : Type 0} (P Q R : A → Type 0) (r : Result A E) → IfOk r P → IfOk r Q → ((x : A) → P x → Q x → R x) → IfOk r R
on_ok P Q R (Ok x) p q f = f x p q
on_ok P Q R (Err e) p q f = tt

-- where nothing came out, no key is missing
pub clean_keyed : {I : Type 0} (e : code.StageEnd) (o : Outcome (CameOut I)) → o ≡ own.Clean → EndKeyedBy e o
clean_keyed (end.Items body) o h = tt
clean_keyed end.Numbers o h = tt
clean_keyed (end.Groups keys) o h = subst (EndKeyedBy (end.Groups keys)) (sym h) tt

pub met_keyed : {I : Type 0} (e : code.StageEnd) (o : Outcome (CameOut I)) (m : MetFault) → o ≡ own.Met m → EndKeyedBy e o
met_keyed (end.Items body) o m h = tt
met_keyed end.Numbers o m h = tt
met_keyed (end.Groups keys) o m h = subst (EndKeyedBy (end.Groups keys)) (sym h) tt
