-- Pieces of which all is known, where what is kept of them stands for anything.
use Rattle.std.proofs.Common.{◌≡◌, ℕ, List, [], ◌∷◌, Result, Ok, refl, sym, subst}
use Rattle.item_tree.specs.declared.fault.Fault.{Fault}
use Rattle.tuple_rows.specs.Keys.{KeyList, Keyed}
use Rattle.order_runs.specs.Seen as class
use Rattle.fault_merge.specs.declared.done.Done.{Done}
use Rattle.stage_laws.specs.Runs.{Met}
use Rattle.stage_laws.specs.Pieces as plain
use Rattle.stage_laws.specs.Ends.{in_order}
use Rattle.piece_outcomes.specs.declared.counts.Counts.{Counts}
use Rattle.piece_outcomes.specs.declared.outcome.Outcome.{Outcome}
use Rattle.piece_outcomes.specs.declared.outcome.Outcome.TheVariants as own
use Rattle.piece_outcomes.specs.declared.outcome.Counted.{Counted}
use Rattle.piece_outcomes.specs.declared.outcome.OrderOutcome.TheVariants as order
use Rattle.piece_outcomes.specs.declared.outcome.OrderCounted.{OrderCounted}
use Rattle.piece_outcomes.specs.Came.{Came, Seen, nothing_came, follow}
use Rattle.piece_outcomes.specs.Counting.{met_of, taken_by}
use Rattle.piece_outcomes.specs.Outcomes.{OutcomeIs, AllDone}
use Rattle.piece_outcomes.specs.Orders as orders
use Rattle.table_tests.specs.Pieces.{OfOneTuple}

abbrev pub anything : {W : Type 0} → W → Came → Type 0
anything w c = Unit {0}

abbrev pub plain_outcome : {W : Type 0} → Outcome W → plain.Outcome Came Seen Fault
plain_outcome (own.Whole w) = plain.whole nothing_came
plain_outcome (own.Met m) = plain.met (met_of m)
plain_outcome own.Clean = plain.clean

abbrev pub plain_done : {W : Type 0} → Done (Counted W) → plain.PieceDone Came Seen Fault
plain_done d = record {
  piece = d.piece;
  limit = d.limit;
  out = record { outcome = plain_outcome d.out.outcome; into = taken_by d.out.into };
}

abbrev pub plain_pieces : {W : Type 0} → List (Done (Counted W)) → List (plain.PieceDone Came Seen Fault)
plain_pieces [] = []
plain_pieces (d ∷ ds) = plain_done d ∷ plain_pieces ds

outcome_is : {W : Type 0} (o : Outcome W) → OutcomeIs anything o (plain_outcome o)
outcome_is (own.Whole w) = tt
outcome_is (own.Met m) = refl
outcome_is own.Clean = tt

all_stand : {W : Type 0} (ds : List (Done (Counted W))) → AllDone anything ds (plain_pieces ds)
all_stand [] = tt
all_stand (d ∷ ds) =
    (record { limit = refl; outcome = outcome_is d.out.outcome; into = refl }, all_stand ds)

-- what is known, or else this
abbrev pub result_in : {B K : Type 0} → B → plain.Known B K Fault → Result B (Met K Fault)
result_in empty (plain.known r) = r
result_in empty (plain.clear l) = Ok empty

abbrev pub told : {W : Type 0} → List (Done (Counted W)) → plain.Known Came Seen Fault
told ds = (plain.gathered follow (plain.nothing_yet nothing_came) (plain_pieces ds)).what

pub all_known : {W : Type 0} (xs ys : List (Done (Counted W))) → xs ≡ ys
    → told ys ≡ plain.known (result_in nothing_came (told ys))
    → (ds : List (plain.PieceDone Came Seen Fault)) × (r : Result Came (Met Seen Fault))
    × AllDone anything xs ds
    × ((plain.gathered follow (plain.nothing_yet nothing_came) ds).what ≡ plain.known r)
all_known {W} xs ys e h = (
  plain_pieces xs,
  result_in nothing_came (told xs),
  all_stand xs,
  subst (λ (l : List (Done (Counted W))). told l ≡ plain.known (result_in nothing_came (told l))) (sym e) h,
)

-- ---- two pieces at an order, each of one tuple

abbrev pub one_keyed : (piece limit : ℕ) → KeyList → Counts → plain.PieceDone (List Keyed) KeyList Fault
one_keyed piece limit k into = record {
  piece = piece;
  limit = limit;
  out = record { outcome = plain.whole ((k, []) ∷ []); into = taken_by into };
}

abbrev pub one_piece : {W : Type 0} → (piece limit : ℕ) → W → class.Seen → Counts → Done (OrderCounted W)
one_piece piece limit w seen into = record {
  piece = piece;
  limit = limit;
  out = record { outcome = order.Whole w seen; into = into };
}

pub two_known : {W : Type 0} (step : ℕ) (places : List ℕ) (xs : List (Done (OrderCounted W)))
    (p q l m : ℕ) (v w : W) (s t : class.Seen) (i j : Counts)
    → xs ≡ one_piece p l v s i ∷ one_piece q m w t j ∷ []
    → OfOneTuple s → OfOneTuple t
    → (ds : List (plain.PieceDone (List Keyed) KeyList Fault))
    × (r : Result (List Keyed) (Met KeyList Fault)) × orders.AllDone anything xs ds
    × ((plain.gathered (in_order step (orders.clash_at places)) (plain.nothing_yet []) ds).what ≡ plain.known r)
two_known {W} step places xs p q l m v w s t i j e a b =
    let ds : List (plain.PieceDone (List Keyed) KeyList Fault) = one_keyed p l (a.0) i ∷ one_keyed q m (b.0) j ∷ [] in (
      ds,
      result_in [] (plain.gathered (in_order step (orders.clash_at places)) (plain.nothing_yet []) ds).what,
      subst (λ (ys : List (Done (OrderCounted W))). orders.AllDone anything ys ds) (sym e) (
        record { limit = refl; outcome = record { kept = tt; keys = a.1 }; into = refl },
        (record { limit = refl; outcome = record { kept = tt; keys = b.1 }; into = refl }, tt),
      ),
      refl,
    )
