-- A `for` over lines is a driver.
use Rattle.std.proofs.Common.{◌≡◌, ℕ, ◌+◌, ◌≤◌, nat_lt, false, List, [], ◌∷◌, append-nil, Option, Some, Result, Ok, Err, refl, sym, ap, ap₂, ◌∙◌, arith}
use Rattle.item_tree.specs.Datum.{Datum}
use Rattle.item_tree.specs.declared.fault.Fault.{Fault}
use Rattle.seq_types.specs.declared.types.SeqType.{SeqType}
use Rattle.query_tree.specs.declared.bound.Slot.{Slot}
use Rattle.query_tree.specs.declared.names.Placed.{Placed}
use Rattle.query_tree.specs.Bound.{BoundTree}
use Rattle.query_tree.specs.Plain as p
use Rattle.query_meaning.specs.Outcome as m
use Rattle.query_meaning.specs.Outcome.{OrFault, Outcome}
use Rattle.query_meaning.specs.Environment.{Tuple, Environment, Inner, in_tuple}
use Rattle.query_meaning.specs.Clauses.{bound_tuples, for_tuples, each_tuple, clause_value}
use Rattle.stage_laws.specs.Runs as run
use Rattle.stage_laws.specs.Runs.{Met}
use Rattle.stage_laws.specs.Stages.{ended, driver}
use Rattle.stage_laws.specs.Pieces.{Follow}
use Rattle.stage_laws.specs.Ends.{appended, ended_by, stage}
use Rattle.stage_laws.specs.Laws.{Falls}
use Rattle.stage_laws.proofs.Basics.{lt_true, lt_false, picks, passes}
use Rattle.stage_laws.proofs.Steps.{LeftAt, read_splits, ended_falls, driver_falls}
use Rattle.clause_stages.specs.Steps.{TupleStage, marked}
use Rattle.clause_stages.specs.Drivers.{numbered_lines, line_item, placed_item, item_tuple, driven_stage, driver_marked, unmarked, DriversAreStages}
use Rattle.clause_stages.proofs.Marking.{meant, meant_joined, meant_met}

-- ---- lines that are read

module _ (K : Type 0) (number : ℕ) where
  -- the items with their positions, or the fault of a line
  abbrev read_as : ℕ → Outcome → Result (List (ℕ × Datum)) (Met K Fault)
  read_as n (Ok xs) = Ok (numbered_lines n xs)
  read_as n (Err fault) = Err (record { step = number; tuple = 1; fault = fault; seen = [] })

  item_before : (n : ℕ) (x : Datum) (r : Outcome) → run.joined (Ok ((n, x) ∷ [])) (read_as (n + 1) r) ≡ read_as n (m.joined (Ok (x ∷ [])) r)
  item_before n x (Ok xs) = refl
  item_before n x (Err fault) = refl

  line_before : (n : ℕ) (o : OrFault Datum) (r : Outcome) → run.joined (run.met_at number 1 (m.◌>>=◌ o (λ x. Ok ((n, x) ∷ [])))) (read_as (n + 1) r) ≡ read_as n (m.joined (m.◌>>=◌ o (λ x. Ok (x ∷ []))) r)
  line_before n (Ok x) r = item_before n x r
  line_before n (Err fault) r = refl

  lines_read : {L : Type 0} (read : L → OrFault Datum) (n : ℕ) (lines : List L) → run.each_read {K = K} number (placed_item read) (numbered_lines n lines) ≡ read_as n (m.each (line_item read) lines)
  lines_read read n [] = refl
  lines_read read n (l ∷ ls) =
      ap (run.joined (run.met_at number 1 (placed_item read (n, l)))) (lines_read read (n + 1) ls)
      ∙ line_before n (read l) (m.each (line_item read) ls)

-- ---- items that are bound

tuple_joined : {B : Type 0} (c n : ℕ) (q r : OrFault (List B)) → m.at_tuple c n (m.joined q r) ≡ m.joined (m.at_tuple c n q) (m.at_tuple c n r)
tuple_joined c n (Ok xs) (Ok ys) = refl
tuple_joined c n (Ok xs) (Err fault) = refl
tuple_joined c n (Err fault) r = refl

module _ {B : Type 0} (K : Type 0) (c : ℕ) (g : ℕ × Datum → OrFault (List B)) where
  items_bound : (n : ℕ) (xs : List Datum) → m.at_tuple c 1 (m.each_from (λ n x. g (n, x)) n xs) ≡ meant (run.each_read {K = K} c g (numbered_lines n xs))
  items_bound n [] = refl
  items_bound n (x ∷ xs) =
      tuple_joined c 1 (g (n, x)) (m.each_from (λ n x. g (n, x)) (n + 1) xs)
      ∙ ap₂ m.joined (meant_met K c 1 (g (n, x))) (items_bound (n + 1) xs)
      ∙ meant_joined (run.met_at c 1 (g (n, x))) (run.each_read c g (numbered_lines (n + 1) xs))

joined_none : {B : Type 0} (r : OrFault (List B)) → m.joined r (Ok []) ≡ r
joined_none (Ok xs) = ap Ok (append-nil xs)
joined_none (Err fault) = refl

-- ---- marks

later_mark : {K : Type 0} (c : ℕ) (e : Met K Fault) → c ≤ e.step → driver_marked c e ≡ marked e
later_mark c e le = ap (λ (n : ℕ). record (e.fault) { spot = Some (record { clause = n; tuple = e.tuple }) }) (passes (nat_lt e.step c) c e.step (lt_false e.step c le))

same_marks : {B C K : Type 0} (c : ℕ) (finish : B → OrFault C) (q : Result B (Met K Fault)) → ((e : Met K Fault) → q ≡ Err e → c ≤ e.step) → ended_by marked finish q ≡ ended_by (driver_marked c) finish q
same_marks c finish (Ok x) h = refl
same_marks c finish (Err e) h = ap Err (sym (later_mark c e (h e refl)))

-- ---- the `for`

module _ {B C K : Type 0} (number last : ℕ) (empty : B) (follow : Follow B K Fault) (rest : TupleStage B K) (value : List Tuple → OrFault C) (finish : B → OrFault C)
    (falls : Falls (number + 2) last empty follow rest) (is : (ts : List Tuple) → value ts ≡ stage marked finish rest ts) where
  bound_then : (q : Result (List Tuple) (Met K Fault)) → LeftAt (number + 1) q → m.◌>>=◌ (meant q) value ≡ ended_by (driver_marked (number + 1)) finish (run.◌>>=◌ q rest.run)
  bound_then (Ok ts) l =
      is ts ∙ same_marks (number + 1) finish (rest.run ts) (λ e h. let w : number + 2 ≤ e.step = (falls.steps ts e h).0 in omega arith)
  bound_then (Err e) l = let a : e.step ≡ number + 1 = l in ap Err (sym (later_mark (number + 1) e (omega arith)))

  module _ (variable : Placed Slot) (t : Option (Placed SeqType)) (at : Option (Placed Slot)) (tuple : Tuple) where
    abbrev bind : ℕ × Datum → OrFault (List Tuple)
    bind = item_tuple variable t at tuple

    read_then : (o : Outcome) → m.◌>>=◌ (m.joined (m.at_tuple (number + 1) 1 (m.◌>>=◌ o (bound_tuples variable t false at tuple))) (Ok [])) value
        ≡ ended_by (driver_marked (number + 1)) finish (run.◌>>=◌ (read_as K number 1 o) (λ items. run.◌>>=◌ (run.each_read (number + 1) bind items) rest.run))
    read_then (Ok xs) =
        ap (λ (q : OrFault (List Tuple)). m.◌>>=◌ q value) (joined_none (m.at_tuple (number + 1) 1 (bound_tuples variable t false at tuple xs)) ∙ items_bound K (number + 1) bind 1 xs)
        ∙ bound_then (run.each_read (number + 1) bind (numbered_lines 1 xs)) ((read_splits K (number + 1) bind).left (numbered_lines 1 xs))
    read_then (Err fault) =
        ap (λ (n : ℕ). Err (record fault { spot = Some (record { clause = n; tuple = 1 }) }))
        (sym (picks (nat_lt number (number + 1)) (number + 1) number (lt_true number (number + 1) (omega arith))))

    means : {L : Type 0} (inner : Inner) (stream : List Slot) (source : BoundTree) (env : Environment) (read : L → OrFault Datum) (lines : List L) → inner source (in_tuple env tuple) ≡ m.each (line_item read) lines
        → m.◌>>=◌ (clause_value inner (number + 1) stream (p.for_clause variable t false at source) env (tuple ∷ [])) value
        ≡ stage (driver_marked (number + 1)) finish (driven_stage number read variable t at tuple rest) (numbered_lines 1 lines)
    unfolding each_tuple for_tuples
    means inner stream source env read lines h =
        ap (λ (o : Outcome). m.◌>>=◌ (m.joined (m.at_tuple (number + 1) 1 (m.◌>>=◌ o (bound_tuples variable t false at tuple))) (Ok [])) value) h
        ∙ read_then (m.each (line_item read) lines)
        ∙ ap (λ (q : Result (List (ℕ × Datum)) (Met K Fault)). ended_by (driver_marked (number + 1)) finish (run.◌>>=◌ q (λ items. run.◌>>=◌ (run.each_read (number + 1) bind items) rest.run)))
        (sym (lines_read K number read 1 lines))

-- ---- an input alone

module _ {L : Type 0} (K : Type 0) (read : L → OrFault Datum) where
  abbrev alone : {B : Type 0} → Result B (Met K Fault) → OrFault B
  alone r = ended_by unmarked (λ x. Ok x) r

  alone_joined : (o : Outcome) (r : Result (List Datum) (Met K Fault)) → m.joined o (alone r) ≡ alone (run.joined (run.met_at 0 1 o) r)
  alone_joined (Ok xs) (Ok ys) = refl
  alone_joined (Ok xs) (Err e) = refl
  alone_joined (Err fault) r = refl

  lines_alone : (ls : List L) → m.each (line_item read) ls ≡ alone (run.each_read {K = K} 0 (line_item read) ls)
  lines_alone [] = refl
  lines_alone (l ∷ ls) = ap (m.joined (line_item read l)) (lines_alone ls) ∙ alone_joined (line_item read l) (run.each_read 0 (line_item read) ls)

  alone_ended : (q : Result (List Datum) (Met K Fault)) → alone q ≡ alone (run.◌>>=◌ q (λ xs. Ok xs))
  alone_ended (Ok xs) = refl
  alone_ended (Err e) = refl

pub drivers_are_stages : (L B C K : Type 0) → DriversAreStages L B C K
drivers_are_stages L B C K = record {
  means = λ inner number last stream variable t at source env tuple read lines empty follow rest value finish h falls is.
      means number last empty follow rest value finish falls is variable t at tuple inner stream source env read lines h;
  falls = λ number last variable t at tuple read empty follow rest falls le.
      let e : number + 2 ≡ number + 1 + 1 = omega arith in
      driver_falls number (number + 1) last empty follow (placed_item read) (driver (number + 1) (item_tuple variable t at tuple) rest)
      (driver_falls (number + 1) (number + 2) last empty follow (item_tuple variable t at tuple) rest falls (omega arith) le) (omega arith) (omega arith);
  lines = λ read ls. lines_alone K read ls ∙ alone_ended K read (run.each_read {K = K} 0 (line_item read) ls);
  lines_fall = λ read. driver_falls 0 1 0 [] appended (line_item read) ended (ended_falls 1 0) (omega arith) (omega arith);
}
