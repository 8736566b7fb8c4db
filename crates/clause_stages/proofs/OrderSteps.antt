-- `order by` is an order step, whose clashes stay where more keys stand in front.
use Rattle.std.proofs.Common.{◌≡◌, ℕ, ◌+◌, Bool, true, false, ◌||◌, is_some, if◌then◌else◌, List, [], ◌∷◌, ◌++◌, Option, Some, None, Result, Ok, Err, refl, sym, ap, ◌∙◌, subst}
use Rattle.std.specs.List.{list_any}
use Rattle.std.proofs.lemmas.List.{map-append}
use Rattle.item_tree.specs.declared.class.Class.{Class}
use Rattle.item_tree.specs.declared.fault.Fault.{Fault}
use Rattle.seq_types.specs.declared.types.SeqType.{SeqType}
use Rattle.tuple_rows.specs.Keys.{KeyList, Keyed}
use Rattle.order_runs.specs.Clashes.{key_class, differ, clashes, first_key, other_keys, first_classes, other_columns, next_column, clash_column}
use Rattle.query_tree.specs.declared.bound.Slot.{Slot}
use Rattle.query_tree.specs.declared.bound.Target.{Target}
use Rattle.query_tree.specs.Plain as p
use Rattle.query_tree.specs.Plain.{PlainOrderKeys}
use Rattle.query_meaning.specs.Outcome as m
use Rattle.query_meaning.specs.Outcome.{OrFault}
use Rattle.query_meaning.specs.Environment.{Tuple, Environment, Inner}
use Rattle.query_meaning.specs.Orders as order
use Rattle.query_meaning.specs.Orders.{order_keys, column_places, unclashing, compared_keys, order_tuples}
use Rattle.stage_laws.specs.Runs as run
use Rattle.stage_laws.specs.Runs.{Met}
use Rattle.stage_laws.specs.Ends.{stage, ended_by, ClashesStay}
use Rattle.stage_laws.proofs.Orders.{ordered_falls}
use Rattle.clause_stages.specs.Steps.{marked}
use Rattle.clause_stages.specs.Ends.{tuple_keys, column_fault, order_clash, orders_step, in_key_order}
use Rattle.clause_stages.specs.Laws.{clause_end, OrdersAreSteps}
use Rattle.clause_stages.proofs.Marking.{meant}

-- ---- clashes stay

false_true : false ≡ true → ⊥
false_true h = cc

either : (a b : Bool) → b ≡ true → (a || b) ≡ true
either true b h = refl
either false b h = h

any_behind : {A : Type 0} (f : A → Bool) (xs ys : List A) → list_any f ys ≡ true → list_any f (xs ++ ys) ≡ true
any_behind f [] ys h = h
any_behind f (x ∷ xs) ys h = either (f x) (list_any f (xs ++ ys)) (any_behind f xs ys h)

clashes_behind : (front before : List KeyList) (c : Option Class) → clashes (first_classes before) c ≡ true → clashes (first_classes (front ++ before)) c ≡ true
clashes_behind front before c h =
    ap (λ (l : List (Option Class)). clashes l c) (map-append (λ ks. key_class (first_key ks)) front before)
    ∙ any_behind (λ q. differ q c) (first_classes front) (first_classes before) h

column_more : (b d : Bool) (o q : Option ℕ) → (b ≡ true → d ≡ true) → (is_some o ≡ true → is_some q ≡ true)
    → is_some (if b then Some 0 else next_column o) ≡ true → is_some (if d then Some 0 else next_column q) ≡ true
column_more b true o q h k i = refl
column_more true false o q h k i = absurd (false_true (h refl))
column_more false false None q h k i = absurd cc
column_more false false (Some c) None h k i = absurd (false_true (k refl))
column_more false false (Some c) (Some d) h k i = refl

column_stays : (front before : List KeyList) (r : KeyList) → is_some (clash_column before r) ≡ true → is_some (clash_column (front ++ before) r) ≡ true
column_stays front before [] h = absurd cc
column_stays front before (k ∷ ks) h =
    column_more (clashes (first_classes before) (key_class k)) (clashes (first_classes (front ++ before)) (key_class k))
    (clash_column (other_columns before) ks) (clash_column (other_columns (front ++ before)) ks)
    (clashes_behind front before (key_class k))
    (λ h. subst (λ (l : List KeyList). is_some (clash_column l ks) ≡ true) (sym (map-append other_keys front before)) (column_stays (other_columns front) (other_columns before) ks h))
    h

fault_where : (places : List ℕ) (o : Option ℕ) → is_some (column_fault places o) ≡ is_some o
fault_where places None = refl
fault_where places (Some c) = refl

clashes_stay : (keys : PlainOrderKeys Slot Target SeqType) → ClashesStay (order_clash keys)
clashes_stay keys front before r h =
    fault_where (column_places keys) (clash_column (front ++ before) r)
    ∙ column_stays front before r (sym (fault_where (column_places keys) (clash_column before r)) ∙ h)

-- ---- the order step

module _ (inner : Inner) (keys : PlainOrderKeys Slot Target SeqType) (env : Environment) (number : ℕ) where
  abbrev steps : List KeyList → ℕ → List Tuple → Result (List Keyed) (Met KeyList Fault)
  steps before n ts = run.keyed_from number (tuple_keys inner keys env) (order_clash keys) before n ts

  after_first : (r : KeyList) (t : Tuple) (q : Result (List Keyed) (Met KeyList Fault)) → m.◌>>=◌ (meant q) (λ keyed. Ok ((r, t) ∷ keyed)) ≡ meant (run.with_first (r, t) q)
  after_first r t (Ok ps) = refl
  after_first r t (Err e) = refl

  by_column : (n : ℕ) (t : Tuple) (r : KeyList) (c : Option ℕ) (q : Result (List Keyed) (Met KeyList Fault)) (rest : KeyList → OrFault (List Keyed)) → rest r ≡ meant q
      → m.◌>>=◌ (m.at_tuple number n (unclashing (column_places keys) c r)) (λ found. m.◌>>=◌ (rest found) (λ keyed. Ok ((found, t) ∷ keyed)))
      ≡ meant (run.unless_clash number n t r (column_fault (column_places keys) c) q)
  by_column n t r None q rest h = ap (λ (s : OrFault (List Keyed)). m.◌>>=◌ s (λ keyed. Ok ((r, t) ∷ keyed))) h ∙ after_first r t q
  by_column n t r (Some column) q rest h = refl

  by_keys : (before : List KeyList) (n : ℕ) (t : Tuple) (o : OrFault KeyList) (q : KeyList → Result (List Keyed) (Met KeyList Fault)) (rest : KeyList → OrFault (List Keyed)) → ((r : KeyList) → rest r ≡ meant (q r))
      → m.◌>>=◌ (m.at_tuple number n (m.◌>>=◌ o (λ found. unclashing (column_places keys) (clash_column before found) found))) (λ found. m.◌>>=◌ (rest found) (λ keyed. Ok ((found, t) ∷ keyed)))
      ≡ meant (run.with_keys number n o (λ r. run.unless_clash number n t r (order_clash keys before r) (q r)))
  by_keys before n t (Ok r) q rest h = by_column n t r (clash_column before r) (q r) rest (h r)
  by_keys before n t (Err fault) q rest h = refl

  keyed_meant : (before : List KeyList) (n : ℕ) (ts : List Tuple) → order.keyed_from inner number keys env before n ts ≡ meant (steps before n ts)
  unfolding compared_keys
  keyed_meant before n [] = refl
  keyed_meant before n (t ∷ ts) =
      by_keys before n t (tuple_keys inner keys env t) (λ r. steps (before ++ r ∷ []) (n + 1) ts) (λ r. order.keyed_from inner number keys env (before ++ r ∷ []) (n + 1) ts)
      (λ r. keyed_meant (before ++ r ∷ []) (n + 1) ts)

  finished : (q : Result (List Keyed) (Met KeyList Fault)) → m.◌>>=◌ (meant q) (λ keyed. Ok (in_key_order keys keyed)) ≡ ended_by marked (λ keyed. Ok (in_key_order keys keyed)) q
  finished (Ok ps) = refl
  finished (Err e) = refl

  orders_meant : (place : ℕ) (stable : Bool) (stream : List Slot) (ts : List Tuple)
      → clause_end inner (p.order_clause place stable keys) env number stream ts ≡ stage marked (λ keyed. Ok (in_key_order keys keyed)) (orders_step inner keys env number) ts
  unfolding order_tuples
  orders_meant place stable stream ts =
      ap (λ (q : OrFault (List Keyed)). m.◌>>=◌ q (λ keyed. Ok (in_key_order keys keyed))) (keyed_meant [] 1 ts)
      ∙ finished (steps [] 1 ts)

pub orders_are_steps : OrdersAreSteps
orders_are_steps = record {
  orders = λ inner place stable keys env number stream ts. orders_meant inner keys env number place stable stream ts;
  orders_fall = λ inner keys env number. ordered_falls number (tuple_keys inner keys env) (order_clash keys) (clashes_stay keys);
}
