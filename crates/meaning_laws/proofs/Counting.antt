-- How many calls in some expressions are drivers.
use Rattle.std.proofs.Common.{◌≡◌, ℕ, ◌+◌, ◌≤◌, ◌||◌, Bool, true, false, not, if◌then◌else◌, Option, None, Some, List, [], ◌∷◌, ◌++◌, refl, sym, ap, ◌∙◌, arith}
use Rattle.std.specs.Cmp.Derive.{both_true}
use Rattle.std.specs.Cmp.Lexicographic.{pointwise}
use Rattle.std.specs.List.{AllByRecursion, filter_map, flat_map, cons_option, list_any}
use Rattle.std.specs.Str.{bytes_eq}
use Rattle.std.proofs.lemmas.Bool.Decides.{Decides-eqb}
use Rattle.std.proofs.lemmas.List.{append-nil}
use Rattle.std.proofs.lemmas.List.Sums.{sum_by-append, sum_by-cons}
use Rattle.std.proofs.lemmas.Slice.Eq.{bytes_eq-Decides, slice_eq-Decides}
use Rattle.item_tree.specs.declared.functions.FnId.{FnId}
use Rattle.seq_types.specs.declared.types.SeqType.{SeqType}
use Rattle.query_tree.specs.declared.bound.Slot.{Slot}
use Rattle.query_tree.specs.declared.bound.Target.{Target}
use Rattle.query_tree.specs.declared.bound.Target.TheVariants.{Built, Lines}
use Rattle.query_tree.specs.Bound.{BoundTree}
use Rattle.query_tree.specs.Plain as p
use Rattle.query_tree.specs.Plain.{PlainClause, PlainClauses}
use Rattle.query_tree.specs.Subtrees.{subtrees, trees_subtrees, clause_subtrees, clauses_subtrees}
use Rattle.mode_planner.specs.Beside.{drives, is_driver, one_if_driven, driven_calls}
use Rattle.mode_planner.specs.Drivers.{DriverPlan, call_driver}
use Rattle.mode_planner.specs.Laws.{HasDriver}
use Rattle.meaning_laws.specs.Beside.{is_beside, flwor_of}
use Rattle.meaning_laws.specs.Once.{DriversAreAlone}
use Rattle.meaning_laws.proofs.Beside.{clauses_joined}
use Rattle.meaning_laws.proofs.Calling.{of_each}

-- ---- a driver is driven

or_true : (b : Bool) → (b || true) ≡ true
or_true true = refl
or_true false = refl

itself_driven : (d : DriverPlan) → is_driver d d ≡ true
itself_driven d =
    both_true ((Decides-eqb d.place d.place).1 refl)
    ((slice_eq-Decides bytes_eq-Decides d.names d.names (pointwise bytes_eq d.names d.names) refl).1 refl)

pub all_driven : (ds : List DriverPlan) → AllByRecursion (λ d. drives ds d ≡ true) ds
all_driven [] = tt
all_driven (d ∷ ds) = (
  ap (λ b. b || drives ds d) (itself_driven d),
  of_each (λ e. drives ds e ≡ true) (λ e. drives (d ∷ ds) e ≡ true) (λ e h. ap (λ b. is_driver e d || b) h ∙ or_true (is_driver e d)) ds (all_driven ds),
)

module _ (ds : List DriverPlan) where
  abbrev pub node : BoundTree → ℕ
  node t = one_if_driven ds (call_driver t)

  pub count_more : (t : BoundTree) (ts : List BoundTree) → driven_calls ds (t ∷ ts) ≡ node t + driven_calls ds ts
  count_more t ts = sum_by-cons node t ts

  pub count_both : (ts us : List BoundTree) → driven_calls ds (ts ++ us) ≡ driven_calls ds ts + driven_calls ds us
  count_both ts us = sum_by-append node ts us

  -- ---- where none is

  none_more : (o : Option DriverPlan) (cs : List DriverPlan) (rest : ℕ) → one_if_driven ds o + rest ≡ 0 → (rest ≡ 0 → not (list_any (drives ds) cs) ≡ true) → not (list_any (drives ds) (cons_option o cs)) ≡ true
  none_more None cs rest h more =
      let z : one_if_driven ds None ≡ 0 = refl in
      let e : rest ≡ 0 = omega (arith, h, z) in
      more e
  none_more (Some c) cs rest h more = by (drives ds c) refl
    where
      by : (b : Bool) → drives ds c ≡ b → not (drives ds c || list_any (drives ds) cs) ≡ true
      by true e =
          let one : one_if_driven ds (Some c) ≡ 1 = ap (λ (x : Bool). if x then 1 else 0) e in
          absurd (omega (arith, one, h))
      by false e =
          let left : rest ≡ 0 = omega (arith, h) in
          ap (λ x. not (x || list_any (drives ds) cs)) e ∙ more left

  pub none_driven : (ts : List BoundTree) → driven_calls ds ts ≡ 0 → not (list_any (drives ds) (filter_map call_driver ts)) ≡ true
  none_driven [] h = refl
  none_driven (t ∷ ts) h = none_more (call_driver t) (filter_map call_driver ts) (driven_calls ds ts) (sym (count_more t ts) ∙ h) (none_driven ts)

  pub none_beside : (t : BoundTree) → driven_calls ds (subtrees t) ≡ 0 → is_beside ds t ≡ true
  none_beside t h = none_driven (subtrees t) h

  -- each of some trees has none, where all together have none
  pub each_none : (ts : List BoundTree) → driven_calls ds (flat_map subtrees ts) ≡ 0 → AllByRecursion (λ t. is_beside ds t ≡ true) ts
  each_none [] h = tt
  each_none (t ∷ ts) h =
      let e = count_both (subtrees t) (flat_map subtrees ts) in
      let own : driven_calls ds (subtrees t) ≡ 0 = omega (arith, e, h) in
      let rest : driven_calls ds (flat_map subtrees ts) ≡ 0 = omega (arith, e, h) in
      (none_beside t own, each_none ts rest)

  -- ---- a FLWOR that is driven

  abbrev clauses : List (PlainClause Slot Target SeqType) → PlainClauses Slot Target SeqType
  clauses cs = p.clauses_of Slot Target SeqType cs

  driver_counts : (d : DriverPlan) (arguments : p.Trees Slot Target SeqType) → drives ds d ≡ true → node (p.tree_node d.place (p.call_form (Lines d.names) arguments)) ≡ 1
  driver_counts d arguments h = ap (λ (b : Bool). if b then 1 else 0) h

  -- the count of the clauses is that of those before and after the driver, and one or more
  pub record Parts (cs : PlainClauses Slot Target SeqType) (before after : List (PlainClause Slot Target SeqType)) : Type 0 where
    pub arguments : ℕ
    pub parted : driven_calls ds (clauses_subtrees cs) ≡ driven_calls ds (clauses_subtrees (clauses before)) + (1 + arguments + driven_calls ds (clauses_subtrees (clauses after)))

  pub parts : (cs : PlainClauses Slot Target SeqType) (d : DriverPlan) → drives ds d ≡ true → (has : HasDriver cs d) → Parts cs has.before has.after
  parts cs d h has =
      let source = p.tree_node d.place (p.call_form (Lines d.names) has.arguments) in
      let over = p.for_clause has.variable has.type false has.at source in
      let inside = trees_subtrees has.arguments in
      let rest = clauses_subtrees (clauses has.after) in
      let whole = ap (λ c. driven_calls ds (clauses_subtrees c)) has.parted in
      let split = ap (driven_calls ds) (clauses_joined has.before (over ∷ has.after)) ∙ count_both (clauses_subtrees (clauses has.before)) (clauses_subtrees (clauses (over ∷ has.after))) in
      let behind = count_both (clause_subtrees over) rest in
      let first = count_more source inside in
      let one = driver_counts d has.arguments h in
      record { arguments = driven_calls ds inside; parted = whole ∙ split ∙ ap (λ n. driven_calls ds (clauses_subtrees (clauses has.before)) + n) (behind ∙ ap (λ n. n + driven_calls ds rest) (first ∙ ap (λ n. n + driven_calls ds inside) one)) }

  pub clauses_low : (cs : PlainClauses Slot Target SeqType) (d : DriverPlan) → drives ds d ≡ true → HasDriver cs d → 1 ≤ driven_calls ds (clauses_subtrees cs)
  clauses_low cs d h has =
      let e = parts cs d h has in
      omega (arith, e.parted)

  pub flwor_counts : (place at : ℕ) (cs : PlainClauses Slot Target SeqType) (result : BoundTree) → driven_calls ds (subtrees (p.tree_node place (p.flwor_form cs at result))) ≡ driven_calls ds (clauses_subtrees cs) + driven_calls ds (subtrees result)
  flwor_counts place at cs result =
      let own : driven_calls ds (subtrees (p.tree_node place (p.flwor_form cs at result))) ≡ 0 + driven_calls ds (clauses_subtrees cs ++ subtrees result) = count_more (p.tree_node place (p.flwor_form cs at result)) (clauses_subtrees cs ++ subtrees result) in
      let inside = count_both (clauses_subtrees cs) (subtrees result) in
      omega (arith, own, inside)

  flwor_alone : (place at : ℕ) (cs : PlainClauses Slot Target SeqType) (result : BoundTree) (d : DriverPlan) → drives ds d ≡ true → (has : HasDriver cs d) → driven_calls ds (subtrees (p.tree_node place (p.flwor_form cs at result))) ≡ 1 → (is_beside ds (flwor_of place at has.before result) ≡ true) × (is_beside ds (flwor_of place at has.after result) ≡ true)
  flwor_alone place at cs result d h has one =
      let e = parts cs d h has in
      let whole = flwor_counts place at cs result in
      let f = flwor_counts place at (clauses has.before) result in
      let l = flwor_counts place at (clauses has.after) result in
      let first : driven_calls ds (subtrees (flwor_of place at has.before result)) ≡ 0 = omega (arith, e.parted, whole, f, one) in
      let last : driven_calls ds (subtrees (flwor_of place at has.after result)) ≡ 0 = omega (arith, e.parted, whole, l, one) in
      (none_beside (flwor_of place at has.before result) first, none_beside (flwor_of place at has.after result) last)

  argument_counts : (place : ℕ) (id : FnId) (t : BoundTree) → driven_calls ds (subtrees (p.tree_node place (p.call_form (Built id) (p.more_trees t p.no_trees)))) ≡ driven_calls ds (subtrees t)
  argument_counts place id t =
      let call = p.tree_node place (p.call_form (Built id) (p.more_trees t p.no_trees)) in
      let own : driven_calls ds (subtrees call) ≡ 0 + driven_calls ds (subtrees t ++ []) = count_more call (subtrees t ++ []) in
      let inside = ap (driven_calls ds) (append-nil (subtrees t)) in
      omega (arith, own, inside)

  pub alone : DriversAreAlone ds
  alone = record {
    none = none_beside;
    flwor = flwor_alone;
    argument = argument_counts;
  }
