-- Where each driver stands once, all else in a query stands beside the drivers.
use Rattle.std.proofs.Common.{◌≡◌, ℕ, suc, ◌+◌, ◌≤◌, Bool, true, false, if◌then◌else◌, Option, None, Some, option_map, List, [], ◌∷◌, ◌++◌, length, map, refl, ap, ◌∙◌, arith}
use Rattle.std.specs.Prelude.{IfSome}
use Rattle.std.specs.Cmp.Derive.{both_true}
use Rattle.std.specs.Option.{option_to_list}
use Rattle.std.specs.List.{AllByRecursion, flat_map, cons_option, list_all}
use Rattle.std.proofs.lemmas.Bool.{eqb-true}
use Rattle.std.proofs.lemmas.List.{append-nil}
use Rattle.std.proofs.lemmas.List.Concat.{flat_map-append}
use Rattle.std.proofs.lemmas.List.Elements.{All-from_recursion}
use Rattle.std.proofs.lemmas.List.Sorted.{sum_by-IsPermutation}
use Rattle.item_tree.specs.declared.functions.FnId.{FnId}
use Rattle.seq_types.specs.declared.types.SeqType.{SeqType}
use Rattle.query_tree.specs.declared.bound.Slot.{Slot}
use Rattle.query_tree.specs.declared.bound.Target.{Target}
use Rattle.query_tree.specs.declared.bound.Target.TheVariants.{Built, Own, Lines}
use Rattle.query_tree.specs.Bound.{BoundTree}
use Rattle.query_tree.specs.Calls.{declared_trees}
use Rattle.query_tree.specs.Compiled.{BoundTrees}
use Rattle.query_tree.specs.Plain as p
use Rattle.query_tree.specs.Plain.{PlainClauses, Trees}
use Rattle.query_tree.specs.Subtrees.{subtrees, trees_subtrees}
use Rattle.mode_planner.specs.declared.plan.End.{End}
use Rattle.mode_planner.specs.declared.plan.End.TheVariants.{Items, Part}
use Rattle.mode_planner.specs.declared.plan.Label.{Label}
use Rattle.mode_planner.specs.declared.plan.Label.TheVariants as label
use Rattle.mode_planner.specs.Beside.{expressions, drivers, drives, driven_calls, stand_once}
use Rattle.mode_planner.specs.Drivers.{DriverPlan, clauses_driver, folds}
use Rattle.mode_planner.specs.Laws.{ExpressionsStandOnce, DriversStandFirst}
use Rattle.mode_planner.specs.Plans.{Driven, driven_flwor, driven, argument, own_plan, call_plan, driven_plan, leaf_plan, plan}
use Rattle.mode_planner.specs.Spine.{leaves, passed, handlers}
use Rattle.meaning_laws.specs.Beside.{is_beside}
use Rattle.meaning_laws.specs.Once.{own_drivers, DriversStandApart, DriversStandOnce}
use Rattle.meaning_laws.proofs.Counting.{all_driven, node, count_more, count_both, each_none, clauses_low, flwor_counts, alone}
use Rattle.meaning_laws.proofs.Standing.{each_declared}

-- ---- the driver of a leaf is a call in it

module _ (first : DriversStandFirst) (ds : List DriverPlan) where
  abbrev Q : DriverPlan → Type 0
  Q d = drives ds d ≡ true

  flwor_low : (end : End) (place at : ℕ) (cs : PlainClauses Slot Target SeqType) (result : BoundTree) (o : Option DriverPlan) → clauses_driver 0 cs ≡ o → IfSome (option_map (driven_flwor end cs at) o) (λ x. Q x.driver → 1 ≤ driven_calls ds (subtrees (p.tree_node place (p.flwor_form cs at result))))
  flwor_low end place at cs result None e = tt
  flwor_low end place at cs result (Some d) e = λ h.
      let low = clauses_low ds cs d h (first.found cs d e) in
      let whole = flwor_counts ds place at cs result in
      omega (arith, low, whole)

  lines_low : (place : ℕ) (names : List (List ℕ)) (arguments : Trees Slot Target SeqType) → node ds (p.tree_node place (p.call_form (Lines names) arguments)) ≡ 1 → 1 ≤ driven_calls ds (subtrees (p.tree_node place (p.call_form (Lines names) arguments)))
  lines_low place names arguments h =
      let whole = count_more ds (p.tree_node place (p.call_form (Lines names) arguments)) (trees_subtrees arguments) in
      omega (arith, whole, h)

  driven_low : (end : End) (t : BoundTree) → IfSome (driven end t) (λ x. Q x.driver → 1 ≤ driven_calls ds (subtrees t))
  driven_low end (p.tree_node place (p.call_form (Built id) arguments)) = tt
  driven_low end (p.tree_node place (p.call_form (Own n) arguments)) = tt
  driven_low end (p.tree_node place (p.call_form (Lines names) arguments)) = λ h. lines_low place names arguments (ap (λ (b : Bool). if b then 1 else 0) h)
  driven_low end (p.tree_node place (p.flwor_form cs at result)) = flwor_low end place at cs result (clauses_driver 0 cs) refl
  driven_low end (p.tree_node place _) = tt

  abbrev count : BoundTree → ℕ
  count t = driven_calls ds (subtrees t)

  own_low : (t : BoundTree) (place : ℕ) (l : Label) (o : Option Driven) → IfSome o (λ x. Q x.driver → 1 ≤ count t) → IfSome (own_plan t place l o).driver Q → own_drivers (own_plan t place l o) ≤ count t
  own_low t place l None h q = omega arith
  own_low t place l (Some x) h q = h q

  call_low : (t : BoundTree) (place : ℕ) (id : FnId) (o : Option Driven) → IfSome o (λ x. Q x.driver → 1 ≤ count t) → IfSome (call_plan t place id o).driver Q → own_drivers (call_plan t place id o) ≤ count t
  call_low t place id None h q = omega arith
  call_low t place id (Some x) h q = h q

  if_folds : {A : Type 0} (P : A → Type 0) (b : Bool) (o : Option A) → IfSome o P → IfSome (if b then o else None) P
  if_folds P true o h = h
  if_folds P false o h = tt

  more_count : {A : Type 0} (P R : A → Type 0) (o : Option A) → ((x : A) → P x → R x) → IfSome o P → IfSome o R
  more_count P R None f h = tt
  more_count P R (Some x) f h = f x h

  argument_low : (place : ℕ) (id : FnId) (arguments : Trees Slot Target SeqType) → IfSome (argument id arguments) (λ x. Q x.driver → 1 ≤ count (p.tree_node place (p.call_form (Built id) arguments)))
  argument_low place id p.no_trees = tt
  argument_low place id (p.more_trees t p.no_trees) =
      let call = p.tree_node place (p.call_form (Built id) (p.more_trees t p.no_trees)) in
      let same = (alone ds).argument place id t in
      if_folds (λ x. Q x.driver → 1 ≤ count call) (folds id) (driven (Part id) t)
      (more_count (λ x. Q x.driver → 1 ≤ count t) (λ x. Q x.driver → 1 ≤ count call) (driven (Part id) t) (λ x f q. (let low = f q in omega (arith, low, same))) (driven_low (Part id) t))
  argument_low place id (p.more_trees t (p.more_trees u us)) = tt

  plan_low : (t : BoundTree) → IfSome (driven_plan t).driver Q → own_drivers (driven_plan t) ≤ count t
  plan_low (p.tree_node place (p.call_form (Built id) arguments)) q =
      call_low (p.tree_node place (p.call_form (Built id) arguments)) place id (argument id arguments) (argument_low place id arguments) q
  plan_low (p.tree_node place (p.call_form (Own n) arguments)) q = omega arith
  plan_low (p.tree_node place (p.call_form (Lines names) arguments)) q =
      let t = p.tree_node place (p.call_form (Lines names) arguments) in
      own_low t place label.JsonLines (driven Items t) (driven_low Items t) q
  plan_low (p.tree_node place (p.flwor_form cs at result)) q =
      let t = p.tree_node place (p.flwor_form cs at result) in
      own_low t place label.Flwor (driven Items t) (driven_low Items t) q
  plan_low (p.tree_node place _) q = omega arith

  leaf_low : (local : Bool) (t : BoundTree) → IfSome (leaf_plan local t).driver Q → own_drivers (leaf_plan local t) ≤ count t
  leaf_low true t q = omega arith
  leaf_low false t q = plan_low t q

  -- ---- all leaves

  -- the drivers of leaves, one beside the other
  together : (o : Option DriverPlan) (rest : List DriverPlan) → length (cons_option o rest) ≡ length (option_to_list o) + length rest
  together None rest = let e : length rest ≡ 0 + length rest = omega arith in e
  together (Some d) rest = let e : suc (length rest) ≡ 1 + length rest = omega arith in e

  abbrev owned : Bool → List BoundTree → ℕ
  owned local ts = length (drivers (map (leaf_plan local) ts))

  abbrev Driving : Bool → List BoundTree → Type 0
  Driving local ts = AllByRecursion (λ t. IfSome (leaf_plan local t).driver Q) ts

  leaves_low : (local : Bool) (ts : List BoundTree) → Driving local ts → owned local ts ≤ driven_calls ds (flat_map subtrees ts)
  leaves_low local [] q = omega arith
  leaves_low local (t ∷ ts) q =
      let a = together (leaf_plan local t).driver (drivers (map (leaf_plan local) ts)) in
      let b = count_both ds (subtrees t) (flat_map subtrees ts) in
      let c = leaf_low local t q.0 in
      let d = leaves_low local ts q.1 in
      omega (arith, a, b, c, d)

  -- where there are no more calls that drivers are than drivers, each leaf has its own
  leaves_tight : (local : Bool) (ts : List BoundTree) → Driving local ts → driven_calls ds (flat_map subtrees ts) ≤ owned local ts → AllByRecursion (λ t. count t ≡ own_drivers (leaf_plan local t)) ts
  leaves_tight local [] q h = tt
  leaves_tight local (t ∷ ts) q h =
      let a = together (leaf_plan local t).driver (drivers (map (leaf_plan local) ts)) in
      let b = count_both ds (subtrees t) (flat_map subtrees ts) in
      let c = leaf_low local t q.0 in
      let d = leaves_low local ts q.1 in
      let own : count t ≡ own_drivers (leaf_plan local t) = omega (arith, a, b, c, d, h) in
      let rest : driven_calls ds (flat_map subtrees ts) ≤ owned local ts = omega (arith, a, b, c, d, h) in
      (own, leaves_tight local ts q.1 rest)

-- ---- leaves and their trees

call_tree : (t : BoundTree) (place : ℕ) (id : FnId) (o : Option Driven) → (call_plan t place id o).tree ≡ t
call_tree t place id None = refl
call_tree t place id (Some x) = refl

own_tree : (t : BoundTree) (place : ℕ) (l : Label) (o : Option Driven) → (own_plan t place l o).tree ≡ t
own_tree t place l None = refl
own_tree t place l (Some x) = refl

plan_tree : (t : BoundTree) → (driven_plan t).tree ≡ t
plan_tree (p.tree_node place (p.call_form (Built id) arguments)) = call_tree (p.tree_node place (p.call_form (Built id) arguments)) place id (argument id arguments)
plan_tree (p.tree_node place (p.call_form (Own n) arguments)) = refl
plan_tree (p.tree_node place (p.call_form (Lines names) arguments)) =
    let t = p.tree_node place (p.call_form (Lines names) arguments) in
    own_tree t place label.JsonLines (driven Items t)
plan_tree (p.tree_node place (p.flwor_form cs at result)) =
    let t = p.tree_node place (p.flwor_form cs at result) in
    own_tree t place label.Flwor (driven Items t)
plan_tree (p.tree_node place _) = refl

pub leaf_tree : (local : Bool) (t : BoundTree) → (leaf_plan local t).tree ≡ t
leaf_tree true t = plan_tree t
leaf_tree false t = plan_tree t

of_plans : (ds : List DriverPlan) (local : Bool) (ts : List BoundTree) → AllByRecursion (λ t. driven_calls ds (subtrees t) ≡ own_drivers (leaf_plan local t)) ts → AllByRecursion (λ l. driven_calls ds (subtrees l.tree) ≡ own_drivers l) (map (leaf_plan local) ts)
of_plans ds local [] h = tt
of_plans ds local (t ∷ ts) h = (ap (λ u. driven_calls ds (subtrees u)) (leaf_tree local t) ∙ h.0, of_plans ds local ts h.1)

pub one_or_none : (S : DriverPlan → Type 0) (c : Option DriverPlan) (cs : List DriverPlan) → AllByRecursion S (cons_option c cs) → IfSome c S × AllByRecursion S cs
one_or_none S None cs h = (tt, h)
one_or_none S (Some c) cs h = (h.0, h.1)

-- each leaf's driver is one of all
each_driving : (S : DriverPlan → Type 0) (local : Bool) (ts : List BoundTree) → AllByRecursion S (drivers (map (leaf_plan local) ts)) → AllByRecursion (λ t. IfSome (leaf_plan local t).driver S) ts
each_driving S local [] h = tt
each_driving S local (t ∷ ts) h =
    let parts = one_or_none S (leaf_plan local t).driver (drivers (map (leaf_plan local) ts)) h in
    (parts.0, each_driving S local ts parts.1)

all_true : {A : Type 0} (f : A → Bool) (xs : List A) → AllByRecursion (λ x. f x ≡ true) xs → list_all f xs ≡ true
all_true f [] h = refl
all_true f (x ∷ xs) h = both_true h.0 (all_true f xs h.1)

-- ---- a query

module _ (stands : ExpressionsStandOnce) (first : DriversStandFirst) where
  apart : (local : Bool) (m : BoundTrees) → stand_once (drivers (plan local m.body)) m ≡ true → DriversStandApart (drivers (plan local m.body)) m (plan local m.body)
  apart local m h =
      let ds = drivers (plan local m.body) in
      let outer = flat_map subtrees (declared_trees m.variables m.functions) in
      let through = passed m.body in
      let ends = flat_map subtrees (leaves m.body) in
      let aside = flat_map subtrees (handlers m.body) in
      let total : driven_calls ds (expressions m) ≡ length ds = eqb-true (driven_calls ds (expressions m)) (length ds) h in
      let split =
      ap (driven_calls ds) (flat_map-append subtrees (declared_trees m.variables m.functions) (m.body ∷ []))
      ∙ count_both ds outer (subtrees m.body ++ []) ∙ ap (λ ts. driven_calls ds outer + driven_calls ds ts) (append-nil (subtrees m.body)) in
      let body = sum_by-IsPermutation (node ds) (subtrees m.body) (through ++ ends ++ aside) (stands m.body) in
      let inside = count_both ds (through ++ ends) aside ∙ ap (λ n. n + driven_calls ds aside) (count_both ds through ends) in
      let driving = each_driving (λ d. drives ds d ≡ true) local (leaves m.body) (all_driven ds) in
      let low = leaves_low first ds local (leaves m.body) driving in
      let no_outer : driven_calls ds outer ≡ 0 = omega (arith, total, split, body, inside, low) in
      let no_aside : driven_calls ds aside ≡ 0 = omega (arith, total, split, body, inside, low) in
      let tight : driven_calls ds ends ≤ length ds = omega (arith, total, split, body, inside) in
      let declared = each_declared (λ t. is_beside ds t ≡ true) m.variables m.functions (each_none ds (declared_trees m.variables m.functions) no_outer) in
      record {
        functions = all_true (λ f. is_beside ds f.body) m.functions declared.1;
        variables = all_true (λ x. is_beside ds x.value) m.variables declared.0;
        handlers = All-from_recursion (λ t. is_beside ds t ≡ true) (handlers m.body) (each_none ds (handlers m.body) no_aside);
        leaves = All-from_recursion (λ l. driven_calls ds (subtrees l.tree) ≡ own_drivers l) (plan local m.body) (of_plans ds local (leaves m.body) (leaves_tight first ds local (leaves m.body) driving tight));
      }

  pub drivers_once : DriversStandOnce
  drivers_once = record {
    apart = apart;
    alone = alone;
    own = λ leaves. All-from_recursion (λ d. drives (drivers leaves) d ≡ true) (drivers leaves) (all_driven (drivers leaves));
  }
