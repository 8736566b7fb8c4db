-- What a driver drives, and what is walked of a leaf that has one.
use Rattle.std.proofs.Common.{◌≡◌, ◌+◌, ◌-◌, ◌≤◌, ℕ, suc, Bool, true, false, cond, List, [], ◌∷◌, Option, None, Some, Result, Ok, Err, refl, sym, ap, ◌∙◌, subst, inl, inr, option_map, arith}
use Rattle.std.specs.Prelude.{IfSome, ◌<◌, ◌^◌}
use Rattle.fn_table.specs.Table.{function_value}
use Rattle.item_tree.specs.declared.functions.FnId.{FnId}
use Rattle.item_tree.specs.Datum.{Datum}
use Rattle.outside.specs.Opens.{InputCounts}
use Rattle.outside.specs.World.{World}
use Rattle.seq_types.specs.declared.types.SeqType.{SeqType}
use Rattle.query_tree.specs.Bound.{BoundTree}
use Rattle.query_tree.specs.Plain as p
use Rattle.query_tree.specs.Plain.{Form, PlainClauses, Trees}
use Rattle.query_tree.specs.declared.bound.Slot.{Slot}
use Rattle.query_tree.specs.declared.bound.Target.{Target}
use Rattle.query_tree.specs.declared.bound.Target.TheVariants.{Built, Own, Lines}
use Rattle.mode_planner.specs.declared.plan.End.{End}
use Rattle.mode_planner.specs.declared.plan.End.TheVariants.{Part, Items}
use Rattle.mode_planner.specs.declared.plan.Label.{Label}
use Rattle.mode_planner.specs.declared.plan.Label.TheVariants as label
use Rattle.mode_planner.specs.Drivers.{DriverPlan, folds, clauses_driver}
use Rattle.mode_planner.specs.Plans.{driven, driven_flwor, own_plan, call_plan, leaf_plan}
use Rattle.mode_planner.specs.Spine.{is_passed}
use Rattle.query_meaning.specs.Calls.{Program, call_value}
use Rattle.query_meaning.specs.Environment.{Environment, place_of}
use Rattle.query_meaning.specs.Flwors.{flwor_value}
use Rattle.query_meaning.specs.Library.{Library, lines_value}
use Rattle.query_meaning.specs.Meaning.{meaning, eval}
use Rattle.query_meaning.specs.Outcome.{Outcome, ◌>>=◌, at_place}
use Rattle.meaning_laws.specs.Planned.{IsDriven}
use Rattle.rumble_run.specs.inside.LeafCounts.{Drove}
use Rattle.driver_files.specs.Counts.{RoseBy}
use Rattle.driver_files.specs.Seats.{driver_opens}
use Rattle.piece_run.specs.Leaf.{ReadsNames, SameBeside, OpensBy, MissesBy, LeafCounts}
use Rattle.rumble_run.specs.inside.Driving.{PlainDriving, of_flwor, of_lines, driving_of, driver_in, over_of}
use Rattle.piece_run.specs.Kept.{KeptIs}
use Rattle.rumble_run.specs.inside.Walked.{Setting, LeafFinds, DrivenFinds, Drives, leaf_driver, Walked}
use Rattle.rumble_run.specs.Opens.{opens_of, one_if_some, leaf_opens, leaf_drivers}
use Rattle.piece_run.specs.declared.leaf_fault.LeafFault.{LeafFault}
use Rattle.rumble_run.proofs.SpineSteps.{walked_leaf}

abbrev Driver : Type 0
Driver = Option DriverPlan

abbrev none_some : {A X : Type 0} {x : X} → ◌≡◌ {A = Option X} None (Some x) → A
none_some e = absurd (subst is_none e tt)
  where
    is_none : {X : Type 0} → Option X → Type 0
    is_none None = Unit {0}
    is_none (Some x) = ⊥

abbrev value_or : {X : Type 0} → X → Option X → X
value_or d None = d
value_or d (Some x) = x

some_is : {X : Type 0} (x y : X) → ◌≡◌ {A = Option X} (Some x) (Some y) → x ≡ y
some_is x y e = ap (value_or x) e

-- ---- the driver of a leaf

flwor_driver : (t : BoundTree) (place at : ℕ) (l : Label) (end : End) (clauses : PlainClauses Slot Target SeqType) (o : Driver) → (own_plan t place l (option_map (driven_flwor end clauses at) o)).driver ≡ o
flwor_driver t place at l end clauses None = refl
flwor_driver t place at l end clauses (Some d) = refl

over_flwor : (t : BoundTree) (place at : ℕ) (id : FnId) (end : End) (clauses : PlainClauses Slot Target SeqType) (o : Driver) → (call_plan t place id (option_map (driven_flwor end clauses at) o)).driver ≡ o
over_flwor t place at id end clauses None = refl
over_flwor t place at id end clauses (Some d) = refl

-- that of a call over an expression is the expression's
over_driver : (t : BoundTree) (place : ℕ) (id : FnId) (u : BoundTree) → (call_plan t place id (driven (Part id) u)).driver ≡ driver_in u
over_driver t place id (p.tree_node at (p.flwor_form clauses r result)) = over_flwor t place r id (Part id) clauses (clauses_driver 0 clauses)
over_driver t place id (p.tree_node at (p.call_form (Built f) arguments)) = refl
over_driver t place id (p.tree_node at (p.call_form (Own f) arguments)) = refl
over_driver t place id (p.tree_node at (p.call_form (Lines names) arguments)) = refl
over_driver t place id (p.tree_node at _) = refl

call_over : (b : Bool) (t : BoundTree) (place : ℕ) (id : FnId) (u : BoundTree) (d : DriverPlan) → folds id ≡ b → (call_plan t place id (cond b (driven (Part id) u) None)).driver ≡ Some d → (folds id ≡ true) × (driver_in u ≡ Some d)
call_over true t place id u d e h = (e, sym (over_driver t place id u) ∙ h)
call_over false t place id u d e h = none_some h

pub record IsOver (t : BoundTree) (id : FnId) (u : BoundTree) (d : DriverPlan) : Type 0 where
  pub folds : folds id ≡ true
  pub driver : driver_in u ≡ Some d
  pub whole : t ≡ p.tree_node (place_of t) (p.call_form (Built id) (p.more_trees u p.no_trees))

over_is : (place : ℕ) (id f : FnId) (u v : BoundTree) (d : DriverPlan) → f ≡ id → v ≡ u → leaf_driver (p.tree_node place (p.call_form (Built id) (p.more_trees u p.no_trees))) ≡ Some d
    → IsOver (p.tree_node place (p.call_form (Built id) (p.more_trees u p.no_trees))) f v d
over_is place id f u v d g w h =
    let t = p.tree_node place (p.call_form (Built id) (p.more_trees u p.no_trees)) in
    let is = call_over (folds id) t place id u d refl h in
    record {
      folds = ap folds g ∙ is.0;
      driver = ap driver_in w ∙ is.1;
      whole = λ i. p.tree_node place (p.call_form (Built (sym g i)) (p.more_trees (sym w i) p.no_trees));
    }

pub driver_over : (t : BoundTree) (id : FnId) (u : BoundTree) (d : DriverPlan) → Some (id, u) ≡ over_of t → leaf_driver t ≡ Some d → IsOver t id u d
driver_over (p.tree_node place (p.call_form (Built f) (p.more_trees v p.no_trees))) id u d o h =
    let same = some_is (id, u) (f, v) o in
    over_is place f id v u d (ap (λ x. x.0) same) (ap (λ x. x.1) same) h
driver_over (p.tree_node place (p.call_form (Built f) p.no_trees)) id u d o h = none_some (sym o)
driver_over (p.tree_node place (p.call_form (Built f) (p.more_trees v (p.more_trees x xs)))) id u d o h = none_some (sym o)
driver_over (p.tree_node place (p.call_form (Own n) us)) id u d o h = none_some (sym o)
driver_over (p.tree_node place (p.call_form (Lines names) us)) id u d o h = none_some (sym o)
driver_over (p.tree_node place _) id u d o h = none_some (sym o)

-- a leaf is the tree of its plan
pub plan_tree : (t : BoundTree) → (leaf_plan false t).tree ≡ t
plan_tree (p.tree_node place (p.flwor_form clauses at result)) = by (clauses_driver 0 clauses)
  where
    by : (o : Driver) → (own_plan (p.tree_node place (p.flwor_form clauses at result)) place label.Flwor (option_map (driven_flwor Items clauses at) o)).tree ≡ p.tree_node place (p.flwor_form clauses at result)
    by None = refl
    by (Some d) = refl
plan_tree (p.tree_node place (p.call_form (Built id) (p.more_trees u p.no_trees))) = by (cond (folds id) (driven (Part id) u) None)
  where
    t : BoundTree
    t = p.tree_node place (p.call_form (Built id) (p.more_trees u p.no_trees))

    by : (o : _) → (call_plan t place id o).tree ≡ t
    by None = refl
    by (Some d) = refl
plan_tree (p.tree_node place (p.call_form (Built id) p.no_trees)) = refl
plan_tree (p.tree_node place (p.call_form (Built id) (p.more_trees u (p.more_trees v us)))) = refl
plan_tree (p.tree_node place (p.call_form (Own n) us)) = refl
plan_tree (p.tree_node place (p.call_form (Lines names) us)) = refl
plan_tree (p.tree_node place _) = refl

-- a leaf with a driver is not passed through
driven_leaf : (t : BoundTree) (d : DriverPlan) → leaf_driver t ≡ Some d → is_passed t ≡ false
driven_leaf (p.tree_node place (p.comma_form first rest)) d h = none_some h
driven_leaf (p.tree_node place (p.paren_form content)) d h = none_some h
driven_leaf (p.tree_node place (p.try_form body cs)) d h = none_some h
driven_leaf (p.tree_node place _) d h = refl

-- ---- what is driven

abbrev lines_apart : {A : Type 0} {names : List (List ℕ)} {cs : PlainClauses Slot Target SeqType} {r : BoundTree} → of_lines names ≡ of_flwor cs r → A
lines_apart e = absurd (subst is_lines e tt)
  where
    is_lines : PlainDriving → Type 0
    is_lines (of_flwor cs r) = ⊥
    is_lines (of_lines names) = Unit {0}

abbrev of_clauses : PlainClauses Slot Target SeqType → PlainDriving → PlainClauses Slot Target SeqType
of_clauses d (of_flwor cs r) = cs
of_clauses d (of_lines names) = d

abbrev of_result : BoundTree → PlainDriving → BoundTree
of_result d (of_flwor cs r) = r
of_result d (of_lines names) = d

abbrev of_names : PlainDriving → List (List ℕ)
of_names (of_flwor cs r) = []
of_names (of_lines names) = names

pub record IsFlwor (t : BoundTree) (clauses : PlainClauses Slot Target SeqType) (result : BoundTree) : Type 0 where
  pub place : ℕ
  pub at : ℕ
  pub whole : t ≡ p.tree_node place (p.flwor_form clauses at result)

pub flwor_is : (t : BoundTree) (clauses : PlainClauses Slot Target SeqType) (result : BoundTree) → Some (of_flwor clauses result) ≡ driving_of t → IsFlwor t clauses result
flwor_is (p.tree_node place (p.flwor_form cs at r)) clauses result e =
    let same = some_is (of_flwor clauses result) (of_flwor cs r) e in
    record { place = place; at = at; whole = λ i. p.tree_node place (p.flwor_form (ap (of_clauses clauses) (sym same) i) at (ap (of_result result) (sym same) i)) }
flwor_is (p.tree_node place (p.call_form (Built id) us)) clauses result e = none_some (sym e)
flwor_is (p.tree_node place (p.call_form (Own n) us)) clauses result e = none_some (sym e)
flwor_is (p.tree_node place (p.call_form (Lines names) us)) clauses result e = lines_apart (some_is (of_lines names) (of_flwor clauses result) (sym e))
flwor_is (p.tree_node place _) clauses result e = none_some (sym e)

pub record IsLines (t : BoundTree) (names : List (List ℕ)) : Type 0 where
  pub arguments : Trees Slot Target SeqType
  pub whole : t ≡ p.tree_node (place_of t) (p.call_form (Lines names) arguments)

pub lines_is : (t : BoundTree) (names : List (List ℕ)) → Some (of_lines names) ≡ driving_of t → IsLines t names
lines_is (p.tree_node place (p.flwor_form cs at r)) names e = lines_apart (some_is (of_lines names) (of_flwor cs r) e)
lines_is (p.tree_node place (p.call_form (Built id) us)) names e = none_some (sym e)
lines_is (p.tree_node place (p.call_form (Own n) us)) names e = none_some (sym e)
lines_is (p.tree_node place (p.call_form (Lines ns) us)) names e =
    record { arguments = us; whole = λ i. p.tree_node place (p.call_form (Lines (ap of_names (sym (some_is (of_lines names) (of_lines ns) e)) i)) us) }
lines_is (p.tree_node place _) names e = none_some (sym e)

pub lines_drives : (t : BoundTree) (names : List (List ℕ)) (d : DriverPlan) → Some (of_lines names) ≡ driving_of t → driver_in t ≡ Some d → names ≡ d.names
lines_drives t names d e h =
    let is = lines_is t names e in
    let lone : DriverPlan = record { place = place_of t; names = names; lets = 0; position = false } in
    ap (λ x. x.names) (some_is lone d (sym (ap driver_in is.whole) ∙ h))

flwor_evaluates : (full : Program) (depth place at : ℕ) (clauses : PlainClauses Slot Target SeqType) (result : BoundTree) (env : Environment) → eval full (suc depth) (p.tree_node place (p.flwor_form clauses at result)) env ≡ flwor_value (eval full depth) clauses result env
unfolding meaning
flwor_evaluates full depth place at clauses result env = refl

lines_evaluates : (full : Program) (depth place : ℕ) (names : List (List ℕ)) (us : Trees Slot Target SeqType) (env : Environment) → eval full (suc depth) (p.tree_node place (p.call_form (Lines names) us)) env ≡ lines_value full.library names place
unfolding meaning call_value
lines_evaluates full depth place names us env = refl

one_bound : (o : Outcome) (f : List (List Datum) → Outcome) → ((o >>= λ v. ◌>>=◌ {B = List (List Datum)} (Ok []) (λ vs. Ok (v ∷ vs))) >>= f) ≡ (o >>= λ v. f (v ∷ []))
one_bound (Ok v) f = refl
one_bound (Err e) f = refl

call_evaluates : (full : Program) (depth place : ℕ) (id : FnId) (u : BoundTree) (env : Environment)
    → eval full (suc depth) (p.tree_node place (p.call_form (Built id) (p.more_trees u p.no_trees))) env ≡ (eval full depth u env >>= λ vs. at_place place (function_value id (vs ∷ [])))
unfolding meaning call_value
call_evaluates full depth place id u env = one_bound (eval full depth u env) (λ values. at_place place (function_value id values))

-- ---- what is walked of a leaf with a driver

drove_leaf : {K : Type 0} (s : Setting) (w : World) (t : BoundTree) (d : DriverPlan) (r : Result K LeafFault) (before after : InputCounts) → leaf_driver t ≡ Some d
    → Drove r true (driver_opens w s.workers s.size d.names) 1 before after → Drove r true (leaf_opens w s.workers s.size t) (leaf_drivers t) before after
drove_leaf s w t d r before after e h = subst (λ o. Drove r true (opens_of w s.workers s.size o) (one_if_some o) before after) (sym e) h

found_by : (own full : Program) (w : World) (t u : BoundTree) (d : DriverPlan) → leaf_driver t ≡ Some d → IsDriven (leaf_plan false t).tree u → LeafFinds own full w t → DrivenFinds own full w u d
found_by own full w t u d e is h = record {
  read = h.read d e;
  parts = λ place at clauses result same has. h.driven.parts place at clauses result d e (subst (IsDriven (leaf_plan false t).tree) same is) has;
}

pub walked_own : {K : Type 0} (stands : K → List Datum → Type 0) (s : Setting) (w : World) (depth : ℕ) (t : BoundTree) (d : DriverPlan) (r : Result K LeafFault) (before after : InputCounts) → leaf_driver t ≡ Some d
    → Drives stands s w t d (λ full. eval full depth t s.env) r before after → Walked stands s w depth (t ∷ []) r before after
walked_own stands s w depth t d r before after e h =
    walked_leaf stands s w depth t r before after (driven_leaf t d e)
    (λ full finds. h.value full (found_by s.own full w t t d e (inl (plan_tree t)) finds))
    (drove_leaf s w t d r before after e h.drove)

pub walked_over : {K : Type 0} (stands : K → List Datum → Type 0) (s : Setting) (w : World) (depth : ℕ) (t : BoundTree) (id : FnId) (u : BoundTree) (d : DriverPlan) (r : Result K LeafFault) (before after : InputCounts) → leaf_driver t ≡ Some d
    → IsOver t id u d → Drives stands s w u d (λ full. eval full depth u s.env >>= λ vs. at_place (place_of t) (function_value id (vs ∷ []))) r before after → Walked stands s w (suc depth) (t ∷ []) r before after
walked_over stands s w depth t id u d r before after e over h =
    walked_leaf stands s w (suc depth) t r before after (driven_leaf t d e)
    (λ full finds.
    let same = ap (λ x. eval full (suc depth) x s.env) over.whole ∙ call_evaluates full depth (place_of t) id u s.env in
    subst (KeptIs stands r) (sym same) (h.value full (found_by s.own full w t u d e (inr (place_of t, id, plan_tree t ∙ over.whole)) finds)))
    (drove_leaf s w t d r before after e h.drove)

-- ---- what drives

rose_just : (n before after : ℕ) → RoseBy n before after → (after ≤ before + n) × (after < 2 ^ 64 - 1 → after ≡ before + n)
rose_just n before after h = (omega (arith, h), λ small. omega (arith, h, small))

leaf_opens_by : {K : Type 0} (n : ℕ) (r : Result K LeafFault) (before after : InputCounts) → OpensBy n r before.opened after.opened → MissesBy r before.misses after.misses → Drove r true n 1 before after
leaf_opens_by n (Ok k) before after o m = (rose_just n before.opened after.opened o, (omega (arith, m), λ small. omega (arith, m)))
leaf_opens_by n (Err e) before after o m = (o, m)

pub flwor_driven : {K : Type 0} (stands : K → List Datum → Type 0) (s : Setting) (own : Program) (env : Environment) (world : Option World) (depth : ℕ) (t : BoundTree) (clauses : PlainClauses Slot Target SeqType) (result : BoundTree) (d : DriverPlan) (r : Result K LeafFault) (before after : InputCounts)
    → s.own ≡ own → s.env ≡ env → Some (of_flwor clauses result) ≡ driving_of t
    → IfSome world (λ w. (full : Program) → ReadsNames w full.library d.names → SameBeside full own clauses result d → KeptIs stands r (flwor_value (eval full depth) clauses result env))
    → LeafCounts world d.names s.workers s.size r before after → IfSome world (λ w. Drives stands s w t d (λ full. eval full (suc depth) t s.env) r before after)
flwor_driven stands s own env None depth t clauses result d r before after p q e v h = tt
flwor_driven stands s own env (Some w) depth t clauses result d r before after p q e v h =
    let is = flwor_is t clauses result e in
    record {
      value = λ full finds.
          let same = ap (λ x. eval full (suc depth) x s.env) is.whole ∙ flwor_evaluates full depth is.place is.at clauses result s.env ∙ ap (flwor_value (eval full depth) clauses result) q in
          let beside : SameBeside full s.own clauses result d = record { place = is.place; at = is.at; parts = λ has. finds.parts is.place is.at clauses result is.whole has } in
          subst (KeptIs stands r) (sym same) (v full finds.read (subst (λ o. SameBeside full o clauses result d) p beside));
      drove = leaf_opens_by (driver_opens w s.workers s.size d.names) r before after h.opened h.misses;
    }

pub lines_driven : {K : Type 0} (stands : K → List Datum → Type 0) (s : Setting) (world : Option World) (depth : ℕ) (t : BoundTree) (names : List (List ℕ)) (d : DriverPlan) (r : Result K LeafFault) (before after : InputCounts)
    → Some (of_lines names) ≡ driving_of t → driver_in t ≡ Some d
    → IfSome world (λ w. (library : Library) → ReadsNames w library names → KeptIs stands r (lines_value library names (place_of t)))
    → LeafCounts world names s.workers s.size r before after → IfSome world (λ w. Drives stands s w t d (λ full. eval full (suc depth) t s.env) r before after)
lines_driven stands s None depth t names d r before after e f v h = tt
lines_driven stands s (Some w) depth t names d r before after e f v h =
    let is = lines_is t names e in
    let named : names ≡ d.names = lines_drives t names d e f in
    record {
      value = λ full finds.
          let same = ap (λ x. eval full (suc depth) x s.env) is.whole ∙ lines_evaluates full depth (place_of t) names is.arguments s.env in
          subst (KeptIs stands r) (sym same) (v full.library (subst (ReadsNames w full.library) (sym named) finds.read));
      drove = subst (λ ns. Drove r true (driver_opens w s.workers s.size ns) 1 before after) named (leaf_opens_by (driver_opens w s.workers s.size names) r before after h.opened h.misses);
    }
