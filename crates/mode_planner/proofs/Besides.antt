-- The names beside the drivers, expression by expression.
use Rattle.std.proofs.Common.{◌≡◌, ◌<◌, ◌≤◌, ◌+◌, ℕ, Bool, true, false, cond, not, Option, None, Some, List, [], ◌∷◌, ◌++◌, length, drop, get_or, refl, sym, ap, ◌∙◌}
use Rattle.std.specs.Prelude.{option_map, map}
use Rattle.std.specs.Option.{option_to_list}
use Rattle.std.specs.List.{flat_map, filter_map, cons_option}
use Rattle.std.proofs.lemmas.List.{append_assoc, append-nil, drop_more, drop_all}
use Rattle.query_tree.specs.Bound.{BoundTree}
use Rattle.query_tree.specs.BoundViews.{bound_tree}
use Rattle.query_tree.specs.Compiled.{BoundTrees}
use Rattle.query_tree.specs.Calls.{module_trees}
use Rattle.query_tree.specs.Subtrees.{subtrees}
use Rattle.query_tree.specs.inside.Told.{with_names}
use Rattle.query_tree.specs.inside.Waiting.{lent}
use Rattle.query_tree.proofs.Telling.{with_names-none, with_names-append, told-appear}
use Rattle.query_tree.proofs.Waits.{Lent}
use Rattle.mode_planner.specs.Beside.{drives, drivers, calls_beside, input_calls, names_beside}
use Rattle.mode_planner.specs.Drivers.{DriverPlan, call_driver}
use Rattle.mode_planner.specs.Plans.{LeafPlan}
use Rattle.mode_planner.specs.declared.plan.Driver.{Driver}
use Rattle.mode_planner.specs.declared.plan.Leaf.{Leaf}
use Rattle.mode_planner.specs.inside.Views.{driver_of, leaf_of}
use Rattle.mode_planner.specs.inside.Calls.{call_names, tree_names}

abbrev names_of : List DriverPlan → List (List ℕ)
names_of cs = flat_map (λ c. c.names) cs

kept-more : (b : Bool) (c : DriverPlan) (cs : List DriverPlan) → names_of (cond (not b) (c ∷ cs) cs) ≡ cond b [] c.names ++ names_of cs
kept-more true c cs = refl
kept-more false c cs = refl

beside-more : (ds : List DriverPlan) (o : Option DriverPlan) (cs : List DriverPlan) → names_of (calls_beside ds (cons_option o cs)) ≡ call_names ds o ++ names_of (calls_beside ds cs)
beside-more ds None cs = refl
beside-more ds (Some c) cs = kept-more (drives ds c) c (calls_beside ds cs)

beside-trees : (ds : List DriverPlan) (ts : List BoundTree) → flat_map (tree_names ds) ts ≡ names_of (calls_beside ds (filter_map call_driver ts))
beside-trees ds [] = refl
beside-trees ds (t ∷ ts) = ap (λ ns. tree_names ds t ++ ns) (beside-trees ds ts) ∙ sym (beside-more ds (call_driver t) (filter_map call_driver ts))

-- all that the expressions of a query tell are the names beside the drivers
pub beside-told : (leaves : List LeafPlan) (m : BoundTrees) → with_names [] (flat_map (tree_names (drivers leaves)) (flat_map subtrees (module_trees m))) ≡ names_beside leaves m
beside-told leaves m = ap (with_names []) (beside-trees (drivers leaves) (flat_map subtrees (module_trees m))) ∙ told-appear (names_of (calls_beside (drivers leaves) (input_calls m)))

pub with-none : (ds : List DriverPlan) (found : List (List ℕ)) (t : BoundTree) → None ≡ call_driver t → found ≡ with_names found (tree_names ds t)
with-none ds found t e = sym (ap (λ o. with_names found (call_names ds o)) (sym e) ∙ with_names-none found)

pub with-driver : (ds : List DriverPlan) (found : List (List ℕ)) (t : BoundTree) (d : DriverPlan) → Some d ≡ call_driver t → drives ds d ≡ true → found ≡ with_names found (tree_names ds t)
with-driver ds found t d e h =
    sym (ap (λ o. with_names found (call_names ds o)) (sym e) ∙ ap (λ b. with_names found (cond b [] d.names)) h ∙ with_names-none found)

pub told-next : (ds : List DriverPlan) (found names : List (List ℕ)) (all : List Lent) (i : ℕ) (x : Lent) → i < length all → x ≡ get_or all i x
    → names ≡ with_names found (tree_names ds (bound_tree x.now))
    → with_names names (flat_map (tree_names ds) (lent (drop (i + 1) all))) ≡ with_names found (flat_map (tree_names ds) (lent (drop i all)))
told-next ds found names all i x l is own =
    let rest = flat_map (tree_names ds) (lent (drop (i + 1) all)) in
    ap (λ f. with_names f rest) own
    ∙ sym (with_names-append found (tree_names ds (bound_tree x.now)) rest)
    ∙ ap (λ es. with_names found (flat_map (tree_names ds) (lent es))) (ap (λ y. y ∷ drop (i + 1) all) is ∙ sym (drop_more all i x l))

pub told-end : (ds : List DriverPlan) (found : List (List ℕ)) (all : List Lent) (i : ℕ) → length all ≤ i → with_names found (flat_map (tree_names ds) (lent (drop i all))) ≡ found
told-end ds found all i l = ap (λ es. with_names found (flat_map (tree_names ds) (lent es))) (drop_all i all l) ∙ with_names-none found

-- ---- the drivers of leaves

-- those that are found, and those of the leaves that are left
abbrev pub all_drivers : List Driver → List Leaf → List DriverPlan
all_drivers found left = map driver_of found ++ drivers (map leaf_of left)

joined : (o : Option DriverPlan) (ds : List DriverPlan) → option_to_list o ++ ds ≡ cons_option o ds
joined None ds = refl
joined (Some d) ds = refl

pub drivers-next : (found after : List Driver) (all : List Leaf) (i : ℕ) (x : Leaf) → i < length all → x ≡ get_or all i x
    → map driver_of after ≡ map driver_of found ++ option_to_list (option_map driver_of x.driver) → all_drivers after (drop (i + 1) all) ≡ all_drivers found (drop i all)
drivers-next found after all i x l is own =
    let rest = drivers (map leaf_of (drop (i + 1) all)) in
    ap (λ ds. ds ++ rest) own
    ∙ append_assoc (map driver_of found) (option_to_list (option_map driver_of x.driver)) rest
    ∙ ap (λ ds. map driver_of found ++ ds) (joined (option_map driver_of x.driver) rest)
    ∙ ap (all_drivers found) (ap (λ y. y ∷ drop (i + 1) all) is ∙ sym (drop_more all i x l))

pub drivers-end : (found : List Driver) (all : List Leaf) (i : ℕ) → length all ≤ i → all_drivers found (drop i all) ≡ map driver_of found
drivers-end found all i l = ap (all_drivers found) (drop_all i all l) ∙ append-nil (map driver_of found)
