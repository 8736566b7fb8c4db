-- A run by a plan needs of its library the names beside the drivers alone. For other crates too.
use Rattle.std.proofs.Common.{◌≡◌, ℕ, Bool, true, false, Option, None, Some, List, [], ◌∷◌, ◌++◌, length, map, sym, ap, subst, ◌∙◌, inl, inr}
use Rattle.std.specs.Prelude.{IfSome}
use Rattle.std.specs.Option.{option_to_list}
use Rattle.std.specs.List.{AllByRecursion, flat_map}
use Rattle.std.proofs.lemmas.List.{append_assoc, append-nil}
use Rattle.std.proofs.lemmas.List.Elements.{recursion_from_All, All-from_recursion}
use Rattle.std.proofs.lemmas.List.Sorted.{All-permutation}
use Rattle.seq_types.specs.declared.types.SeqType.{SeqType}
use Rattle.query_tree.specs.declared.bound.Slot.{Slot}
use Rattle.query_tree.specs.declared.bound.Target.{Target}
use Rattle.query_tree.specs.declared.bound.Target.TheVariants.{Built, Lines}
use Rattle.query_tree.specs.Bound.{BoundTree}
use Rattle.query_tree.specs.Compiled.{BoundTrees}
use Rattle.query_tree.specs.Plain as p
use Rattle.query_tree.specs.Plain.{PlainClauses}
use Rattle.query_tree.specs.Subtrees.{subtrees}
use Rattle.mode_planner.specs.Beside.{drivers, drives, driven_calls, stand_once, names_beside}
use Rattle.mode_planner.specs.Drivers.{DriverPlan}
use Rattle.mode_planner.specs.Laws.{ExpressionsStandOnce, DriversStandFirst, HasDriver}
use Rattle.mode_planner.specs.Plans.{LeafPlan, leaf_plan, plan}
use Rattle.mode_planner.specs.Spine.{leaves, passed, handlers}
use Rattle.query_meaning.specs.Library.{Library}
use Rattle.query_meaning.specs.Calls.{Program}
use Rattle.query_meaning.specs.Queries.{program_of}
use Rattle.meaning_laws.specs.Agreement.{AgreeOn, CallsTheSame}
use Rattle.meaning_laws.specs.Beside.{StandsIn, is_beside, flwor_of, BesideTheSame}
use Rattle.meaning_laws.specs.Once.{own_drivers, DriversStandApart}
use Rattle.meaning_laws.specs.Planned.{IsDriven, PartsTheSame, RunsTheSame, PlansReadBeside}
use Rattle.meaning_laws.proofs.Alike.{both_parts}
use Rattle.meaning_laws.proofs.Beside.{names_beside_suffice}
use Rattle.meaning_laws.proofs.Calling.{of_each, of_both}
use Rattle.meaning_laws.proofs.Counting.{all_driven, alone}
use Rattle.meaning_laws.proofs.Once.{leaf_tree, one_or_none, drivers_once}
use Rattle.meaning_laws.proofs.Standing.{expressions_stand}

-- what is so of all expressions in some trees is so of the trees
heads : (S : BoundTree → Type 0) (ts : List BoundTree) → AllByRecursion S (flat_map subtrees ts) → AllByRecursion S ts
heads S [] h = tt
heads S (p.tree_node place kind ∷ ts) h =
    let parts = both_parts S (subtrees (p.tree_node place kind)) (flat_map subtrees ts) h in
    (parts.0.0, heads S ts parts.1)

trees_planned : (S : BoundTree → Type 0) (local : Bool) (ts : List BoundTree) → AllByRecursion S ts → AllByRecursion (λ l. S l.tree) (map (leaf_plan local) ts)
trees_planned S local [] h = tt
trees_planned S local (t ∷ ts) h = (subst S (sym (leaf_tree local t)) h.0, trees_planned S local ts h.1)

each_owned : (S : DriverPlan → Type 0) (ls : List LeafPlan) → AllByRecursion S (drivers ls) → AllByRecursion (λ l. IfSome l.driver S) ls
each_owned S [] h = tt
each_owned S (l ∷ ls) h =
    let parts = one_or_none S l.driver (drivers ls) h in
    (parts.0, each_owned S ls parts.1)

of_driver : (S : DriverPlan → Type 0) (o : Option DriverPlan) (d : DriverPlan) → IfSome o S → o ≡ Some d → S d
of_driver S o d h e = subst (λ x. IfSome x S) e h

module _ (stands : ExpressionsStandOnce) (first : DriversStandFirst) where
  module _ (local : Bool) (width : ℕ) (m : BoundTrees) (library other : Library) (once : stand_once (drivers (plan local m.body)) m ≡ true) (agree : AgreeOn (names_beside (plan local m.body) m) library other) where
    abbrev one : Program
    one = program_of width m library

    abbrev two : Program
    two = program_of width m other

    abbrev ds : List DriverPlan
    ds = drivers (plan local m.body)

    beside : BesideTheSame ds m library other
    beside = names_beside_suffice (plan local m.body) m library other agree

    apart : DriversStandApart ds m (plan local m.body)
    apart = (drivers_once stands first).apart local m once

    all-stand : AllByRecursion (StandsIn m) (passed m.body ++ flat_map subtrees (leaves m.body) ++ flat_map subtrees (handlers m.body))
    all-stand =
        let whole = expressions_stand m in
        recursion_from_All (StandsIn m) (passed m.body ++ flat_map subtrees (leaves m.body) ++ flat_map subtrees (handlers m.body))
        (All-permutation (StandsIn m) (subtrees m.body) (passed m.body ++ flat_map subtrees (leaves m.body) ++ flat_map subtrees (handlers m.body)) (stands m.body) (whole.inside m.body whole.body))

    parted : AllByRecursion (StandsIn m) (passed m.body ++ flat_map subtrees (leaves m.body)) × AllByRecursion (StandsIn m) (flat_map subtrees (handlers m.body))
    parted = both_parts (StandsIn m) (passed m.body ++ flat_map subtrees (leaves m.body)) (flat_map subtrees (handlers m.body)) all-stand

    leaves-stand : AllByRecursion (λ l. StandsIn m l.tree) (plan local m.body)
    leaves-stand = trees_planned (StandsIn m) local (leaves m.body) (heads (StandsIn m) (leaves m.body) (both_parts (StandsIn m) (passed m.body) (flat_map subtrees (leaves m.body)) parted.0).1)

    handlers-same : AllByRecursion (λ t. CallsTheSame t one two) (handlers m.body)
    handlers-same =
        of_each (λ t. StandsIn m t × (is_beside ds t ≡ true)) (λ t. CallsTheSame t one two)
        (λ t h. beside.calls width t apart.functions h.0 h.1) (handlers m.body)
        (of_both (StandsIn m) (λ t. is_beside ds t ≡ true) (handlers m.body)
        (heads (StandsIn m) (handlers m.body) parted.1)
        (recursion_from_All (λ t. is_beside ds t ≡ true) (handlers m.body) apart.handlers))

    -- what is known of a leaf
    abbrev Known : LeafPlan → Type 0
    Known l = (StandsIn m l.tree × (driven_calls ds (subtrees l.tree) ≡ own_drivers l)) × IfSome l.driver (λ d. drives ds d ≡ true)

    known : AllByRecursion Known (plan local m.body)
    known =
        of_both (λ l. StandsIn m l.tree × (driven_calls ds (subtrees l.tree) ≡ own_drivers l)) (λ l. IfSome l.driver (λ d. drives ds d ≡ true)) (plan local m.body)
        (of_both (λ l. StandsIn m l.tree) (λ l. driven_calls ds (subtrees l.tree) ≡ own_drivers l) (plan local m.body) leaves-stand
        (recursion_from_All (λ l. driven_calls ds (subtrees l.tree) ≡ own_drivers l) (plan local m.body) apart.leaves))
        (each_owned (λ d. drives ds d ≡ true) (plan local m.body) (all_driven ds))

    whole-same : (l : LeafPlan) → Known l → l.driver ≡ None → CallsTheSame l.tree one two
    whole-same l k e =
        let none = k.0.1 ∙ ap (λ (o : Option DriverPlan). length (option_to_list o)) e in
        beside.calls width l.tree apart.functions k.0.0 ((alone ds).none l.tree none)

    -- a FLWOR that stands in the query and has one driver
    flwor-same : (place at : ℕ) (clauses : PlainClauses Slot Target SeqType) (result : BoundTree) (d : DriverPlan) → drives ds d ≡ true → (has : HasDriver clauses d)
        → StandsIn m (p.tree_node place (p.flwor_form clauses at result)) → driven_calls ds (subtrees (p.tree_node place (p.flwor_form clauses at result))) ≡ 1
        → CallsTheSame (flwor_of place at has.before result) one two × CallsTheSame (flwor_of place at has.after result) one two
    flwor-same place at clauses result d drive has stand count =
        let tests = (alone ds).flwor place at clauses result d drive has count in
        let over = p.for_clause has.variable has.type false has.at (p.tree_node d.place (p.call_form (Lines d.names) has.arguments)) in
        let here : StandsIn m (flwor_of place at (has.before ++ over ∷ has.after) result) = subst (λ cs. StandsIn m (p.tree_node place (p.flwor_form cs at result))) has.parted stand in
        let same : has.before ++ over ∷ has.after ≡ (has.before ++ over ∷ []) ++ has.after ++ [] = sym (append-nil ((has.before ++ over ∷ []) ++ has.after) ∙ append_assoc has.before (over ∷ []) has.after) in
        let there : StandsIn m (flwor_of place at ((has.before ++ over ∷ []) ++ has.after ++ []) result) = subst (λ cs. StandsIn m (flwor_of place at cs result)) same here in (
          beside.clauses width place at [] has.before (over ∷ has.after) result apart.functions here tests.0,
          beside.clauses width place at (has.before ++ over ∷ []) has.after [] result apart.functions there tests.1,
        )

    driven-same : (l : LeafPlan) → Known l → PartsTheSame one two l
    driven-same l k = record {
      parts = λ place at clauses result d e t has.
          let flwor = p.tree_node place (p.flwor_form clauses at result) in
          let drive = of_driver (λ d. drives ds d ≡ true) l.driver d k.1 e in
          let count = k.0.1 ∙ ap (λ (o : Option DriverPlan). length (option_to_list o)) e in
          let f = found l.tree flwor k.0.0 count t in
          flwor-same place at clauses result d drive has f.0 f.1;
    }
      where
        found : (leaf t : BoundTree) → StandsIn m leaf → driven_calls ds (subtrees leaf) ≡ 1 → IsDriven leaf t → StandsIn m t × (driven_calls ds (subtrees t) ≡ 1)
        found leaf (p.tree_node place kind) s c (inl e) = (subst (StandsIn m) e s, ap (λ u. driven_calls ds (subtrees u)) (sym e) ∙ c)
        found leaf (p.tree_node place kind) s c (inr e) =
            let t = p.tree_node place kind in
            let call = p.tree_node e.0 (p.call_form (Built e.1) (p.more_trees t p.no_trees)) in
            let inside = recursion_from_All (StandsIn m) (subtrees call) ((expressions_stand m).inside call (subst (StandsIn m) e.2 s)) in
            (inside.1.0, sym ((alone ds).argument e.0 e.1 t) ∙ ap (λ u. driven_calls ds (subtrees u)) (sym e.2) ∙ c)

    runs-same : RunsTheSame width m library other (plan local m.body)
    runs-same = record {
      functions = beside.functions width apart.functions;
      variables = beside.variables width apart.functions apart.variables;
      handlers = All-from_recursion (λ t. CallsTheSame t one two) (handlers m.body) handlers-same;
      stand = All-from_recursion (λ l. StandsIn m l.tree) (plan local m.body) leaves-stand;
      whole = All-from_recursion (λ l. l.driver ≡ None → CallsTheSame l.tree one two) (plan local m.body) (of_each Known (λ l. l.driver ≡ None → CallsTheSame l.tree one two) whole-same (plan local m.body) known);
      driven = All-from_recursion (PartsTheSame one two) (plan local m.body) (of_each Known (PartsTheSame one two) driven-same (plan local m.body) known);
    }

  pub plans_read : PlansReadBeside
  plans_read local width m library other once agree = runs-same local width m library other once agree
