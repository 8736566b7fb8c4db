-- The names that an expression calls in which no call is a driver are read beside the drivers. For
-- other crates too.
use Rattle.std.proofs.Common.{◌≡◌, ℕ, Bool, true, false, cond, not, ◌||◌, Option, None, Some, List, [], ◌∷◌, ◌++◌, refl, sym, ap, subst, ◌∙◌}
use Rattle.std.specs.List.{AllByRecursion, flat_map, filter_map, cons_option, list_any}
use Rattle.std.proofs.lemmas.Bool.{and_parts, false≢true}
use Rattle.std.proofs.lemmas.List.{append_assoc}
use Rattle.std.proofs.lemmas.List.Concat.{flat_map-append}
use Rattle.std.proofs.lemmas.List.Elements.{recursion_from_All, All-from_recursion}
use Rattle.seq_types.specs.declared.types.SeqType.{SeqType}
use Rattle.query_tree.specs.declared.bound.Slot.{Slot}
use Rattle.query_tree.specs.declared.bound.Target.{Target}
use Rattle.query_tree.specs.declared.bound.Target.TheVariants.{Built, Own, Lines}
use Rattle.query_tree.specs.declared.names.Placed.{Placed}
use Rattle.query_tree.specs.Plain as p
use Rattle.query_tree.specs.Plain.{PlainClause}
use Rattle.query_tree.specs.Bound.{BoundTree}
use Rattle.query_tree.specs.Calls.{own_call}
use Rattle.query_tree.specs.Compiled.{BoundTrees}
use Rattle.query_tree.specs.Inputs.{names_read, all_names}
use Rattle.query_tree.specs.Modules.{PlainVariable, PlainFunction}
use Rattle.query_tree.specs.Subtrees.{subtrees, clause_subtrees, clauses_subtrees}
use Rattle.mode_planner.specs.Beside.{expressions, drivers, drives, calls_beside, input_calls, names_beside}
use Rattle.mode_planner.specs.Drivers.{DriverPlan, call_driver}
use Rattle.query_meaning.specs.Library.{Library}
use Rattle.query_meaning.specs.Queries.{program_of}
use Rattle.meaning_laws.specs.Agreement.{names_called, names_in_bodies, AgreeOn, SameFunctions, CallsTheSame}
use Rattle.meaning_laws.specs.Beside.{StandsIn, is_beside, variables_beside, functions_beside, flwor_of, BesideTheSame, NamesBesideSuffice}
use Rattle.meaning_laws.proofs.Alike.{both_parts}
use Rattle.meaning_laws.proofs.Calling.{of_each, of_joined, Agree}
use Rattle.meaning_laws.proofs.Finding.{finds_calls}
use Rattle.meaning_laws.proofs.Naming.{Held, itself, same_functions, same_calls, of_all_names, in_bodies, globals-same, one_width}
use Rattle.meaning_laws.proofs.Standing.{InBody, InValue, expressions_stand}

abbrev Names : Type 0
Names = List (List ℕ)

abbrev names_of : List DriverPlan → Names
names_of cs = flat_map (λ c. c.names) cs

-- ---- node by node

-- the names of a call that is none of the drivers
abbrev read_beside : List DriverPlan → Option DriverPlan → Names
read_beside ds None = []
read_beside ds (Some c) = cond (not (drives ds c)) c.names []

abbrev beside_of : List DriverPlan → BoundTree → Names
beside_of ds t = read_beside ds (call_driver t)

one_kept : (b : Bool) (c : DriverPlan) (cs : List DriverPlan) → names_of (cond b (c ∷ cs) cs) ≡ cond b c.names [] ++ names_of cs
one_kept true c cs = refl
one_kept false c cs = refl

one_more : (ds : List DriverPlan) (o : Option DriverPlan) (cs : List DriverPlan) → names_of (calls_beside ds (cons_option o cs)) ≡ read_beside ds o ++ names_of (calls_beside ds cs)
one_more ds None cs = refl
one_more ds (Some c) cs = one_kept (not (drives ds c)) c (calls_beside ds cs)

of_nodes : (ds : List DriverPlan) (ts : List BoundTree) → names_of (calls_beside ds (filter_map call_driver ts)) ≡ flat_map (beside_of ds) ts
of_nodes ds [] = refl
of_nodes ds (t ∷ ts) = one_more ds (call_driver t) (filter_map call_driver ts) ∙ ap (λ ns. beside_of ds t ++ ns) (of_nodes ds ts)

-- ---- where no call is a driver

abbrev told_by : Option (Placed Target) → Names
told_by None = []
told_by (Some c) = names_read c.name

call_more : (o : Option (Placed Target)) (cs : List (Placed Target)) → all_names (cons_option o cs) ≡ told_by o ++ all_names cs
call_more None cs = refl
call_more (Some c) cs = refl

abbrev read_by : Option DriverPlan → Names
read_by None = []
read_by (Some d) = d.names

same_target : (place : ℕ) (f : Target) (xs : p.Trees Slot Target SeqType) → names_read f ≡ read_by (call_driver (p.tree_node place (p.call_form f xs)))
same_target place (Built id) xs = refl
same_target place (Own n) xs = refl
same_target place (Lines names) xs = refl

same_node : (t : BoundTree) → told_by (own_call t) ≡ read_by (call_driver t)
same_node (p.tree_node place (p.call_form f xs)) = same_target place f xs
same_node (p.tree_node place _) = refl

not_left : (b c : Bool) → not (b || c) ≡ true → not b ≡ true
not_left true c h = absurd (false≢true h)
not_left false c h = refl

not_right : (b c : Bool) → not (b || c) ≡ true → not c ≡ true
not_right true c h = absurd (false≢true h)
not_right false c h = h

-- no driver among a call and others
apart : (ds : List DriverPlan) (o : Option DriverPlan) (cs : List DriverPlan) → not (list_any (drives ds) (cons_option o cs)) ≡ true → (read_beside ds o ≡ read_by o) × (not (list_any (drives ds) cs) ≡ true)
apart ds None cs h = (refl, h)
apart ds (Some c) cs h = (ap (λ b. cond b c.names []) (not_left (drives ds c) (list_any (drives ds) cs) h), not_right (drives ds c) (list_any (drives ds) cs) h)

all_beside : (ds : List DriverPlan) (ts : List BoundTree) → not (list_any (drives ds) (filter_map call_driver ts)) ≡ true → flat_map (beside_of ds) ts ≡ all_names (filter_map own_call ts)
all_beside ds [] h = refl
all_beside ds (t ∷ ts) h =
    let parts = apart ds (call_driver t) (filter_map call_driver ts) h in
    ap (λ ns. ns ++ flat_map (beside_of ds) ts) (parts.0 ∙ sym (same_node t))
    ∙ ap (λ ns. told_by (own_call t) ++ ns) (all_beside ds ts parts.1)
    ∙ sym (call_more (own_call t) (filter_map own_call ts))

-- ---- clauses

pub clauses_joined : (cs ds : List (PlainClause Slot Target SeqType)) → clauses_subtrees (p.clauses_of Slot Target SeqType (cs ++ ds)) ≡ clauses_subtrees (p.clauses_of Slot Target SeqType cs) ++ clauses_subtrees (p.clauses_of Slot Target SeqType ds)
clauses_joined [] ds = refl
clauses_joined (c ∷ cs) ds = ap (λ ts. clause_subtrees c ++ ts) (clauses_joined cs ds)
    ∙ sym (append_assoc (clause_subtrees c) (clauses_subtrees (p.clauses_of Slot Target SeqType cs)) (clauses_subtrees (p.clauses_of Slot Target SeqType ds)))

-- ---- the laws

module _ (ds : List DriverPlan) (m : BoundTrees) (library other : Library) (agreed : AllByRecursion (Agree library other) (flat_map (beside_of ds) (expressions m))) where
  abbrev P : List ℕ → Type 0
  P name = Agree library other name

  abbrev Told : BoundTree → Type 0
  Told t = AllByRecursion P (beside_of ds t)

  standing : (t : BoundTree) → StandsIn m t → AllByRecursion P (flat_map (beside_of ds) (subtrees t))
  standing t s =
      let joined =
      ap (flat_map (beside_of ds)) s.parted
      ∙ flat_map-append (beside_of ds) (s.before ++ subtrees t) s.after
      ∙ ap (λ ns. ns ++ flat_map (beside_of ds) s.after) (flat_map-append (beside_of ds) s.before (subtrees t)) in
      let parts = both_parts P (flat_map (beside_of ds) s.before ++ flat_map (beside_of ds) (subtrees t)) (flat_map (beside_of ds) s.after) (subst (AllByRecursion P) joined agreed) in
      (both_parts P (flat_map (beside_of ds) s.before) (flat_map (beside_of ds) (subtrees t)) parts.0).1

  held : (t : BoundTree) → StandsIn m t → is_beside ds t ≡ true → Held P t
  held t s h = subst (AllByRecursion P) (all_beside ds (subtrees t) h) (standing t s)

  -- each body is beside the drivers
  bodies_held : (fs : List (PlainFunction Slot Target SeqType)) → AllByRecursion (InBody (StandsIn m)) fs → functions_beside ds fs ≡ true → AllByRecursion (InBody (Held P)) fs
  bodies_held [] s h = tt
  bodies_held (f ∷ fs) s h =
      let parts = and_parts (is_beside ds f.body) (functions_beside ds fs) h in
      (held f.body s.0 parts.0, bodies_held fs s.1 parts.1)

  values_held : (xs : List (PlainVariable Slot Target SeqType)) → AllByRecursion (InValue (StandsIn m)) xs → variables_beside ds xs ≡ true → AllByRecursion (InValue (Held P)) xs
  values_held [] s h = tt
  values_held (x ∷ xs) s h =
      let parts = and_parts (is_beside ds x.value) (variables_beside ds xs) h in
      (held x.value s.0 parts.0, values_held xs s.1 parts.1)

  both_functions : (width : ℕ) → functions_beside ds m.functions ≡ true → SameFunctions (program_of width m library) (program_of width m other)
  both_functions width h =
      let stands = recursion_from_All (λ f. StandsIn m f.body) m.functions (expressions_stand m).functions in
      same_functions (program_of width m library) (program_of width m other) refl refl
      (All-from_recursion P (names_in_bodies m.functions) (in_bodies P m.functions (bodies_held m.functions stands h)))

  agree_on : (t : BoundTree) → Held P t → AgreeOn (names_called t) library other
  agree_on t h = All-from_recursion P (names_called t) h

  both_calls : (width : ℕ) (t : BoundTree) → functions_beside ds m.functions ≡ true → Held P t → CallsTheSame t (program_of width m library) (program_of width m other)
  both_calls width t f h = same_calls (program_of width m library) (program_of width m other) t (λ e. both_functions width f) (agree_on t h)

  -- some clauses of a FLWOR that stands in the query
  part_held : (place at : ℕ) (before part after : List (PlainClause Slot Target SeqType)) (result : BoundTree) → StandsIn m (flwor_of place at (before ++ part ++ after) result) → is_beside ds (flwor_of place at part result) ≡ true → Held P (flwor_of place at part result)
  part_held place at before part after result s h =
      let of = λ (cs : List (PlainClause Slot Target SeqType)). clauses_subtrees (p.clauses_of Slot Target SeqType cs) in
      let b = beside_of ds in
      let joined : of (before ++ part ++ after) ≡ of before ++ of part ++ of after = clauses_joined (before ++ part) after ∙ ap (λ ts. ts ++ of after) (clauses_joined before part) in
      let whole = standing (flwor_of place at (before ++ part ++ after) result) s in
      let split =
      flat_map-append b (of (before ++ part ++ after)) (subtrees result)
      ∙ ap (λ ns. ns ++ flat_map b (subtrees result))
      (ap (flat_map b) joined ∙ flat_map-append b (of before ++ of part) (of after) ∙ ap (λ ns. ns ++ flat_map b (of after)) (flat_map-append b (of before) (of part))) in
      let parts = both_parts P (flat_map b (of before) ++ flat_map b (of part) ++ flat_map b (of after)) (flat_map b (subtrees result)) (subst (AllByRecursion P) split whole) in
      let front = both_parts P (flat_map b (of before) ++ flat_map b (of part)) (flat_map b (of after)) parts.0 in
      let middle = (both_parts P (flat_map b (of before)) (flat_map b (of part)) front.0).1 in
      let own : AllByRecursion P (flat_map b (subtrees (flwor_of place at part result))) = subst (AllByRecursion P) (sym (flat_map-append b (of part) (subtrees result))) (of_joined P (flat_map b (of part)) (flat_map b (subtrees result)) middle parts.1) in
      subst (AllByRecursion P) (all_beside ds (subtrees (flwor_of place at part result)) h) own

  pub beside_same : BesideTheSame ds m library other
  beside_same = record {
    names = λ t s h. agree_on t (held t s h);
    functions = both_functions;
    calls = λ width t f s h. both_calls width t f (held t s h);
    values = λ width depth t env f s h.
        finds_calls (program_of width m library) (program_of width m other) depth t env env (both_calls width t f (held t s h)) (itself t env);
    variables = λ width f h.
        let stands = recursion_from_All (λ x. StandsIn m x.value) m.variables (expressions_stand m).variables in
        let one = program_of width m library in
        let two = program_of width m other in
        globals-same one two m.variables [] (one_width width m).variables
        (of_each (InValue (Held P)) (λ x. CallsTheSame x.value one two) (λ x v. both_calls width x.value f v) m.variables (values_held m.variables stands h));
    clauses = λ width place at before part after result f s h.
        both_calls width (flwor_of place at part result) f (part_held place at before part after result s h);
  }

pub names_beside_suffice : NamesBesideSuffice
names_beside_suffice leaves m library other h =
    let ds = drivers leaves in
    let told = of_all_names (Agree library other) (names_of (calls_beside ds (input_calls m))) (recursion_from_All (Agree library other) (names_beside leaves m) h) in
    beside_same ds m library other (subst (AllByRecursion (Agree library other)) (of_nodes ds (expressions m)) told)
