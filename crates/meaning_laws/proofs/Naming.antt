-- Over libraries that agree on the names of a tree, or of a query. For other crates too.
use Rattle.std.proofs.Common.{◌≡◌, ℕ, not, Bool, true, false, cond, List, [], ◌∷◌, ◌++◌, length, refl, sym, ap, ◌∙◌, subst}
use Rattle.std.specs.Prelude.{filter}
use Rattle.std.specs.List.{AllByRecursion, flat_map}
use Rattle.std.specs.Str.{bytes_eq}
use Rattle.std.proofs.lemmas.Grind.{flat_map-append}
use Rattle.std.proofs.lemmas.List.{length-replicate}
use Rattle.std.proofs.lemmas.List.Elements.{recursion_from_All, All-from_recursion}
use Rattle.std.proofs.lemmas.Slice.Eq.{bytes_eq-Decides}
use Rattle.item_tree.specs.Datum.{Datum}
use Rattle.seq_types.specs.declared.types.SeqType.{SeqType}
use Rattle.query_tree.specs.declared.bound.Slot.{Slot}
use Rattle.query_tree.specs.declared.bound.Slot.TheVariants.{Local, Global}
use Rattle.query_tree.specs.declared.bound.Target.{Target}
use Rattle.query_tree.specs.declared.names.Placed.{Placed}
use Rattle.query_tree.specs.Bound.{BoundTree}
use Rattle.query_tree.specs.Calls.{calls, declared_trees, module_trees, module_calls}
use Rattle.query_tree.specs.Compiled.{BoundTrees}
use Rattle.query_tree.specs.Inputs.{names_read, all_names, first_appearances, input_names}
use Rattle.query_tree.specs.Modules.{PlainVariable, PlainFunction}
use Rattle.query_meaning.specs.Outcome.{◌>>=◌}
use Rattle.query_meaning.specs.Environment.{Environment}
use Rattle.query_meaning.specs.Checks.{typed}
use Rattle.query_meaning.specs.Library.{Library}
use Rattle.query_meaning.specs.Calls.{Program, new_frame}
use Rattle.query_meaning.specs.Meaning.{eval}
use Rattle.query_meaning.specs.Sources.{Source, of_variable, of_context, of_declared, SameIn, FindsTheSame, sources}
use Rattle.query_meaning.specs.Queries.{whole_depth, outermost, global_value, globals_from, program_of, globals_value, query_value}
use Rattle.meaning_laws.specs.Agreement.{FitsBoth, ReadsTheSame, names_called, names_in_bodies, sources_in_bodies, AgreeOn, SameFunctions, SameForCall, CallsTheSame, calls_declared, only}
use Rattle.meaning_laws.specs.Laws.{EvalReadsNames, LibrariesAgree, LeavesReadNames, QueriesReadNames}
use Rattle.meaning_laws.proofs.Alike.{both_parts, then_same, of_lengths}
use Rattle.meaning_laws.proofs.Calling.{of_any, of_each, of_joined, nothing_read, Agree, calls-find}
use Rattle.meaning_laws.proofs.Finding.{finds_calls}
use Rattle.meaning_laws.proofs.Standing.{InBody, InValue, each_declared}
use Rattle.meaning_laws.proofs.Libraries.{agree_only, missing, held_read, unread}

-- ---- environments

pub whole_fits : (width : ℕ) (source : Source) → FitsBoth width width source
whole_fits width (of_variable (Local n)) = (λ l. l, λ l. l)
whole_fits width (of_variable (Global n)) = tt
whole_fits width of_context = tt
whole_fits width of_declared = tt

same_in : (env : Environment) (source : Source) → SameIn env env source
same_in env (of_variable v) = refl
same_in env of_context = refl
same_in env of_declared = refl

reads : (t : BoundTree) (env other : Environment) → FindsTheSame t env other → ReadsTheSame t env other
reads t env other h = record {
  slots = All-from_recursion (FitsBoth (length env.frame) (length other.frame)) (sources t)
      (of_any (FitsBoth (length env.frame) (length other.frame)) (λ source. subst (λ width. FitsBoth (length env.frame) width source) h.width (whole_fits (length env.frame) source)) (sources t));
  found = h.found;
}

-- an environment has the same as itself
pub itself : (t : BoundTree) (env : Environment) → ReadsTheSame t env env
itself t env = record {
  slots = All-from_recursion (FitsBoth (length env.frame) (length env.frame)) (sources t) (of_any (FitsBoth (length env.frame) (length env.frame)) (whole_fits (length env.frame)) (sources t));
  found = All-from_recursion (SameIn env env) (sources t) (of_any (SameIn env env) (same_in env) (sources t));
}

-- ---- trees

pub same_functions : (program beside : Program) → program.functions ≡ beside.functions → program.width ≡ beside.width → AgreeOn (names_in_bodies program.functions) program.library beside.library → SameFunctions program beside
same_functions program beside e w h = record {
  functions = e;
  slots = All-from_recursion (FitsBoth program.width beside.width) (sources_in_bodies program.functions)
      (of_any (FitsBoth program.width beside.width) (λ source. subst (λ width. FitsBoth program.width width source) w (whole_fits program.width source)) (sources_in_bodies program.functions));
  inputs = h;
}

pub same_calls : (program beside : Program) (t : BoundTree) → (calls_declared t ≡ true → SameFunctions program beside) → AgreeOn (names_called t) program.library beside.library → CallsTheSame t program beside
same_calls program beside t functions agree =
    All-from_recursion (λ c. SameForCall program beside c.name) (calls t)
    (calls-find program beside (calls t) (recursion_from_All (Agree program.library beside.library) (names_called t) agree) functions)

pub reads_names : EvalReadsNames
reads_names program beside depth t env other functions agree h = finds_calls program beside depth t env other (same_calls program beside t (λ e. functions) agree) h

leaf : (program beside : Program) (depth : ℕ) (t : BoundTree) (env other : Environment) → calls_declared t ≡ false → AgreeOn (names_called t) program.library beside.library → ReadsTheSame t env other → eval program depth t env ≡ eval beside depth t other
leaf program beside depth t env other none agree h = finds_calls program beside depth t env other (same_calls program beside t (λ e. absurd cc) agree) h

pub libraries_agree : LibrariesAgree
libraries_agree = record {
  calls = same_calls;
  functions = same_functions;
  reads = reads;
  itself = itself;
  kept = agree_only;
  missing = missing;
  read = held_read;
  unread = unread;
}

pub leaves_read : LeavesReadNames
leaves_read = record {
  agreed = leaf;
  alone = λ program depth t env none.
      leaf program (record program { library = only (names_called t) program.library }) depth t env env none (agree_only (names_called t) program.library) (itself t env);
}

-- ---- the names of a query

abbrev pub Held : (List ℕ → Type 0) → BoundTree → Type 0
Held P t = AllByRecursion P (names_called t)

among_others : (P : List ℕ → Type 0) (n m : List ℕ) (some all : List (List ℕ)) → P n → (AllByRecursion P some → AllByRecursion P all) → (b : Bool) → bytes_eq n m ≡ b → AllByRecursion P (cond (not b) (m ∷ some) some) → P m × AllByRecursion P all
among_others P n m some all p h true e q = (subst P ((bytes_eq-Decides n m).0 e) p, h q)
among_others P n m some all p h false e q = (q.0, h q.1)

with_others : (P : List ℕ → Type 0) (n : List ℕ) → P n → (ns : List (List ℕ)) → AllByRecursion P (filter (λ m. not (bytes_eq n m)) ns) → AllByRecursion P ns
with_others P n p [] h = tt
with_others P n p (m ∷ ns) h = among_others P n m (filter (λ m. not (bytes_eq n m)) ns) ns p (with_others P n p ns) (bytes_eq n m) refl h

-- what is so of each name where it stands first is so of all
pub of_all_names : (P : List ℕ → Type 0) (ns : List (List ℕ)) → AllByRecursion P (first_appearances ns) → AllByRecursion P ns
of_all_names P [] h = tt
of_all_names P (n ∷ ns) h = (h.0, of_all_names P ns (with_others P n h.0 (first_appearances ns) h.1))

each_tree : (P : List ℕ → Type 0) (ts : List BoundTree) → AllByRecursion P (all_names (flat_map calls ts)) → AllByRecursion (Held P) ts
each_tree P [] h = tt
each_tree P (t ∷ ts) h =
    let joined = flat_map-append (λ (c : Placed Target). names_read c.name) (calls t) (flat_map calls ts) in
    let parts = both_parts P (names_called t) (all_names (flat_map calls ts)) (subst (AllByRecursion P) joined h) in
    (parts.0, each_tree P ts parts.1)

pub in_bodies : (P : List ℕ → Type 0) (fs : List (PlainFunction Slot Target SeqType)) → AllByRecursion (InBody (Held P)) fs → AllByRecursion P (names_in_bodies fs)
in_bodies P [] h = tt
in_bodies P (f ∷ fs) h = of_joined P (names_called f.body) (names_in_bodies fs) h.0 (in_bodies P fs h.1)

-- ---- queries

-- what is so of each name of a query is so of the names in its variables, functions and body
pub record OfQuery (P : List ℕ → Type 0) (m : BoundTrees) : Type 0 where
  pub variables : AllByRecursion (InValue (Held P)) m.variables
  pub functions : AllByRecursion P (names_in_bodies m.functions)
  pub body : Held P m.body

of_query : (P : List ℕ → Type 0) (m : BoundTrees) → AllByRecursion P (input_names m) → OfQuery P m
of_query P m h =
    let parts = both_parts (Held P) (declared_trees m.variables m.functions) (m.body ∷ []) (each_tree P (module_trees m) (of_all_names P (all_names (module_calls m)) h)) in
    let declared = each_declared (Held P) m.variables m.functions parts.0 in
    record { variables = declared.0; functions = in_bodies P m.functions declared.1; body = parts.1.0 }

-- the slots that a query reads are in frames of both widths, or of neither
pub record SlotsFit (width other : ℕ) (m : BoundTrees) : Type 0 where
  pub variables : AllByRecursion (λ x. AllByRecursion (FitsBoth width other) (sources x.value)) m.variables
  pub functions : AllByRecursion (FitsBoth width other) (sources_in_bodies m.functions)
  pub body : AllByRecursion (FitsBoth width other) (sources m.body)

module _ (program beside : Program) where
  abbrev Fitting : Source → Type 0
  Fitting source = FitsBoth program.width beside.width source

  -- the calls in the value of a variable find the same
  abbrev SameValue : PlainVariable Slot Target SeqType → Type 0
  SameValue x = CallsTheSame x.value program beside

  outermost-reads : (t : BoundTree) (globals : List (List Datum)) → AllByRecursion Fitting (sources t) → ReadsTheSame t (outermost program globals) (outermost beside globals)
  outermost-reads t globals h = record {
    slots = All-from_recursion (FitsBoth (length (new_frame program)) (length (new_frame beside))) (sources t)
        (of_each Fitting (FitsBoth (length (new_frame program)) (length (new_frame beside))) fitting (sources t) h);
    found = All-from_recursion (SameIn (outermost program globals) (outermost beside globals)) (sources t)
        (of_any (SameIn (outermost program globals) (outermost beside globals)) same (sources t));
  }
    where
      fitting : (source : Source) → Fitting source → FitsBoth (length (new_frame program)) (length (new_frame beside)) source
      fitting (of_variable (Local n)) s = of_lengths program.width beside.width (length (new_frame program)) (length (new_frame beside)) n (length-replicate program.width []) (length-replicate beside.width []) s
      fitting (of_variable (Global n)) s = tt
      fitting of_context s = tt
      fitting of_declared s = tt

      same : (source : Source) → SameIn (outermost program globals) (outermost beside globals) source
      same (of_variable (Local n)) = nothing_read program.width n ∙ sym (nothing_read beside.width n)
      same (of_variable (Global n)) = refl
      same of_context = refl
      same of_declared = refl

  tree-same : (depth : ℕ) (t : BoundTree) (globals : List (List Datum)) → AllByRecursion Fitting (sources t) → CallsTheSame t program beside → eval program depth t (outermost program globals) ≡ eval beside depth t (outermost beside globals)
  tree-same depth t globals f h = finds_calls program beside depth t (outermost program globals) (outermost beside globals) h (outermost-reads t globals f)

  global-same : (x : PlainVariable Slot Target SeqType) (before : List (List Datum)) → AllByRecursion Fitting (sources x.value) → SameValue x → global_value program x before ≡ global_value beside x before
  unfolding global_value
  global-same x before f h = ap (λ r. r >>= λ value. typed x.variable.place x.type value) (tree-same whole_depth x.value before f h)

  pub globals-same : (xs : List (PlainVariable Slot Target SeqType)) (before : List (List Datum)) → AllByRecursion (λ x. AllByRecursion Fitting (sources x.value)) xs → AllByRecursion SameValue xs → globals_from program xs before ≡ globals_from beside xs before
  globals-same [] before f h = refl
  globals-same (x ∷ xs) before f h =
      then_same (λ value. globals_from program xs (before ++ value ∷ [])) (λ value. globals_from beside xs (before ++ value ∷ [])) (global_value program x before) (global_value beside x before) (global-same x before f.0 h.0) (λ value. globals-same xs (before ++ value ∷ []) f.1 h.1)

-- two frames and two libraries
module _ (width other : ℕ) (m : BoundTrees) (library beside : Library) (fits : SlotsFit width other m) (h : AgreeOn (input_names m) library beside) where
  abbrev one : Program
  one = program_of width m library

  abbrev two : Program
  two = program_of other m beside

  query : OfQuery (Agree library beside) m
  query = of_query (Agree library beside) m (recursion_from_All (Agree library beside) (input_names m) h)

  pub both_functions : SameFunctions one two
  both_functions = record {
    functions = refl;
    slots = All-from_recursion (FitsBoth width other) (sources_in_bodies m.functions) fits.functions;
    inputs = All-from_recursion (Agree library beside) (names_in_bodies m.functions) query.functions;
  }

  calls_same : (t : BoundTree) → Held (Agree library beside) t → CallsTheSame t one two
  calls_same t held = same_calls one two t (λ e. both_functions) (All-from_recursion (Agree library beside) (names_called t) held)

  pub variables-same : globals_value width m library ≡ globals_value other m beside
  variables-same = globals-same one two m.variables [] fits.variables (of_each (InValue (Held (Agree library beside))) (SameValue one two) (λ x v. calls_same x.value v) m.variables query.variables)

  pub query-same : query_value width m library ≡ query_value other m beside
  unfolding query_value
  query-same = then_same
      (λ globals. eval one whole_depth m.body (outermost one globals)) (λ globals. eval two whole_depth m.body (outermost two globals))
      (globals_value width m library) (globals_value other m beside) variables-same
      (λ globals. tree-same one two whole_depth m.body globals fits.body (calls_same m.body query.body))

pub one_width : (width : ℕ) (m : BoundTrees) → SlotsFit width width m
one_width width m = record {
  variables = of_any (λ x. AllByRecursion (FitsBoth width width) (sources x.value)) (λ x. of_any (FitsBoth width width) (whole_fits width) (sources x.value)) m.variables;
  functions = of_any (FitsBoth width width) (whole_fits width) (sources_in_bodies m.functions);
  body = of_any (FitsBoth width width) (whole_fits width) (sources m.body);
}

pub queries_read : QueriesReadNames
queries_read = record {
  variables = λ width m library other h.
      globals-same (program_of width m library) (program_of width m other) m.variables [] (one_width width m).variables
      (recursion_from_All (λ x. CallsTheSame x.value (program_of width m library) (program_of width m other)) m.variables h);
  agreed = λ width m library other h. query-same width width m library other (one_width width m) h;
  alone = λ width m library. query-same width width m library (only (input_names m) library) (one_width width m) (agree_only (input_names m) library);
}
