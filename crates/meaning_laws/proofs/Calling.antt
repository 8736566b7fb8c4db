-- What the calls of trees find in two programs.
use Rattle.std.proofs.Common.{◌≡◌, ℕ, zero, suc, ◌<◌, ◌≤◌, ◌||◌, Bool, true, false, replicate, List, [], ◌∷◌, ◌++◌, map, length, slice_get, Option, Some, None, Ok, Err, refl, sym, ap, ap₂, ◌∙◌, ⊎_elim, arith}
use Rattle.std.specs.Prelude.{IfSome}
use Rattle.std.specs.List.{AllByRecursion, filter_map, cons_option, list_any}
use Rattle.std.proofs.lemmas.Bool.{cases_lt}
use Rattle.std.proofs.lemmas.List.{get_or_past, get_or-replicate, length-replicate}
use Rattle.std.proofs.lemmas.List.Elements.{recursion_from_All, All-from_recursion}
use Rattle.item_tree.specs.Datum.{Datum}
use Rattle.seq_types.specs.declared.types.SeqType.{SeqType}
use Rattle.query_tree.specs.declared.bound.Slot.{Slot}
use Rattle.query_tree.specs.declared.bound.Target.{Target}
use Rattle.query_tree.specs.declared.bound.Target.TheVariants.{Built, Own, Lines}
use Rattle.query_tree.specs.declared.names.Placed.{Placed}
use Rattle.query_tree.specs.declared.module.Param.{Param}
use Rattle.query_tree.specs.Bound.{BoundTree}
use Rattle.query_tree.specs.Calls.{own_call}
use Rattle.query_tree.specs.Inputs.{names_read, all_names}
use Rattle.query_tree.specs.Modules.{PlainFunction}
use Rattle.query_meaning.specs.Outcome.{OrFault, Outcome, ◌>>=◌, at_place}
use Rattle.query_meaning.specs.Environment.{Tuple, Environment, Inner, value_in, with_value}
use Rattle.query_meaning.specs.Checks.{typed}
use Rattle.query_meaning.specs.Library.{Library, held, all_there, given}
use Rattle.query_meaning.specs.Calls.{Program, with_arguments, own_value, declared_value}
use Rattle.query_meaning.specs.Sources.{Source, target_sources}
use Rattle.meaning_laws.specs.Agreement.{FitsBoth, SameFunctions, SameForCall, is_declared}
use Rattle.meaning_laws.proofs.Alike.{both_parts, AlikeTuples, Alike, of_lengths, value_read, with_value-alike}
use Rattle.meaning_laws.proofs.AlikeParts.{SameBehind}
use Rattle.meaning_laws.proofs.AlikeRows.{Match, one_match}

-- ---- lists

pub of_any : {X : Type 0} (P : X → Type 0) → ((x : X) → P x) → (xs : List X) → AllByRecursion P xs
of_any P h [] = tt
of_any P h (x ∷ xs) = (h x, of_any P h xs)

pub of_each : {X : Type 0} (P Q : X → Type 0) → ((x : X) → P x → Q x) → (xs : List X) → AllByRecursion P xs → AllByRecursion Q xs
of_each P Q h [] p = tt
of_each P Q h (x ∷ xs) p = (h x p.0, of_each P Q h xs p.1)

pub of_both : {X : Type 0} (P Q : X → Type 0) (xs : List X) → AllByRecursion P xs → AllByRecursion Q xs → AllByRecursion (λ x. P x × Q x) xs
of_both P Q [] p q = tt
of_both P Q (x ∷ xs) p q = ((p.0, q.0), of_both P Q xs p.1 q.1)

pub of_joined : {X : Type 0} (P : X → Type 0) (xs ys : List X) → AllByRecursion P xs → AllByRecursion P ys → AllByRecursion P (xs ++ ys)
of_joined P [] ys p q = q
of_joined P (x ∷ xs) ys p q = (p.0, of_joined P xs ys p.1 q)

pub of_found : {X : Type 0} (P : X → Type 0) (xs : List X) (n : ℕ) → AllByRecursion P xs → IfSome (slice_get xs n) P
of_found P [] n p = tt
of_found P (x ∷ xs) zero p = p.0
of_found P (x ∷ xs) (suc n) p = of_found P xs n p.1

-- ---- the calls of trees

one_or_none : (S : Placed Target → Type 0) (c : Option (Placed Target)) (cs : List (Placed Target)) → AllByRecursion S (cons_option c cs) → IfSome c S × AllByRecursion S cs
one_or_none S None cs h = (tt, h)
one_or_none S (Some c) cs h = (h.0, h.1)

-- what is so of all calls of some trees is so of the call that each of them is
pub each_call : (S : Placed Target → Type 0) (ts : List BoundTree) → AllByRecursion S (filter_map own_call ts) → AllByRecursion (λ t. IfSome (own_call t) S) ts
each_call S [] h = tt
each_call S (t ∷ ts) h =
    let parts = one_or_none S (own_call t) (filter_map own_call ts) h in
    (parts.0, each_call S ts parts.1)

-- ---- frames in which nothing is bound

pub nothing_read : (width n : ℕ) → value_in (replicate width []) n ≡ []
nothing_read width n = value_read (replicate width []) n ∙ ⊎_elim
    (λ (l : n < width). get_or-replicate width n [] [] l)
    (λ (l : width ≤ n). get_or_past (replicate width []) n [] (omega (arith, length-replicate {A = List Datum} width [])))
    (cases_lt n width)

pub new-alike : (width width' : ℕ) → AlikeTuples (FitsBoth width width') (replicate width []) (replicate width' [])
new-alike width width' = record {
  there = λ n r. of_lengths width width' (length (replicate width [])) (length (replicate width' [])) n (length-replicate width []) (length-replicate width' []) r;
  values = λ n r. nothing_read width n ∙ sym (nothing_read width' n);
}

-- ---- what a call finds

-- of this name both libraries hold the same
abbrev pub Agree : Library → Library → List ℕ → Type 0
Agree library other name = held library name ≡ held other name

same_held : (library other : Library) (names : List (List ℕ)) → AllByRecursion (Agree library other) names → map (held library) names ≡ map (held other) names
same_held library other [] h = refl
same_held library other (n ∷ ns) h = ap₂ (λ r rs. r ∷ rs) h.0 (same_held library other ns h.1)

or_left : (b c : Bool) → b ≡ true → (b || c) ≡ true
or_left true c e = refl
or_left false c e = absurd cc

or_right : (b c : Bool) → c ≡ true → (b || c) ≡ true
or_right true c e = refl
or_right false c e = e

module _ (program program' : Program) where
  abbrev Same : List ℕ → Type 0
  Same name = Agree program.library program'.library name

  target-finds : (t : Target) → AllByRecursion Same (names_read t) → (is_declared t ≡ true → SameFunctions program program') → SameForCall program program' t
  target-finds (Built id) h f = tt
  target-finds (Own n) h f = f refl
  target-finds (Lines names) h f = All-from_recursion Same names h

  -- calls whose names are held alike, where a call of a declared function finds the same functions
  pub calls-find : (cs : List (Placed Target)) → AllByRecursion Same (all_names cs) → (list_any (λ c. is_declared c.name) cs ≡ true → SameFunctions program program') → AllByRecursion (λ c. SameForCall program program' c.name) cs
  calls-find [] h f = tt
  calls-find (c ∷ cs) h f =
      let parts = both_parts Same (names_read c.name) (all_names cs) h in
      let others = list_any (λ (d : Placed Target). is_declared d.name) cs in
      (target-finds c.name parts.0 (λ e. f (or_left (is_declared c.name) others e)), calls-find cs parts.1 (λ e. f (or_right (is_declared c.name) others e)))

  -- ---- what comes of a call

  module _ (inner inner' : Inner) where
    -- what a body may read is in the frames of both programs
    abbrev pub InFrames : Source → Type 0
    InFrames source = FitsBoth program.width program'.width source

    -- a body comes to the same in two environments that are alike in it
    abbrev pub SameBody : PlainFunction Slot Target SeqType → Type 0
    SameBody f = (env other : Environment) → Alike InFrames env other → inner f.body env ≡ inner' f.body other

    -- frames that have the same arguments
    arguments-match : (place : ℕ) (qs : List (Param Slot SeqType)) (values : List (List Datum)) (t u : Tuple) → AlikeTuples InFrames t u → Match (AlikeTuples InFrames) (with_arguments place qs values t) (with_arguments place qs values u)
    arguments-match place [] values t u a = a
    arguments-match place (q ∷ qs) [] t u a = a
    arguments-match place (q ∷ qs) (value ∷ values) t u a =
        one_match (AlikeTuples InFrames)
        (λ checked. with_arguments place qs values (with_value t q.variable.name checked))
        (λ checked. with_arguments place qs values (with_value u q.variable.name checked))
        (typed place q.of value) (typed place q.of value) refl
        (λ checked. arguments-match place qs values (with_value t q.variable.name checked) (with_value u q.variable.name checked) (with_value-alike InFrames t u q.variable.name checked a))

    bodies_meet : (r s : OrFault Tuple) (f g : Tuple → Outcome) → Match (AlikeTuples InFrames) r s → ((t u : Tuple) → AlikeTuples InFrames t u → f t ≡ g u) → (r >>= f) ≡ (s >>= g)
    bodies_meet (Ok t) (Ok u) f g h k = k t u h
    bodies_meet (Ok t) (Err fault) f g h k = absurd h
    bodies_meet (Err fault) (Ok u) f g h k = absurd h
    bodies_meet (Err fault) (Err other) f g h k = ap Err h

    own-same : (place : ℕ) (f : PlainFunction Slot Target SeqType) (values : List (List Datum)) (env other : Environment) → SameBody f → env.globals ≡ other.globals → own_value program inner place f values env ≡ own_value program' inner' place f values other
    unfolding own_value
    own-same place f values env other body globals =
        bodies_meet
        (with_arguments place f.params values (replicate program.width []))
        (with_arguments place f.params values (replicate program'.width []))
        (λ frame. inner f.body (record { frame = frame; globals = env.globals; item = None }) >>= typed place f.type)
        (λ frame. inner' f.body (record { frame = frame; globals = other.globals; item = None }) >>= typed place f.type)
        (arguments-match place f.params values (replicate program.width []) (replicate program'.width []) (new-alike program.width program'.width))
        (λ t u a. ap (λ r. r >>= typed place f.type)
        (body (record { frame = t; globals = env.globals; item = None }) (record { frame = u; globals = other.globals; item = None })
        (record { tuples = a; outer = λ n r. ap (λ globals. value_in globals n) globals; declared = λ r. globals; context = λ r. refl })))

    declared-same : (place : ℕ) (f : Option (PlainFunction Slot Target SeqType)) (values : List (List Datum)) (env other : Environment) → IfSome f SameBody → env.globals ≡ other.globals → declared_value program inner place f values env ≡ declared_value program' inner' place f values other
    declared-same place None values env other body globals = refl
    declared-same place (Some f) values env other body globals = own-same place f values env other body globals

    pub behind-same : (R : Source → Type 0) (env other : Environment) → Alike R env other → (SameFunctions program program' → AllByRecursion SameBody program.functions)
        → (place : ℕ) (function : Target) → AllByRecursion R (target_sources function) → SameForCall program program' function → SameBehind program program' inner inner' place env other function
    behind-same R env other alike bodies place (Built id) s c = tt
    behind-same R env other alike bodies place (Own n) s c = λ values.
        declared-same place (slice_get program.functions n) values env other (of_found SameBody program.functions n (bodies c)) (alike.declared s.0)
        ∙ ap (λ fs. declared_value program' inner' place (slice_get fs n) values other) c.functions
    behind-same R env other alike bodies place (Lines names) s c =
        ap (λ reads. at_place place (given (all_there reads))) (same_held program.library program'.library names (recursion_from_All Same names c))
