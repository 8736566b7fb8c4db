-- A FLWOR in three parts: the `let`s before its driver, the `for` over the driver, and what is after
-- it.
use Rattle.std.proofs.Common.{◌≡◌, ℕ, zero, suc, ◌+◌, ◌<◌, ◌==◌, Bool, true, false, ◌&&◌, List, [], ◌∷◌, ◌++◌, length, map, Option, Some, Ok, Err, refl, sym, ap, ap₂, ◌∙◌, subst, arith}
use Rattle.std.proofs.lemmas.List.{length-map, length-set}
use Rattle.std.proofs.lemmas.List.Elements.{recursion_from_All}
use Rattle.std.specs.List.{AllByRecursion}
use Rattle.item_tree.specs.declared.fault.Fault.{Fault}
use Rattle.item_tree.specs.Datum.{Datum}
use Rattle.seq_types.specs.declared.types.SeqType.{SeqType}
use Rattle.query_tree.specs.declared.bound.Slot.{Slot}
use Rattle.query_tree.specs.declared.bound.Slot.TheVariants.{Local, Global}
use Rattle.query_tree.specs.declared.bound.Target.{Target}
use Rattle.query_tree.specs.declared.bound.Target.TheVariants.{Lines}
use Rattle.query_tree.specs.declared.names.Placed.{Placed}
use Rattle.query_tree.specs.Bound.{BoundTree}
use Rattle.query_tree.specs.BoundViews.{bound_clause, bound_clauses}
use Rattle.query_tree.specs.declared.clause.Clause.{Clause}
use Rattle.query_tree.specs.Scoped.{and_slots}
use Rattle.query_tree.specs.Plain as p
use Rattle.query_tree.specs.Plain.{PlainClause, PlainClauses, Trees}
use Rattle.mode_planner.specs.Drivers.{is_let}
use Rattle.query_meaning.specs.Outcome.{OrFault, Outcome, ◌>>=◌, joined, at_tuple}
use Rattle.query_meaning.specs.Environment.{Tuple, Environment, Inner, with_value, in_tuple}
use Rattle.query_meaning.specs.Calls.{Program, call_value}
use Rattle.query_meaning.specs.Checks.{typed}
use Rattle.query_meaning.specs.Clauses.{bound_tuples, for_tuples, let_tuples, each_tuple, clause_value}
use Rattle.query_meaning.specs.Library.{lines_value}
use Rattle.query_meaning.specs.Flwors.{with_slots, flwor_from}
use Rattle.query_meaning.specs.Meaning.{meaning, eval}
use Rattle.query_meaning.specs.Pieces.{taken_in, is_narrow, are_narrow}
use Rattle.meaning_laws.specs.Agreement.{CallsTheSame}
use Rattle.meaning_laws.specs.Laws.{FlworsFindCalls}
use Rattle.stage_laws.proofs.Basics.{eq_false, passes}
use Rattle.clause_eval.specs.Frames.{frame_tuple}
use Rattle.clause_eval.specs.NarrowRuns.{clauses_value}
use Rattle.clause_eval.specs.declared.tuples.Frame.{Frame}
use Rattle.piece_run.specs.Leading.{AreLets}

abbrev BoundClauses : Type 0
BoundClauses = PlainClauses Slot Target SeqType

abbrev clauses_of : List (PlainClause Slot Target SeqType) → BoundClauses
clauses_of cs = p.clauses_of Slot Target SeqType cs

not_let : {A : Type 0} → ◌≡◌ {A = Bool} false true → A
not_let h = absurd cc

-- ---- what the first clauses give

-- a step that gives the same goes on the same
bound_same : {A B : Type 0} (r : OrFault A) (f g : A → OrFault B) → ((a : A) → f a ≡ g a) → (r >>= f) ≡ (r >>= g)
bound_same (Ok a) f g h = h a
bound_same (Err fault) f g h = refl

-- they are what the clause that no clause is takes in
clauses_taken : (inner : Inner) (number : ℕ) (stream : List Slot) (cs : BoundClauses) (env : Environment) (ts : List Tuple) → 0 < number
    → taken_in inner number stream cs env 0 ts ≡ clauses_value inner number stream cs env ts
clauses_taken inner number stream p.no_clauses env ts some = refl
clauses_taken inner number stream (p.more_clauses c cs) env ts some =
    let other : 0 ≡ number → ⊥ = λ (e : 0 ≡ number). omega (arith, some, e) in
    let more : 0 < number + 1 = omega arith in
    passes (0 == number) (Ok ts) (clause_value inner number stream c env ts >>= taken_in inner (number + 1) (with_slots stream c) cs env 0) (eq_false 0 number other)
    ∙ bound_same (clause_value inner number stream c env ts) (taken_in inner (number + 1) (with_slots stream c) cs env 0) (clauses_value inner (number + 1) (with_slots stream c) cs env)
    (λ us. clauses_taken inner (number + 1) (with_slots stream c) cs env us more)

-- so they give the same in programs in which their calls find the same
pub clauses_same : FlworsFindCalls → (program beside : Program) (depth place at : ℕ) (stream : List Slot) (cs : BoundClauses) (body : BoundTree) (env : Environment) (ts : List Tuple)
    → CallsTheSame (p.tree_node place (p.flwor_form cs at body)) program beside
    → clauses_value (eval program depth) 1 stream cs env ts ≡ clauses_value (eval beside depth) 1 stream cs env ts
clauses_same law program beside depth place at stream cs body env ts same =
    let some : 0 < 1 = omega arith in
    sym (clauses_taken (eval program depth) 1 stream cs env ts some)
    ∙ law.taken program beside depth 1 place at stream cs body env 0 ts same
    ∙ clauses_taken (eval beside depth) 1 stream cs env ts some

-- ---- the first clauses, and then the others

parted_on : (r : OrFault (List Tuple)) (f : List Tuple → Outcome) (g : List Tuple → OrFault (List Tuple)) (k : List Tuple → Outcome) → ((ts : List Tuple) → f ts ≡ (g ts >>= k))
    → (r >>= f) ≡ ((r >>= g) >>= k)
parted_on (Ok ts) f g k h = h ts
parted_on (Err fault) f g k h = refl

pub clauses_parted : (inner : Inner) (number : ℕ) (stream : List Slot) (before rest : List (PlainClause Slot Target SeqType)) (body : BoundTree) (env : Environment) (ts : List Tuple)
    → flwor_from inner number stream (clauses_of (before ++ rest)) body env ts
    ≡ (clauses_value inner number stream (clauses_of before) env ts >>= flwor_from inner (number + length before) (and_slots stream (clauses_of before)) (clauses_of rest) body env)
clauses_parted inner number stream [] rest body env ts =
    let none : number ≡ number + 0 = omega arith in
    ap (λ (n : ℕ). flwor_from inner n stream (clauses_of rest) body env ts) none
clauses_parted inner number stream (c ∷ cs) rest body env ts =
    let bound = with_slots stream c in
    let place : number + 1 + length cs ≡ number + length (c ∷ cs) = omega arith in
    parted_on (clause_value inner number stream c env ts) (flwor_from inner (number + 1) bound (clauses_of (cs ++ rest)) body env) (clauses_value inner (number + 1) bound (clauses_of cs) env)
    (flwor_from inner (number + length (c ∷ cs)) (and_slots bound (clauses_of cs)) (clauses_of rest) body env)
    (λ us.
    clauses_parted inner (number + 1) bound cs rest body env us
    ∙ ap (λ (n : ℕ). clauses_value inner (number + 1) bound (clauses_of cs) env us >>= flwor_from inner n (and_slots bound (clauses_of cs)) (clauses_of rest) body env) place)

-- ---- `let`s make one tuple of one

-- one tuple of this width, or a fault
abbrev pub IsOneTuple : ℕ → OrFault (List Tuple) → Type 0
IsOneTuple width (Ok ts) = (t : Tuple) × (ts ≡ t ∷ []) × (length t ≡ width)
IsOneTuple width (Err fault) = Unit {0}

same_width : (t : Tuple) (slot : Slot) (value : List Datum) → length (with_value t slot value) ≡ length t
same_width t (Local n) value = length-set t n value
same_width t (Global n) value = refl

one_checked : (number : ℕ) (t : Tuple) (slot : Slot) (o : Outcome) → IsOneTuple (length t) (joined (at_tuple number 1 (o >>= λ checked. Ok (with_value t slot checked ∷ []))) (Ok []))
one_checked number t slot (Ok checked) = (with_value t slot checked, refl, same_width t slot checked)
one_checked number t slot (Err fault) = tt

one_value : (number : ℕ) (t : Tuple) (variable : Placed Slot) (type : Option (Placed SeqType)) (o : Outcome)
    → IsOneTuple (length t) (joined (at_tuple number 1 (o >>= λ value. typed variable.place type value >>= λ checked. Ok (with_value t variable.name checked ∷ []))) (Ok []))
one_value number t variable type (Ok value) = one_checked number t variable.name (typed variable.place type value)
one_value number t variable type (Err fault) = tt

let_one : (inner : Inner) (number : ℕ) (stream : List Slot) (variable : Placed Slot) (type : Option (Placed SeqType)) (e : BoundTree) (env : Environment) (t : Tuple)
    → IsOneTuple (length t) (clause_value inner number stream (p.let_clause variable type e) env (t ∷ []))
unfolding let_tuples each_tuple
let_one inner number stream variable type e env t = one_value number t variable type (inner e (in_tuple env t))

one_then : (width : ℕ) (r : OrFault (List Tuple)) (f : List Tuple → OrFault (List Tuple)) → IsOneTuple width r → ((t : Tuple) → length t ≡ width → IsOneTuple width (f (t ∷ [])))
    → IsOneTuple width (r >>= f)
one_then width (Ok ts) f h next = subst (λ (us : List Tuple). IsOneTuple width (f us)) (sym h.1) (next h.0 h.2)
one_then width (Err fault) f h next = tt

pub lets_one : (inner : Inner) (number : ℕ) (stream : List Slot) (cs : List (PlainClause Slot Target SeqType)) → AllByRecursion (λ c. is_let c ≡ true) cs → (env : Environment) (t : Tuple)
    → IsOneTuple (length t) (clauses_value inner number stream (clauses_of cs) env (t ∷ []))
lets_one inner number stream [] h env t = (t, refl, refl)
lets_one inner number stream (p.let_clause variable type e ∷ cs) h env t =
    let c : PlainClause Slot Target SeqType = p.let_clause variable type e in
    one_then (length t) (clause_value inner number stream c env (t ∷ [])) (clauses_value inner (number + 1) (with_slots stream c) (clauses_of cs) env)
    (let_one inner number stream variable type e env t)
    (λ u w. subst (λ (n : ℕ). IsOneTuple n (clauses_value inner (number + 1) (with_slots stream c) (clauses_of cs) env (u ∷ []))) w (lets_one inner (number + 1) (with_slots stream c) cs h.1 env u))
lets_one inner number stream (p.for_clause variable type allowing_empty at source ∷ cs) h env t = not_let h.0
lets_one inner number stream (p.where_clause place test ∷ cs) h env t = not_let h.0
lets_one inner number stream (p.count_clause place variable ∷ cs) h env t = not_let h.0
lets_one inner number stream (p.group_clause place keys ∷ cs) h env t = not_let h.0
lets_one inner number stream (p.order_clause place stable keys ∷ cs) h env t = not_let h.0

lets_bound : (cs : List (Clause Slot Target SeqType)) → AllByRecursion (λ c. is_let (bound_clause c) ≡ true) cs → AllByRecursion (λ c. is_let c ≡ true) (map bound_clause cs)
lets_bound [] h = tt
lets_bound (c ∷ cs) h = (h.0, lets_bound cs h.1)

-- `let`s of the code make one tuple of one
pub code_lets_one : (inner : Inner) (cs : List (Clause Slot Target SeqType)) → AreLets cs → (env : Environment) (t : Tuple) → IsOneTuple (length t) (clauses_value inner 1 [] (bound_clauses cs) env (t ∷ []))
code_lets_one inner cs h env t =
    lets_one inner 1 [] (map bound_clause cs) (lets_bound cs (recursion_from_All (λ c. is_let (bound_clause c) ≡ true) cs h)) env t

-- so one frame is left of one
pub one_left : (inner : Inner) (cs : List (Clause Slot Target SeqType)) → AreLets cs → (env : Environment) (t : Tuple) (first : List Tuple) (left : List Frame)
    → first ≡ t ∷ [] → clauses_value inner 1 [] (bound_clauses cs) env first ≡ Ok (map frame_tuple left) → length left ≡ 1
one_left inner cs h env t first left one e =
    let all : clauses_value inner 1 [] (bound_clauses cs) env (t ∷ []) ≡ Ok (map frame_tuple left) =
    ap (clauses_value inner 1 [] (bound_clauses cs) env) (sym one) ∙ e in
    of_one (subst (IsOneTuple (length t)) all (code_lets_one inner cs h env t))
  where
    of_one : IsOneTuple (length t) (Ok (map frame_tuple left)) → length left ≡ 1
    of_one k = sym (length-map left frame_tuple) ∙ ap length k.1

-- they are narrow
narrow_first : (c : PlainClause Slot Target SeqType) → is_let c ≡ true → is_narrow c ≡ true
narrow_first (p.let_clause variable type e) h = refl
narrow_first (p.for_clause variable type allowing_empty at source) h = refl
narrow_first (p.where_clause place test) h = refl
narrow_first (p.count_clause place variable) h = not_let h
narrow_first (p.group_clause place keys) h = not_let h
narrow_first (p.order_clause place stable keys) h = not_let h

pub lets_narrow : (cs : List (PlainClause Slot Target SeqType)) → AllByRecursion (λ c. is_let c ≡ true) cs → are_narrow (clauses_of cs) ≡ true
lets_narrow [] h = refl
lets_narrow (c ∷ cs) h = ap₂ (λ (a b : Bool). a && b) (narrow_first c h.0) (lets_narrow cs h.1)

-- ---- the `for`, and its source

-- the source faults, and so does the `for`, at its one tuple
pub for_faults : (inner : Inner) (number : ℕ) (stream : List Slot) (variable : Placed Slot) (type : Option (Placed SeqType)) (at : Option (Placed Slot)) (source : BoundTree) (env : Environment) (t : Tuple) (fault : Fault)
    → inner source (in_tuple env t) ≡ Err fault
    → clause_value inner number stream (p.for_clause variable type false at source) env (t ∷ []) ≡ Err (record fault { spot = Some (record { clause = number; tuple = 1 }) })
unfolding for_tuples each_tuple
for_faults inner number stream variable type at source env t fault h =
    ap (λ (o : Outcome). joined (at_tuple number 1 (o >>= bound_tuples variable type false at t)) (Ok [])) h

-- a call of `json-lines`
pub lines_meant : (program : Program) (depth place : ℕ) (names : List (List ℕ)) (es : Trees Slot Target SeqType) (env : Environment) → 0 < depth
    → eval program depth (p.tree_node place (p.call_form (Lines names) es)) env ≡ lines_value program.library names place
unfolding meaning call_value
lines_meant program zero place names es env some = absurd (omega (arith, some))
lines_meant program (suc depth) place names es env some = refl
