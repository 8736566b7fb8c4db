-- The moves of the search of a `some` or an `every`.
use Rattle.std.proofs.Common.{◌≡◌, ℕ, zero, suc, ◌+◌, ◌*◌, ◌^◌, ◌<◌, ◌≤◌, Bool, true, false, if◌then◌else◌, List, [], ◌∷◌, ◌++◌, length, map, get_or, drop, Option, Some, None, Result, Ok, Err, refl, sym, ap, subst, ◌∙◌, arith, add-one}
use Rattle.std.specs.Prelude.{IfOk, slice_set}
use Rattle.std.proofs.lemmas.List.{drop-map, drop_all, length-drop, set-get_or}
use Rattle.std.proofs.lemmas.Option.{unwrap_or-slice_get}
use Rattle.std.proofs.Math.Seq.{drop-cons}
use Rattle.std.proofs.Math.Nat.{mul-pos, mul-lt-mul_of_pos_right, add-mul}
use Rattle.item_tree.specs.Datum.{Datum}
use Rattle.item_tree.specs.Item.{datum, datums}
use Rattle.item_tree.specs.declared.item.Item.{Item}
use Rattle.item_tree.specs.declared.fault.Fault.{Fault}
use Rattle.seq_types.specs.declared.types.SeqType.{SeqType}
use Rattle.query_tree.specs.declared.bound.Slot.{Slot}
use Rattle.query_tree.specs.declared.bound.Slot.TheVariants.{Local, Global}
use Rattle.query_tree.specs.declared.bound.Target.{Target}
use Rattle.query_tree.specs.declared.names.Placed.{Placed}
use Rattle.query_tree.specs.declared.operator.Quantifier.{Quantifier}
use Rattle.query_tree.specs.declared.operator.Quantifier.TheVariants.{Any, Every}
use Rattle.query_tree.specs.Bound.{BoundTree}
use Rattle.query_tree.specs.Plain as p
use Rattle.query_tree.specs.Plain.{PlainBinds}
use Rattle.query_tree.specs.declared.part.Bind.{Bind}
use Rattle.query_tree.specs.declared.expr.Expr.{Expr}
use Rattle.query_tree.specs.BoundViews.{bound_tree, bound_binds}
use Rattle.query_meaning.specs.inside.Gives.{FailsAs, Gives}
use Rattle.query_meaning.specs.inside.Views.{tuple_of, items_of}
use Rattle.std.specs.Borrow.{Bor}
use Rattle.query_meaning.specs.declared.value.Value.{Value}
use Rattle.query_meaning.specs.declared.fault.EvalFault.{EvalFault}
use Rattle.query_meaning.specs.declared.fault.EvalFault.TheVariants.{Raised, NoMemory}
use Rattle.query_meaning.specs.Outcome.{OrFault, Outcome, ◌>>=◌}
use Rattle.query_meaning.specs.Environment.{Tuple, Environment, Inner, binding, in_tuple, with_value}
use Rattle.query_meaning.specs.Checks.{typed, truth_of}
use Rattle.query_meaning.specs.Choices.{quantified, quantified_over}
use Rattle.expr_eval.specs.declared.searches.Open.{Open}
use Rattle.expr_eval.specs.Quantifiers.{OpenBinding, decides, undecided, passes, slot_value, opening, value_first, first_value, behind_first, unless_decided, searched, entered, most_moves, moves_left, Moves, RaisesNone}
use Rattle.expr_eval.specs.Searches.{open_of, innermost}
use Rattle.expr_eval.proofs.TestSteps.{none_left, one_more, same_after, over_next}

abbrev pub told : {A : Type 0} → A → OrFault A
told x = Ok x

-- ---- frames

set_twice : {A : Type 0} (xs : List A) (n : ℕ) (a b : A) → slice_set (slice_set xs n a) n b ≡ slice_set xs n b
set_twice [] n a b = refl
set_twice (x ∷ xs) zero a b = refl
set_twice (x ∷ xs) (suc n) a b = ap (λ ys. x ∷ ys) (set_twice xs n a b)

-- a slot that is written twice has what was written last
written_twice : (frame : Tuple) (slot : Slot) (v w : List Datum) → with_value (with_value frame slot v) slot w ≡ with_value frame slot w
written_twice frame (Local n) v w = set_twice frame n v w
written_twice frame (Global n) v w = refl

-- a slot that is written what it has
written_back : (frame : Tuple) (slot : Slot) → with_value frame slot (slot_value frame slot) ≡ frame
written_back frame (Local n) = ap (slice_set frame n) (unwrap_or-slice_get frame n []) ∙ set-get_or frame n []
written_back frame (Global n) = refl

-- ---- tests

same_tests : (q : Quantifier) (f g : Datum → OrFault Bool) → ((x : Datum) → f x ≡ g x) → (xs : List Datum) → quantified q f xs ≡ quantified q g xs
same_tests q f g h [] = none_left q f ∙ sym (none_left q g)
same_tests q f g h (x ∷ xs) =
    one_more q f x xs
    ∙ ap (λ o. o >>= λ holds. if decides q holds then Ok holds else quantified q f xs) (h x)
    ∙ same_after (g x) (λ holds. if decides q holds then Ok holds else quantified q f xs) (λ holds. if decides q holds then Ok holds else quantified q g xs) (λ holds. ap (λ (r : OrFault Bool). if decides q holds then Ok holds else r) (same_tests q f g h xs))
    ∙ sym (one_more q g x xs)

goes_by : (q : Quantifier) (rest : OrFault Bool) → unless_decided q (Ok (undecided q)) rest ≡ rest
goes_by Any rest = refl
goes_by Every rest = refl

stands_alone : (q : Quantifier) (o : OrFault Bool) → unless_decided q o (Ok (undecided q)) ≡ o
stands_alone Any (Ok true) = refl
stands_alone Any (Ok false) = refl
stands_alone Every (Ok true) = refl
stands_alone Every (Ok false) = refl
stands_alone q (Err fault) = refl

after_one : (q : Quantifier) (o k rest : OrFault Bool) → unless_decided q (unless_decided q o k) rest ≡ unless_decided q o (unless_decided q k rest)
after_one Any (Ok true) k rest = refl
after_one Any (Ok false) k rest = refl
after_one Every (Ok true) k rest = refl
after_one Every (Ok false) k rest = refl
after_one q (Err fault) k rest = refl

-- ---- searches

-- the frame counts but for the slot of the innermost binding
rebound : (inner : Inner) (q : Quantifier) (test : BoundTree) (env : Environment) (o : OpenBinding) (os : List OpenBinding) (frame : Tuple) (v : List Datum)
    → searched inner q test env (o ∷ os) (with_value frame o.variable.name v) ≡ searched inner q test env (o ∷ os) frame
unfolding searched passes
rebound inner q test env o os frame v =
    let slot = o.variable.name in
    let later = with_value frame slot v in
    ap (λ t. unless_decided q t (searched inner q test env os (with_value later slot o.before)))
    (same_tests q (passes inner q o.variable o.type o.behind test (in_tuple env later)) (passes inner q o.variable o.type o.behind test (in_tuple env frame))
    (λ x. same_after (typed o.variable.place o.type (x ∷ [])) (λ value. quantified_over inner q o.behind test (in_tuple env (with_value later slot value))) (λ value. quantified_over inner q o.behind test (in_tuple env (with_value frame slot value)))
    (λ value. ap (λ t. quantified_over inner q o.behind test (in_tuple env t)) (written_twice frame slot v value)))
    o.left)
    ∙ ap (λ t. unless_decided q (quantified q (passes inner q o.variable o.type o.behind test (in_tuple env frame)) o.left) (searched inner q test env os t)) (written_twice frame slot v o.before)

-- the same for its items, where the first one is taken from them
first_gone : (inner : Inner) (q : Quantifier) (test : BoundTree) (env : Environment) (o : OpenBinding) (os : List OpenBinding) (frame : Tuple) (x : Datum) (xs : List Datum)
    → o.left ≡ x ∷ xs
    → searched inner q test env (o ∷ os) frame
    ≡ unless_decided q (passes inner q o.variable o.type o.behind test (in_tuple env frame) x) (searched inner q test env (behind_first o ∷ os) frame)
unfolding searched
first_gone inner q test env o os frame x xs is =
    let f = passes inner q o.variable o.type o.behind test (in_tuple env frame) in
    let rest = searched inner q test env os (with_value frame o.variable.name o.before) in
    ap (λ l. unless_decided q (quantified q f l) rest) is
    ∙ ap (λ t. unless_decided q t rest) (one_more q f x xs)
    ∙ after_one q (f x) (quantified q f xs) rest
    ∙ ap (λ l. unless_decided q (f x) (unless_decided q (quantified q f (drop 1 l)) rest)) (sym is)

pub none_open : (inner : Inner) (q : Quantifier) (test : BoundTree) (env : Environment) (frame : Tuple) → searched inner q test env [] frame ≡ Ok (undecided q)
unfolding searched
none_open inner q test env frame = refl

-- a binding with no items left closes
pub closed : (inner : Inner) (q : Quantifier) (test : BoundTree) (env : Environment) (o : OpenBinding) (os : List OpenBinding) (frame : Tuple)
    → first_value o ≡ Ok None
    → searched inner q test env (o ∷ os) frame ≡ searched inner q test env os (with_value frame o.variable.name o.before)
unfolding searched
closed inner q test env o os frame h = by o.left h
  where
    f : Datum → OrFault Bool
    f = passes inner q o.variable o.type o.behind test (in_tuple env frame)

    rest : OrFault Bool
    rest = searched inner q test env os (with_value frame o.variable.name o.before)

    not_none : (r : Outcome) → (r >>= λ value. Ok (Some value)) ≡ Ok None → ⊥
    not_none (Ok v) e = cc
    not_none (Err fault) e = cc

    by : (left : List Datum) → value_first o.variable o.type left ≡ Ok None → unless_decided q (quantified q f left) rest ≡ rest
    by [] e = ap (λ t. unless_decided q t rest) (none_left q f) ∙ goes_by q rest
    by (x ∷ xs) e = absurd (not_none (typed o.variable.place o.type (x ∷ [])) e)

-- the next item faults
pub faulted : (inner : Inner) (q : Quantifier) (test : BoundTree) (env : Environment) (o : OpenBinding) (os : List OpenBinding) (frame : Tuple) (fault : Fault)
    → first_value o ≡ Err fault
    → searched inner q test env (o ∷ os) frame ≡ Err fault
unfolding passes
faulted inner q test env o os frame fault h = by o.left refl h
  where
    its : (r : Outcome) → (r >>= λ value. Ok (Some value)) ≡ Err fault → r ≡ Err fault
    its (Ok v) e = cc
    its (Err other) e = cc

    by : (left : List Datum) → o.left ≡ left → value_first o.variable o.type left ≡ Err fault → searched inner q test env (o ∷ os) frame ≡ Err fault
    by [] is e = cc
    by (x ∷ xs) is e =
        first_gone inner q test env o os frame x xs is
        ∙ ap (λ r. unless_decided q (r >>= λ value. quantified_over inner q o.behind test (binding (in_tuple env frame) o.variable.name value)) (searched inner q test env (behind_first o ∷ os) frame)) (its (typed o.variable.place o.type (x ∷ [])) e)

-- the next item is bound
pub bound_next : (inner : Inner) (q : Quantifier) (test : BoundTree) (env : Environment) (o : OpenBinding) (os : List OpenBinding) (frame : Tuple) (value : List Datum)
    → first_value o ≡ Ok (Some value)
    → searched inner q test env (o ∷ os) frame ≡ entered inner q o.behind test env (behind_first o ∷ os) (with_value frame o.variable.name value)
unfolding passes entered
bound_next inner q test env o os frame value h = by o.left refl h
  where
    its : (r : Outcome) → (r >>= λ v. Ok (Some v)) ≡ Ok (Some value) → r ≡ Ok value
    its (Ok v) e = cc
    its (Err other) e = cc

    by : (left : List Datum) → o.left ≡ left → value_first o.variable o.type left ≡ Ok (Some value) → searched inner q test env (o ∷ os) frame ≡ entered inner q o.behind test env (behind_first o ∷ os) (with_value frame o.variable.name value)
    by [] is e = cc
    by (x ∷ xs) is e =
        first_gone inner q test env o os frame x xs is
        ∙ ap (λ r. unless_decided q (r >>= λ v. quantified_over inner q o.behind test (binding (in_tuple env frame) o.variable.name v)) (searched inner q test env (behind_first o ∷ os) frame)) (its (typed o.variable.place o.type (x ∷ [])) e)
        ∙ ap (λ r. unless_decided q (quantified_over inner q o.behind test (binding (in_tuple env frame) o.variable.name value)) r) (sym (rebound inner q test env (behind_first o) os frame value))

-- behind the last binding the test stands
pub tested : (inner : Inner) (q : Quantifier) (test : BoundTree) (env : Environment) (os : List OpenBinding) (frame : Tuple)
    → entered inner q p.no_binds test env os frame ≡ unless_decided q (truth_of inner test (in_tuple env frame)) (searched inner q test env os frame)
unfolding entered
tested inner q test env os frame = refl

-- a binding opens
pub opened : (inner : Inner) (q : Quantifier) (variable : Placed Slot) (t : Option (Placed SeqType)) (source : BoundTree) (bs : PlainBinds Slot Target SeqType) (test : BoundTree) (env : Environment) (os : List OpenBinding) (frame : Tuple) (items : List Datum)
    → inner source (in_tuple env frame) ≡ Ok items
    → entered inner q (p.more_binds (p.bind_node variable t source) bs) test env os frame ≡ searched inner q test env (opening variable t bs frame items ∷ os) frame
unfolding entered searched
opened inner q variable t source bs test env os frame items is =
    let tests = quantified q (passes inner q variable t bs test (in_tuple env frame)) in
    ap (λ o. unless_decided q o (searched inner q test env os frame)) (over_next inner q variable t source bs test (in_tuple env frame) ∙ ap (λ o. o >>= tests) is)
    ∙ ap (λ f. unless_decided q (tests items) (searched inner q test env os f)) (sym (written_back frame variable.name))

pub not_opened : (inner : Inner) (q : Quantifier) (variable : Placed Slot) (t : Option (Placed SeqType)) (source : BoundTree) (bs : PlainBinds Slot Target SeqType) (test : BoundTree) (env : Environment) (os : List OpenBinding) (frame : Tuple) (fault : Fault)
    → inner source (in_tuple env frame) ≡ Err fault
    → entered inner q (p.more_binds (p.bind_node variable t source) bs) test env os frame ≡ Err fault
unfolding entered
not_opened inner q variable t source bs test env os frame fault is =
    ap (λ o. unless_decided q o (searched inner q test env os frame)) (over_next inner q variable t source bs test (in_tuple env frame) ∙ ap (λ o. o >>= quantified q (passes inner q variable t bs test (in_tuple env frame))) is)

-- a search that begins
pub begun : (inner : Inner) (q : Quantifier) (bs : PlainBinds Slot Target SeqType) (test : BoundTree) (env : Environment) (frame : Tuple)
    → frame ≡ env.frame → entered inner q bs test env [] frame ≡ quantified_over inner q bs test env
unfolding entered searched
begun inner q bs test env frame is =
    stands_alone q (quantified_over inner q bs test (in_tuple env frame)) ∙ ap (λ f. quantified_over inner q bs test (in_tuple env f)) is

-- ---- as the evaluator has them

pub none_innermost : innermost [] ≡ []
unfolding innermost
none_innermost = refl

pub innermost_last : (os : List Open) (o : Open) → innermost (os ++ o ∷ []) ≡ open_of o ∷ innermost os
unfolding innermost
innermost_last [] o = refl
innermost_last (x ∷ os) o = ap (λ os. os ++ open_of x ∷ []) (innermost_last os o)

-- no item is left
pub none_taken : (xs : List Item) (items : List Datum) (n : ℕ) → datums xs ≡ items → length xs ≤ n → drop n items ≡ []
none_taken xs items n is h = ap (drop n) (sym is) ∙ drop-map datum n xs ∙ ap (map datum) (drop_all n xs h)

-- the items that are left, where one is there
pub at_taken : (xs : List Item) (items : List Datum) (n : ℕ) (x : Item) → datums xs ≡ items → n < length xs → x ≡ get_or xs n x
    → drop n items ≡ datum x ∷ drop (n + 1) items
at_taken xs items n x is h at =
    ap (drop n) (sym is) ∙ drop-map datum n xs ∙ ap (map datum) (drop-cons xs n x h)
    ∙ ap (λ y. datum y ∷ map datum (drop (suc n) xs)) (sym at)
    ∙ ap (λ ys. datum x ∷ ys) (ap (λ k. map datum (drop k xs)) (sym (add-one n)) ∙ sym (drop-map datum (n + 1) xs) ∙ ap (drop (n + 1)) is)

-- ---- faults

pub fails_along : {A : Type 0} (f : EvalFault) (a b : OrFault A) → a ≡ b → FailsAs f b → FailsAs f a
fails_along {A = A} f a b e h = subst (λ (o : OrFault A). FailsAs f o) (sym e) h

pub fails_through : {A B : Type 0} (f : EvalFault) (o : OrFault A) (k : A → OrFault B) → FailsAs f o → FailsAs f (o >>= k)
fails_through (Raised fault) o k h = ap (λ r. r >>= k) h
fails_through NoMemory o k h = tt

pub fails_search : (inner : Inner) (q : Quantifier) (test : BoundTree) (env : Environment) (o : OpenBinding) (os : List OpenBinding) (frame : Tuple) (f : EvalFault)
    → FailsAs f (first_value o) → FailsAs f (searched inner q test env (o ∷ os) frame)
fails_search inner q test env o os frame (Raised fault) h = faulted inner q test env o os frame fault h
fails_search inner q test env o os frame NoMemory h = tt

-- ---- bindings as the evaluator has them

abbrev pub BoundBind : Type 0
BoundBind = Bind Slot SeqType (Expr Slot Target SeqType)

pub opens_first : (inner : Inner) (q : Quantifier) (test : BoundTree) (env : Environment) (binds rest : List BoundBind) (bind : BoundBind) (os next : List OpenBinding) (seen slots later : List Value) (items : List Datum)
    → seen ≡ slots → binds ≡ bind ∷ rest → inner (bound_tree bind.source) (in_tuple env (tuple_of seen)) ≡ Ok items
    → next ≡ opening bind.variable bind.of (bound_binds rest) (tuple_of slots) items ∷ os → later ≡ slots
    → entered inner q (bound_binds binds) test env os (tuple_of slots) ≡ searched inner q test env next (tuple_of later)
opens_first inner q test env binds rest bind os next seen slots later items same is gives opens kept =
    ap (λ bs. entered inner q (bound_binds bs) test env os (tuple_of slots)) is
    ∙ opened inner q bind.variable bind.of (bound_tree bind.source) (bound_binds rest) test env os (tuple_of slots) items (ap (λ l. inner (bound_tree bind.source) (in_tuple env (tuple_of l))) (sym same) ∙ gives)
    ∙ ap (λ l. searched inner q test env l (tuple_of slots)) (sym opens)
    ∙ ap (λ l. searched inner q test env next (tuple_of l)) (sym kept)

pub fails_first : (inner : Inner) (q : Quantifier) (test : BoundTree) (env : Environment) (binds rest : List BoundBind) (bind : BoundBind) (os : List OpenBinding) (f : EvalFault) (seen slots : List Value)
    → seen ≡ slots → binds ≡ bind ∷ rest → FailsAs f (inner (bound_tree bind.source) (in_tuple env (tuple_of seen)))
    → FailsAs f (entered inner q (bound_binds binds) test env os (tuple_of slots))
fails_first inner q test env binds rest bind os (Raised fault) seen slots same is h =
    ap (λ bs. entered inner q (bound_binds bs) test env os (tuple_of slots)) is
    ∙ not_opened inner q bind.variable bind.of (bound_tree bind.source) (bound_binds rest) test env os (tuple_of slots) fault (ap (λ l. inner (bound_tree bind.source) (in_tuple env (tuple_of l))) (sym same) ∙ h)
fails_first inner q test env binds rest bind os NoMemory seen slots same is h = tt

pub raises_none : {B : Type 0} (A : Type 0) (f : EvalFault) (x : B) → FailsAs f (Ok x) → RaisesNone {A = A} (Err f)
raises_none A (Raised fault) x h = cc
raises_none A NoMemory x h = tt

pub want_only : (A : Type 0) (f : EvalFault) (o : OrFault Bool) → RaisesNone {A = A} (Err f) → FailsAs f o
want_only A (Raised fault) o h = absurd h
want_only A NoMemory o h = tt

-- ---- moves as the evaluator makes them

-- the test, where no binding is left
tests_here : (inner : Inner) (q : Quantifier) (test : BoundTree) (env : Environment) (binds : List BoundBind) (os : List OpenBinding) (slots seen : List Value)
    → length binds < 1 → seen ≡ slots
    → entered inner q (bound_binds binds) test env os (tuple_of slots) ≡ unless_decided q (truth_of inner test (in_tuple env (tuple_of seen))) (searched inner q test env os (tuple_of slots))
tests_here inner q test env [] os slots seen none same =
    tested inner q test env os (tuple_of slots)
    ∙ ap (λ l. unless_decided q (truth_of inner test (in_tuple env (tuple_of l))) (searched inner q test env os (tuple_of slots))) (sym same)
tests_here inner q test env (x ∷ binds) os slots seen none same = absurd (omega arith)

pub fails_test : (inner : Inner) (q : Quantifier) (test : BoundTree) (env : Environment) (binds : List BoundBind) (os : List OpenBinding) (slots seen : List Value) (f : EvalFault)
    → length binds < 1 → seen ≡ slots → FailsAs f (truth_of inner test (in_tuple env (tuple_of seen)))
    → FailsAs f (entered inner q (bound_binds binds) test env os (tuple_of slots))
fails_test inner q test env binds os slots seen (Raised fault) none same h =
    tests_here inner q test env binds os slots seen none same ∙ ap (λ o. unless_decided q o (searched inner q test env os (tuple_of slots))) h
fails_test inner q test env binds os slots seen NoMemory none same h = tt

by_test : (q : Quantifier) (holds b : Bool) (rest : OrFault Bool) → b ≡ decides q holds → unless_decided q (Ok holds) rest ≡ (if b then Ok holds else rest)
by_test q holds b rest e = ap (λ t. if t then Ok holds else rest) (sym e)

pub test_decides : (inner : Inner) (q : Quantifier) (test : BoundTree) (env : Environment) (binds : List BoundBind) (os : List OpenBinding) (slots seen : List Value) (holds b : Bool)
    → length binds < 1 → seen ≡ slots → truth_of inner test (in_tuple env (tuple_of seen)) ≡ Ok holds → b ≡ decides q holds → b ≡ true
    → entered inner q (bound_binds binds) test env os (tuple_of slots) ≡ Ok holds
test_decides inner q test env binds os slots seen holds b none same h is e =
    let rest = searched inner q test env os (tuple_of slots) in
    tests_here inner q test env binds os slots seen none same ∙ ap (λ o. unless_decided q o rest) h ∙ by_test q holds b rest is ∙ ap (λ (t : Bool). if t then Ok holds else rest) e

pub test_passes : (inner : Inner) (q : Quantifier) (test : BoundTree) (env : Environment) (binds : List BoundBind) (os : List OpenBinding) (slots seen : List Value) (holds b : Bool)
    → length binds < 1 → seen ≡ slots → truth_of inner test (in_tuple env (tuple_of seen)) ≡ Ok holds → b ≡ decides q holds → b ≡ false
    → entered inner q (bound_binds binds) test env os (tuple_of slots) ≡ searched inner q test env os (tuple_of slots)
test_passes inner q test env binds os slots seen holds b none same h is e =
    let rest = searched inner q test env os (tuple_of slots) in
    tests_here inner q test env binds os slots seen none same ∙ ap (λ o. unless_decided q o rest) h ∙ by_test q holds b rest is ∙ ap (λ (t : Bool). if t then Ok holds else rest) e

pub closes_search : (inner : Inner) (q : Quantifier) (test : BoundTree) (env : Environment) (o later : OpenBinding) (os next : List OpenBinding) (frame new : Tuple)
    → first_value o ≡ Ok None → later ≡ behind_first o → next ≡ os → new ≡ with_value frame later.variable.name later.before
    → searched inner q test env (o ∷ os) frame ≡ searched inner q test env next new
closes_search inner q test env o later os next frame new h is same writes =
    closed inner q test env o os frame h
    ∙ ap (λ (b : OpenBinding). searched inner q test env os (with_value frame b.variable.name b.before)) (sym is)
    ∙ ap (searched inner q test env os) (sym writes)
    ∙ ap (λ l. searched inner q test env l new) (sym same)

pub binds_search : (inner : Inner) (q : Quantifier) (test : BoundTree) (env : Environment) (o later : OpenBinding) (os next : List OpenBinding) (frame new : Tuple) (value : List Datum) (bs : PlainBinds Slot Target SeqType) (r : Result (Option Bool) EvalFault) (after : OrFault Bool)
    → first_value o ≡ Ok (Some value) → later ≡ behind_first o → bs ≡ later.behind → next ≡ later ∷ os → new ≡ with_value frame later.variable.name value
    → Moves r (entered inner q bs test env next new) after
    → Moves r (searched inner q test env (o ∷ os) frame) after
binds_search inner q test env o later os next frame new value bs r after h is rest same writes m =
    let e : entered inner q bs test env next new ≡ searched inner q test env (o ∷ os) frame =
    ap (λ l. entered inner q l test env next new) rest
    ∙ ap (λ l. entered inner q later.behind test env l new) same
    ∙ ap (entered inner q later.behind test env (later ∷ os)) writes
    ∙ ap (λ (b : OpenBinding). entered inner q b.behind test env (b ∷ os) (with_value frame b.variable.name value)) is
    ∙ sym (bound_next inner q test env o os frame value h) in
    subst (λ (t : OrFault Bool). Moves r t after) e m

-- a search that goes on after a move
pub goes_on : (r : Result Bool EvalFault) (before after : OrFault Bool) → before ≡ after → Gives (λ (b : Bool). b) r after → Gives (λ (b : Bool). b) r before
goes_on r before after e h = subst (λ (o : OrFault Bool). Gives (λ (b : Bool). b) r o) (sym e) h

-- a whole quantifier
pub whole : (inner : Inner) (q : Quantifier) (bs : PlainBinds Slot Target SeqType) (test : BoundTree) (env : Environment) (opens : List Open) (frame : Tuple) (r : Result Bool EvalFault)
    → opens ≡ [] → told env.frame ≡ told frame → Gives (λ (b : Bool). b) r (entered inner q bs test env (innermost opens) frame)
    → Gives (λ (b : Bool). b) r (quantified_over inner q bs test env)
whole inner q bs test env opens frame r none same h =
    let is : env.frame ≡ frame = cc in
    goes_on r _ _ (sym (ap (λ l. entered inner q bs test env l frame) (ap innermost none ∙ none_innermost) ∙ begun inner q bs test env frame (sym is))) h

-- a binding that is opened, as it is put on the list
pub open_new : (bind : Bor BoundBind) (rest : Bor (List BoundBind)) (before items : Value) (os : List OpenBinding) (seen slots : List Value)
    → told (slot_value (tuple_of seen) bind.now.variable.name) ≡ told (items_of before) → seen ≡ slots
    → open_of (record { bind = bind; rest = rest; before = before; items = items; taken = 0 }) ∷ os
    ≡ opening bind.now.variable bind.now.of (bound_binds rest.now) (tuple_of slots) (items_of items) ∷ os
unfolding open_of
open_new bind rest before items os seen slots h same =
    let is : slot_value (tuple_of slots) bind.now.variable.name ≡ items_of before = ap (λ l. slot_value (tuple_of l) bind.now.variable.name) (sym same) ∙ (cc) in
    ap (λ b. opened_as b ∷ os) (sym is)
  where
    opened_as : List Datum → OpenBinding
    opened_as b = record { variable = bind.now.variable; type = bind.now.of; behind = bound_binds rest.now; before = b; left = items_of items }

pub ends : (inner : Inner) (q : Quantifier) (test : BoundTree) (env : Environment) (bindings : List Open) (frame : Tuple) (holds : Bool)
    → length bindings ≡ 0 → holds ≡ undecided q → searched inner q test env (innermost bindings) frame ≡ Ok holds
ends inner q test env [] frame holds none is =
    ap (λ l. searched inner q test env l frame) none_innermost ∙ none_open inner q test env frame ∙ ap told (sym is)
ends inner q test env (b ∷ bindings) frame holds none is = absurd (omega arith)

-- the innermost binding is taken from the list
pub next_is : (inner : Inner) (q : Quantifier) (test : BoundTree) (env : Environment) (bindings rest : List Open) (b : Open) (frame : Tuple)
    → bindings ≡ rest ++ b ∷ [] → searched inner q test env (innermost bindings) frame ≡ searched inner q test env (open_of b ∷ innermost rest) frame
next_is inner q test env bindings rest b frame is = ap (λ l. searched inner q test env l frame) (ap innermost is ∙ innermost_last rest b)

pub decided_by : (o : Option Bool) (holds : Bool) (before after : OrFault Bool) → Moves (Ok o) before after → o ≡ Some holds → before ≡ Ok holds
decided_by (Some h) holds before after m e = let same : h ≡ holds = cc in m ∙ ap told same
decided_by None holds before after m e = cc

pub moved_by : (o : Option Bool) (before after : OrFault Bool) → Moves (Ok o) before after → o ≡ None → before ≡ after
moved_by (Some h) before after m e = cc
moved_by None before after m e = m

-- ---- how many moves are left

moves_there : (bs : PlainBinds Slot Target SeqType) → 0 < most_moves bs
moves_there p.no_binds = omega arith
moves_there (p.more_binds b bs) =
    let h : 0 < most_moves bs = moves_there bs in mul-pos {m = 2 ^ 64 + 1} {n = most_moves bs} (omega arith) h

pub fewer_closed : (o : OpenBinding) (os : List OpenBinding) → moves_left os < moves_left (o ∷ os)
unfolding moves_left
fewer_closed o os =
    let h : 0 < (length o.left + 1) * most_moves o.behind = mul-pos {m = length o.left + 1} {n = most_moves o.behind} (omega arith) (moves_there o.behind) in
    omega arith

one_fewer : (o : OpenBinding) (os : List OpenBinding) → 0 < length o.left → most_moves o.behind + moves_left (behind_first o ∷ os) ≡ moves_left (o ∷ os)
unfolding moves_left
one_fewer o os h =
    let n = length o.left in
    let m = most_moves o.behind in
    let d : length (drop 1 o.left) + 1 ≡ n = omega (arith, length-drop 1 o.left) in
    let e : (n + 1) * m ≡ n * m + 1 * m = add-mul n 1 m in
    let f : (length (drop 1 o.left) + 1) * m ≡ n * m = ap (λ k. k * m) d in
    omega arith

some_left : (o : OpenBinding) (value : List Datum) → first_value o ≡ Ok (Some value) → 0 < length o.left
some_left o value h = by o.left h
  where
    by : (left : List Datum) → value_first o.variable o.type left ≡ Ok (Some value) → 0 < length left
    by [] e = cc
    by (x ∷ xs) e = omega arith

pub fewer_bound : (o later : OpenBinding) (os next : List OpenBinding) (value : List Datum) (bs : PlainBinds Slot Target SeqType) (left : ℕ)
    → first_value o ≡ Ok (Some value) → later ≡ behind_first o → bs ≡ later.behind → next ≡ later ∷ os
    → left < most_moves bs + moves_left next → left < moves_left (o ∷ os)
fewer_bound o later os next value bs left h is rest same fewer =
    let e : most_moves bs + moves_left next ≡ most_moves o.behind + moves_left (behind_first o ∷ os) =
    ap (λ l. most_moves l + moves_left next) rest ∙ ap (λ l. most_moves later.behind + moves_left l) same ∙ ap (λ (b : OpenBinding). most_moves b.behind + moves_left (b ∷ os)) is in
    omega (arith, one_fewer o os (some_left o value h))

pub fewer_tested : (binds : List BoundBind) (os : List OpenBinding) → length binds < 1 → moves_left os < most_moves (bound_binds binds) + moves_left os
fewer_tested [] os h = omega arith
fewer_tested (b ∷ binds) os h = absurd (omega arith)

pub fewer_opened : (binds rest : List BoundBind) (bind : BoundBind) (os next : List OpenBinding) (frame : Tuple) (items : List Datum)
    → binds ≡ bind ∷ rest → next ≡ opening bind.variable bind.of (bound_binds rest) frame items ∷ os → length items < 2 ^ 64
    → moves_left next < most_moves (bound_binds binds) + moves_left os
unfolding moves_left
fewer_opened binds rest bind os next frame items is opens h =
    let m = most_moves (bound_binds rest) in
    let less : (length items + 1) * m < (2 ^ 64 + 1) * m = mul-lt-mul_of_pos_right {m = length items + 1} {n = 2 ^ 64 + 1} {k = m} (omega arith) (moves_there (bound_binds rest)) in
    let a : moves_left next ≡ (length items + 1) * m + moves_left os = ap moves_left opens in
    let b : most_moves (bound_binds binds) ≡ (2 ^ 64 + 1) * m = ap (λ l. most_moves (bound_binds l)) is in
    omega arith

pub fewer_if : (r : Result (Option Bool) EvalFault) (left a b : ℕ) → (left < a → left < b) → IfOk r (λ _. left < a) → IfOk r (λ _. left < b)
fewer_if (Ok x) left a b f h = f h
fewer_if (Err fault) left a b f h = tt

pub fewer_next : (bindings rest : List Open) (b : Open) (left : ℕ) → bindings ≡ rest ++ b ∷ [] → left < moves_left (open_of b ∷ innermost rest) → left < moves_left (innermost bindings)
fewer_next bindings rest b left is h =
    let e : moves_left (innermost bindings) ≡ moves_left (open_of b ∷ innermost rest) = ap moves_left (ap innermost is ∙ innermost_last rest b) in
    omega arith
