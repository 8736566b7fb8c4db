-- What reads no item comes to the same for every item, and what it keeps.
use Rattle.std.proofs.Common.{◌≡◌, ℕ, zero, suc, ◌+◌, ◌<◌, ℤ, Bool, true, false, if◌then◌else◌, List, [], ◌∷◌, length, Result, Ok, Err, refl, sym, ap, subst, ◌∙◌, arith}
use Rattle.std.proofs.lemmas.Int.{ints}
use Rattle.std.specs.Prelude.{Vec}
use Rattle.std.specs.declared.alloc.Global.{Global}
use Rattle.std.specs.declared.boxed.Box.{Box}
use Rattle.atom_ops.specs.Arithmetic.{arithmetic}
use Rattle.item_tree.specs.Datum.{Datum, integer, decimal}
use Rattle.item_tree.specs.Item.{datums}
use Rattle.item_tree.specs.declared.item.Item.{Item}
use Rattle.item_tree.specs.declared.fault.Fault.{Fault}
use Rattle.num_fixed.specs.declared.number.Number.{Number}
use Rattle.num_fixed.specs.declared.number.Number.TheVariants.{Int, Dec}
use Rattle.seq_types.specs.declared.types.SeqType.{SeqType}
use Rattle.value_rules.specs.Operands.{one_number}
use Rattle.query_tree.specs.declared.bound.Slot.{Slot}
use Rattle.query_tree.specs.declared.bound.Slot.TheVariants as slot
use Rattle.query_tree.specs.declared.bound.Target.{Target}
use Rattle.query_tree.specs.declared.expr.Expr.{Expr}
use Rattle.query_tree.specs.declared.expr.Kind.TheVariants as kind
use Rattle.query_tree.specs.declared.part.Factor.{Factor}
use Rattle.query_tree.specs.declared.part.Term.{Term}
use Rattle.query_tree.specs.Bound.{BoundTree}
use Rattle.query_tree.specs.BoundViews.{bound_tree, bound_form, bound_factors, bound_terms}
use Rattle.query_tree.specs.Plain as p
use Rattle.query_tree.specs.Plain.{PlainFactors, PlainTerms}
use Rattle.query_tree.proofs.Layers.{tree_of-out, form_of-Int, form_of-Var, form_of-Product, form_of-Sum}
use Rattle.query_meaning.specs.Calls.{Program}
use Rattle.query_meaning.specs.declared.fault.EvalFault.{EvalFault}
use Rattle.query_meaning.specs.declared.fault.EvalFault.TheVariants.{Raised, NoMemory}
use Rattle.query_meaning.specs.declared.value.Value.{Value}
use Rattle.query_meaning.specs.inside.Gives.{FailsAs, Gives}
use Rattle.query_meaning.specs.inside.Views.{items_of}
use Rattle.query_meaning.specs.Outcome.{OrFault, Outcome, ◌>>=◌, at_place, joined, each_from}
use Rattle.query_meaning.specs.Environment.{Environment, Inner, with_item}
use Rattle.query_meaning.specs.Meaning.{eval, meaning}
use Rattle.query_meaning.specs.Operators.{with_term, with_terms, sum_value, with_factor, with_factors, product_value, sum_operation, product_operation, sequence_if}
use Rattle.query_meaning.specs.Paths.{is_position, item_at, keeps, kept, filtered}
use Rattle.expr_eval.specs.Fixed.{IsPlain, ArePlain, IsFixedTerm, AreFixedTerms, ReadsNoItem, kept_by}
use Rattle.expr_eval.proofs.TestSteps.{same_after}

abbrev pub told : {A : Type 0} → A → OrFault A
told x = Ok x

-- ---- as the evaluator has them

abbrev BoundExpr : Type 0
BoundExpr = Expr Slot Target SeqType

pub plain_integer : (e : BoundExpr) (value : ℤ) → e.kind ≡ kind.Int value → IsPlain (bound_tree e)
plain_integer e value is =
    subst IsPlain (sym (tree_of-out Slot Target SeqType e ∙ ap (p.tree_node e.place) (ap bound_form is ∙ form_of-Int Slot Target SeqType value))) tt

pub plain_variable : (e : BoundExpr) (variable : Slot) → e.kind ≡ kind.Var variable → IsPlain (bound_tree e)
plain_variable e variable is =
    subst IsPlain (sym (tree_of-out Slot Target SeqType e ∙ ap (p.tree_node e.place) (ap bound_form is ∙ form_of-Var Slot Target SeqType variable))) tt

pub plain_is_term : (t : BoundTree) → IsPlain t → IsFixedTerm t
plain_is_term (p.tree_node place (p.product_form first rest)) h = absurd h
plain_is_term (p.tree_node place _) h = h

pub term_is_fixed : (t : BoundTree) → IsFixedTerm t → ReadsNoItem t
term_is_fixed (p.tree_node place (p.sum_form first rest)) h = absurd h
term_is_fixed (p.tree_node place _) h = h

pub product_is_term : (e : BoundExpr) (first : Box BoundExpr Global) (rest : Vec (Factor BoundExpr) Global) (a : BoundExpr) (fs : List (Factor BoundExpr))
    → e.kind ≡ kind.Product first rest → a ≡ first.value → fs ≡ rest.items → IsPlain (bound_tree a) → ArePlain (bound_factors fs) → IsFixedTerm (bound_tree e)
product_is_term e first rest a fs is f r h k =
    subst IsFixedTerm (sym (tree_of-out Slot Target SeqType e ∙ ap (p.tree_node e.place) (ap bound_form is ∙ form_of-Product Slot Target SeqType first rest)))
    (subst (λ t. IsPlain (bound_tree t)) f h, subst (λ l. ArePlain (bound_factors l)) r k)

pub sum_is_fixed : (e : BoundExpr) (first : Box BoundExpr Global) (rest : Vec (Term BoundExpr) Global) (a : BoundExpr) (ts : List (Term BoundExpr))
    → e.kind ≡ kind.Sum first rest → a ≡ first.value → ts ≡ rest.items → IsFixedTerm (bound_tree a) → AreFixedTerms (bound_terms ts) → ReadsNoItem (bound_tree e)
sum_is_fixed e first rest a ts is f r h k =
    subst ReadsNoItem (sym (tree_of-out Slot Target SeqType e ∙ ap (p.tree_node e.place) (ap bound_form is ∙ form_of-Sum Slot Target SeqType first rest)))
    (subst (λ t. IsFixedTerm (bound_tree t)) f h, subst (λ l. AreFixedTerms (bound_terms l)) r k)

-- ---- what they come to

plain_same : (program : Program) (depth : ℕ) (t : BoundTree) → IsPlain t → (env : Environment) (x : Datum) → eval program depth t (with_item env x) ≡ eval program depth t env
unfolding meaning
plain_same program zero (p.tree_node place (p.int_form value)) h env x = refl
plain_same program (suc depth) (p.tree_node place (p.int_form value)) h env x = refl
plain_same program zero (p.tree_node place (p.var_form (slot.Local n))) h env x = refl
plain_same program (suc depth) (p.tree_node place (p.var_form (slot.Local n))) h env x = refl
plain_same program zero (p.tree_node place (p.var_form (slot.Global n))) h env x = refl
plain_same program (suc depth) (p.tree_node place (p.var_form (slot.Global n))) h env x = refl
plain_same program depth (p.tree_node place _) h env x = absurd h

factors_same : (program : Program) (depth : ℕ) (fs : PlainFactors Slot Target SeqType) → ArePlain fs → (env : Environment) (x : Datum) (value : List Datum)
    → with_factors (eval program depth) fs (with_item env x) value ≡ with_factors (eval program depth) fs env value
unfolding with_factor
factors_same program depth p.no_factors h env x value = refl
factors_same program depth (p.more_factors (p.factor_node op place e) fs) h env x value =
    ap (λ o. with_right o >>= with_factors (eval program depth) fs (with_item env x)) (plain_same program depth e h.0 env x)
    ∙ same_after (with_right (eval program depth e env)) (with_factors (eval program depth) fs (with_item env x)) (with_factors (eval program depth) fs env) (factors_same program depth fs h.1 env x)
  where
    with_right : Outcome → Outcome
    with_right o = o >>= λ right. at_place place (sequence_if (arithmetic (product_operation op) value right))

term_same : (program : Program) (depth : ℕ) (t : BoundTree) → IsFixedTerm t → (env : Environment) (x : Datum) → eval program depth t (with_item env x) ≡ eval program depth t env
unfolding meaning product_value
term_same program zero (p.tree_node place (p.product_form first rest)) h env x = refl
term_same program (suc depth) (p.tree_node place (p.product_form first rest)) h env x =
    ap (λ o. o >>= with_factors (eval program depth) rest (with_item env x)) (plain_same program depth first h.0 env x)
    ∙ same_after (eval program depth first env) (with_factors (eval program depth) rest (with_item env x)) (with_factors (eval program depth) rest env) (factors_same program depth rest h.1 env x)
term_same program depth (p.tree_node place form) h env x = plain_same program depth (p.tree_node place form) h env x

terms_same : (program : Program) (depth : ℕ) (ts : PlainTerms Slot Target SeqType) → AreFixedTerms ts → (env : Environment) (x : Datum) (value : List Datum)
    → with_terms (eval program depth) ts (with_item env x) value ≡ with_terms (eval program depth) ts env value
unfolding with_term
terms_same program depth p.no_terms h env x value = refl
terms_same program depth (p.more_terms (p.term_node op place e) ts) h env x value =
    ap (λ o. with_right o >>= with_terms (eval program depth) ts (with_item env x)) (term_same program depth e h.0 env x)
    ∙ same_after (with_right (eval program depth e env)) (with_terms (eval program depth) ts (with_item env x)) (with_terms (eval program depth) ts env) (terms_same program depth ts h.1 env x)
  where
    with_right : Outcome → Outcome
    with_right o = o >>= λ right. at_place place (sequence_if (arithmetic (sum_operation op) value right))

-- another item of `$$` gives the same
pub same_for_items : (program : Program) (depth : ℕ) (t : BoundTree) → ReadsNoItem t → (env : Environment) (x : Datum) → eval program depth t (with_item env x) ≡ eval program depth t env
unfolding meaning sum_value
same_for_items program zero (p.tree_node place (p.sum_form first rest)) h env x = refl
same_for_items program (suc depth) (p.tree_node place (p.sum_form first rest)) h env x =
    ap (λ o. o >>= with_terms (eval program depth) rest (with_item env x)) (term_same program depth first h.0 env x)
    ∙ same_after (eval program depth first env) (with_terms (eval program depth) rest (with_item env x)) (with_terms (eval program depth) rest env) (terms_same program depth rest h.1 env x)
same_for_items program depth (p.tree_node place form) h env x = term_same program depth (p.tree_node place form) h env x

-- ---- what is kept

-- a predicate that has this value for each item
pub kept_by_value : (inner : Inner) (place : ℕ) (test : BoundTree) (env : Environment) (value : List Datum) → ((x : Datum) → inner test (with_item env x) ≡ Ok value) → (n : ℕ) (xs : List Datum)
    → each_from (kept inner place test env) n xs ≡ each_from (kept_by place value) n xs
unfolding kept kept_by
kept_by_value inner place test env value h n [] = refl
kept_by_value inner place test env value h n (x ∷ xs) =
    ap (λ o. joined (o >>= λ v. at_place place (keeps n v) >>= λ keep. Ok (if keep then x ∷ [] else [])) (each_from (kept inner place test env) (n + 1) xs)) (h x)
    ∙ ap (joined (kept_by place value n x)) (kept_by_value inner place test env value h (n + 1) xs)

-- a predicate that faults for each item
pub kept_faults : (inner : Inner) (place : ℕ) (test : BoundTree) (env : Environment) (fault : Fault) → ((x : Datum) → inner test (with_item env x) ≡ Err fault) → (xs : List Datum)
    → 0 < length xs → each_from (kept inner place test env) 1 xs ≡ Err fault
unfolding kept
kept_faults inner place test env fault h [] some = absurd (omega arith)
kept_faults inner place test env fault h (x ∷ xs) some =
    ap (λ o. joined (o >>= λ v. at_place place (keeps 1 v) >>= λ keep. Ok (if keep then x ∷ [] else [])) (each_from (kept inner place test env) 2 xs)) (h x)

-- a number keeps the item at its position
number_keeps : (place : ℕ) (value : List Datum) (number : Number) (n : ℕ) (x : Datum) → one_number value ≡ Ok number
    → kept_by place value n x ≡ Ok (if is_position number n then x ∷ [] else [])
unfolding kept_by
number_keeps place (integer v ∷ []) number n x h = let is : Int v ≡ number = cc in ap (λ k. told (if is_position k n then x ∷ [] else [])) is
number_keeps place (decimal v ∷ []) number n x h = let is : Dec v ≡ number = cc in ap (λ k. told (if is_position k n then x ∷ [] else [])) is
number_keeps place [] number n x h = cc
number_keeps place (v ∷ w ∷ vs) number n x h = cc
number_keeps place (v ∷ []) number n x h = cc

only_one : (number : Number) (n k : ℕ) → is_position number n ≡ true → n < k → is_position number k ≡ false
only_one (Int m) n k h less = grind (arith, ints)
only_one (Dec m) n k h less = grind (arith, ints)

none_behind : (number : Number) (n k : ℕ) (xs : List Datum) → is_position number n ≡ true → n < k → item_at number k xs ≡ []
none_behind number n k [] h less = refl
none_behind number n k (x ∷ xs) h less =
    ap (λ (b : Bool). if b then x ∷ [] else item_at number (k + 1) xs) (only_one number n k h less) ∙ none_behind number n (k + 1) xs h (omega arith)

one_kept : (number : Number) (n : ℕ) (x : Datum) (xs : List Datum) (b : Bool) → is_position number n ≡ b
    → joined (told (if b then x ∷ [] else [])) (told (item_at number (n + 1) xs)) ≡ told (if b then x ∷ [] else item_at number (n + 1) xs)
one_kept number n x xs true h = ap (λ ys. told (x ∷ ys)) (none_behind number n (n + 1) xs h (omega arith))
one_kept number n x xs false h = refl

pub position_kept : (place : ℕ) (value : List Datum) (number : Number) (n : ℕ) (xs : List Datum) → one_number value ≡ Ok number
    → each_from (kept_by place value) n xs ≡ Ok (item_at number n xs)
position_kept place value number n [] h = refl
position_kept place value number n (x ∷ xs) h =
    ap (λ o. joined o (each_from (kept_by place value) (n + 1) xs)) (number_keeps place value number n x h)
    ∙ ap (joined (told (if is_position number n then x ∷ [] else []))) (position_kept place value number (n + 1) xs h)
    ∙ one_kept number n x xs (is_position number n) refl

-- ---- evaluated once

some_there : (xs : List Item) → 0 < length xs → 0 < length (datums xs)
some_there [] h = absurd (omega arith)
some_there (x ∷ xs) h = omega arith

pub once_faults : (program : Program) (depth : ℕ) (place : ℕ) (test : BoundTree) (env : Environment) (items : List Item) (f : EvalFault)
    → ReadsNoItem test → 0 < length items → FailsAs f (eval program depth test env) → FailsAs f (filtered (eval program depth) place test env (datums items))
unfolding filtered
once_faults program depth place test env items (Raised fault) fixed some h =
    kept_faults (eval program depth) place test env fault (λ x. same_for_items program depth test fixed env x ∙ h) (datums items) (some_there items some)
once_faults program depth place test env items NoMemory fixed some h = tt

pub once_given : (program : Program) (depth : ℕ) (place : ℕ) (test : BoundTree) (env : Environment) (items seen value : List Datum) (r : Result Value EvalFault)
    → ReadsNoItem test → eval program depth test env ≡ Ok value → seen ≡ value → Gives items_of r (each_from (kept_by place seen) 1 items)
    → Gives items_of r (filtered (eval program depth) place test env items)
unfolding filtered
once_given program depth place test env items seen value r fixed gives same h =
    let e : each_from (kept_by place seen) 1 items ≡ each_from (kept (eval program depth) place test env) 1 items =
    ap (λ v. each_from (kept_by place v) 1 items) same ∙ sym (kept_by_value (eval program depth) place test env value (λ x. same_for_items program depth test fixed env x ∙ gives) 1 items) in
    subst (λ (o : Outcome). Gives items_of r o) e h
