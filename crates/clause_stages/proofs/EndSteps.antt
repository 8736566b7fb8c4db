-- `return`, `count` and `group by` are steps.
use Rattle.std.proofs.Common.{◌≡◌, ℕ, ◌+◌, List, [], ◌∷◌, Result, Ok, Err, refl, sym, ap, ap₂, ◌∙◌, arith}
use Rattle.item_tree.specs.declared.fault.Fault.{Fault}
use Rattle.seq_types.specs.declared.types.SeqType.{SeqType}
use Rattle.tuple_rows.specs.Keys.{Keyed}
use Rattle.query_tree.specs.declared.bound.Slot.{Slot}
use Rattle.query_tree.specs.declared.bound.Target.{Target}
use Rattle.query_tree.specs.declared.names.Placed.{Placed}
use Rattle.query_tree.specs.Bound.{BoundTree}
use Rattle.query_tree.specs.Plain as p
use Rattle.query_tree.specs.Plain.{PlainGroupVars}
use Rattle.query_meaning.specs.Outcome as m
use Rattle.query_meaning.specs.Outcome.{OrFault}
use Rattle.query_meaning.specs.Environment.{Tuple, Environment, Inner}
use Rattle.query_meaning.specs.Clauses.{each_tuple, count_tuples}
use Rattle.query_meaning.specs.Groups.{group_keys, keyed_tuple, group_tuples}
use Rattle.query_meaning.specs.Flwors.{return_value}
use Rattle.stage_laws.specs.Runs as run
use Rattle.stage_laws.specs.Runs.{Met}
use Rattle.stage_laws.specs.Stages.{ended, narrow}
use Rattle.stage_laws.specs.Ends.{appended, numbered_from, stage}
use Rattle.stage_laws.specs.Laws.{Falls}
use Rattle.stage_laws.proofs.Steps.{ended_falls, narrow_falls}
use Rattle.clause_stages.specs.Steps.{marked}
use Rattle.clause_stages.specs.Ends.{returned, items_step, let_through, numbers_step, with_number, numbered, group_keyed, groups_step, grouped}
use Rattle.clause_stages.specs.Laws.{clause_end, return_end, EndsAreSteps}
use Rattle.clause_stages.proofs.Marking.{meant, meant_each, then_finished, then_itself}

-- ---- each gives the same

same_each : {A B : Type 0} (f g : ℕ → A → OrFault (List B)) (n : ℕ) (xs : List A) → ((n : ℕ) (x : A) → f n x ≡ g n x) → m.each_from f n xs ≡ m.each_from g n xs
same_each f g n [] h = refl
same_each f g n (x ∷ xs) h = ap₂ m.joined (h n x) (same_each f g (n + 1) xs h)

-- ---- `return`

items_meant : (K : Type 0) (inner : Inner) (body : BoundTree) (env : Environment) (number : ℕ) (stream : List Slot) (ts : List Tuple)
    → return_end inner body env number stream ts ≡ stage marked (λ items. Ok items) (items_step {K = K} inner body env number) ts
unfolding return_value
items_meant K inner body env number stream ts =
    meant_each K number (returned inner body env) 1 ts
    ∙ then_itself (meant (run.each_from {K = K} number (returned inner body env) 1 ts))
    ∙ then_finished (run.each_from {K = K} number (returned inner body env) 1 ts) (λ items. Ok items)

-- ---- `count`

all_through : (K : Type 0) (number n : ℕ) (ts : List Tuple) → run.each_from {K = K} number let_through n ts ≡ Ok ts
all_through K number n [] = refl
all_through K number n (t ∷ ts) = ap (run.joined (Ok (t ∷ []))) (all_through K number (n + 1) ts)

counted : (number n : ℕ) (variable : Placed Slot) (ts : List Tuple)
    → m.each_from (λ n t. m.at_tuple number n (count_tuples variable n t)) n ts ≡ Ok (numbered_from (with_number variable) n ts)
unfolding count_tuples
counted number n variable [] = refl
counted number n variable (t ∷ ts) = ap (m.joined (Ok (with_number variable n t ∷ []))) (counted number (n + 1) variable ts)

numbers_meant : (K : Type 0) (inner : Inner) (place : ℕ) (variable : Placed Slot) (env : Environment) (number : ℕ) (stream : List Slot) (ts : List Tuple)
    → clause_end inner (p.count_clause place variable) env number stream ts ≡ stage marked (λ ts. Ok (numbered variable ts)) (numbers_step {K = K} number) ts
unfolding each_tuple
numbers_meant K inner place variable env number stream ts =
    counted number 1 variable ts
    ∙ sym (ap (λ (q : Result (List Tuple) (Met K Fault)). m.◌>>=◌ (meant q) (λ ts. Ok (numbered variable ts))) (all_through K number 1 ts))
    ∙ then_finished (run.each_from {K = K} number let_through 1 ts) (λ ts. Ok (numbered variable ts))

-- ---- `group by`

keyed_inside : (number n : ℕ) (o : OrFault Keyed) → m.◌>>=◌ (m.at_tuple number n o) (λ keyed. Ok (keyed ∷ [])) ≡ m.at_tuple number n (m.◌>>=◌ o (λ keyed. Ok (keyed ∷ [])))
keyed_inside number n (Ok keyed) = refl
keyed_inside number n (Err fault) = refl

keyed_is : (inner : Inner) (number : ℕ) (keys : PlainGroupVars Slot Target SeqType) (env : Environment) (n : ℕ) (t : Tuple) → keyed_tuple inner number keys env n t ≡ m.at_tuple number n (group_keyed inner keys env t)
unfolding keyed_tuple
keyed_is inner number keys env n t = keyed_inside number n (group_keys inner keys env t)

groups_meant : (K : Type 0) (inner : Inner) (place : ℕ) (keys : PlainGroupVars Slot Target SeqType) (env : Environment) (number : ℕ) (stream : List Slot) (ts : List Tuple)
    → clause_end inner (p.group_clause place keys) env number stream ts ≡ stage marked (λ keyed. Ok (grouped keys env stream keyed)) (groups_step {K = K} inner keys env number) ts
unfolding group_tuples
groups_meant K inner place keys env number stream ts =
    ap (λ (q : OrFault (List Keyed)). m.◌>>=◌ q (λ keyed. Ok (grouped keys env stream keyed)))
    (same_each (keyed_tuple inner number keys env) (λ n t. m.at_tuple number n (group_keyed inner keys env t)) 1 ts (keyed_is inner number keys env) ∙ meant_each K number (group_keyed inner keys env) 1 ts)
    ∙ then_finished (run.each_from {K = K} number (group_keyed inner keys env) 1 ts) (λ keyed. Ok (grouped keys env stream keyed))

-- ---- they fall into pieces

one_falls : {A B : Type 0} (K : Type 0) (number : ℕ) (f : A → OrFault (List B)) → Falls {K = K} number number [] appended (narrow number f ended)
one_falls K number f = narrow_falls number (number + 1) number [] appended f ended (ended_falls (number + 1) number) (omega arith) (omega arith)

pub ends_are_steps : (K : Type 0) → EndsAreSteps K
ends_are_steps K = record {
  tuples = λ number stream ts. refl;
  items = λ inner body env number stream ts. items_meant K inner body env number stream ts;
  numbers = λ inner place variable env number stream ts. numbers_meant K inner place variable env number stream ts;
  groups = λ inner place keys env number stream ts. groups_meant K inner place keys env number stream ts;
  tuples_fall = λ first last. ended_falls first last;
  items_fall = λ inner body env number. one_falls K number (returned inner body env);
  numbers_fall = λ number. one_falls K number let_through;
  groups_fall = λ inner keys env number. one_falls K number (group_keyed inner keys env);
}
