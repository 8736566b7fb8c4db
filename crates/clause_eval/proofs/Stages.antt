-- Clauses one behind the other.
use Rattle.std.proofs.Common.{◌≡◌, ◌<◌, ℕ, ◌+◌, List, [], ◌∷◌, ◌++◌, length, take, drop, get_or, Ok, refl, sym, ap, ◌∙◌}
use Rattle.std.proofs.lemmas.List.{drop_more}
use Rattle.seq_types.specs.declared.types.SeqType.{SeqType}
use Rattle.query_tree.specs.declared.bound.Slot.{Slot}
use Rattle.query_tree.specs.declared.bound.Target.{Target}
use Rattle.query_tree.specs.declared.clause.Clause.{Clause}
use Rattle.query_tree.specs.BoundViews.{bound_clause, bound_clauses}
use Rattle.query_tree.specs.Bound.{BoundTree}
use Rattle.query_tree.specs.Plain as p
use Rattle.query_tree.specs.Plain.{PlainClause}
use Rattle.query_tree.specs.Scoped.{clause_slots, and_slots}
use Rattle.query_meaning.specs.Environment.{Tuple, Environment, Inner}
use Rattle.query_meaning.specs.Clauses.{clause_value, each_tuple}
use Rattle.query_meaning.specs.Flwors.{with_slots, flwor_from}
use Rattle.query_meaning.specs.Outcome.{Outcome, ◌>>=◌, each_from}
use Rattle.clause_eval.specs.OneByOne.{IsSingle, left_at}
use Rattle.clause_eval.proofs.Ranges.{take_next, drop_next}

slots_after : (vs : List Slot) (cs : List (Clause Slot Target SeqType)) (c : Clause Slot Target SeqType) → and_slots vs (bound_clauses (cs ++ c ∷ [])) ≡ with_slots (and_slots vs (bound_clauses cs)) (bound_clause c)
slots_after vs [] c = refl
slots_after vs (d ∷ cs) c = slots_after (with_slots vs (bound_clause d)) cs c

pub slots_next : (cs : List (Clause Slot Target SeqType)) (c : Clause Slot Target SeqType) → clause_slots (bound_clauses (cs ++ c ∷ [])) ≡ with_slots (clause_slots (bound_clauses cs)) (bound_clause c)
slots_next cs c = slots_after [] cs c

-- the clauses that look at one tuple at a time
pub single_is : (inner : Inner) (number : ℕ) (stream : List Slot) (c : PlainClause Slot Target SeqType) (env : Environment) (tuples : List Tuple) → IsSingle c → clause_value inner number stream c env tuples ≡ each_from (left_at number inner c env) 1 tuples
unfolding left_at each_tuple
single_is inner number stream (p.for_clause variable t allowing_empty at source) env tuples h = refl
single_is inner number stream (p.let_clause variable t e) env tuples h = refl
single_is inner number stream (p.where_clause place test) env tuples h = refl
single_is inner number stream (p.count_clause place variable) env tuples h = refl
single_is inner number stream (p.group_clause place keys) env tuples h = absurd h
single_is inner number stream (p.order_clause place stable keys) env tuples h = absurd h

-- one more clause
pub flwor_next : (inner : Inner) (n : ℕ) (cs : List (Clause Slot Target SeqType)) (i : ℕ) (c : Clause Slot Target SeqType) (rest : List (Clause Slot Target SeqType)) (body : BoundTree) (env : Environment) (tuples : List Tuple) → drop i cs ≡ c ∷ rest
    → flwor_from inner n (clause_slots (bound_clauses (take i cs))) (bound_clauses (drop i cs)) body env tuples
    ≡ (clause_value inner n (clause_slots (bound_clauses (take i cs))) (bound_clause c) env tuples >>= λ next. flwor_from inner (n + 1) (clause_slots (bound_clauses (take (i + 1) cs))) (bound_clauses (drop (i + 1) cs)) body env next)
flwor_next inner n cs i c rest body env tuples h =
    let stream : with_slots (clause_slots (bound_clauses (take i cs))) (bound_clause c) ≡ clause_slots (bound_clauses (take (i + 1) cs)) = sym (ap (λ ds. clause_slots (bound_clauses ds)) (take_next cs i c rest h) ∙ slots_next (take i cs) c) in
    let left : rest ≡ drop (i + 1) cs = sym (drop_next cs i c rest h) in
    ap (λ ds. flwor_from inner n (clause_slots (bound_clauses (take i cs))) (bound_clauses ds) body env tuples) h
    ∙ (λ j. clause_value inner n (clause_slots (bound_clauses (take i cs))) (bound_clause c) env tuples >>= λ next. flwor_from inner (n + 1) (stream j) (bound_clauses (left j)) body env next)

-- one more turn of the loop over the clauses
pub flwor_turn : (inner : Inner) (n i : ℕ) (cs before : List (Clause Slot Target SeqType)) (c : Clause Slot Target SeqType) (body : BoundTree) (env : Environment) (tuples next : List Tuple) (all : Outcome)
    → clause_value inner n (clause_slots (bound_clauses before)) (bound_clause c) env tuples ≡ Ok next
    → flwor_from inner n (clause_slots (bound_clauses (take i cs))) (bound_clauses (drop i cs)) body env tuples ≡ all
    → i < length cs → c ≡ get_or cs i c → before ≡ take i cs
    → flwor_from inner (n + 1) (clause_slots (bound_clauses (take (i + 1) cs))) (bound_clauses (drop (i + 1) cs)) body env next ≡ all
flwor_turn inner n i cs before c body env tuples next all gives so_far lt is taken =
    let left : drop i cs ≡ c ∷ drop (i + 1) cs = drop_more cs i c lt ∙ ap (λ d. d ∷ drop (i + 1) cs) (sym is) in
    let given : clause_value inner n (clause_slots (bound_clauses (take i cs))) (bound_clause c) env tuples ≡ Ok next
    = ap (λ ds. clause_value inner n (clause_slots (bound_clauses ds)) (bound_clause c) env tuples) (sym taken) ∙ gives in
    sym (ap (λ o. o >>= λ ts. flwor_from inner (n + 1) (clause_slots (bound_clauses (take (i + 1) cs))) (bound_clauses (drop (i + 1) cs)) body env ts) given)
    ∙ sym (flwor_next inner n cs i c (drop (i + 1) cs) body env tuples left) ∙ so_far
