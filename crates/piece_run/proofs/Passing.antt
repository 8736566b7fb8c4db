-- The first clauses of a FLWOR, one after the other.
use Rattle.std.proofs.Common.{◌≡◌, ◌<◌, ℕ, ◌+◌, List, ◌∷◌, length, take, drop, get_or, Ok, Err, sym, ap, ◌∙◌}
use Rattle.std.proofs.lemmas.List.{drop_more}
use Rattle.item_tree.specs.declared.fault.Fault.{Fault}
use Rattle.seq_types.specs.declared.types.SeqType.{SeqType}
use Rattle.query_tree.specs.declared.bound.Slot.{Slot}
use Rattle.query_tree.specs.declared.bound.Target.{Target}
use Rattle.query_tree.specs.declared.clause.Clause.{Clause}
use Rattle.query_tree.specs.BoundViews.{bound_clause, bound_clauses}
use Rattle.query_tree.specs.Scoped.{clause_slots}
use Rattle.query_meaning.specs.Environment.{Tuple, Environment, Inner}
use Rattle.query_meaning.specs.Clauses.{clause_value}
use Rattle.query_meaning.specs.Flwors.{with_slots}
use Rattle.query_meaning.specs.Outcome.{OrFault, ◌>>=◌}
use Rattle.clause_eval.specs.NarrowRuns.{clauses_value}
use Rattle.clause_eval.proofs.Ranges.{take_next, drop_next}
use Rattle.clause_eval.proofs.Stages.{slots_next}

module _ (inner : Inner) (n : ℕ) (cs : List (Clause Slot Target SeqType)) (i : ℕ) (env : Environment) (tuples : List Tuple) where
  -- the clauses from this index on
  abbrev from : OrFault (List Tuple)
  from = clauses_value inner n (clause_slots (bound_clauses (take i cs))) (bound_clauses (drop i cs)) env tuples

  abbrev next_from : List Tuple → OrFault (List Tuple)
  next_from next = clauses_value inner (n + 1) (clause_slots (bound_clauses (take (i + 1) cs))) (bound_clauses (drop (i + 1) cs)) env next

  one_next : (c : Clause Slot Target SeqType) (rest : List (Clause Slot Target SeqType)) → drop i cs ≡ c ∷ rest
      → from ≡ (clause_value inner n (clause_slots (bound_clauses (take i cs))) (bound_clause c) env tuples >>= next_from)
  one_next c rest h =
      let stream : with_slots (clause_slots (bound_clauses (take i cs))) (bound_clause c) ≡ clause_slots (bound_clauses (take (i + 1) cs)) = sym (ap (λ ds. clause_slots (bound_clauses ds)) (take_next cs i c rest h) ∙ slots_next (take i cs) c) in
      let left : rest ≡ drop (i + 1) cs = sym (drop_next cs i c rest h) in
      ap (λ ds. clauses_value inner n (clause_slots (bound_clauses (take i cs))) (bound_clauses ds) env tuples) h
      ∙ (λ j. clause_value inner n (clause_slots (bound_clauses (take i cs))) (bound_clause c) env tuples >>= λ next. clauses_value inner (n + 1) (stream j) (bound_clauses (left j)) env next)

  module _ (c : Clause Slot Target SeqType) (all : OrFault (List Tuple)) (so_far : from ≡ all) (lt : i < length cs) (is : c ≡ get_or cs i c) where
    at : from ≡ (clause_value inner n (clause_slots (bound_clauses (take i cs))) (bound_clause c) env tuples >>= next_from)
    at = one_next c (drop (i + 1) cs) (drop_more cs i c lt ∙ ap (λ d. d ∷ drop (i + 1) cs) (sym is))

    -- one more turn of the loop over the clauses
    pub passing_turn : (next : List Tuple) → clause_value inner n (clause_slots (bound_clauses (take i cs))) (bound_clause c) env tuples ≡ Ok next → next_from next ≡ all
    passing_turn next gives = sym (ap (λ (r : OrFault (List Tuple)). r >>= next_from) gives) ∙ sym at ∙ so_far

    pub passing_fails : (fault : Fault) → clause_value inner n (clause_slots (bound_clauses (take i cs))) (bound_clause c) env tuples ≡ Err fault → all ≡ Err fault
    passing_fails fault gives = sym so_far ∙ at ∙ ap (λ (r : OrFault (List Tuple)). r >>= next_from) gives
