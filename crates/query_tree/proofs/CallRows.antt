-- The calls of some trees and the inputs of some queries, and the slots of some clauses.
use Rattle.std.proofs.Common.{◌≡◌, ℕ, pos, false, Some, None, List, [], ◌∷◌, refl}
use Rattle.std.specs.Prelude.{codes}
use Rattle.item_tree.specs.declared.functions.FnId.TheVariants.{Count}
use Rattle.seq_types.specs.declared.types.SeqType.{SeqType}
use Rattle.query_tree.specs.declared.bound.Slot.{Slot}
use Rattle.query_tree.specs.declared.bound.Slot.TheVariants.{Local, Global}
use Rattle.query_tree.specs.declared.bound.Target.{Target}
use Rattle.query_tree.specs.declared.bound.Target.TheVariants.{Built, Own, Lines}
use Rattle.query_tree.specs.declared.names.Placed.{Placed}
use Rattle.query_tree.specs.declared.operator.SumOp.TheVariants.{Plus}
use Rattle.query_tree.specs.Modules.{PlainVariable, PlainFunction}
use Rattle.query_tree.specs.Plain as p
use Rattle.query_tree.specs.Bound.{BoundTree}
use Rattle.query_tree.specs.Compiled.{BoundTrees}
use Rattle.query_tree.specs.Calls.{calls, module_calls}
use Rattle.query_tree.specs.Inputs.{input_names}
use Rattle.query_tree.specs.Scoped.{clause_slots}

abbrev at : {N : Type 0} → ℕ → N → Placed N
at place x = record { place = place; name = x }

abbrev one : BoundTree
one = p.tree_node 0 (p.int_form (pos 1))

-- a call at a place, of one argument
abbrev count : ℕ → BoundTree → BoundTree
count place e = p.tree_node place (p.call_form (Built Count) (p.more_trees e p.no_trees))

-- `json-lines` at a place
abbrev lines : ℕ → List (List ℕ) → BoundTree
lines place names = p.tree_node place (p.call_form (Lines names) p.no_trees)

abbrev sum : BoundTree → BoundTree → BoundTree
sum l r = p.tree_node 0 (p.sum_form l (p.more_terms (p.term_node Plus 0 r) p.no_terms))

-- count(count(1)) + count(1)
nested : calls (sum (count 0 (count 6 one)) (count 17 one)) ≡ at 0 (Built Count) ∷ at 6 (Built Count) ∷ at 17 (Built Count) ∷ []
nested = refl

-- for $x in count(1) where count(1) group by $k := count(1) order by count(1) count $c return count(1)
clauses : calls (p.tree_node 0 (p.flwor_form
    (p.more_clauses (p.for_clause (at 0 (Local 0)) None false None (count 1 one))
    (p.more_clauses (p.where_clause 0 (count 2 one))
    (p.more_clauses (p.group_clause 0 (p.more_group_vars (p.computed_group_var (at 0 (Local 1)) (count 3 one)) p.no_group_vars))
    (p.more_clauses (p.order_clause 0 false (p.more_order_keys (p.order_key_node (count 4 one) false false) p.no_order_keys))
    (p.more_clauses (p.count_clause 0 (at 0 (Local 2))) p.no_clauses))))) 0 (count 5 one)))
    ≡ at 1 (Built Count) ∷ at 2 (Built Count) ∷ at 3 (Built Count) ∷ at 4 (Built Count) ∷ at 5 (Built Count) ∷ []
clauses = refl

-- { count(1) : count(1) }, 1[count(1)].(count(1)), and switch (count(1)) case count(1) return count(1) default return count(1)
pairs : calls (p.tree_node 0 (p.object_form (p.more_pairs (p.computed_pair (count 1 one) 0 (count 2 one)) p.no_pairs))) ≡ at 1 (Built Count) ∷ at 2 (Built Count) ∷ []
pairs = refl

steps : calls (p.tree_node 0 (p.postfix_form one (p.more_steps (p.filter_step 0 (count 1 one)) (p.more_steps (p.field_step 0 (p.computed_lookup (count 2 one))) p.no_steps)))) ≡ at 1 (Built Count) ∷ at 2 (Built Count) ∷ []
steps = refl

choice : calls (p.tree_node 0 (p.switch_form (count 1 one) (p.more_cases (p.case_node (p.more_trees (count 2 one) p.no_trees) (count 3 one)) p.no_cases) (count 4 one))) ≡ at 1 (Built Count) ∷ at 2 (Built Count) ∷ at 3 (Built Count) ∷ at 4 (Built Count) ∷ []
choice = refl

abbrev variable : ℕ → BoundTree → PlainVariable Slot Target SeqType
variable place value = record { variable = at place (Global 0); type = None; value = value }

abbrev function : ℕ → BoundTree → PlainFunction Slot Target SeqType
function place body = record { function = at place (Own 0); params = []; type = None; body = body }

-- function, variable, function, variable, and the body
abbrev query : BoundTrees
query = record {
  variables = variable 20 (lines 21 (codes "b" ∷ codes "c" ∷ [])) ∷ variable 40 (lines 41 (codes "a" ∷ [])) ∷ [];
  functions = function 10 (lines 11 (codes "a" ∷ codes "b" ∷ [])) ∷ function 30 (count 31 (lines 32 (codes "d" ∷ codes "a" ∷ []))) ∷ [];
  body = sum (lines 50 (codes "c" ∷ [])) (lines 52 (codes "e" ∷ codes "e" ∷ []));
}

in_text_order : module_calls query
    ≡ at 11 (Lines (codes "a" ∷ codes "b" ∷ [])) ∷ at 21 (Lines (codes "b" ∷ codes "c" ∷ [])) ∷ at 31 (Built Count)
    ∷ at 32 (Lines (codes "d" ∷ codes "a" ∷ [])) ∷ at 41 (Lines (codes "a" ∷ [])) ∷ at 50 (Lines (codes "c" ∷ [])) ∷ at 52 (Lines (codes "e" ∷ codes "e" ∷ [])) ∷ []
in_text_order = refl

named_once : input_names query ≡ codes "a" ∷ codes "b" ∷ codes "c" ∷ codes "d" ∷ codes "e" ∷ []
named_once = refl

-- for $a at $b in 1 let $c := 1 group by $d := 1, $e := 1 where 1 count $f
bound : clause_slots
    (p.more_clauses (p.for_clause (at 0 (Local 0)) None false (Some (at 0 (Local 1))) one)
    (p.more_clauses (p.let_clause (at 0 (Local 2)) None one)
    (p.more_clauses (p.group_clause 0 (p.more_group_vars (p.computed_group_var (at 0 (Local 3)) one) (p.more_group_vars (p.computed_group_var (at 0 (Local 4)) one) p.no_group_vars)))
    (p.more_clauses (p.where_clause 0 one)
    (p.more_clauses (p.count_clause 0 (at 0 (Local 5))) p.no_clauses)))))
    ≡ Local 0 ∷ Local 1 ∷ Local 2 ∷ Local 3 ∷ Local 4 ∷ Local 5 ∷ []
bound = refl
