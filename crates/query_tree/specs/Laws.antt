-- Laws of the nesting and of the spine of trees, of their calls, and of the slots of clauses.
use Rattle.std.specs.Prelude.{◌≡◌, ℕ, ◌+◌, ◌*◌, ◌≤◌, max, true, List, [], ◌∷◌, ◌++◌, Option, fold}
use Rattle.std.specs.Option.{option_to_list}
use Rattle.std.specs.List.{flat_map}
use Rattle.seq_types.specs.declared.types.SeqType.{SeqType}
use Rattle.query_tree.specs.declared.bound.Slot.{Slot}
use Rattle.query_tree.specs.declared.bound.Target.{Target}
use Rattle.query_tree.specs.declared.names.Placed.{Placed}
use Rattle.query_tree.specs.declared.names.TypeName.{TypeName}
use Rattle.query_tree.specs.declared.operator.Quantifier.{Quantifier}
use Rattle.query_tree.specs.Plain as p
use Rattle.query_tree.specs.Plain.{PlainClause, PlainClauses, PlainBind, PlainCase, PlainTypeCase, PlainCatch, PlainPair, PlainStep, PlainTerm, MaybeTree}
use Rattle.query_tree.specs.NamedViews.{NamedTree}
use Rattle.query_tree.specs.Bound.{BoundTree, after_clauses}
use Rattle.query_tree.specs.Calls.{own_call, calls}
use Rattle.query_tree.specs.Scoped.{clause_slots}
use Rattle.query_tree.specs.Scopes.{Scope, with_slot}
use Rattle.query_tree.specs.Subtrees.{children, content_children, bind_children, case_children, type_case_children, catch_children, pair_children, term_children, clause_children}
use Rattle.query_tree.specs.Nesting.{nesting, greatest, step_nesting}
use Rattle.query_tree.specs.Spines.{spine, commas_apart}

abbrev pub Name : Type 0
Name = List ℕ

-- ---- what nesting counts

-- A form stands at a place.
abbrev pub form_at : ℕ → p.Form Name Name TypeName → NamedTree
form_at = p.tree_node

-- One form more than the deepest of these trees is nested.
abbrev pub IsFormOf : ℕ → List NamedTree → Type 0
IsFormOf depth trees = depth ≡ greatest nesting trees + 1

abbrev pub clauses_of : List (PlainClause Name Name TypeName) → PlainClauses Name Name TypeName
clauses_of = p.clauses_of Name Name TypeName

abbrev pub step_depth : PlainStep Name Name TypeName → ℕ
step_depth s = step_nesting s

-- Each of the thirteen forms that nest counts one more than the trees that it holds; an operator
-- adds nothing, and a step doesn't hold the expression before it.
pub record NestingCountsForms : Type 0 where
  pub of_flwor : (at place : ℕ) (cs : List (PlainClause Name Name TypeName)) (result : NamedTree)
      → IsFormOf (nesting (form_at at (p.flwor_form (clauses_of cs) place result)))
      (flat_map clause_children cs ++ result ∷ [])
  pub of_quantifier : (at : ℕ) (q : Quantifier) (bs : List (PlainBind Name Name TypeName))
      (test : NamedTree)
      → IsFormOf (nesting (form_at at (p.quant_form q (p.binds_of Name Name TypeName bs) test)))
      (flat_map bind_children bs ++ test ∷ [])
  pub of_switch : (at : ℕ) (operand : NamedTree) (cs : List (PlainCase Name Name TypeName))
      (default : NamedTree)
      → IsFormOf (nesting (form_at at
      (p.switch_form operand (p.cases_of Name Name TypeName cs) default)))
      (operand ∷ flat_map case_children cs ++ default ∷ [])
  pub of_typeswitch : (at : ℕ) (operand : NamedTree) (cs : List (PlainTypeCase Name Name TypeName))
      (variable : Option (Placed Name)) (default : NamedTree)
      → IsFormOf (nesting (form_at at
      (p.typeswitch_form operand (p.type_cases_of Name Name TypeName cs) variable default)))
      (operand ∷ flat_map type_case_children cs ++ default ∷ [])
  pub of_if : (at : ℕ) (condition when_true when_false : NamedTree)
      → IsFormOf (nesting (form_at at (p.if_form condition when_true when_false)))
      (condition ∷ when_true ∷ when_false ∷ [])
  pub of_try : (at : ℕ) (body : NamedTree) (cs : List (PlainCatch Name Name TypeName))
      → IsFormOf (nesting (form_at at (p.try_form body (p.catches_of Name Name TypeName cs))))
      (body ∷ flat_map catch_children cs)
  pub of_parentheses : (at : ℕ) (content : MaybeTree Name Name TypeName)
      → IsFormOf (nesting (form_at at (p.paren_form content))) (content_children content)
  pub of_object : (at : ℕ) (ps : List (PlainPair Name Name TypeName))
      → IsFormOf (nesting (form_at at (p.object_form (p.pairs_of Name Name TypeName ps))))
      (flat_map pair_children ps)
  pub of_merge : (at : ℕ) (content : MaybeTree Name Name TypeName)
      → IsFormOf (nesting (form_at at (p.merge_form content))) (content_children content)
  pub of_array : (at : ℕ) (content : MaybeTree Name Name TypeName)
      → IsFormOf (nesting (form_at at (p.array_form content))) (content_children content)
  pub of_call : (at : ℕ) (function : Name) (arguments : List NamedTree)
      → IsFormOf (nesting (form_at at
      (p.call_form function (p.trees_of Name Name TypeName arguments)))) arguments
  pub of_array_lookup : (place : ℕ) (position : NamedTree)
      → IsFormOf (step_depth (p.member_step place position)) (position ∷ [])
  pub of_predicate : (place : ℕ) (test : NamedTree)
      → IsFormOf (step_depth (p.filter_step place test)) (test ∷ [])
  pub of_lookup : (place : ℕ) (key : NamedTree)
      → IsFormOf (step_depth (p.field_step place (p.computed_lookup key)))
      (key ∷ [])
  pub of_steps : (at : ℕ) (before : NamedTree) (ss : List (PlainStep Name Name TypeName))
      → nesting (form_at at (p.postfix_form before (p.steps_of Name Name TypeName ss)))
      ≡ max (nesting before) (greatest step_depth ss)
  pub of_operator : (at : ℕ) (left : NamedTree) (ts : List (PlainTerm Name Name TypeName))
      → nesting (form_at at (p.sum_form left (p.terms_of Name Name TypeName ts)))
      ≡ greatest nesting (left ∷ flat_map term_children ts)

-- ---- what bounds the spine

-- Each form that nests lets the spine grow by two at most: by itself, and by a comma in it. A comma
-- may hold all. This holds of trees as they were read, and of compiled ones.
pub record NestingBoundsSpines : Type 0 where
  pub of_read : (t : NamedTree) → commas_apart t ≡ true → spine t ≤ 2 * nesting t + 1
  pub of_compiled : (t : BoundTree) → commas_apart t ≡ true → spine t ≤ 2 * nesting t + 1

-- ---- the calls of a tree

-- A call stands before the calls of the trees that it holds, and these stand in order.
pub record CallsStandInOrder : Type 0 where
  pub of_read : (t : NamedTree)
      → calls t ≡ option_to_list (own_call t) ++ flat_map calls (children t)
  pub of_compiled : (t : BoundTree)
      → calls t ≡ option_to_list (own_call t) ++ flat_map calls (children t)

-- ---- the slots of clauses

-- The scope behind clauses is that before them, with their slots bound in order.
pub record SlotsAreBound : Type 0 where
  pub behind_clauses : (s : Scope) (cs : PlainClauses Slot Target SeqType)
      → after_clauses s cs ≡ fold with_slot s (clause_slots cs)
