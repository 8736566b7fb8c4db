-- What the nesting of a tree counts.
use Rattle.std.proofs.Common.{◌≡◌, ℕ, max, List, [], ◌∷◌, refl, ap, arith}
use Rattle.std.specs.List.{flat_map}
use Rattle.query_tree.specs.declared.names.TypeName.{TypeName}
use Rattle.query_tree.specs.Plain as p
use Rattle.query_tree.specs.Plain.{PlainClause, PlainGroupVars, PlainOrderKeys, PlainBind, PlainCase, PlainTypeCase, PlainCatch, PlainPair, PlainTerm, MaybeTree, Trees}
use Rattle.query_tree.specs.Nesting.{nesting, greatest, clause_nesting, group_vars_nesting, order_keys_nesting, bind_nesting, case_nesting, trees_nesting, type_case_nesting, catch_nesting, pair_nesting, content_nesting, term_nesting}
use Rattle.query_tree.specs.NamedViews.{NamedTree}
use Rattle.query_tree.specs.Laws.{Name, NestingCountsForms}
use Rattle.query_tree.specs.Subtrees.{bind_children, trees_children, case_children, type_case_children, catch_children, pair_children, content_children, group_vars_children, order_keys_children, clause_children, term_children}
use Rattle.query_tree.proofs.NestingLists.{greatest-append, clauses-nesting, trees-nesting, binds-nesting, cases-nesting, type_cases-nesting, catches-nesting, pairs-nesting, steps-nesting, terms-nesting}

-- the greatest over parts is that over the trees which the parts hold
greatest-each : {A : Type 0} (depth : A → ℕ) (held : A → List NamedTree)
    → ((x : A) → depth x ≡ greatest nesting (held x)) → (xs : List A)
    → greatest depth xs ≡ greatest nesting (flat_map held xs)
greatest-each depth held e [] = refl
greatest-each depth held e (x ∷ xs) =
    omega (arith, e x, greatest-each depth held e xs, greatest-append nesting (held x) (flat_map held xs))

of_tests : (ts : Trees Name Name TypeName) → trees_nesting ts ≡ greatest nesting (trees_children ts)
of_tests p.no_trees = refl
of_tests (p.more_trees t ts) = ap (max (nesting t)) (of_tests ts)

of_bind : (b : PlainBind Name Name TypeName) → bind_nesting b ≡ greatest nesting (bind_children b)
of_bind (p.bind_node variable t source) = omega arith

of_case : (c : PlainCase Name Name TypeName) → case_nesting c ≡ greatest nesting (case_children c)
of_case (p.case_node tests result) =
    omega (arith, of_tests tests, greatest-append nesting (trees_children tests) (result ∷ []))

of_type_case : (c : PlainTypeCase Name Name TypeName) → type_case_nesting c ≡ greatest nesting (type_case_children c)
of_type_case (p.type_case_node variable types result) = omega arith

of_catch : (c : PlainCatch Name Name TypeName) → catch_nesting c ≡ greatest nesting (catch_children c)
of_catch (p.catch_node error codes body) = omega arith

of_pair : (q : PlainPair Name Name TypeName) → pair_nesting q ≡ greatest nesting (pair_children q)
of_pair (p.named_pair name place value) = omega arith
of_pair (p.computed_pair key place value) = omega arith

of_content : (c : MaybeTree Name Name TypeName) → content_nesting c ≡ greatest nesting (content_children c)
of_content p.no_tree = refl
of_content (p.one_tree t) = omega arith

of_group : (ks : PlainGroupVars Name Name TypeName) → group_vars_nesting ks ≡ greatest nesting (group_vars_children ks)
of_group p.no_group_vars = refl
of_group (p.more_group_vars (p.stream_group_var v) ks) = omega (arith, of_group ks)
of_group (p.more_group_vars (p.computed_group_var v e) ks) = omega (arith, of_group ks)

of_order : (ks : PlainOrderKeys Name Name TypeName) → order_keys_nesting ks ≡ greatest nesting (order_keys_children ks)
of_order p.no_order_keys = refl
of_order (p.more_order_keys (p.order_key_node e d g) ks) = omega (arith, of_order ks)

of_clause : (c : PlainClause Name Name TypeName) → clause_nesting c ≡ greatest nesting (clause_children c)
of_clause (p.for_clause variable t allowing_empty position source) = omega arith
of_clause (p.let_clause variable t value) = omega arith
of_clause (p.where_clause place test) = omega arith
of_clause (p.group_clause place keys) = of_group keys
of_clause (p.order_clause place stable keys) = of_order keys
of_clause (p.count_clause place variable) = refl

of_term : (t : PlainTerm Name Name TypeName) → term_nesting t ≡ greatest nesting (term_children t)
of_term (p.term_node op place value) = omega arith

pub counts_forms : NestingCountsForms
counts_forms = record {
  of_flwor = λ at place cs result. omega (arith, clauses-nesting cs, greatest-each clause_nesting clause_children of_clause cs, greatest-append nesting (flat_map clause_children cs) (result ∷ []));
  of_quantifier = λ at q bs test. omega (arith, binds-nesting bs, greatest-each bind_nesting bind_children of_bind bs, greatest-append nesting (flat_map bind_children bs) (test ∷ []));
  of_switch = λ at operand cs default. omega (arith, cases-nesting cs, greatest-each case_nesting case_children of_case cs, greatest-append nesting (flat_map case_children cs) (default ∷ []));
  of_typeswitch = λ at operand cs variable default. omega (arith, type_cases-nesting cs, greatest-each type_case_nesting type_case_children of_type_case cs, greatest-append nesting (flat_map type_case_children cs) (default ∷ []));
  of_if = λ at condition when_true when_false. omega arith;
  of_try = λ at body cs. omega (arith, catches-nesting cs, greatest-each catch_nesting catch_children of_catch cs);
  of_parentheses = λ at content. omega (arith, of_content content);
  of_object = λ at ps. omega (arith, pairs-nesting ps, greatest-each pair_nesting pair_children of_pair ps);
  of_merge = λ at content. omega (arith, of_content content);
  of_array = λ at content. omega (arith, of_content content);
  of_call = λ at function arguments. omega (arith, trees-nesting arguments);
  of_array_lookup = λ place position. omega arith;
  of_predicate = λ place test. omega arith;
  of_lookup = λ place key. omega arith;
  of_steps = λ at before ss. omega (arith, steps-nesting ss);
  of_operator = λ at left ts. omega (arith, terms-nesting ts, greatest-each term_nesting term_children of_term ts);
}
