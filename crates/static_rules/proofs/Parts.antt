-- How a loop over parts goes on: what was made of those in front, and what is made of the rest.
use Rattle.std.proofs.Common.{◌≡◌, ℕ, ◌+◌, ◌<◌, ◌≤◌, Bool, List, [], ◌∷◌, ◌++◌, Result, Ok, Err, OnOk, IfOk, length, drop, get_or, refl, sym, ap, subst, ◌∙◌}
use Rattle.std.proofs.lemmas.List.{drop_more, drop_all}
use Rattle.query_tree.specs.declared.bound.Slot.{Slot}
use Rattle.query_tree.specs.declared.bound.Target.{Target}
use Rattle.query_tree.specs.declared.expr.Expr.{Expr}
use Rattle.query_tree.specs.declared.part.Operand.{Operand}
use Rattle.query_tree.specs.declared.part.Term.{Term}
use Rattle.query_tree.specs.declared.part.Factor.{Factor}
use Rattle.query_tree.specs.declared.part.Case.{Case}
use Rattle.query_tree.specs.declared.part.TypeCase.{TypeCase}
use Rattle.query_tree.specs.declared.part.Catch.{Catch}
use Rattle.query_tree.specs.declared.part.Pair.{Pair}
use Rattle.query_tree.specs.declared.step.Step.{Step}
use Rattle.query_tree.specs.declared.clause.OrderKey.{OrderKey}
use Rattle.query_tree.specs.declared.names.TypeName.{TypeName}
use Rattle.seq_types.specs.declared.types.SeqType.{SeqType}
use Rattle.query_tree.specs.Plain as p
use Rattle.query_tree.specs.Plain.{PlainOperands, PlainTerms, PlainFactors, Trees, PlainCases, PlainTypeCases, PlainCatches, PlainPairs, PlainSteps, PlainOrderKeys}
use Rattle.static_rules.specs.Mentions.{operands_mentions, operand_mentions, terms_mentions, term_mentions, factors_mentions, factor_mentions, trees_mentions, mentions, cases_mentions, case_mentions, type_cases_mentions, type_case_mentions, catches_mentions, catch_mentions, pairs_mentions, pair_mentions, steps_mentions, step_mentions, order_keys_mentions, order_key_mentions}
use Rattle.query_tree.specs.Binders.{operands_binders, operand_binders, terms_binders, term_binders, factors_binders, factor_binders, trees_binders, binders, cases_binders, case_binders, type_cases_binders, type_case_binders, catches_binders, catch_binders, pairs_binders, pair_binders, steps_binders, step_binders, order_keys_binders, order_key_binders}
use Rattle.static_rules.specs.Compiling.{past, compiled_operands, compiled_operand, compiled_terms, compiled_term, compiled_factors, compiled_factor, compiled_trees, compiled, compiled_cases, compiled_case, compiled_type_cases, compiled_type_case, compiled_catches, compiled_catch, compiled_pairs, compiled_pair, compiled_steps, compiled_step, compiled_order_keys, compiled_order_key}
use Rattle.static_rules.specs.Gathering.{Pushed}
use Rattle.static_rules.specs.Walks.{State, view_of, passed}
use Rattle.query_tree.specs.NamedViews.{named_operands, named_operand, named_terms, named_term, named_factors, named_factor, named_tree_list, named_tree, named_cases, named_case, named_type_cases, named_type_case, named_catches, named_catch, named_pairs, source_pair, named_steps, named_step, named_order_keys, named_order_key}
use Rattle.query_tree.specs.BoundViews.{bound_operands, bound_operand, bound_terms, bound_term, bound_factors, bound_factor, bound_tree_list, bound_tree, bound_cases, bound_case, bound_type_cases, bound_type_case, bound_catches, bound_catch, bound_pairs, bound_pair, bound_steps, bound_step, bound_order_keys, bound_order_key}
use Rattle.static_rules.specs.Sources.{behind_operands, behind_operand, behind_terms, behind_term, behind_factors, behind_factor, behind_trees, behind_tree, behind_cases, behind_case, behind_type_cases, behind_type_case, behind_catches, behind_catch, behind_pairs, behind_pair, behind_steps, behind_step, behind_order_keys, behind_order_key}
use Rattle.static_rules.proofs.Passing.{passed-names, passed-number, passed-none, passed-passed}

abbrev pub with_operands : PlainOperands Slot Target SeqType → PlainOperands Slot Target SeqType → PlainOperands Slot Target SeqType
with_operands p.no_operands rest = rest
with_operands (p.more_operands x xs) rest = p.more_operands x (with_operands xs rest)

with_operands-none : (xs : PlainOperands Slot Target SeqType) → with_operands xs p.no_operands ≡ xs
with_operands-none p.no_operands = refl
with_operands-none (p.more_operands x xs) = ap (p.more_operands x) (with_operands-none xs)

with_operands-one : (xs : List (Operand (Expr Slot Target SeqType))) (y : Operand (Expr Slot Target SeqType)) (rest : PlainOperands Slot Target SeqType) → with_operands (bound_operands (xs ++ y ∷ [])) rest ≡ with_operands (bound_operands xs) (p.more_operands (bound_operand y) rest)
with_operands-one [] y rest = refl
with_operands-one (x ∷ xs) y rest = ap (p.more_operands (bound_operand x)) (with_operands-one xs y rest)

pub record OperandsLeft (item : Bool) (old : State) (all : List (Operand (Expr (List ℕ) (List ℕ) TypeName))) (now : State) (out : List (Operand (Expr Slot Target SeqType))) (rest : List (Operand (Expr (List ℕ) (List ℕ) TypeName))) : Type 0 where
  names : now.names ≡ old.names
  walk : passed now (operands_mentions (view_of item old.names) (named_operands rest)) (operands_binders (named_operands rest)) ≡ behind_operands old item (named_operands all)
  tree : with_operands (bound_operands out) (compiled_operands old.names now.number (named_operands rest)) ≡ compiled_operands old.names old.number (named_operands all)

operands-step : (item : Bool) (old : State) (all : List (Operand (Expr (List ℕ) (List ℕ) TypeName))) (now next : State) (out : List (Operand (Expr Slot Target SeqType))) (x : Operand (Expr (List ℕ) (List ℕ) TypeName)) (rest : List (Operand (Expr (List ℕ) (List ℕ) TypeName))) (y : Operand (Expr Slot Target SeqType))
    → OperandsLeft item old all now out (x ∷ rest) → bound_operand y ≡ compiled_operand now.names now.number (named_operand x) → next ≡ behind_operand now item (named_operand x)
    → OperandsLeft item old all next (out ++ y ∷ []) rest
operands-step item old all now next out x rest y h made walked =
    let view = view_of item old.names in
    let here : next ≡ passed now (operand_mentions view (named_operand x)) (operand_binders (named_operand x)) = walked ∙ ap (λ n. passed now (operand_mentions (view_of item n) (named_operand x)) (operand_binders (named_operand x))) h.names in
    record {
      names = ap (λ s. s.names) here ∙ passed-names now (operand_mentions view (named_operand x)) (operand_binders (named_operand x)) ∙ h.names;
      walk =
          ap (λ s. passed s (operands_mentions view (named_operands rest)) (operands_binders (named_operands rest))) here
          ∙ passed-passed now (operand_mentions view (named_operand x)) (operands_mentions view (named_operands rest)) (operand_binders (named_operand x)) (operands_binders (named_operands rest))
          ∙ h.walk;
      tree =
          with_operands-one out y (compiled_operands old.names next.number (named_operands rest))
          ∙ ap (λ k. with_operands (bound_operands out) (p.more_operands (bound_operand y) (compiled_operands old.names k (named_operands rest)))) (ap (λ s. s.number) here ∙ passed-number now (operand_mentions view (named_operand x)) (operand_binders (named_operand x)))
          ∙ ap (λ b. with_operands (bound_operands out) (p.more_operands b (compiled_operands old.names (past now.number (operand_binders (named_operand x))) (named_operands rest)))) (made ∙ ap (λ n. compiled_operand n now.number (named_operand x)) h.names)
          ∙ h.tree;
    }

pub operands-begun : (item : Bool) (old : State) (all : List (Operand (Expr (List ℕ) (List ℕ) TypeName))) → OperandsLeft item old all old [] all
operands-begun item old all = record { names = refl; walk = refl; tree = refl }

pub operands-more : {E : Type 0} (item : Bool) (old : State) (all : List (Operand (Expr (List ℕ) (List ℕ) TypeName))) (now next : State) (out longer : List (Operand (Expr Slot Target SeqType))) (i : ℕ) (x : Operand (Expr (List ℕ) (List ℕ) TypeName)) (part : Result (Operand (Expr Slot Target SeqType)) E)
    → OperandsLeft item old all now out (drop i all) → i < length all → x ≡ get_or all i x
    → IfOk part (λ y. bound_operand y ≡ compiled_operand now.names now.number (named_operand x)) → OnOk part (next ≡ behind_operand now item (named_operand x)) → Pushed out part longer
    → OperandsLeft item old all next longer (drop (i + 1) all)
operands-more item old all now next out longer i x (Ok y) h l here made walked pushed =
    let at : drop i all ≡ x ∷ drop (i + 1) all = drop_more all i x l ∙ ap (λ z. z ∷ drop (i + 1) all) (sym here) in
    subst (λ ys. OperandsLeft item old all next ys (drop (i + 1) all)) (sym pushed)
    (operands-step item old all now next out x (drop (i + 1) all) y (subst (λ rest. OperandsLeft item old all now out rest) at h) made walked)
operands-more item old all now next out longer i x (Err e) h l here made walked pushed = absurd pushed

pub operands-tree : (item : Bool) (old : State) (all : List (Operand (Expr (List ℕ) (List ℕ) TypeName))) (now : State) (out : List (Operand (Expr Slot Target SeqType))) (i : ℕ)
    → OperandsLeft item old all now out (drop i all) → length all ≤ i → bound_operands out ≡ compiled_operands old.names old.number (named_operands all)
operands-tree item old all now out i h l =
    let g = subst (λ rest. OperandsLeft item old all now out rest) (drop_all i all l) h in
    sym (with_operands-none (bound_operands out)) ∙ g.tree

pub operands-walk : (item : Bool) (old : State) (all : List (Operand (Expr (List ℕ) (List ℕ) TypeName))) (now : State) (out : List (Operand (Expr Slot Target SeqType))) (i : ℕ)
    → OperandsLeft item old all now out (drop i all) → length all ≤ i → now ≡ behind_operands old item (named_operands all)
operands-walk item old all now out i h l =
    let g = subst (λ rest. OperandsLeft item old all now out rest) (drop_all i all l) h in
    sym (passed-none now) ∙ g.walk

abbrev pub with_terms : PlainTerms Slot Target SeqType → PlainTerms Slot Target SeqType → PlainTerms Slot Target SeqType
with_terms p.no_terms rest = rest
with_terms (p.more_terms x xs) rest = p.more_terms x (with_terms xs rest)

with_terms-none : (xs : PlainTerms Slot Target SeqType) → with_terms xs p.no_terms ≡ xs
with_terms-none p.no_terms = refl
with_terms-none (p.more_terms x xs) = ap (p.more_terms x) (with_terms-none xs)

with_terms-one : (xs : List (Term (Expr Slot Target SeqType))) (y : Term (Expr Slot Target SeqType)) (rest : PlainTerms Slot Target SeqType) → with_terms (bound_terms (xs ++ y ∷ [])) rest ≡ with_terms (bound_terms xs) (p.more_terms (bound_term y) rest)
with_terms-one [] y rest = refl
with_terms-one (x ∷ xs) y rest = ap (p.more_terms (bound_term x)) (with_terms-one xs y rest)

pub record TermsLeft (item : Bool) (old : State) (all : List (Term (Expr (List ℕ) (List ℕ) TypeName))) (now : State) (out : List (Term (Expr Slot Target SeqType))) (rest : List (Term (Expr (List ℕ) (List ℕ) TypeName))) : Type 0 where
  names : now.names ≡ old.names
  walk : passed now (terms_mentions (view_of item old.names) (named_terms rest)) (terms_binders (named_terms rest)) ≡ behind_terms old item (named_terms all)
  tree : with_terms (bound_terms out) (compiled_terms old.names now.number (named_terms rest)) ≡ compiled_terms old.names old.number (named_terms all)

terms-step : (item : Bool) (old : State) (all : List (Term (Expr (List ℕ) (List ℕ) TypeName))) (now next : State) (out : List (Term (Expr Slot Target SeqType))) (x : Term (Expr (List ℕ) (List ℕ) TypeName)) (rest : List (Term (Expr (List ℕ) (List ℕ) TypeName))) (y : Term (Expr Slot Target SeqType))
    → TermsLeft item old all now out (x ∷ rest) → bound_term y ≡ compiled_term now.names now.number (named_term x) → next ≡ behind_term now item (named_term x)
    → TermsLeft item old all next (out ++ y ∷ []) rest
terms-step item old all now next out x rest y h made walked =
    let view = view_of item old.names in
    let here : next ≡ passed now (term_mentions view (named_term x)) (term_binders (named_term x)) = walked ∙ ap (λ n. passed now (term_mentions (view_of item n) (named_term x)) (term_binders (named_term x))) h.names in
    record {
      names = ap (λ s. s.names) here ∙ passed-names now (term_mentions view (named_term x)) (term_binders (named_term x)) ∙ h.names;
      walk =
          ap (λ s. passed s (terms_mentions view (named_terms rest)) (terms_binders (named_terms rest))) here
          ∙ passed-passed now (term_mentions view (named_term x)) (terms_mentions view (named_terms rest)) (term_binders (named_term x)) (terms_binders (named_terms rest))
          ∙ h.walk;
      tree =
          with_terms-one out y (compiled_terms old.names next.number (named_terms rest))
          ∙ ap (λ k. with_terms (bound_terms out) (p.more_terms (bound_term y) (compiled_terms old.names k (named_terms rest)))) (ap (λ s. s.number) here ∙ passed-number now (term_mentions view (named_term x)) (term_binders (named_term x)))
          ∙ ap (λ b. with_terms (bound_terms out) (p.more_terms b (compiled_terms old.names (past now.number (term_binders (named_term x))) (named_terms rest)))) (made ∙ ap (λ n. compiled_term n now.number (named_term x)) h.names)
          ∙ h.tree;
    }

pub terms-begun : (item : Bool) (old : State) (all : List (Term (Expr (List ℕ) (List ℕ) TypeName))) → TermsLeft item old all old [] all
terms-begun item old all = record { names = refl; walk = refl; tree = refl }

pub terms-more : {E : Type 0} (item : Bool) (old : State) (all : List (Term (Expr (List ℕ) (List ℕ) TypeName))) (now next : State) (out longer : List (Term (Expr Slot Target SeqType))) (i : ℕ) (x : Term (Expr (List ℕ) (List ℕ) TypeName)) (part : Result (Term (Expr Slot Target SeqType)) E)
    → TermsLeft item old all now out (drop i all) → i < length all → x ≡ get_or all i x
    → IfOk part (λ y. bound_term y ≡ compiled_term now.names now.number (named_term x)) → OnOk part (next ≡ behind_term now item (named_term x)) → Pushed out part longer
    → TermsLeft item old all next longer (drop (i + 1) all)
terms-more item old all now next out longer i x (Ok y) h l here made walked pushed =
    let at : drop i all ≡ x ∷ drop (i + 1) all = drop_more all i x l ∙ ap (λ z. z ∷ drop (i + 1) all) (sym here) in
    subst (λ ys. TermsLeft item old all next ys (drop (i + 1) all)) (sym pushed)
    (terms-step item old all now next out x (drop (i + 1) all) y (subst (λ rest. TermsLeft item old all now out rest) at h) made walked)
terms-more item old all now next out longer i x (Err e) h l here made walked pushed = absurd pushed

pub terms-tree : (item : Bool) (old : State) (all : List (Term (Expr (List ℕ) (List ℕ) TypeName))) (now : State) (out : List (Term (Expr Slot Target SeqType))) (i : ℕ)
    → TermsLeft item old all now out (drop i all) → length all ≤ i → bound_terms out ≡ compiled_terms old.names old.number (named_terms all)
terms-tree item old all now out i h l =
    let g = subst (λ rest. TermsLeft item old all now out rest) (drop_all i all l) h in
    sym (with_terms-none (bound_terms out)) ∙ g.tree

pub terms-walk : (item : Bool) (old : State) (all : List (Term (Expr (List ℕ) (List ℕ) TypeName))) (now : State) (out : List (Term (Expr Slot Target SeqType))) (i : ℕ)
    → TermsLeft item old all now out (drop i all) → length all ≤ i → now ≡ behind_terms old item (named_terms all)
terms-walk item old all now out i h l =
    let g = subst (λ rest. TermsLeft item old all now out rest) (drop_all i all l) h in
    sym (passed-none now) ∙ g.walk

abbrev pub with_factors : PlainFactors Slot Target SeqType → PlainFactors Slot Target SeqType → PlainFactors Slot Target SeqType
with_factors p.no_factors rest = rest
with_factors (p.more_factors x xs) rest = p.more_factors x (with_factors xs rest)

with_factors-none : (xs : PlainFactors Slot Target SeqType) → with_factors xs p.no_factors ≡ xs
with_factors-none p.no_factors = refl
with_factors-none (p.more_factors x xs) = ap (p.more_factors x) (with_factors-none xs)

with_factors-one : (xs : List (Factor (Expr Slot Target SeqType))) (y : Factor (Expr Slot Target SeqType)) (rest : PlainFactors Slot Target SeqType) → with_factors (bound_factors (xs ++ y ∷ [])) rest ≡ with_factors (bound_factors xs) (p.more_factors (bound_factor y) rest)
with_factors-one [] y rest = refl
with_factors-one (x ∷ xs) y rest = ap (p.more_factors (bound_factor x)) (with_factors-one xs y rest)

pub record FactorsLeft (item : Bool) (old : State) (all : List (Factor (Expr (List ℕ) (List ℕ) TypeName))) (now : State) (out : List (Factor (Expr Slot Target SeqType))) (rest : List (Factor (Expr (List ℕ) (List ℕ) TypeName))) : Type 0 where
  names : now.names ≡ old.names
  walk : passed now (factors_mentions (view_of item old.names) (named_factors rest)) (factors_binders (named_factors rest)) ≡ behind_factors old item (named_factors all)
  tree : with_factors (bound_factors out) (compiled_factors old.names now.number (named_factors rest)) ≡ compiled_factors old.names old.number (named_factors all)

factors-step : (item : Bool) (old : State) (all : List (Factor (Expr (List ℕ) (List ℕ) TypeName))) (now next : State) (out : List (Factor (Expr Slot Target SeqType))) (x : Factor (Expr (List ℕ) (List ℕ) TypeName)) (rest : List (Factor (Expr (List ℕ) (List ℕ) TypeName))) (y : Factor (Expr Slot Target SeqType))
    → FactorsLeft item old all now out (x ∷ rest) → bound_factor y ≡ compiled_factor now.names now.number (named_factor x) → next ≡ behind_factor now item (named_factor x)
    → FactorsLeft item old all next (out ++ y ∷ []) rest
factors-step item old all now next out x rest y h made walked =
    let view = view_of item old.names in
    let here : next ≡ passed now (factor_mentions view (named_factor x)) (factor_binders (named_factor x)) = walked ∙ ap (λ n. passed now (factor_mentions (view_of item n) (named_factor x)) (factor_binders (named_factor x))) h.names in
    record {
      names = ap (λ s. s.names) here ∙ passed-names now (factor_mentions view (named_factor x)) (factor_binders (named_factor x)) ∙ h.names;
      walk =
          ap (λ s. passed s (factors_mentions view (named_factors rest)) (factors_binders (named_factors rest))) here
          ∙ passed-passed now (factor_mentions view (named_factor x)) (factors_mentions view (named_factors rest)) (factor_binders (named_factor x)) (factors_binders (named_factors rest))
          ∙ h.walk;
      tree =
          with_factors-one out y (compiled_factors old.names next.number (named_factors rest))
          ∙ ap (λ k. with_factors (bound_factors out) (p.more_factors (bound_factor y) (compiled_factors old.names k (named_factors rest)))) (ap (λ s. s.number) here ∙ passed-number now (factor_mentions view (named_factor x)) (factor_binders (named_factor x)))
          ∙ ap (λ b. with_factors (bound_factors out) (p.more_factors b (compiled_factors old.names (past now.number (factor_binders (named_factor x))) (named_factors rest)))) (made ∙ ap (λ n. compiled_factor n now.number (named_factor x)) h.names)
          ∙ h.tree;
    }

pub factors-begun : (item : Bool) (old : State) (all : List (Factor (Expr (List ℕ) (List ℕ) TypeName))) → FactorsLeft item old all old [] all
factors-begun item old all = record { names = refl; walk = refl; tree = refl }

pub factors-more : {E : Type 0} (item : Bool) (old : State) (all : List (Factor (Expr (List ℕ) (List ℕ) TypeName))) (now next : State) (out longer : List (Factor (Expr Slot Target SeqType))) (i : ℕ) (x : Factor (Expr (List ℕ) (List ℕ) TypeName)) (part : Result (Factor (Expr Slot Target SeqType)) E)
    → FactorsLeft item old all now out (drop i all) → i < length all → x ≡ get_or all i x
    → IfOk part (λ y. bound_factor y ≡ compiled_factor now.names now.number (named_factor x)) → OnOk part (next ≡ behind_factor now item (named_factor x)) → Pushed out part longer
    → FactorsLeft item old all next longer (drop (i + 1) all)
factors-more item old all now next out longer i x (Ok y) h l here made walked pushed =
    let at : drop i all ≡ x ∷ drop (i + 1) all = drop_more all i x l ∙ ap (λ z. z ∷ drop (i + 1) all) (sym here) in
    subst (λ ys. FactorsLeft item old all next ys (drop (i + 1) all)) (sym pushed)
    (factors-step item old all now next out x (drop (i + 1) all) y (subst (λ rest. FactorsLeft item old all now out rest) at h) made walked)
factors-more item old all now next out longer i x (Err e) h l here made walked pushed = absurd pushed

pub factors-tree : (item : Bool) (old : State) (all : List (Factor (Expr (List ℕ) (List ℕ) TypeName))) (now : State) (out : List (Factor (Expr Slot Target SeqType))) (i : ℕ)
    → FactorsLeft item old all now out (drop i all) → length all ≤ i → bound_factors out ≡ compiled_factors old.names old.number (named_factors all)
factors-tree item old all now out i h l =
    let g = subst (λ rest. FactorsLeft item old all now out rest) (drop_all i all l) h in
    sym (with_factors-none (bound_factors out)) ∙ g.tree

pub factors-walk : (item : Bool) (old : State) (all : List (Factor (Expr (List ℕ) (List ℕ) TypeName))) (now : State) (out : List (Factor (Expr Slot Target SeqType))) (i : ℕ)
    → FactorsLeft item old all now out (drop i all) → length all ≤ i → now ≡ behind_factors old item (named_factors all)
factors-walk item old all now out i h l =
    let g = subst (λ rest. FactorsLeft item old all now out rest) (drop_all i all l) h in
    sym (passed-none now) ∙ g.walk

abbrev pub with_trees : Trees Slot Target SeqType → Trees Slot Target SeqType → Trees Slot Target SeqType
with_trees p.no_trees rest = rest
with_trees (p.more_trees x xs) rest = p.more_trees x (with_trees xs rest)

with_trees-none : (xs : Trees Slot Target SeqType) → with_trees xs p.no_trees ≡ xs
with_trees-none p.no_trees = refl
with_trees-none (p.more_trees x xs) = ap (p.more_trees x) (with_trees-none xs)

with_trees-one : (xs : List (Expr Slot Target SeqType)) (y : Expr Slot Target SeqType) (rest : Trees Slot Target SeqType) → with_trees (bound_tree_list (xs ++ y ∷ [])) rest ≡ with_trees (bound_tree_list xs) (p.more_trees (bound_tree y) rest)
with_trees-one [] y rest = refl
with_trees-one (x ∷ xs) y rest = ap (p.more_trees (bound_tree x)) (with_trees-one xs y rest)

pub record TreesLeft (item : Bool) (old : State) (all : List (Expr (List ℕ) (List ℕ) TypeName)) (now : State) (out : List (Expr Slot Target SeqType)) (rest : List (Expr (List ℕ) (List ℕ) TypeName)) : Type 0 where
  names : now.names ≡ old.names
  walk : passed now (trees_mentions (view_of item old.names) (named_tree_list rest)) (trees_binders (named_tree_list rest)) ≡ behind_trees old item (named_tree_list all)
  tree : with_trees (bound_tree_list out) (compiled_trees old.names now.number (named_tree_list rest)) ≡ compiled_trees old.names old.number (named_tree_list all)

trees-step : (item : Bool) (old : State) (all : List (Expr (List ℕ) (List ℕ) TypeName)) (now next : State) (out : List (Expr Slot Target SeqType)) (x : Expr (List ℕ) (List ℕ) TypeName) (rest : List (Expr (List ℕ) (List ℕ) TypeName)) (y : Expr Slot Target SeqType)
    → TreesLeft item old all now out (x ∷ rest) → bound_tree y ≡ compiled now.names now.number (named_tree x) → next ≡ behind_tree now item (named_tree x)
    → TreesLeft item old all next (out ++ y ∷ []) rest
trees-step item old all now next out x rest y h made walked =
    let view = view_of item old.names in
    let here : next ≡ passed now (mentions view (named_tree x)) (binders (named_tree x)) = walked ∙ ap (λ n. passed now (mentions (view_of item n) (named_tree x)) (binders (named_tree x))) h.names in
    record {
      names = ap (λ s. s.names) here ∙ passed-names now (mentions view (named_tree x)) (binders (named_tree x)) ∙ h.names;
      walk =
          ap (λ s. passed s (trees_mentions view (named_tree_list rest)) (trees_binders (named_tree_list rest))) here
          ∙ passed-passed now (mentions view (named_tree x)) (trees_mentions view (named_tree_list rest)) (binders (named_tree x)) (trees_binders (named_tree_list rest))
          ∙ h.walk;
      tree =
          with_trees-one out y (compiled_trees old.names next.number (named_tree_list rest))
          ∙ ap (λ k. with_trees (bound_tree_list out) (p.more_trees (bound_tree y) (compiled_trees old.names k (named_tree_list rest)))) (ap (λ s. s.number) here ∙ passed-number now (mentions view (named_tree x)) (binders (named_tree x)))
          ∙ ap (λ b. with_trees (bound_tree_list out) (p.more_trees b (compiled_trees old.names (past now.number (binders (named_tree x))) (named_tree_list rest)))) (made ∙ ap (λ n. compiled n now.number (named_tree x)) h.names)
          ∙ h.tree;
    }

pub trees-begun : (item : Bool) (old : State) (all : List (Expr (List ℕ) (List ℕ) TypeName)) → TreesLeft item old all old [] all
trees-begun item old all = record { names = refl; walk = refl; tree = refl }

pub trees-more : {E : Type 0} (item : Bool) (old : State) (all : List (Expr (List ℕ) (List ℕ) TypeName)) (now next : State) (out longer : List (Expr Slot Target SeqType)) (i : ℕ) (x : Expr (List ℕ) (List ℕ) TypeName) (part : Result (Expr Slot Target SeqType) E)
    → TreesLeft item old all now out (drop i all) → i < length all → x ≡ get_or all i x
    → IfOk part (λ y. bound_tree y ≡ compiled now.names now.number (named_tree x)) → OnOk part (next ≡ behind_tree now item (named_tree x)) → Pushed out part longer
    → TreesLeft item old all next longer (drop (i + 1) all)
trees-more item old all now next out longer i x (Ok y) h l here made walked pushed =
    let at : drop i all ≡ x ∷ drop (i + 1) all = drop_more all i x l ∙ ap (λ z. z ∷ drop (i + 1) all) (sym here) in
    subst (λ ys. TreesLeft item old all next ys (drop (i + 1) all)) (sym pushed)
    (trees-step item old all now next out x (drop (i + 1) all) y (subst (λ rest. TreesLeft item old all now out rest) at h) made walked)
trees-more item old all now next out longer i x (Err e) h l here made walked pushed = absurd pushed

pub trees-tree : (item : Bool) (old : State) (all : List (Expr (List ℕ) (List ℕ) TypeName)) (now : State) (out : List (Expr Slot Target SeqType)) (i : ℕ)
    → TreesLeft item old all now out (drop i all) → length all ≤ i → bound_tree_list out ≡ compiled_trees old.names old.number (named_tree_list all)
trees-tree item old all now out i h l =
    let g = subst (λ rest. TreesLeft item old all now out rest) (drop_all i all l) h in
    sym (with_trees-none (bound_tree_list out)) ∙ g.tree

pub trees-walk : (item : Bool) (old : State) (all : List (Expr (List ℕ) (List ℕ) TypeName)) (now : State) (out : List (Expr Slot Target SeqType)) (i : ℕ)
    → TreesLeft item old all now out (drop i all) → length all ≤ i → now ≡ behind_trees old item (named_tree_list all)
trees-walk item old all now out i h l =
    let g = subst (λ rest. TreesLeft item old all now out rest) (drop_all i all l) h in
    sym (passed-none now) ∙ g.walk

abbrev pub with_cases : PlainCases Slot Target SeqType → PlainCases Slot Target SeqType → PlainCases Slot Target SeqType
with_cases p.no_cases rest = rest
with_cases (p.more_cases x xs) rest = p.more_cases x (with_cases xs rest)

with_cases-none : (xs : PlainCases Slot Target SeqType) → with_cases xs p.no_cases ≡ xs
with_cases-none p.no_cases = refl
with_cases-none (p.more_cases x xs) = ap (p.more_cases x) (with_cases-none xs)

with_cases-one : (xs : List (Case (Expr Slot Target SeqType))) (y : Case (Expr Slot Target SeqType)) (rest : PlainCases Slot Target SeqType) → with_cases (bound_cases (xs ++ y ∷ [])) rest ≡ with_cases (bound_cases xs) (p.more_cases (bound_case y) rest)
with_cases-one [] y rest = refl
with_cases-one (x ∷ xs) y rest = ap (p.more_cases (bound_case x)) (with_cases-one xs y rest)

pub record CasesLeft (item : Bool) (old : State) (all : List (Case (Expr (List ℕ) (List ℕ) TypeName))) (now : State) (out : List (Case (Expr Slot Target SeqType))) (rest : List (Case (Expr (List ℕ) (List ℕ) TypeName))) : Type 0 where
  names : now.names ≡ old.names
  walk : passed now (cases_mentions (view_of item old.names) (named_cases rest)) (cases_binders (named_cases rest)) ≡ behind_cases old item (named_cases all)
  tree : with_cases (bound_cases out) (compiled_cases old.names now.number (named_cases rest)) ≡ compiled_cases old.names old.number (named_cases all)

cases-step : (item : Bool) (old : State) (all : List (Case (Expr (List ℕ) (List ℕ) TypeName))) (now next : State) (out : List (Case (Expr Slot Target SeqType))) (x : Case (Expr (List ℕ) (List ℕ) TypeName)) (rest : List (Case (Expr (List ℕ) (List ℕ) TypeName))) (y : Case (Expr Slot Target SeqType))
    → CasesLeft item old all now out (x ∷ rest) → bound_case y ≡ compiled_case now.names now.number (named_case x) → next ≡ behind_case now item (named_case x)
    → CasesLeft item old all next (out ++ y ∷ []) rest
cases-step item old all now next out x rest y h made walked =
    let view = view_of item old.names in
    let here : next ≡ passed now (case_mentions view (named_case x)) (case_binders (named_case x)) = walked ∙ ap (λ n. passed now (case_mentions (view_of item n) (named_case x)) (case_binders (named_case x))) h.names in
    record {
      names = ap (λ s. s.names) here ∙ passed-names now (case_mentions view (named_case x)) (case_binders (named_case x)) ∙ h.names;
      walk =
          ap (λ s. passed s (cases_mentions view (named_cases rest)) (cases_binders (named_cases rest))) here
          ∙ passed-passed now (case_mentions view (named_case x)) (cases_mentions view (named_cases rest)) (case_binders (named_case x)) (cases_binders (named_cases rest))
          ∙ h.walk;
      tree =
          with_cases-one out y (compiled_cases old.names next.number (named_cases rest))
          ∙ ap (λ k. with_cases (bound_cases out) (p.more_cases (bound_case y) (compiled_cases old.names k (named_cases rest)))) (ap (λ s. s.number) here ∙ passed-number now (case_mentions view (named_case x)) (case_binders (named_case x)))
          ∙ ap (λ b. with_cases (bound_cases out) (p.more_cases b (compiled_cases old.names (past now.number (case_binders (named_case x))) (named_cases rest)))) (made ∙ ap (λ n. compiled_case n now.number (named_case x)) h.names)
          ∙ h.tree;
    }

pub cases-begun : (item : Bool) (old : State) (all : List (Case (Expr (List ℕ) (List ℕ) TypeName))) → CasesLeft item old all old [] all
cases-begun item old all = record { names = refl; walk = refl; tree = refl }

pub cases-more : {E : Type 0} (item : Bool) (old : State) (all : List (Case (Expr (List ℕ) (List ℕ) TypeName))) (now next : State) (out longer : List (Case (Expr Slot Target SeqType))) (i : ℕ) (x : Case (Expr (List ℕ) (List ℕ) TypeName)) (part : Result (Case (Expr Slot Target SeqType)) E)
    → CasesLeft item old all now out (drop i all) → i < length all → x ≡ get_or all i x
    → IfOk part (λ y. bound_case y ≡ compiled_case now.names now.number (named_case x)) → OnOk part (next ≡ behind_case now item (named_case x)) → Pushed out part longer
    → CasesLeft item old all next longer (drop (i + 1) all)
cases-more item old all now next out longer i x (Ok y) h l here made walked pushed =
    let at : drop i all ≡ x ∷ drop (i + 1) all = drop_more all i x l ∙ ap (λ z. z ∷ drop (i + 1) all) (sym here) in
    subst (λ ys. CasesLeft item old all next ys (drop (i + 1) all)) (sym pushed)
    (cases-step item old all now next out x (drop (i + 1) all) y (subst (λ rest. CasesLeft item old all now out rest) at h) made walked)
cases-more item old all now next out longer i x (Err e) h l here made walked pushed = absurd pushed

pub cases-tree : (item : Bool) (old : State) (all : List (Case (Expr (List ℕ) (List ℕ) TypeName))) (now : State) (out : List (Case (Expr Slot Target SeqType))) (i : ℕ)
    → CasesLeft item old all now out (drop i all) → length all ≤ i → bound_cases out ≡ compiled_cases old.names old.number (named_cases all)
cases-tree item old all now out i h l =
    let g = subst (λ rest. CasesLeft item old all now out rest) (drop_all i all l) h in
    sym (with_cases-none (bound_cases out)) ∙ g.tree

pub cases-walk : (item : Bool) (old : State) (all : List (Case (Expr (List ℕ) (List ℕ) TypeName))) (now : State) (out : List (Case (Expr Slot Target SeqType))) (i : ℕ)
    → CasesLeft item old all now out (drop i all) → length all ≤ i → now ≡ behind_cases old item (named_cases all)
cases-walk item old all now out i h l =
    let g = subst (λ rest. CasesLeft item old all now out rest) (drop_all i all l) h in
    sym (passed-none now) ∙ g.walk

abbrev pub with_type_cases : PlainTypeCases Slot Target SeqType → PlainTypeCases Slot Target SeqType → PlainTypeCases Slot Target SeqType
with_type_cases p.no_type_cases rest = rest
with_type_cases (p.more_type_cases x xs) rest = p.more_type_cases x (with_type_cases xs rest)

with_type_cases-none : (xs : PlainTypeCases Slot Target SeqType) → with_type_cases xs p.no_type_cases ≡ xs
with_type_cases-none p.no_type_cases = refl
with_type_cases-none (p.more_type_cases x xs) = ap (p.more_type_cases x) (with_type_cases-none xs)

with_type_cases-one : (xs : List (TypeCase Slot SeqType (Expr Slot Target SeqType))) (y : TypeCase Slot SeqType (Expr Slot Target SeqType)) (rest : PlainTypeCases Slot Target SeqType) → with_type_cases (bound_type_cases (xs ++ y ∷ [])) rest ≡ with_type_cases (bound_type_cases xs) (p.more_type_cases (bound_type_case y) rest)
with_type_cases-one [] y rest = refl
with_type_cases-one (x ∷ xs) y rest = ap (p.more_type_cases (bound_type_case x)) (with_type_cases-one xs y rest)

pub record TypeCasesLeft (item : Bool) (old : State) (all : List (TypeCase (List ℕ) TypeName (Expr (List ℕ) (List ℕ) TypeName))) (now : State) (out : List (TypeCase Slot SeqType (Expr Slot Target SeqType))) (rest : List (TypeCase (List ℕ) TypeName (Expr (List ℕ) (List ℕ) TypeName))) : Type 0 where
  names : now.names ≡ old.names
  walk : passed now (type_cases_mentions (view_of item old.names) (named_type_cases rest)) (type_cases_binders (named_type_cases rest)) ≡ behind_type_cases old item (named_type_cases all)
  tree : with_type_cases (bound_type_cases out) (compiled_type_cases old.names now.number (named_type_cases rest)) ≡ compiled_type_cases old.names old.number (named_type_cases all)

type_cases-step : (item : Bool) (old : State) (all : List (TypeCase (List ℕ) TypeName (Expr (List ℕ) (List ℕ) TypeName))) (now next : State) (out : List (TypeCase Slot SeqType (Expr Slot Target SeqType))) (x : TypeCase (List ℕ) TypeName (Expr (List ℕ) (List ℕ) TypeName)) (rest : List (TypeCase (List ℕ) TypeName (Expr (List ℕ) (List ℕ) TypeName))) (y : TypeCase Slot SeqType (Expr Slot Target SeqType))
    → TypeCasesLeft item old all now out (x ∷ rest) → bound_type_case y ≡ compiled_type_case now.names now.number (named_type_case x) → next ≡ behind_type_case now item (named_type_case x)
    → TypeCasesLeft item old all next (out ++ y ∷ []) rest
type_cases-step item old all now next out x rest y h made walked =
    let view = view_of item old.names in
    let here : next ≡ passed now (type_case_mentions view (named_type_case x)) (type_case_binders (named_type_case x)) = walked ∙ ap (λ n. passed now (type_case_mentions (view_of item n) (named_type_case x)) (type_case_binders (named_type_case x))) h.names in
    record {
      names = ap (λ s. s.names) here ∙ passed-names now (type_case_mentions view (named_type_case x)) (type_case_binders (named_type_case x)) ∙ h.names;
      walk =
          ap (λ s. passed s (type_cases_mentions view (named_type_cases rest)) (type_cases_binders (named_type_cases rest))) here
          ∙ passed-passed now (type_case_mentions view (named_type_case x)) (type_cases_mentions view (named_type_cases rest)) (type_case_binders (named_type_case x)) (type_cases_binders (named_type_cases rest))
          ∙ h.walk;
      tree =
          with_type_cases-one out y (compiled_type_cases old.names next.number (named_type_cases rest))
          ∙ ap (λ k. with_type_cases (bound_type_cases out) (p.more_type_cases (bound_type_case y) (compiled_type_cases old.names k (named_type_cases rest)))) (ap (λ s. s.number) here ∙ passed-number now (type_case_mentions view (named_type_case x)) (type_case_binders (named_type_case x)))
          ∙ ap (λ b. with_type_cases (bound_type_cases out) (p.more_type_cases b (compiled_type_cases old.names (past now.number (type_case_binders (named_type_case x))) (named_type_cases rest)))) (made ∙ ap (λ n. compiled_type_case n now.number (named_type_case x)) h.names)
          ∙ h.tree;
    }

pub type_cases-begun : (item : Bool) (old : State) (all : List (TypeCase (List ℕ) TypeName (Expr (List ℕ) (List ℕ) TypeName))) → TypeCasesLeft item old all old [] all
type_cases-begun item old all = record { names = refl; walk = refl; tree = refl }

pub type_cases-more : {E : Type 0} (item : Bool) (old : State) (all : List (TypeCase (List ℕ) TypeName (Expr (List ℕ) (List ℕ) TypeName))) (now next : State) (out longer : List (TypeCase Slot SeqType (Expr Slot Target SeqType))) (i : ℕ) (x : TypeCase (List ℕ) TypeName (Expr (List ℕ) (List ℕ) TypeName)) (part : Result (TypeCase Slot SeqType (Expr Slot Target SeqType)) E)
    → TypeCasesLeft item old all now out (drop i all) → i < length all → x ≡ get_or all i x
    → IfOk part (λ y. bound_type_case y ≡ compiled_type_case now.names now.number (named_type_case x)) → OnOk part (next ≡ behind_type_case now item (named_type_case x)) → Pushed out part longer
    → TypeCasesLeft item old all next longer (drop (i + 1) all)
type_cases-more item old all now next out longer i x (Ok y) h l here made walked pushed =
    let at : drop i all ≡ x ∷ drop (i + 1) all = drop_more all i x l ∙ ap (λ z. z ∷ drop (i + 1) all) (sym here) in
    subst (λ ys. TypeCasesLeft item old all next ys (drop (i + 1) all)) (sym pushed)
    (type_cases-step item old all now next out x (drop (i + 1) all) y (subst (λ rest. TypeCasesLeft item old all now out rest) at h) made walked)
type_cases-more item old all now next out longer i x (Err e) h l here made walked pushed = absurd pushed

pub type_cases-tree : (item : Bool) (old : State) (all : List (TypeCase (List ℕ) TypeName (Expr (List ℕ) (List ℕ) TypeName))) (now : State) (out : List (TypeCase Slot SeqType (Expr Slot Target SeqType))) (i : ℕ)
    → TypeCasesLeft item old all now out (drop i all) → length all ≤ i → bound_type_cases out ≡ compiled_type_cases old.names old.number (named_type_cases all)
type_cases-tree item old all now out i h l =
    let g = subst (λ rest. TypeCasesLeft item old all now out rest) (drop_all i all l) h in
    sym (with_type_cases-none (bound_type_cases out)) ∙ g.tree

pub type_cases-walk : (item : Bool) (old : State) (all : List (TypeCase (List ℕ) TypeName (Expr (List ℕ) (List ℕ) TypeName))) (now : State) (out : List (TypeCase Slot SeqType (Expr Slot Target SeqType))) (i : ℕ)
    → TypeCasesLeft item old all now out (drop i all) → length all ≤ i → now ≡ behind_type_cases old item (named_type_cases all)
type_cases-walk item old all now out i h l =
    let g = subst (λ rest. TypeCasesLeft item old all now out rest) (drop_all i all l) h in
    sym (passed-none now) ∙ g.walk

abbrev pub with_catches : PlainCatches Slot Target SeqType → PlainCatches Slot Target SeqType → PlainCatches Slot Target SeqType
with_catches p.no_catches rest = rest
with_catches (p.more_catches x xs) rest = p.more_catches x (with_catches xs rest)

with_catches-none : (xs : PlainCatches Slot Target SeqType) → with_catches xs p.no_catches ≡ xs
with_catches-none p.no_catches = refl
with_catches-none (p.more_catches x xs) = ap (p.more_catches x) (with_catches-none xs)

with_catches-one : (xs : List (Catch Slot (Expr Slot Target SeqType))) (y : Catch Slot (Expr Slot Target SeqType)) (rest : PlainCatches Slot Target SeqType) → with_catches (bound_catches (xs ++ y ∷ [])) rest ≡ with_catches (bound_catches xs) (p.more_catches (bound_catch y) rest)
with_catches-one [] y rest = refl
with_catches-one (x ∷ xs) y rest = ap (p.more_catches (bound_catch x)) (with_catches-one xs y rest)

pub record CatchesLeft (item : Bool) (old : State) (all : List (Catch (List ℕ) (Expr (List ℕ) (List ℕ) TypeName))) (now : State) (out : List (Catch Slot (Expr Slot Target SeqType))) (rest : List (Catch (List ℕ) (Expr (List ℕ) (List ℕ) TypeName))) : Type 0 where
  names : now.names ≡ old.names
  walk : passed now (catches_mentions (view_of item old.names) (named_catches rest)) (catches_binders (named_catches rest)) ≡ behind_catches old item (named_catches all)
  tree : with_catches (bound_catches out) (compiled_catches old.names now.number (named_catches rest)) ≡ compiled_catches old.names old.number (named_catches all)

catches-step : (item : Bool) (old : State) (all : List (Catch (List ℕ) (Expr (List ℕ) (List ℕ) TypeName))) (now next : State) (out : List (Catch Slot (Expr Slot Target SeqType))) (x : Catch (List ℕ) (Expr (List ℕ) (List ℕ) TypeName)) (rest : List (Catch (List ℕ) (Expr (List ℕ) (List ℕ) TypeName))) (y : Catch Slot (Expr Slot Target SeqType))
    → CatchesLeft item old all now out (x ∷ rest) → bound_catch y ≡ compiled_catch now.names now.number (named_catch x) → next ≡ behind_catch now item (named_catch x)
    → CatchesLeft item old all next (out ++ y ∷ []) rest
catches-step item old all now next out x rest y h made walked =
    let view = view_of item old.names in
    let here : next ≡ passed now (catch_mentions view (named_catch x)) (catch_binders (named_catch x)) = walked ∙ ap (λ n. passed now (catch_mentions (view_of item n) (named_catch x)) (catch_binders (named_catch x))) h.names in
    record {
      names = ap (λ s. s.names) here ∙ passed-names now (catch_mentions view (named_catch x)) (catch_binders (named_catch x)) ∙ h.names;
      walk =
          ap (λ s. passed s (catches_mentions view (named_catches rest)) (catches_binders (named_catches rest))) here
          ∙ passed-passed now (catch_mentions view (named_catch x)) (catches_mentions view (named_catches rest)) (catch_binders (named_catch x)) (catches_binders (named_catches rest))
          ∙ h.walk;
      tree =
          with_catches-one out y (compiled_catches old.names next.number (named_catches rest))
          ∙ ap (λ k. with_catches (bound_catches out) (p.more_catches (bound_catch y) (compiled_catches old.names k (named_catches rest)))) (ap (λ s. s.number) here ∙ passed-number now (catch_mentions view (named_catch x)) (catch_binders (named_catch x)))
          ∙ ap (λ b. with_catches (bound_catches out) (p.more_catches b (compiled_catches old.names (past now.number (catch_binders (named_catch x))) (named_catches rest)))) (made ∙ ap (λ n. compiled_catch n now.number (named_catch x)) h.names)
          ∙ h.tree;
    }

pub catches-begun : (item : Bool) (old : State) (all : List (Catch (List ℕ) (Expr (List ℕ) (List ℕ) TypeName))) → CatchesLeft item old all old [] all
catches-begun item old all = record { names = refl; walk = refl; tree = refl }

pub catches-more : {E : Type 0} (item : Bool) (old : State) (all : List (Catch (List ℕ) (Expr (List ℕ) (List ℕ) TypeName))) (now next : State) (out longer : List (Catch Slot (Expr Slot Target SeqType))) (i : ℕ) (x : Catch (List ℕ) (Expr (List ℕ) (List ℕ) TypeName)) (part : Result (Catch Slot (Expr Slot Target SeqType)) E)
    → CatchesLeft item old all now out (drop i all) → i < length all → x ≡ get_or all i x
    → IfOk part (λ y. bound_catch y ≡ compiled_catch now.names now.number (named_catch x)) → OnOk part (next ≡ behind_catch now item (named_catch x)) → Pushed out part longer
    → CatchesLeft item old all next longer (drop (i + 1) all)
catches-more item old all now next out longer i x (Ok y) h l here made walked pushed =
    let at : drop i all ≡ x ∷ drop (i + 1) all = drop_more all i x l ∙ ap (λ z. z ∷ drop (i + 1) all) (sym here) in
    subst (λ ys. CatchesLeft item old all next ys (drop (i + 1) all)) (sym pushed)
    (catches-step item old all now next out x (drop (i + 1) all) y (subst (λ rest. CatchesLeft item old all now out rest) at h) made walked)
catches-more item old all now next out longer i x (Err e) h l here made walked pushed = absurd pushed

pub catches-tree : (item : Bool) (old : State) (all : List (Catch (List ℕ) (Expr (List ℕ) (List ℕ) TypeName))) (now : State) (out : List (Catch Slot (Expr Slot Target SeqType))) (i : ℕ)
    → CatchesLeft item old all now out (drop i all) → length all ≤ i → bound_catches out ≡ compiled_catches old.names old.number (named_catches all)
catches-tree item old all now out i h l =
    let g = subst (λ rest. CatchesLeft item old all now out rest) (drop_all i all l) h in
    sym (with_catches-none (bound_catches out)) ∙ g.tree

pub catches-walk : (item : Bool) (old : State) (all : List (Catch (List ℕ) (Expr (List ℕ) (List ℕ) TypeName))) (now : State) (out : List (Catch Slot (Expr Slot Target SeqType))) (i : ℕ)
    → CatchesLeft item old all now out (drop i all) → length all ≤ i → now ≡ behind_catches old item (named_catches all)
catches-walk item old all now out i h l =
    let g = subst (λ rest. CatchesLeft item old all now out rest) (drop_all i all l) h in
    sym (passed-none now) ∙ g.walk

abbrev pub with_pairs : PlainPairs Slot Target SeqType → PlainPairs Slot Target SeqType → PlainPairs Slot Target SeqType
with_pairs p.no_pairs rest = rest
with_pairs (p.more_pairs x xs) rest = p.more_pairs x (with_pairs xs rest)

with_pairs-none : (xs : PlainPairs Slot Target SeqType) → with_pairs xs p.no_pairs ≡ xs
with_pairs-none p.no_pairs = refl
with_pairs-none (p.more_pairs x xs) = ap (p.more_pairs x) (with_pairs-none xs)

with_pairs-one : (xs : List (Pair (Expr Slot Target SeqType))) (y : Pair (Expr Slot Target SeqType)) (rest : PlainPairs Slot Target SeqType) → with_pairs (bound_pairs (xs ++ y ∷ [])) rest ≡ with_pairs (bound_pairs xs) (p.more_pairs (bound_pair y) rest)
with_pairs-one [] y rest = refl
with_pairs-one (x ∷ xs) y rest = ap (p.more_pairs (bound_pair x)) (with_pairs-one xs y rest)

pub record PairsLeft (item : Bool) (old : State) (all : List (Pair (Expr (List ℕ) (List ℕ) TypeName))) (now : State) (out : List (Pair (Expr Slot Target SeqType))) (rest : List (Pair (Expr (List ℕ) (List ℕ) TypeName))) : Type 0 where
  names : now.names ≡ old.names
  walk : passed now (pairs_mentions (view_of item old.names) (named_pairs rest)) (pairs_binders (named_pairs rest)) ≡ behind_pairs old item (named_pairs all)
  tree : with_pairs (bound_pairs out) (compiled_pairs old.names now.number (named_pairs rest)) ≡ compiled_pairs old.names old.number (named_pairs all)

pairs-step : (item : Bool) (old : State) (all : List (Pair (Expr (List ℕ) (List ℕ) TypeName))) (now next : State) (out : List (Pair (Expr Slot Target SeqType))) (x : Pair (Expr (List ℕ) (List ℕ) TypeName)) (rest : List (Pair (Expr (List ℕ) (List ℕ) TypeName))) (y : Pair (Expr Slot Target SeqType))
    → PairsLeft item old all now out (x ∷ rest) → bound_pair y ≡ compiled_pair now.names now.number (source_pair x) → next ≡ behind_pair now item (source_pair x)
    → PairsLeft item old all next (out ++ y ∷ []) rest
pairs-step item old all now next out x rest y h made walked =
    let view = view_of item old.names in
    let here : next ≡ passed now (pair_mentions view (source_pair x)) (pair_binders (source_pair x)) = walked ∙ ap (λ n. passed now (pair_mentions (view_of item n) (source_pair x)) (pair_binders (source_pair x))) h.names in
    record {
      names = ap (λ s. s.names) here ∙ passed-names now (pair_mentions view (source_pair x)) (pair_binders (source_pair x)) ∙ h.names;
      walk =
          ap (λ s. passed s (pairs_mentions view (named_pairs rest)) (pairs_binders (named_pairs rest))) here
          ∙ passed-passed now (pair_mentions view (source_pair x)) (pairs_mentions view (named_pairs rest)) (pair_binders (source_pair x)) (pairs_binders (named_pairs rest))
          ∙ h.walk;
      tree =
          with_pairs-one out y (compiled_pairs old.names next.number (named_pairs rest))
          ∙ ap (λ k. with_pairs (bound_pairs out) (p.more_pairs (bound_pair y) (compiled_pairs old.names k (named_pairs rest)))) (ap (λ s. s.number) here ∙ passed-number now (pair_mentions view (source_pair x)) (pair_binders (source_pair x)))
          ∙ ap (λ b. with_pairs (bound_pairs out) (p.more_pairs b (compiled_pairs old.names (past now.number (pair_binders (source_pair x))) (named_pairs rest)))) (made ∙ ap (λ n. compiled_pair n now.number (source_pair x)) h.names)
          ∙ h.tree;
    }

pub pairs-begun : (item : Bool) (old : State) (all : List (Pair (Expr (List ℕ) (List ℕ) TypeName))) → PairsLeft item old all old [] all
pairs-begun item old all = record { names = refl; walk = refl; tree = refl }

pub pairs-more : {E : Type 0} (item : Bool) (old : State) (all : List (Pair (Expr (List ℕ) (List ℕ) TypeName))) (now next : State) (out longer : List (Pair (Expr Slot Target SeqType))) (i : ℕ) (x : Pair (Expr (List ℕ) (List ℕ) TypeName)) (part : Result (Pair (Expr Slot Target SeqType)) E)
    → PairsLeft item old all now out (drop i all) → i < length all → x ≡ get_or all i x
    → IfOk part (λ y. bound_pair y ≡ compiled_pair now.names now.number (source_pair x)) → OnOk part (next ≡ behind_pair now item (source_pair x)) → Pushed out part longer
    → PairsLeft item old all next longer (drop (i + 1) all)
pairs-more item old all now next out longer i x (Ok y) h l here made walked pushed =
    let at : drop i all ≡ x ∷ drop (i + 1) all = drop_more all i x l ∙ ap (λ z. z ∷ drop (i + 1) all) (sym here) in
    subst (λ ys. PairsLeft item old all next ys (drop (i + 1) all)) (sym pushed)
    (pairs-step item old all now next out x (drop (i + 1) all) y (subst (λ rest. PairsLeft item old all now out rest) at h) made walked)
pairs-more item old all now next out longer i x (Err e) h l here made walked pushed = absurd pushed

pub pairs-tree : (item : Bool) (old : State) (all : List (Pair (Expr (List ℕ) (List ℕ) TypeName))) (now : State) (out : List (Pair (Expr Slot Target SeqType))) (i : ℕ)
    → PairsLeft item old all now out (drop i all) → length all ≤ i → bound_pairs out ≡ compiled_pairs old.names old.number (named_pairs all)
pairs-tree item old all now out i h l =
    let g = subst (λ rest. PairsLeft item old all now out rest) (drop_all i all l) h in
    sym (with_pairs-none (bound_pairs out)) ∙ g.tree

pub pairs-walk : (item : Bool) (old : State) (all : List (Pair (Expr (List ℕ) (List ℕ) TypeName))) (now : State) (out : List (Pair (Expr Slot Target SeqType))) (i : ℕ)
    → PairsLeft item old all now out (drop i all) → length all ≤ i → now ≡ behind_pairs old item (named_pairs all)
pairs-walk item old all now out i h l =
    let g = subst (λ rest. PairsLeft item old all now out rest) (drop_all i all l) h in
    sym (passed-none now) ∙ g.walk

abbrev pub with_steps : PlainSteps Slot Target SeqType → PlainSteps Slot Target SeqType → PlainSteps Slot Target SeqType
with_steps p.no_steps rest = rest
with_steps (p.more_steps x xs) rest = p.more_steps x (with_steps xs rest)

with_steps-none : (xs : PlainSteps Slot Target SeqType) → with_steps xs p.no_steps ≡ xs
with_steps-none p.no_steps = refl
with_steps-none (p.more_steps x xs) = ap (p.more_steps x) (with_steps-none xs)

with_steps-one : (xs : List (Step Slot (Expr Slot Target SeqType))) (y : Step Slot (Expr Slot Target SeqType)) (rest : PlainSteps Slot Target SeqType) → with_steps (bound_steps (xs ++ y ∷ [])) rest ≡ with_steps (bound_steps xs) (p.more_steps (bound_step y) rest)
with_steps-one [] y rest = refl
with_steps-one (x ∷ xs) y rest = ap (p.more_steps (bound_step x)) (with_steps-one xs y rest)

pub record StepsLeft (item : Bool) (old : State) (all : List (Step (List ℕ) (Expr (List ℕ) (List ℕ) TypeName))) (now : State) (out : List (Step Slot (Expr Slot Target SeqType))) (rest : List (Step (List ℕ) (Expr (List ℕ) (List ℕ) TypeName))) : Type 0 where
  names : now.names ≡ old.names
  walk : passed now (steps_mentions (view_of item old.names) (named_steps rest)) (steps_binders (named_steps rest)) ≡ behind_steps old item (named_steps all)
  tree : with_steps (bound_steps out) (compiled_steps old.names now.number (named_steps rest)) ≡ compiled_steps old.names old.number (named_steps all)

steps-step : (item : Bool) (old : State) (all : List (Step (List ℕ) (Expr (List ℕ) (List ℕ) TypeName))) (now next : State) (out : List (Step Slot (Expr Slot Target SeqType))) (x : Step (List ℕ) (Expr (List ℕ) (List ℕ) TypeName)) (rest : List (Step (List ℕ) (Expr (List ℕ) (List ℕ) TypeName))) (y : Step Slot (Expr Slot Target SeqType))
    → StepsLeft item old all now out (x ∷ rest) → bound_step y ≡ compiled_step now.names now.number (named_step x) → next ≡ behind_step now item (named_step x)
    → StepsLeft item old all next (out ++ y ∷ []) rest
steps-step item old all now next out x rest y h made walked =
    let view = view_of item old.names in
    let here : next ≡ passed now (step_mentions view (named_step x)) (step_binders (named_step x)) = walked ∙ ap (λ n. passed now (step_mentions (view_of item n) (named_step x)) (step_binders (named_step x))) h.names in
    record {
      names = ap (λ s. s.names) here ∙ passed-names now (step_mentions view (named_step x)) (step_binders (named_step x)) ∙ h.names;
      walk =
          ap (λ s. passed s (steps_mentions view (named_steps rest)) (steps_binders (named_steps rest))) here
          ∙ passed-passed now (step_mentions view (named_step x)) (steps_mentions view (named_steps rest)) (step_binders (named_step x)) (steps_binders (named_steps rest))
          ∙ h.walk;
      tree =
          with_steps-one out y (compiled_steps old.names next.number (named_steps rest))
          ∙ ap (λ k. with_steps (bound_steps out) (p.more_steps (bound_step y) (compiled_steps old.names k (named_steps rest)))) (ap (λ s. s.number) here ∙ passed-number now (step_mentions view (named_step x)) (step_binders (named_step x)))
          ∙ ap (λ b. with_steps (bound_steps out) (p.more_steps b (compiled_steps old.names (past now.number (step_binders (named_step x))) (named_steps rest)))) (made ∙ ap (λ n. compiled_step n now.number (named_step x)) h.names)
          ∙ h.tree;
    }

pub steps-begun : (item : Bool) (old : State) (all : List (Step (List ℕ) (Expr (List ℕ) (List ℕ) TypeName))) → StepsLeft item old all old [] all
steps-begun item old all = record { names = refl; walk = refl; tree = refl }

pub steps-more : {E : Type 0} (item : Bool) (old : State) (all : List (Step (List ℕ) (Expr (List ℕ) (List ℕ) TypeName))) (now next : State) (out longer : List (Step Slot (Expr Slot Target SeqType))) (i : ℕ) (x : Step (List ℕ) (Expr (List ℕ) (List ℕ) TypeName)) (part : Result (Step Slot (Expr Slot Target SeqType)) E)
    → StepsLeft item old all now out (drop i all) → i < length all → x ≡ get_or all i x
    → IfOk part (λ y. bound_step y ≡ compiled_step now.names now.number (named_step x)) → OnOk part (next ≡ behind_step now item (named_step x)) → Pushed out part longer
    → StepsLeft item old all next longer (drop (i + 1) all)
steps-more item old all now next out longer i x (Ok y) h l here made walked pushed =
    let at : drop i all ≡ x ∷ drop (i + 1) all = drop_more all i x l ∙ ap (λ z. z ∷ drop (i + 1) all) (sym here) in
    subst (λ ys. StepsLeft item old all next ys (drop (i + 1) all)) (sym pushed)
    (steps-step item old all now next out x (drop (i + 1) all) y (subst (λ rest. StepsLeft item old all now out rest) at h) made walked)
steps-more item old all now next out longer i x (Err e) h l here made walked pushed = absurd pushed

pub steps-tree : (item : Bool) (old : State) (all : List (Step (List ℕ) (Expr (List ℕ) (List ℕ) TypeName))) (now : State) (out : List (Step Slot (Expr Slot Target SeqType))) (i : ℕ)
    → StepsLeft item old all now out (drop i all) → length all ≤ i → bound_steps out ≡ compiled_steps old.names old.number (named_steps all)
steps-tree item old all now out i h l =
    let g = subst (λ rest. StepsLeft item old all now out rest) (drop_all i all l) h in
    sym (with_steps-none (bound_steps out)) ∙ g.tree

pub steps-walk : (item : Bool) (old : State) (all : List (Step (List ℕ) (Expr (List ℕ) (List ℕ) TypeName))) (now : State) (out : List (Step Slot (Expr Slot Target SeqType))) (i : ℕ)
    → StepsLeft item old all now out (drop i all) → length all ≤ i → now ≡ behind_steps old item (named_steps all)
steps-walk item old all now out i h l =
    let g = subst (λ rest. StepsLeft item old all now out rest) (drop_all i all l) h in
    sym (passed-none now) ∙ g.walk

abbrev pub with_order_keys : PlainOrderKeys Slot Target SeqType → PlainOrderKeys Slot Target SeqType → PlainOrderKeys Slot Target SeqType
with_order_keys p.no_order_keys rest = rest
with_order_keys (p.more_order_keys x xs) rest = p.more_order_keys x (with_order_keys xs rest)

with_order_keys-none : (xs : PlainOrderKeys Slot Target SeqType) → with_order_keys xs p.no_order_keys ≡ xs
with_order_keys-none p.no_order_keys = refl
with_order_keys-none (p.more_order_keys x xs) = ap (p.more_order_keys x) (with_order_keys-none xs)

with_order_keys-one : (xs : List (OrderKey (Expr Slot Target SeqType))) (y : OrderKey (Expr Slot Target SeqType)) (rest : PlainOrderKeys Slot Target SeqType) → with_order_keys (bound_order_keys (xs ++ y ∷ [])) rest ≡ with_order_keys (bound_order_keys xs) (p.more_order_keys (bound_order_key y) rest)
with_order_keys-one [] y rest = refl
with_order_keys-one (x ∷ xs) y rest = ap (p.more_order_keys (bound_order_key x)) (with_order_keys-one xs y rest)

pub record OrderKeysLeft (item : Bool) (old : State) (all : List (OrderKey (Expr (List ℕ) (List ℕ) TypeName))) (now : State) (out : List (OrderKey (Expr Slot Target SeqType))) (rest : List (OrderKey (Expr (List ℕ) (List ℕ) TypeName))) : Type 0 where
  names : now.names ≡ old.names
  walk : passed now (order_keys_mentions (view_of item old.names) (named_order_keys rest)) (order_keys_binders (named_order_keys rest)) ≡ behind_order_keys old item (named_order_keys all)
  tree : with_order_keys (bound_order_keys out) (compiled_order_keys old.names now.number (named_order_keys rest)) ≡ compiled_order_keys old.names old.number (named_order_keys all)

order_keys-step : (item : Bool) (old : State) (all : List (OrderKey (Expr (List ℕ) (List ℕ) TypeName))) (now next : State) (out : List (OrderKey (Expr Slot Target SeqType))) (x : OrderKey (Expr (List ℕ) (List ℕ) TypeName)) (rest : List (OrderKey (Expr (List ℕ) (List ℕ) TypeName))) (y : OrderKey (Expr Slot Target SeqType))
    → OrderKeysLeft item old all now out (x ∷ rest) → bound_order_key y ≡ compiled_order_key now.names now.number (named_order_key x) → next ≡ behind_order_key now item (named_order_key x)
    → OrderKeysLeft item old all next (out ++ y ∷ []) rest
order_keys-step item old all now next out x rest y h made walked =
    let view = view_of item old.names in
    let here : next ≡ passed now (order_key_mentions view (named_order_key x)) (order_key_binders (named_order_key x)) = walked ∙ ap (λ n. passed now (order_key_mentions (view_of item n) (named_order_key x)) (order_key_binders (named_order_key x))) h.names in
    record {
      names = ap (λ s. s.names) here ∙ passed-names now (order_key_mentions view (named_order_key x)) (order_key_binders (named_order_key x)) ∙ h.names;
      walk =
          ap (λ s. passed s (order_keys_mentions view (named_order_keys rest)) (order_keys_binders (named_order_keys rest))) here
          ∙ passed-passed now (order_key_mentions view (named_order_key x)) (order_keys_mentions view (named_order_keys rest)) (order_key_binders (named_order_key x)) (order_keys_binders (named_order_keys rest))
          ∙ h.walk;
      tree =
          with_order_keys-one out y (compiled_order_keys old.names next.number (named_order_keys rest))
          ∙ ap (λ k. with_order_keys (bound_order_keys out) (p.more_order_keys (bound_order_key y) (compiled_order_keys old.names k (named_order_keys rest)))) (ap (λ s. s.number) here ∙ passed-number now (order_key_mentions view (named_order_key x)) (order_key_binders (named_order_key x)))
          ∙ ap (λ b. with_order_keys (bound_order_keys out) (p.more_order_keys b (compiled_order_keys old.names (past now.number (order_key_binders (named_order_key x))) (named_order_keys rest)))) (made ∙ ap (λ n. compiled_order_key n now.number (named_order_key x)) h.names)
          ∙ h.tree;
    }

pub order_keys-begun : (item : Bool) (old : State) (all : List (OrderKey (Expr (List ℕ) (List ℕ) TypeName))) → OrderKeysLeft item old all old [] all
order_keys-begun item old all = record { names = refl; walk = refl; tree = refl }

pub order_keys-more : {E : Type 0} (item : Bool) (old : State) (all : List (OrderKey (Expr (List ℕ) (List ℕ) TypeName))) (now next : State) (out longer : List (OrderKey (Expr Slot Target SeqType))) (i : ℕ) (x : OrderKey (Expr (List ℕ) (List ℕ) TypeName)) (part : Result (OrderKey (Expr Slot Target SeqType)) E)
    → OrderKeysLeft item old all now out (drop i all) → i < length all → x ≡ get_or all i x
    → IfOk part (λ y. bound_order_key y ≡ compiled_order_key now.names now.number (named_order_key x)) → OnOk part (next ≡ behind_order_key now item (named_order_key x)) → Pushed out part longer
    → OrderKeysLeft item old all next longer (drop (i + 1) all)
order_keys-more item old all now next out longer i x (Ok y) h l here made walked pushed =
    let at : drop i all ≡ x ∷ drop (i + 1) all = drop_more all i x l ∙ ap (λ z. z ∷ drop (i + 1) all) (sym here) in
    subst (λ ys. OrderKeysLeft item old all next ys (drop (i + 1) all)) (sym pushed)
    (order_keys-step item old all now next out x (drop (i + 1) all) y (subst (λ rest. OrderKeysLeft item old all now out rest) at h) made walked)
order_keys-more item old all now next out longer i x (Err e) h l here made walked pushed = absurd pushed

pub order_keys-tree : (item : Bool) (old : State) (all : List (OrderKey (Expr (List ℕ) (List ℕ) TypeName))) (now : State) (out : List (OrderKey (Expr Slot Target SeqType))) (i : ℕ)
    → OrderKeysLeft item old all now out (drop i all) → length all ≤ i → bound_order_keys out ≡ compiled_order_keys old.names old.number (named_order_keys all)
order_keys-tree item old all now out i h l =
    let g = subst (λ rest. OrderKeysLeft item old all now out rest) (drop_all i all l) h in
    sym (with_order_keys-none (bound_order_keys out)) ∙ g.tree

pub order_keys-walk : (item : Bool) (old : State) (all : List (OrderKey (Expr (List ℕ) (List ℕ) TypeName))) (now : State) (out : List (OrderKey (Expr Slot Target SeqType))) (i : ℕ)
    → OrderKeysLeft item old all now out (drop i all) → length all ≤ i → now ≡ behind_order_keys old item (named_order_keys all)
order_keys-walk item old all now out i h l =
    let g = subst (λ rest. OrderKeysLeft item old all now out rest) (drop_all i all l) h in
    sym (passed-none now) ∙ g.walk
