-- The states behind an expression and behind its parts.
use Rattle.std.specs.Prelude.{ℕ, Bool, List}
use Rattle.query_tree.specs.declared.names.TypeName.{TypeName}
use Rattle.query_tree.specs.Plain.{Form, Trees, MaybeTree, PlainLookup, PlainOperand, PlainOperands, PlainTerm, PlainTerms, PlainFactor, PlainFactors, PlainCase, PlainCases, PlainTypeCase, PlainTypeCases, PlainCatch, PlainCatches, PlainPair, PlainPairs, PlainStep, PlainSteps, PlainOrderKey, PlainOrderKeys}
use Rattle.query_tree.specs.NamedViews.{NamedTree}
use Rattle.static_rules.specs.Mentions.{mentions, form_mentions, content_mentions, lookup_mentions, operands_mentions, terms_mentions, factors_mentions, trees_mentions, cases_mentions, type_cases_mentions, catches_mentions, pairs_mentions, steps_mentions, order_keys_mentions, operand_mentions, term_mentions, factor_mentions, case_mentions, type_case_mentions, catch_mentions, pair_mentions, step_mentions, order_key_mentions}
use Rattle.query_tree.specs.Binders.{binders, form_binders, content_binders, lookup_binders, operands_binders, terms_binders, factors_binders, trees_binders, cases_binders, type_cases_binders, catches_binders, pairs_binders, steps_binders, order_keys_binders, operand_binders, term_binders, factor_binders, case_binders, type_case_binders, catch_binders, pair_binders, step_binders, order_key_binders}
use Rattle.static_rules.specs.Walks.{State, view_of, passed}

-- the state behind an expression, and behind a part of one
abbrev pub behind_tree : State → Bool → NamedTree → State
behind_tree s item t = passed s (mentions (view_of item s.names) t) (binders t)

abbrev pub behind_form : State → Bool → ℕ → Form (List ℕ) (List ℕ) TypeName → State
behind_form s item place t =
    passed s (form_mentions (view_of item s.names) place t) (form_binders t)

abbrev pub behind_content : State → Bool → MaybeTree (List ℕ) (List ℕ) TypeName → State
behind_content s item t = passed s (content_mentions (view_of item s.names) t) (content_binders t)

abbrev pub behind_lookup : State → Bool → PlainLookup (List ℕ) (List ℕ) TypeName → State
behind_lookup s item t = passed s (lookup_mentions (view_of item s.names) t) (lookup_binders t)

abbrev pub behind_operand : State → Bool → PlainOperand (List ℕ) (List ℕ) TypeName → State
behind_operand s item t = passed s (operand_mentions (view_of item s.names) t) (operand_binders t)

abbrev pub behind_operands : State → Bool → PlainOperands (List ℕ) (List ℕ) TypeName → State
behind_operands s item t =
    passed s (operands_mentions (view_of item s.names) t) (operands_binders t)

abbrev pub behind_term : State → Bool → PlainTerm (List ℕ) (List ℕ) TypeName → State
behind_term s item t = passed s (term_mentions (view_of item s.names) t) (term_binders t)

abbrev pub behind_terms : State → Bool → PlainTerms (List ℕ) (List ℕ) TypeName → State
behind_terms s item t = passed s (terms_mentions (view_of item s.names) t) (terms_binders t)

abbrev pub behind_factor : State → Bool → PlainFactor (List ℕ) (List ℕ) TypeName → State
behind_factor s item t = passed s (factor_mentions (view_of item s.names) t) (factor_binders t)

abbrev pub behind_factors : State → Bool → PlainFactors (List ℕ) (List ℕ) TypeName → State
behind_factors s item t = passed s (factors_mentions (view_of item s.names) t) (factors_binders t)

abbrev pub behind_trees : State → Bool → Trees (List ℕ) (List ℕ) TypeName → State
behind_trees s item t = passed s (trees_mentions (view_of item s.names) t) (trees_binders t)

abbrev pub behind_case : State → Bool → PlainCase (List ℕ) (List ℕ) TypeName → State
behind_case s item t = passed s (case_mentions (view_of item s.names) t) (case_binders t)

abbrev pub behind_cases : State → Bool → PlainCases (List ℕ) (List ℕ) TypeName → State
behind_cases s item t = passed s (cases_mentions (view_of item s.names) t) (cases_binders t)

abbrev pub behind_type_case : State → Bool → PlainTypeCase (List ℕ) (List ℕ) TypeName → State
behind_type_case s item t =
    passed s (type_case_mentions (view_of item s.names) t) (type_case_binders t)

abbrev pub behind_type_cases : State → Bool → PlainTypeCases (List ℕ) (List ℕ) TypeName → State
behind_type_cases s item t =
    passed s (type_cases_mentions (view_of item s.names) t) (type_cases_binders t)

abbrev pub behind_catch : State → Bool → PlainCatch (List ℕ) (List ℕ) TypeName → State
behind_catch s item t = passed s (catch_mentions (view_of item s.names) t) (catch_binders t)

abbrev pub behind_catches : State → Bool → PlainCatches (List ℕ) (List ℕ) TypeName → State
behind_catches s item t = passed s (catches_mentions (view_of item s.names) t) (catches_binders t)

abbrev pub behind_pair : State → Bool → PlainPair (List ℕ) (List ℕ) TypeName → State
behind_pair s item t = passed s (pair_mentions (view_of item s.names) t) (pair_binders t)

abbrev pub behind_pairs : State → Bool → PlainPairs (List ℕ) (List ℕ) TypeName → State
behind_pairs s item t = passed s (pairs_mentions (view_of item s.names) t) (pairs_binders t)

abbrev pub behind_step : State → Bool → PlainStep (List ℕ) (List ℕ) TypeName → State
behind_step s item t = passed s (step_mentions (view_of item s.names) t) (step_binders t)

abbrev pub behind_steps : State → Bool → PlainSteps (List ℕ) (List ℕ) TypeName → State
behind_steps s item t = passed s (steps_mentions (view_of item s.names) t) (steps_binders t)

abbrev pub behind_order_key : State → Bool → PlainOrderKey (List ℕ) (List ℕ) TypeName → State
behind_order_key s item t =
    passed s (order_key_mentions (view_of item s.names) t) (order_key_binders t)

abbrev pub behind_order_keys : State → Bool → PlainOrderKeys (List ℕ) (List ℕ) TypeName → State
behind_order_keys s item t =
    passed s (order_keys_mentions (view_of item s.names) t) (order_keys_binders t)
