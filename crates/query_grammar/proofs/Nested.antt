-- Written by tools/grammar_laws.py from the productions of specs/Grammar.antt. Change those, and run it again.
-- Where so many forms may nest, each production has exactly the values that are nested no deeper.
use Rattle.std.proofs.Common.{◌≡◌, ℕ, true, false, refl, arith}
use Rattle.query_tree.specs.Plain as p
use Rattle.query_tree.specs.Nesting.{greatest}
use Rattle.grammar_parts.specs.Tokens.{never}
use Rattle.grammar_parts.proofs.Modes.{named, one_at, only_at, mapped_at, alt_at}
use Rattle.grammar_parts.proofs.Levels.{Ground}
use Rattle.grammar_parts.proofs.Counts.{Counts, of_any, mapped_counts, only_counts, unless_counts, alt_counts, opt_counts, seq_counts, form_counts}
use Rattle.grammar_parts.proofs.Nested.{Higher, Counting, above, alt_nested, opt_nested, ahead_nested}
use Rattle.query_grammar.specs.declared.word.Kind.{Kind}
use Rattle.query_grammar.specs.declared.word.Kind.TheVariants as k
use Rattle.query_grammar.specs.declared.word.Word.{Word}
use Rattle.query_grammar.specs.declared.part.Part.{Part}
use Rattle.query_grammar.specs.declared.part.Part.TheVariants as i
use Rattle.query_grammar.specs.Nodes as n
use Rattle.query_grammar.specs.Nodes.{Tree}
use Rattle.query_grammar.specs.Classes.{is, given, is_name, is_call_name, is_literal, is_lookup_key, is_sum_op, is_product_op, is_compare_op, is_quantifier, is_window, single_first, pair_first, argument_first, step_first, order_clause_first, first_clause_first, clause_first}
use Rattle.query_grammar.specs.Languages.{of_kind, one, tok}
use Rattle.query_grammar.specs.Grammar as g
use Rattle.query_grammar.proofs.Depths.{bind_depth, case_depth, catch_depth, clause_depth, clauses_depth, compared_depth, declaration_depth, default_depth, factor_depth, group_var_depth, key_depth, lookup_depth, module_depth, operand_depth, order_key_depth, pair_depth, placed_depth, step_at_depth, step_depth, term_depth, tree_depth, type_case_depth, array-depth, call-depth, case-depth, chain-depth, compare-depth, flwor-depth, group_clause-depth, group_var-depth, listed-depth, literal-depth, merge-depth, module_with-depth, object-depth, order_clause-depth, pair-depth, paren-depth, plain_key-depth, postfix-depth, product-depth, quant-depth, range-depth, sign-depth, sum-depth, switch-depth, try-depth, typed-depth, typeswitch-depth, plain, before_counts, from_counts, behind_counts, shut_counts, repeated_counts, more_counts, step_counts}
use Rattle.query_grammar.proofs.Productions.{language, sets, for_var_ext, primary_firsts, primary_firsts_2, primary_firsts_3, primary_firsts_4, single_firsts, single_firsts_2, single_firsts_3, single_firsts_4, single_firsts_5, argument_list-inside, array-law, call-law, computed_key-inside, filter-inside, flwor-law, if-law, inline_function-law, member-inside, merge-law, object-law, or_level-law, pair_list-inside, paren-law, quant-law, switch-law, try-law, typeswitch-law}

module _ (w : Ground Word Kind Part Tree language sets) (u : Higher tree_depth w) where
  allowing-plain : {bound : ℕ} → Counts bound (λ x. 0) (g.allowing w.mode w.parts).read (g.allowing (above u.wider) u.parts).read never
  unfolding g.allowing
  allowing-plain = plain (g.allowing w.mode w.parts)

  at_variable-plain : {bound : ℕ} → Counts bound (λ x. 0) (g.at_variable w.mode w.parts).read (g.at_variable (above u.wider) u.parts).read never
  unfolding g.at_variable
  at_variable-plain = plain (g.at_variable w.mode w.parts)

  for_var-within : w.mode.room ≡ true → Counts u.within clause_depth (g.for_var w.mode w.parts).read (g.for_var (above u.wider) u.parts).read never
  unfolding g.for_var is
  for_var-within r = mapped_counts clause_depth n.for_var (λ x. omega arith) (seq_counts (plain g.variable) (seq_counts (plain g.as_type) (seq_counts allowing-plain (seq_counts at_variable-plain (before_counts k.In (u.counts r i.Single))))))

  for_vars-within : w.mode.room ≡ true → Counts u.within (greatest clause_depth) (g.for_vars w.mode w.parts).read (g.for_vars (above u.wider) u.parts).read never
  unfolding g.for_vars is
  for_vars-within r = more_counts (of_kind (is k.Comma)) (for_var-within r) (before_counts k.Comma (for_var-within r))

  window-within : Counts u.within (greatest clause_depth) (g.window w.mode w.parts).read (g.window (above u.wider) u.parts).read never
  unfolding g.window is
  window-within = only_counts w.mode.wide (λ o. mapped_counts (greatest clause_depth) n.no_clauses (λ x. omega arith) (plain (one is_window)))

  for_clause-within : w.mode.room ≡ true → Counts u.within clauses_depth (g.for_clause w.mode w.parts).read (g.for_clause (above u.wider) u.parts).read never
  unfolding g.for_clause is
  for_clause-within r = from_counts k.For (alt_counts (of_kind (is k.Var)) (for_vars-within r) window-within)

  let_var-within : w.mode.room ≡ true → Counts u.within clause_depth (g.let_var w.mode w.parts).read (g.let_var (above u.wider) u.parts).read never
  unfolding g.let_var is
  let_var-within r = mapped_counts clause_depth n.let_var (λ x. omega arith) (seq_counts (plain g.variable) (seq_counts (plain g.as_type) (before_counts k.Assign (u.counts r i.Single))))

  let_vars-within : w.mode.room ≡ true → Counts u.within (greatest clause_depth) (g.let_vars w.mode w.parts).read (g.let_vars (above u.wider) u.parts).read never
  unfolding g.let_vars is
  let_vars-within r = more_counts (of_kind (is k.Comma)) (let_var-within r) (before_counts k.Comma (let_var-within r))

  let_clause-within : w.mode.room ≡ true → Counts u.within clauses_depth (g.let_clause w.mode w.parts).read (g.let_clause (above u.wider) u.parts).read never
  unfolding g.let_clause is
  let_clause-within r = from_counts k.Let (let_vars-within r)

  first_clause-within : w.mode.room ≡ true → Counts u.within clauses_depth (g.first_clause w.mode w.parts).read (g.first_clause (above u.wider) u.parts).read never
  unfolding g.first_clause is
  first_clause-within r = alt_counts (of_kind (is k.For)) (for_clause-within r) (let_clause-within r)

  where_clause-within : w.mode.room ≡ true → Counts u.within clause_depth (g.where_clause w.mode w.parts).read (g.where_clause (above u.wider) u.parts).read never
  unfolding g.where_clause is
  where_clause-within r = mapped_counts clause_depth n.where_clause (λ x. omega arith) (from_counts k.Where (u.counts r i.Single))

  group_value-within : w.mode.room ≡ true → Counts u.within (of_any tree_depth) (g.group_value w.mode w.parts).read (g.group_value (above u.wider) u.parts).read never
  unfolding g.group_value is
  group_value-within r = opt_counts (of_kind (is k.Assign)) (before_counts k.Assign (u.counts r i.Single))

  group_var-within : w.mode.room ≡ true → Counts u.within group_var_depth (g.group_var w.mode w.parts).read (g.group_var (above u.wider) u.parts).read never
  unfolding g.group_var is
  group_var-within r = mapped_counts group_var_depth n.group_var group_var-depth (seq_counts (plain g.variable) (group_value-within r))

  group_vars-within : w.mode.room ≡ true → Counts u.within (greatest group_var_depth) (g.group_vars w.mode w.parts).read (g.group_vars (above u.wider) u.parts).read never
  unfolding g.group_vars is
  group_vars-within r = more_counts (of_kind (is k.Comma)) (group_var-within r) (before_counts k.Comma (group_var-within r))

  group_clause-within : w.mode.room ≡ true → Counts u.within clause_depth (g.group_clause w.mode w.parts).read (g.group_clause (above u.wider) u.parts).read never
  unfolding g.group_clause is
  group_clause-within r = mapped_counts clause_depth n.group_clause group_clause-depth (from_counts k.Group (before_counts k.By (group_vars-within r)))

  direction-plain : {bound : ℕ} → Counts bound (λ x. 0) (g.direction w.mode w.parts).read (g.direction (above u.wider) u.parts).read never
  unfolding g.direction
  direction-plain = plain (g.direction w.mode w.parts)

  empty_order-plain : {bound : ℕ} → Counts bound (λ x. 0) (g.empty_order w.mode w.parts).read (g.empty_order (above u.wider) u.parts).read never
  unfolding g.empty_order
  empty_order-plain = plain (g.empty_order w.mode w.parts)

  order_key-within : w.mode.room ≡ true → Counts u.within order_key_depth (g.order_key w.mode w.parts).read (g.order_key (above u.wider) u.parts).read never
  unfolding g.order_key is
  order_key-within r = mapped_counts order_key_depth n.order_key (λ x. omega arith) (seq_counts (u.counts r i.Single) (seq_counts direction-plain empty_order-plain))

  order_list-within : w.mode.room ≡ true → Counts u.within (greatest order_key_depth) (g.order_list w.mode w.parts).read (g.order_list (above u.wider) u.parts).read never
  unfolding g.order_list is
  order_list-within r = more_counts (of_kind (is k.Comma)) (order_key-within r) (before_counts k.Comma (order_key-within r))

  order_keys-within : w.mode.room ≡ true → Counts u.within (greatest order_key_depth) (g.order_keys w.mode w.parts).read (g.order_keys (above u.wider) u.parts).read never
  unfolding g.order_keys is
  order_keys-within r = before_counts k.By (order_list-within r)

  order_clause-within : w.mode.room ≡ true → Counts u.within clause_depth (g.order_clause w.mode w.parts).read (g.order_clause (above u.wider) u.parts).read never
  unfolding g.order_clause is
  order_clause-within r = alt_counts (of_kind (is k.Stable)) (mapped_counts clause_depth (n.order_clause true) (order_clause-depth true) (from_counts k.Stable (before_counts k.Order (order_keys-within r)))) (mapped_counts clause_depth (n.order_clause false) (order_clause-depth false) (from_counts k.Order (order_keys-within r)))

  count_clause-within : Counts u.within clause_depth (g.count_clause w.mode w.parts).read (g.count_clause (above u.wider) u.parts).read never
  unfolding g.count_clause is
  count_clause-within = mapped_counts clause_depth n.count_clause (λ x. omega arith) (from_counts k.Count (plain g.variable))

  one_clause-within : w.mode.room ≡ true → Counts u.within clause_depth (g.one_clause w.mode w.parts).read (g.one_clause (above u.wider) u.parts).read never
  unfolding g.one_clause is
  one_clause-within r = alt_counts (of_kind (is k.Where)) (where_clause-within r) (alt_counts (of_kind (is k.Group)) (group_clause-within r) (alt_counts (of_kind order_clause_first) (order_clause-within r) count_clause-within))

  clause-within : w.mode.room ≡ true → Counts u.within (greatest clause_depth) (g.clause w.mode w.parts).read (g.clause (above u.wider) u.parts).read never
  unfolding g.clause is
  clause-within r = alt_counts (of_kind first_clause_first) (mapped_counts (greatest clause_depth) n.clauses_of (λ x. omega arith) (first_clause-within r)) (mapped_counts (greatest clause_depth) n.just_clause (λ x. omega arith) (one_clause-within r))

  clauses-within : w.mode.room ≡ true → Counts u.within (greatest (greatest clause_depth)) (g.clauses w.mode w.parts).read (g.clauses (above u.wider) u.parts).read never
  unfolding g.clauses is
  clauses-within r = repeated_counts (of_kind clause_first) (clause-within r)

  flwor-counts : Counts u.bound tree_depth (g.flwor w.mode w.parts).read (g.flwor (above u.wider) u.parts).read never
  unfolding g.flwor is
  flwor-counts = form_counts w.mode.room u.wider.room u.wider.grows u.bare u.one_more tree_depth n.flwor flwor-depth (λ r. seq_counts (first_clause-within r) (seq_counts (clauses-within r) (from_counts k.Return (u.counts r i.Single))))

  bind-within : w.mode.room ≡ true → Counts u.within bind_depth (g.bind w.mode w.parts).read (g.bind (above u.wider) u.parts).read never
  unfolding g.bind is
  bind-within r = mapped_counts bind_depth n.bind (λ x. omega arith) (seq_counts (plain g.variable) (seq_counts (plain g.as_type) (before_counts k.In (u.counts r i.Single))))

  binds-within : w.mode.room ≡ true → Counts u.within (greatest bind_depth) (g.binds w.mode w.parts).read (g.binds (above u.wider) u.parts).read never
  unfolding g.binds is
  binds-within r = more_counts (of_kind (is k.Comma)) (bind-within r) (before_counts k.Comma (bind-within r))

  quant-counts : Counts u.bound tree_depth (g.quant w.mode w.parts).read (g.quant (above u.wider) u.parts).read never
  unfolding g.quant is
  quant-counts = form_counts w.mode.room u.wider.room u.wider.grows u.bare u.one_more tree_depth n.quant quant-depth (λ r. seq_counts (plain (one is_quantifier)) (seq_counts (binds-within r) (before_counts k.Satisfies (u.counts r i.Single))))

  in_parens-within : w.mode.room ≡ true → Counts u.within tree_depth (g.in_parens w.mode w.parts).read (g.in_parens (above u.wider) u.parts).read never
  unfolding g.in_parens is
  in_parens-within r = before_counts k.OpenParen (behind_counts k.CloseParen (u.counts r i.Expr))

  case_test-within : w.mode.room ≡ true → Counts u.within tree_depth (g.case_test w.mode w.parts).read (g.case_test (above u.wider) u.parts).read never
  unfolding g.case_test is
  case_test-within r = before_counts k.Case (u.counts r i.Single)

  case_tests-within : w.mode.room ≡ true → Counts u.within (greatest tree_depth) (g.case_tests w.mode w.parts).read (g.case_tests (above u.wider) u.parts).read never
  unfolding g.case_tests is
  case_tests-within r = more_counts (of_kind (is k.Case)) (case_test-within r) (case_test-within r)

  returned-within : w.mode.room ≡ true → Counts u.within tree_depth (g.returned w.mode w.parts).read (g.returned (above u.wider) u.parts).read never
  unfolding g.returned is
  returned-within r = before_counts k.Return (u.counts r i.Single)

  case-within : w.mode.room ≡ true → Counts u.within case_depth (g.case w.mode w.parts).read (g.case (above u.wider) u.parts).read never
  unfolding g.case is
  case-within r = mapped_counts case_depth n.case case-depth (seq_counts (case_tests-within r) (returned-within r))

  cases-within : w.mode.room ≡ true → Counts u.within (greatest case_depth) (g.cases w.mode w.parts).read (g.cases (above u.wider) u.parts).read never
  unfolding g.cases is
  cases-within r = more_counts (of_kind (is k.Case)) (case-within r) (case-within r)

  switch-counts : Counts u.bound tree_depth (g.switch w.mode w.parts).read (g.switch (above u.wider) u.parts).read never
  unfolding g.switch is
  switch-counts = form_counts w.mode.room u.wider.room u.wider.grows u.bare u.one_more tree_depth n.switch switch-depth (λ r. from_counts k.Switch (seq_counts (in_parens-within r) (seq_counts (cases-within r) (before_counts k.Default (returned-within r)))))

  case_variable-plain : {bound : ℕ} → Counts bound (λ x. 0) (g.case_variable w.mode w.parts).read (g.case_variable (above u.wider) u.parts).read never
  unfolding g.case_variable
  case_variable-plain = plain (g.case_variable w.mode w.parts)

  seq_types-plain : {bound : ℕ} → Counts bound (λ x. 0) (g.seq_types w.mode w.parts).read (g.seq_types (above u.wider) u.parts).read never
  unfolding g.seq_types
  seq_types-plain = plain (g.seq_types w.mode w.parts)

  type_case-within : w.mode.room ≡ true → Counts u.within type_case_depth (g.type_case w.mode w.parts).read (g.type_case (above u.wider) u.parts).read never
  unfolding g.type_case is
  type_case-within r = mapped_counts type_case_depth n.type_case (λ x. omega arith) (before_counts k.Case (seq_counts case_variable-plain (seq_counts seq_types-plain (returned-within r))))

  type_cases-within : w.mode.room ≡ true → Counts u.within (greatest type_case_depth) (g.type_cases w.mode w.parts).read (g.type_cases (above u.wider) u.parts).read never
  unfolding g.type_cases is
  type_cases-within r = more_counts (of_kind (is k.Case)) (type_case-within r) (type_case-within r)

  default_variable-plain : {bound : ℕ} → Counts bound (λ x. 0) (g.default_variable w.mode w.parts).read (g.default_variable (above u.wider) u.parts).read never
  unfolding g.default_variable
  default_variable-plain = plain (g.default_variable w.mode w.parts)

  type_default-within : w.mode.room ≡ true → Counts u.within default_depth (g.type_default w.mode w.parts).read (g.type_default (above u.wider) u.parts).read never
  unfolding g.type_default is
  type_default-within r = before_counts k.Default (seq_counts default_variable-plain (returned-within r))

  typeswitch-counts : Counts u.bound tree_depth (g.typeswitch w.mode w.parts).read (g.typeswitch (above u.wider) u.parts).read never
  unfolding g.typeswitch is
  typeswitch-counts = form_counts w.mode.room u.wider.room u.wider.grows u.bare u.one_more tree_depth n.typeswitch typeswitch-depth (λ r. from_counts k.Typeswitch (seq_counts (in_parens-within r) (seq_counts (type_cases-within r) (type_default-within r))))

  if-counts : Counts u.bound tree_depth (g.if w.mode w.parts).read (g.if (above u.wider) u.parts).read never
  unfolding g.if is
  if-counts = form_counts w.mode.room u.wider.room u.wider.grows u.bare u.one_more tree_depth n.if (λ x. omega arith) (λ r. from_counts k.If (seq_counts (in_parens-within r) (seq_counts (before_counts k.Then (u.counts r i.Single)) (before_counts k.Else (u.counts r i.Single)))))

  in_braces-within : w.mode.room ≡ true → Counts u.within tree_depth (g.in_braces w.mode w.parts).read (g.in_braces (above u.wider) u.parts).read never
  unfolding g.in_braces is
  in_braces-within r = before_counts k.OpenBrace (behind_counts k.CloseBrace (u.counts r i.Expr))

  catch_codes-plain : {bound : ℕ} → Counts bound (λ x. 0) (g.catch_codes w.mode w.parts).read (g.catch_codes (above u.wider) u.parts).read never
  unfolding g.catch_codes g.catch_names
  catch_codes-plain = plain (g.catch_codes w.mode w.parts)

  catch-within : w.mode.room ≡ true → Counts u.within catch_depth (g.catch w.mode w.parts).read (g.catch (above u.wider) u.parts).read never
  unfolding g.catch is
  catch-within r = mapped_counts catch_depth n.catch (λ x. omega arith) (from_counts k.Catch (seq_counts catch_codes-plain (in_braces-within r)))

  catches-within : w.mode.room ≡ true → Counts u.within (greatest catch_depth) (g.catches w.mode w.parts).read (g.catches (above u.wider) u.parts).read never
  unfolding g.catches is
  catches-within r = more_counts (of_kind (is k.Catch)) (catch-within r) (catch-within r)

  try-counts : Counts u.bound tree_depth (g.try w.mode w.parts).read (g.try (above u.wider) u.parts).read never
  unfolding g.try is
  try-counts = form_counts w.mode.room u.wider.room u.wider.grows u.bare u.one_more tree_depth n.try try-depth (λ r. from_counts k.Try (seq_counts (in_braces-within r) (catches-within r)))

  sign_marks-plain : {bound : ℕ} → Counts bound (λ x. 0) (g.sign_marks w.mode w.parts).read (g.sign_marks (above u.wider) u.parts).read never
  unfolding g.sign_marks g.sign_mark
  sign_marks-plain = plain (g.sign_marks w.mode w.parts)

  literal-counts : Counts u.bound tree_depth (g.literal w.mode w.parts).read (g.literal (above u.wider) u.parts).read never
  unfolding g.literal is
  literal-counts = mapped_counts tree_depth n.literal literal-depth (plain (one (is_literal w.mode.wide)))

  content-within : w.mode.room ≡ true → Counts u.within (of_any tree_depth) (g.content w.mode w.parts).read (g.content (above u.wider) u.parts).read (of_kind (single_first w.mode.wide u.wider.room_in))
  unfolding g.content is
  content-within r = opt_nested u.wider (w.laws r i.Expr) refl (u.counts r i.Expr)

  paren-counts : Counts u.bound tree_depth (g.paren w.mode w.parts).read (g.paren (above u.wider) u.parts).read never
  unfolding g.paren is
  paren-counts = form_counts w.mode.room u.wider.room u.wider.grows u.bare u.one_more tree_depth n.paren paren-depth (λ r. from_counts k.OpenParen (shut_counts u.wider k.CloseParen (λ m. single_first m.wide m.room_in) refl (content-within r)))

  name_key-within : Counts u.within key_depth (g.name_key w.mode w.parts).read (g.name_key (above u.wider) u.parts).read never
  unfolding g.name_key is
  name_key-within = mapped_counts key_depth n.name_key (λ x. omega arith) (seq_counts (plain (one is_name)) (plain (tok k.Colon)))

  computed_key-within : w.mode.room ≡ true → Counts u.within key_depth (g.computed_key w.mode w.parts).read (g.computed_key (above u.wider) u.parts).read never
  unfolding g.computed_key is
  computed_key-within r = mapped_counts key_depth n.computed_key (λ x. omega arith) (seq_counts (u.counts r i.Single) (plain (tok k.Colon)))

  pair_key-within : w.mode.room ≡ true → Counts u.within key_depth (g.pair_key w.mode w.parts).read (g.pair_key (above u.wider) u.parts).read never
  unfolding g.pair_key is
  pair_key-within r = ahead_nested u.wider is_name (is k.Colon) (computed_key-inside w r) refl name_key-within (computed_key-within r)

  pair-within : w.mode.room ≡ true → Counts u.within pair_depth (g.pair w.mode w.parts).read (g.pair (above u.wider) u.parts).read never
  unfolding g.pair is
  pair-within r = mapped_counts pair_depth n.pair pair-depth (seq_counts (pair_key-within r) (u.counts r i.Single))

  pair_list-within : w.mode.room ≡ true → Counts u.within (greatest pair_depth) (g.pair_list w.mode w.parts).read (g.pair_list (above u.wider) u.parts).read never
  unfolding g.pair_list is
  pair_list-within r = more_counts (of_kind (is k.Comma)) (pair-within r) (before_counts k.Comma (pair-within r))

  pairs-within : w.mode.room ≡ true → Counts u.within (greatest pair_depth) (g.pairs w.mode w.parts).read (g.pairs (above u.wider) u.parts).read (of_kind (pair_first w.mode.wide u.wider.room_in))
  unfolding g.pairs is
  pairs-within r = mapped_counts (greatest pair_depth) n.listed (listed-depth _) (opt_nested u.wider (pair_list-inside w r) refl (pair_list-within r))

  object-counts : Counts u.bound tree_depth (g.object w.mode w.parts).read (g.object (above u.wider) u.parts).read never
  unfolding g.object is
  object-counts = form_counts w.mode.room u.wider.room u.wider.grows u.bare u.one_more tree_depth n.object object-depth (λ r. from_counts k.OpenBrace (shut_counts u.wider k.CloseBrace (λ m. pair_first m.wide m.room_in) refl (pairs-within r)))

  merge-counts : Counts u.bound tree_depth (g.merge w.mode w.parts).read (g.merge (above u.wider) u.parts).read never
  unfolding g.merge is
  merge-counts = form_counts w.mode.room u.wider.room u.wider.grows u.bare u.one_more tree_depth n.merge merge-depth (λ r. from_counts k.OpenMerge (shut_counts u.wider k.CloseMerge (λ m. single_first m.wide m.room_in) refl (content-within r)))

  array-counts : Counts u.bound tree_depth (g.array w.mode w.parts).read (g.array (above u.wider) u.parts).read never
  unfolding g.array is
  array-counts = form_counts w.mode.room u.wider.room u.wider.grows u.bare u.one_more tree_depth n.array array-depth (λ r. from_counts k.OpenBracket (shut_counts u.wider k.CloseBracket (λ m. single_first m.wide m.room_in) refl (content-within r)))

  argument-within : w.mode.room ≡ true → Counts u.within tree_depth (g.argument w.mode w.parts).read (g.argument (above u.wider) u.parts).read never
  unfolding g.argument is
  argument-within r = alt_nested u.wider (w.laws r i.Single) (named (λ m. given m.wide (is k.Question)) (λ m. never) (only_at (λ m. m.wide) (λ o. mapped_at _ (one_at (λ wide. is k.Question)))) refl) refl refl refl (u.counts r i.Single) (only_counts w.mode.wide (λ o. mapped_counts tree_depth n.unused (λ x. omega arith) (plain (tok k.Question))))

  argument_list-within : w.mode.room ≡ true → Counts u.within (greatest tree_depth) (g.argument_list w.mode w.parts).read (g.argument_list (above u.wider) u.parts).read never
  unfolding g.argument_list is
  argument_list-within r = more_counts (of_kind (is k.Comma)) (argument-within r) (before_counts k.Comma (argument-within r))

  some_arguments-within : w.mode.room ≡ true → Counts u.within (greatest tree_depth) (g.some_arguments w.mode w.parts).read (g.some_arguments (above u.wider) u.parts).read (of_kind (argument_first w.mode.wide u.wider.room_in))
  unfolding g.some_arguments is
  some_arguments-within r = mapped_counts (greatest tree_depth) n.listed (listed-depth _) (opt_nested u.wider (argument_list-inside w r) refl (argument_list-within r))

  arguments-within : w.mode.room ≡ true → Counts u.within (greatest tree_depth) (g.arguments w.mode w.parts).read (g.arguments (above u.wider) u.parts).read never
  unfolding g.arguments is
  arguments-within r = before_counts k.OpenParen (shut_counts u.wider k.CloseParen (λ m. argument_first m.wide m.room_in) refl (some_arguments-within r))

  arity-within : Counts u.within (greatest tree_depth) (g.arity w.mode w.parts).read (g.arity (above u.wider) u.parts).read never
  unfolding g.arity is
  arity-within = only_counts w.mode.wide (λ o. mapped_counts (greatest tree_depth) n.no_trees (λ x. omega arith) (seq_counts (plain (tok k.Hash)) (plain (tok k.Int))))

  call-counts : Counts u.bound tree_depth (g.call w.mode w.parts).read (g.call (above u.wider) u.parts).read never
  unfolding g.call is
  call-counts = form_counts w.mode.room u.wider.room u.wider.grows u.bare u.one_more tree_depth n.call call-depth (λ r. seq_counts (plain (one is_call_name)) (alt_counts (of_kind (is k.OpenParen)) (arguments-within r) arity-within))

  inline_function-counts : Counts u.bound tree_depth (g.inline_function w.mode w.parts).read (g.inline_function (above u.wider) u.parts).read never
  unfolding g.inline_function is
  inline_function-counts = only_counts w.mode.wide (λ o. mapped_counts tree_depth n.inline_function (λ x. omega arith) (seq_counts (plain (tok k.Function)) (plain (tok k.OpenParen))))

  primary-counts : Counts u.bound tree_depth (g.primary w.mode w.parts).read (g.primary (above u.wider) u.parts).read never
  unfolding g.primary is
  primary-counts = alt_counts (of_kind (is_literal w.mode.wide)) literal-counts (alt_nested u.wider (paren-law w) (named (λ m. primary_firsts_4 m) (λ m. never) (alt_at (object-law w) (named (λ m. primary_firsts_3 m) (λ m. never) (alt_at (merge-law w) (named (λ m. primary_firsts_2 m) (λ m. never) (alt_at (array-law w) (named (λ m. primary_firsts m) (λ m. never) (alt_at (call-law w) (inline_function-law w) refl) refl) refl) refl) refl) refl) refl) refl) refl refl refl paren-counts (alt_nested u.wider (object-law w) (named (λ m. primary_firsts_3 m) (λ m. never) (alt_at (merge-law w) (named (λ m. primary_firsts_2 m) (λ m. never) (alt_at (array-law w) (named (λ m. primary_firsts m) (λ m. never) (alt_at (call-law w) (inline_function-law w) refl) refl) refl) refl) refl) refl) refl refl refl object-counts (alt_nested u.wider (merge-law w) (named (λ m. primary_firsts_2 m) (λ m. never) (alt_at (array-law w) (named (λ m. primary_firsts m) (λ m. never) (alt_at (call-law w) (inline_function-law w) refl) refl) refl) refl) refl refl refl merge-counts (alt_nested u.wider (array-law w) (named (λ m. primary_firsts m) (λ m. never) (alt_at (call-law w) (inline_function-law w) refl) refl) refl refl refl array-counts (alt_nested u.wider (call-law w) (inline_function-law w) refl refl refl call-counts inline_function-counts)))))

  members-counts : (at : ℕ) → Counts u.bound (step_at_depth at) (g.members w.mode w.parts).read (g.members (above u.wider) u.parts).read never
  unfolding g.members is
  members-counts at = mapped_counts (step_at_depth at) n.members (λ x. omega arith) (plain (tok k.CloseBracket))

  member-counts : (at : ℕ) → Counts u.bound (step_at_depth at) (g.member w.mode w.parts).read (g.member (above u.wider) u.parts).read never
  unfolding g.member is
  member-counts at = form_counts w.mode.room u.wider.room u.wider.grows u.bare u.one_more (step_at_depth at) n.member (λ x. omega arith) (λ r. before_counts k.OpenBracket (behind_counts k.CloseBracket (behind_counts k.CloseBracket (u.counts r i.Expr))))

  filter-counts : (at : ℕ) → Counts u.bound (step_at_depth at) (g.filter w.mode w.parts).read (g.filter (above u.wider) u.parts).read never
  unfolding g.filter is
  filter-counts at = form_counts w.mode.room u.wider.room u.wider.grows u.bare u.one_more (step_at_depth at) n.filter (λ x. omega arith) (λ r. behind_counts k.CloseBracket (unless_counts (of_kind (is k.OpenBracket)) (u.counts r i.Expr)))

  bracket_step-counts : Counts u.bound step_depth (g.bracket_step w.mode w.parts).read (g.bracket_step (above u.wider) u.parts).read never
  unfolding g.bracket_step is
  bracket_step-counts = step_counts k.OpenBracket (λ at. alt_counts (of_kind (is k.CloseBracket)) (members-counts at) (alt_nested u.wider (member-inside w) (filter-inside w) refl refl refl (member-counts at) (filter-counts at)))

  plain_key-counts : Counts u.bound lookup_depth (g.plain_key w.mode w.parts).read (g.plain_key (above u.wider) u.parts).read never
  unfolding g.plain_key is
  plain_key-counts = mapped_counts lookup_depth n.plain_key plain_key-depth (plain (one is_lookup_key))

  computed_lookup-counts : Counts u.bound lookup_depth (g.computed_lookup w.mode w.parts).read (g.computed_lookup (above u.wider) u.parts).read never
  unfolding g.computed_lookup is
  computed_lookup-counts = form_counts w.mode.room u.wider.room u.wider.grows u.bare u.one_more lookup_depth n.computed_lookup (λ x. omega arith) (λ r. in_parens-within r)

  field_step-counts : Counts u.bound step_depth (g.field_step w.mode w.parts).read (g.field_step (above u.wider) u.parts).read never
  unfolding g.field_step is
  field_step-counts = mapped_counts step_depth n.field_step (λ x. omega arith) (from_counts k.Dot (alt_counts (of_kind is_lookup_key) plain_key-counts computed_lookup-counts))

  call_step-counts : Counts u.bound step_depth (g.call_step w.mode w.parts).read (g.call_step (above u.wider) u.parts).read never
  unfolding g.call_step is
  call_step-counts = only_counts w.mode.wide (λ o. mapped_counts step_depth n.unused_step (λ x. omega arith) (plain (tok k.OpenParen)))

  step-counts : Counts u.bound step_depth (g.step w.mode w.parts).read (g.step (above u.wider) u.parts).read never
  unfolding g.step is
  step-counts = alt_counts (of_kind (is k.OpenBracket)) bracket_step-counts (alt_counts (of_kind (is k.Dot)) field_step-counts call_step-counts)

  steps-counts : Counts u.bound (greatest step_depth) (g.steps w.mode w.parts).read (g.steps (above u.wider) u.parts).read never
  unfolding g.steps is
  steps-counts = repeated_counts (of_kind (step_first w.mode.wide)) step-counts

  postfix-counts : Counts u.bound tree_depth (g.postfix w.mode w.parts).read (g.postfix (above u.wider) u.parts).read never
  unfolding g.postfix is
  postfix-counts = mapped_counts tree_depth n.postfix postfix-depth (seq_counts primary-counts steps-counts)

  mapped_operand-counts : Counts u.bound operand_depth (g.mapped_operand w.mode w.parts).read (g.mapped_operand (above u.wider) u.parts).read never
  unfolding g.mapped_operand is
  mapped_operand-counts = mapped_counts operand_depth n.operand (λ x. omega arith) (from_counts k.Bang postfix-counts)

  mapped_operands-counts : Counts u.bound (greatest operand_depth) (g.mapped_operands w.mode w.parts).read (g.mapped_operands (above u.wider) u.parts).read never
  unfolding g.mapped_operands is
  mapped_operands-counts = repeated_counts (of_kind (is k.Bang)) mapped_operand-counts

  map_level-counts : Counts u.bound tree_depth (g.map_level w.mode w.parts).read (g.map_level (above u.wider) u.parts).read never
  unfolding g.map_level is
  map_level-counts = mapped_counts tree_depth (n.chain p.map_form) (chain-depth p.map_form (λ t os. refl)) (seq_counts postfix-counts mapped_operands-counts)

  sign-counts : Counts u.bound tree_depth (g.sign w.mode w.parts).read (g.sign (above u.wider) u.parts).read never
  unfolding g.sign is
  sign-counts = mapped_counts tree_depth n.sign sign-depth (seq_counts sign_marks-plain map_level-counts)

  cast_type-plain : {bound : ℕ} → Counts bound (λ x. 0) (g.cast_type w.mode w.parts).read (g.cast_type (above u.wider) u.parts).read never
  unfolding g.cast_type
  cast_type-plain = plain (g.cast_type w.mode w.parts)

  cast-counts : Counts u.bound tree_depth (g.cast w.mode w.parts).read (g.cast (above u.wider) u.parts).read never
  unfolding g.cast is
  cast-counts = mapped_counts tree_depth (n.typed p.cast_form) (typed-depth p.cast_form (λ t place of. refl)) (seq_counts sign-counts cast_type-plain)

  castable_type-plain : {bound : ℕ} → Counts bound (λ x. 0) (g.castable_type w.mode w.parts).read (g.castable_type (above u.wider) u.parts).read never
  unfolding g.castable_type
  castable_type-plain = plain (g.castable_type w.mode w.parts)

  castable-counts : Counts u.bound tree_depth (g.castable w.mode w.parts).read (g.castable (above u.wider) u.parts).read never
  unfolding g.castable is
  castable-counts = mapped_counts tree_depth (n.typed p.castable_form) (typed-depth p.castable_form (λ t place of. refl)) (seq_counts cast-counts castable_type-plain)

  treat_type-plain : {bound : ℕ} → Counts bound (λ x. 0) (g.treat_type w.mode w.parts).read (g.treat_type (above u.wider) u.parts).read never
  unfolding g.treat_type
  treat_type-plain = plain (g.treat_type w.mode w.parts)

  treat-counts : Counts u.bound tree_depth (g.treat w.mode w.parts).read (g.treat (above u.wider) u.parts).read never
  unfolding g.treat is
  treat-counts = mapped_counts tree_depth (n.typed p.treat_form) (typed-depth p.treat_form (λ t place of. refl)) (seq_counts castable-counts treat_type-plain)

  instance_type-plain : {bound : ℕ} → Counts bound (λ x. 0) (g.instance_type w.mode w.parts).read (g.instance_type (above u.wider) u.parts).read never
  unfolding g.instance_type
  instance_type-plain = plain (g.instance_type w.mode w.parts)

  instance-counts : Counts u.bound tree_depth (g.instance w.mode w.parts).read (g.instance (above u.wider) u.parts).read never
  unfolding g.instance is
  instance-counts = mapped_counts tree_depth (n.typed p.instance_form) (typed-depth p.instance_form (λ t place of. refl)) (seq_counts treat-counts instance_type-plain)

  factor-counts : Counts u.bound factor_depth (g.factor w.mode w.parts).read (g.factor (above u.wider) u.parts).read never
  unfolding g.factor is
  factor-counts = mapped_counts factor_depth n.factor (λ x. omega arith) (seq_counts (plain (one is_product_op)) instance-counts)

  factors-counts : Counts u.bound (greatest factor_depth) (g.factors w.mode w.parts).read (g.factors (above u.wider) u.parts).read never
  unfolding g.factors is
  factors-counts = repeated_counts (of_kind is_product_op) factor-counts

  product-counts : Counts u.bound tree_depth (g.product w.mode w.parts).read (g.product (above u.wider) u.parts).read never
  unfolding g.product is
  product-counts = mapped_counts tree_depth n.product product-depth (seq_counts instance-counts factors-counts)

  term-counts : Counts u.bound term_depth (g.term w.mode w.parts).read (g.term (above u.wider) u.parts).read never
  unfolding g.term is
  term-counts = mapped_counts term_depth n.term (λ x. omega arith) (seq_counts (plain (one is_sum_op)) product-counts)

  terms-counts : Counts u.bound (greatest term_depth) (g.terms w.mode w.parts).read (g.terms (above u.wider) u.parts).read never
  unfolding g.terms is
  terms-counts = repeated_counts (of_kind is_sum_op) term-counts

  sum-counts : Counts u.bound tree_depth (g.sum w.mode w.parts).read (g.sum (above u.wider) u.parts).read never
  unfolding g.sum is
  sum-counts = mapped_counts tree_depth n.sum sum-depth (seq_counts product-counts terms-counts)

  range_end-counts : Counts u.bound (of_any placed_depth) (g.range_end w.mode w.parts).read (g.range_end (above u.wider) u.parts).read never
  unfolding g.range_end is
  range_end-counts = opt_counts (of_kind (is k.To)) (from_counts k.To sum-counts)

  range-counts : Counts u.bound tree_depth (g.range w.mode w.parts).read (g.range (above u.wider) u.parts).read never
  unfolding g.range is
  range-counts = mapped_counts tree_depth n.range range-depth (seq_counts sum-counts range_end-counts)

  concat_operand-counts : Counts u.bound operand_depth (g.concat_operand w.mode w.parts).read (g.concat_operand (above u.wider) u.parts).read never
  unfolding g.concat_operand is
  concat_operand-counts = mapped_counts operand_depth n.operand (λ x. omega arith) (from_counts k.Bars range-counts)

  concat_operands-counts : Counts u.bound (greatest operand_depth) (g.concat_operands w.mode w.parts).read (g.concat_operands (above u.wider) u.parts).read never
  unfolding g.concat_operands is
  concat_operands-counts = repeated_counts (of_kind (is k.Bars)) concat_operand-counts

  concat-counts : Counts u.bound tree_depth (g.concat w.mode w.parts).read (g.concat (above u.wider) u.parts).read never
  unfolding g.concat is
  concat-counts = mapped_counts tree_depth (n.chain p.concat_form) (chain-depth p.concat_form (λ t os. refl)) (seq_counts range-counts concat_operands-counts)

  compared-counts : Counts u.bound compared_depth (g.compared w.mode w.parts).read (g.compared (above u.wider) u.parts).read never
  unfolding g.compared is
  compared-counts = mapped_counts compared_depth n.compared (λ x. omega arith) (seq_counts (plain (one is_compare_op)) concat-counts)

  comparison-counts : Counts u.bound (of_any compared_depth) (g.comparison w.mode w.parts).read (g.comparison (above u.wider) u.parts).read never
  unfolding g.comparison is
  comparison-counts = opt_counts (of_kind is_compare_op) compared-counts

  compare-counts : Counts u.bound tree_depth (g.compare w.mode w.parts).read (g.compare (above u.wider) u.parts).read never
  unfolding g.compare is
  compare-counts = mapped_counts tree_depth n.compare compare-depth (seq_counts concat-counts comparison-counts)

  not_level-counts : Counts u.bound tree_depth (g.not_level w.mode w.parts).read (g.not_level (above u.wider) u.parts).read never
  unfolding g.not_level is
  not_level-counts = alt_counts (of_kind (is k.Not)) (mapped_counts tree_depth n.not (λ x. omega arith) (from_counts k.Not compare-counts)) compare-counts

  and_operand-counts : Counts u.bound operand_depth (g.and_operand w.mode w.parts).read (g.and_operand (above u.wider) u.parts).read never
  unfolding g.and_operand is
  and_operand-counts = mapped_counts operand_depth n.operand (λ x. omega arith) (from_counts k.And not_level-counts)

  and_operands-counts : Counts u.bound (greatest operand_depth) (g.and_operands w.mode w.parts).read (g.and_operands (above u.wider) u.parts).read never
  unfolding g.and_operands is
  and_operands-counts = repeated_counts (of_kind (is k.And)) and_operand-counts

  and_level-counts : Counts u.bound tree_depth (g.and_level w.mode w.parts).read (g.and_level (above u.wider) u.parts).read never
  unfolding g.and_level is
  and_level-counts = mapped_counts tree_depth (n.chain p.and_form) (chain-depth p.and_form (λ t os. refl)) (seq_counts not_level-counts and_operands-counts)

  or_operand-counts : Counts u.bound operand_depth (g.or_operand w.mode w.parts).read (g.or_operand (above u.wider) u.parts).read never
  unfolding g.or_operand is
  or_operand-counts = mapped_counts operand_depth n.operand (λ x. omega arith) (from_counts k.Or and_level-counts)

  or_operands-counts : Counts u.bound (greatest operand_depth) (g.or_operands w.mode w.parts).read (g.or_operands (above u.wider) u.parts).read never
  unfolding g.or_operands is
  or_operands-counts = repeated_counts (of_kind (is k.Or)) or_operand-counts

  or_level-counts : Counts u.bound tree_depth (g.or_level w.mode w.parts).read (g.or_level (above u.wider) u.parts).read never
  unfolding g.or_level is
  or_level-counts = mapped_counts tree_depth (n.chain p.or_form) (chain-depth p.or_form (λ t os. refl)) (seq_counts and_level-counts or_operands-counts)

  single-counts : Counts u.bound tree_depth (g.single w.mode w.parts).read (g.single (above u.wider) u.parts).read never
  unfolding g.single is
  single-counts = alt_nested u.wider (flwor-law w) (named (λ m. single_firsts_5 m) (λ m. for_var_ext m) (alt_at (quant-law w) (named (λ m. single_firsts_4 m) (λ m. for_var_ext m) (alt_at (switch-law w) (named (λ m. single_firsts_3 m) (λ m. for_var_ext m) (alt_at (typeswitch-law w) (named (λ m. single_firsts_2 m) (λ m. for_var_ext m) (alt_at (if-law w) (named (λ m. single_firsts m) (λ m. for_var_ext m) (alt_at (try-law w) (or_level-law w) refl) refl) refl) refl) refl) refl) refl) refl) refl) refl) refl refl refl flwor-counts (alt_nested u.wider (quant-law w) (named (λ m. single_firsts_4 m) (λ m. for_var_ext m) (alt_at (switch-law w) (named (λ m. single_firsts_3 m) (λ m. for_var_ext m) (alt_at (typeswitch-law w) (named (λ m. single_firsts_2 m) (λ m. for_var_ext m) (alt_at (if-law w) (named (λ m. single_firsts m) (λ m. for_var_ext m) (alt_at (try-law w) (or_level-law w) refl) refl) refl) refl) refl) refl) refl) refl) refl refl refl quant-counts (alt_nested u.wider (switch-law w) (named (λ m. single_firsts_3 m) (λ m. for_var_ext m) (alt_at (typeswitch-law w) (named (λ m. single_firsts_2 m) (λ m. for_var_ext m) (alt_at (if-law w) (named (λ m. single_firsts m) (λ m. for_var_ext m) (alt_at (try-law w) (or_level-law w) refl) refl) refl) refl) refl) refl) refl refl refl switch-counts (alt_nested u.wider (typeswitch-law w) (named (λ m. single_firsts_2 m) (λ m. for_var_ext m) (alt_at (if-law w) (named (λ m. single_firsts m) (λ m. for_var_ext m) (alt_at (try-law w) (or_level-law w) refl) refl) refl) refl) refl refl refl typeswitch-counts (alt_nested u.wider (if-law w) (named (λ m. single_firsts m) (λ m. for_var_ext m) (alt_at (try-law w) (or_level-law w) refl) refl) refl refl refl if-counts (alt_nested u.wider (try-law w) (or_level-law w) refl refl refl try-counts or_level-counts)))))

  comma_operand-counts : Counts u.bound operand_depth (g.comma_operand w.mode w.parts).read (g.comma_operand (above u.wider) u.parts).read never
  unfolding g.comma_operand is
  comma_operand-counts = mapped_counts operand_depth n.operand (λ x. omega arith) (from_counts k.Comma single-counts)

  comma_operands-counts : Counts u.bound (greatest operand_depth) (g.comma_operands w.mode w.parts).read (g.comma_operands (above u.wider) u.parts).read never
  unfolding g.comma_operands is
  comma_operands-counts = repeated_counts (of_kind (is k.Comma)) comma_operand-counts

  expr-counts : Counts u.bound tree_depth (g.expr w.mode w.parts).read (g.expr (above u.wider) u.parts).read never
  unfolding g.expr is
  expr-counts = mapped_counts tree_depth (n.chain p.comma_form) (chain-depth p.comma_form (λ t os. refl)) (seq_counts single-counts comma_operands-counts)

  variable_declaration-within : w.mode.room ≡ true → Counts u.within declaration_depth (g.variable_declaration w.mode w.parts).read (g.variable_declaration (above u.wider) u.parts).read never
  unfolding g.variable_declaration is
  variable_declaration-within r = mapped_counts declaration_depth n.variable_declaration (λ x. omega arith) (before_counts k.Variable (seq_counts (plain g.variable) (seq_counts (plain g.as_type) (before_counts k.Assign (u.counts r i.Single)))))

  params-plain : {bound : ℕ} → Counts bound (λ x. 0) (g.params w.mode w.parts).read (g.params (above u.wider) u.parts).read never
  unfolding g.params g.some_params g.param_list g.param
  params-plain = plain (g.params w.mode w.parts)

  function_body-within : w.mode.room ≡ true → Counts u.within tree_depth (g.function_body w.mode w.parts).read (g.function_body (above u.wider) u.parts).read never
  unfolding g.function_body is
  function_body-within r = before_counts k.OpenBrace (behind_counts k.CloseBrace (u.counts r i.Expr))

  function_declaration-within : w.mode.room ≡ true → Counts u.within declaration_depth (g.function_declaration w.mode w.parts).read (g.function_declaration (above u.wider) u.parts).read never
  unfolding g.function_declaration is
  function_declaration-within r = mapped_counts declaration_depth n.function_declaration (λ x. omega arith) (before_counts k.Function (seq_counts (plain (one is_name)) (seq_counts params-plain (seq_counts (plain g.as_type) (function_body-within r)))))

  declaration-within : w.mode.room ≡ true → Counts u.within declaration_depth (g.declaration w.mode w.parts).read (g.declaration (above u.wider) u.parts).read never
  unfolding g.declaration is
  declaration-within r = before_counts k.Declare (behind_counts k.Semicolon (alt_counts (of_kind (is k.Variable)) (variable_declaration-within r) (function_declaration-within r)))

  declarations-within : w.mode.room ≡ true → Counts u.within (greatest declaration_depth) (g.declarations w.mode w.parts).read (g.declarations (above u.wider) u.parts).read never
  unfolding g.declarations is
  declarations-within r = repeated_counts (of_kind (is k.Declare)) (declaration-within r)

  pub module_part-within : w.mode.room ≡ true → Counts u.within module_depth (g.module_part w.mode w.parts).read (g.module_part (above u.wider) u.parts).read never
  unfolding g.module_part is
  module_part-within r = mapped_counts module_depth n.module_with module_with-depth (seq_counts (declarations-within r) (u.counts r i.Expr))

pub forms-counting : Counting language sets tree_depth g.forms
forms-counting w u i.Expr = expr-counts w u
forms-counting w u i.Single = single-counts w u
