-- Written by tools/query_rows.py from rows.txt. Change that, and run it again.
-- Comparisons.
use Rattle.std.proofs.Common.{true, false, [], ◌∷◌, codes, refl}
use Rattle.std.specs.Fmt.{digits}
use Rattle.std.specs.Str.{chars}
use lib.Utf8.{encode}
use Rattle.item_tree.specs.Datum.{null}
use Rattle.query_grammar.specs.declared.word.Kind.TheVariants as k
use Rattle.query_rows.proofs.Computing.{name, mark, whole, units, Gives}
use Rattle.num_fixed.specs.Fronts as num_fixed_fronts
use Rattle.num_fixed.specs.Values as num_fixed_values
use Rattle.num_fixed.specs.inside.Spells as num_fixed_inside_spells
use Rattle.item_tree.specs.Dates as item_tree_dates
use Rattle.item_tree.specs.JsonString as item_tree_jsonstring
use Rattle.item_tree.specs.inside.Words as item_tree_inside_words
use Rattle.json_text.specs.inside.Build as json_text_inside_build
use Rattle.json_text.specs.inside.Machine as json_text_inside_machine
use Rattle.json_text.specs.inside.Scan as json_text_inside_scan
use Rattle.fn_table.specs.Dates as fn_table_dates
use Rattle.grammar_parts.specs.Levels as grammar_parts_levels
use Rattle.grammar_parts.specs.Parts as grammar_parts_parts
use Rattle.grammar_parts.specs.Readers as grammar_parts_readers
use Rattle.query_meaning.specs.Calls as query_meaning_calls
use Rattle.query_meaning.specs.Choices as query_meaning_choices
use Rattle.query_meaning.specs.Clauses as query_meaning_clauses
use Rattle.query_meaning.specs.Constructors as query_meaning_constructors
use Rattle.query_meaning.specs.Flwors as query_meaning_flwors
use Rattle.query_meaning.specs.Groups as query_meaning_groups
use Rattle.query_meaning.specs.Meaning as query_meaning_meaning
use Rattle.query_meaning.specs.Operators as query_meaning_operators
use Rattle.query_meaning.specs.Orders as query_meaning_orders
use Rattle.query_meaning.specs.Paths as query_meaning_paths
use Rattle.query_meaning.specs.Queries as query_meaning_queries
use Rattle.query_grammar.specs.Classes as query_grammar_classes
use Rattle.query_grammar.specs.Grammar as query_grammar_grammar

pub record ComparisonsRows : Type 0 where
  -- 1 eq 1.0, 1 ne 2, 1 lt 2, 2 le 2, 3 gt 2, 2 ge 3
  pub value_words : Gives ((whole k.Int 0 1) ∷ (name k.Eq 2 (codes "eq")) ∷ (units k.Dec 5 1000000) ∷ (mark k.Comma 8) ∷ (whole k.Int 10 1) ∷ (name k.Ne 12 (codes "ne")) ∷ (whole k.Int 15 2) ∷ (mark k.Comma 16) ∷ (whole k.Int 18 1) ∷ (name k.Lt 20 (codes "lt")) ∷ (whole k.Int 23 2) ∷ (mark k.Comma 24) ∷ (whole k.Int 26 2) ∷ (name k.Le 28 (codes "le")) ∷ (whole k.Int 31 2) ∷ (mark k.Comma 32) ∷ (whole k.Int 34 3) ∷ (name k.Gt 36 (codes "gt")) ∷ (whole k.Int 39 2) ∷ (mark k.Comma 40) ∷ (whole k.Int 42 2) ∷ (name k.Ge 44 (codes "ge")) ∷ (whole k.Int 47 3) ∷ [])
      ([])
      (codes "true/true/true/true/true/false/")
  -- null eq null, null lt 0, null lt "", null lt false
  pub null_is_least : Gives ((name k.Null 0 (codes "null")) ∷ (name k.Eq 5 (codes "eq")) ∷ (name k.Null 8 (codes "null")) ∷ (mark k.Comma 12) ∷ (name k.Null 14 (codes "null")) ∷ (name k.Lt 19 (codes "lt")) ∷ (whole k.Int 22 0) ∷ (mark k.Comma 23) ∷ (name k.Null 25 (codes "null")) ∷ (name k.Lt 30 (codes "lt")) ∷ (name k.Text 33 (codes "")) ∷ (mark k.Comma 35) ∷ (name k.Null 37 (codes "null")) ∷ (name k.Lt 42 (codes "lt")) ∷ (name k.False 45 (codes "false")) ∷ [])
      ([])
      (codes "true/true/true/true/")
  -- () eq 1, 1 eq ()
  pub value_of_nothing : Gives ((mark k.OpenParen 0) ∷ (mark k.CloseParen 1) ∷ (name k.Eq 3 (codes "eq")) ∷ (whole k.Int 6 1) ∷ (mark k.Comma 7) ∷ (whole k.Int 9 1) ∷ (name k.Eq 11 (codes "eq")) ∷ (mark k.OpenParen 14) ∷ (mark k.CloseParen 15) ∷ [])
      ([])
      (codes "")
  -- 1 eq "1"
  pub other_classes : Gives ((whole k.Int 0 1) ∷ (name k.Eq 2 (codes "eq")) ∷ (name k.Text 5 (codes "1")) ∷ [])
      ([])
      (codes "XPTY0004 at 3")
  -- 1 lt {"a":1}
  pub value_of_an_object : Gives ((whole k.Int 0 1) ∷ (name k.Lt 2 (codes "lt")) ∷ (mark k.OpenBrace 5) ∷ (name k.Text 6 (codes "a")) ∷ (mark k.Colon 9) ∷ (whole k.Int 10 1) ∷ (mark k.CloseBrace 11) ∷ [])
      ([])
      (codes "JNTY0004 at 3")
  -- (1, 2) = (3, 2), (1, 2) != (1, 1), (1, 2) < 1, () = 1, (1, 2) >= 2
  pub pairs : Gives ((mark k.OpenParen 0) ∷ (whole k.Int 1 1) ∷ (mark k.Comma 2) ∷ (whole k.Int 4 2) ∷ (mark k.CloseParen 5) ∷ (mark k.Equals 7) ∷ (mark k.OpenParen 9) ∷ (whole k.Int 10 3) ∷ (mark k.Comma 11) ∷ (whole k.Int 13 2) ∷ (mark k.CloseParen 14) ∷ (mark k.Comma 15) ∷ (mark k.OpenParen 17) ∷ (whole k.Int 18 1) ∷ (mark k.Comma 19) ∷ (whole k.Int 21 2) ∷ (mark k.CloseParen 22) ∷ (mark k.Differs 24) ∷ (mark k.OpenParen 27) ∷ (whole k.Int 28 1) ∷ (mark k.Comma 29) ∷ (whole k.Int 31 1) ∷ (mark k.CloseParen 32) ∷ (mark k.Comma 33) ∷ (mark k.OpenParen 35) ∷ (whole k.Int 36 1) ∷ (mark k.Comma 37) ∷ (whole k.Int 39 2) ∷ (mark k.CloseParen 40) ∷ (mark k.Less 42) ∷ (whole k.Int 44 1) ∷ (mark k.Comma 45) ∷ (mark k.OpenParen 47) ∷ (mark k.CloseParen 48) ∷ (mark k.Equals 50) ∷ (whole k.Int 52 1) ∷ (mark k.Comma 53) ∷ (mark k.OpenParen 55) ∷ (whole k.Int 56 1) ∷ (mark k.Comma 57) ∷ (whole k.Int 59 2) ∷ (mark k.CloseParen 60) ∷ (mark k.AtLeast 62) ∷ (whole k.Int 65 2) ∷ [])
      ([])
      (codes "true/true/false/false/true/")
  -- (2, 1) = (2, "a")
  pub pair_that_holds_stops : Gives ((mark k.OpenParen 0) ∷ (whole k.Int 1 2) ∷ (mark k.Comma 2) ∷ (whole k.Int 4 1) ∷ (mark k.CloseParen 5) ∷ (mark k.Equals 7) ∷ (mark k.OpenParen 9) ∷ (whole k.Int 10 2) ∷ (mark k.Comma 11) ∷ (name k.Text 13 (codes "a")) ∷ (mark k.CloseParen 16) ∷ [])
      ([])
      (codes "true/")
  -- (1, 2) = (2, "a")
  pub pair_that_faults_stops : Gives ((mark k.OpenParen 0) ∷ (whole k.Int 1 1) ∷ (mark k.Comma 2) ∷ (whole k.Int 4 2) ∷ (mark k.CloseParen 5) ∷ (mark k.Equals 7) ∷ (mark k.OpenParen 9) ∷ (whole k.Int 10 2) ∷ (mark k.Comma 11) ∷ (name k.Text 13 (codes "a")) ∷ (mark k.CloseParen 16) ∷ [])
      ([])
      (codes "XPTY0004 at 8")
  -- 1 = ([], 1)
  pub pair_with_an_array : Gives ((whole k.Int 0 1) ∷ (mark k.Equals 2) ∷ (mark k.OpenParen 4) ∷ (mark k.OpenBracket 5) ∷ (mark k.CloseBracket 6) ∷ (mark k.Comma 7) ∷ (whole k.Int 9 1) ∷ (mark k.CloseParen 10) ∷ [])
      ([])
      (codes "JNTY0004 at 3")

pub comparisons_rows : ComparisonsRows
unfolding digits encode chars num_fixed_fronts.fraction_len num_fixed_fronts.exponent_len num_fixed_fronts.whole_end num_fixed_fronts.fraction_end num_fixed_fronts.number_end num_fixed_fronts.numeral_front num_fixed_fronts.short_whole num_fixed_values.near_natural num_fixed_values.near num_fixed_values.units_said num_fixed_inside_spells.spelled item_tree_dates.days_of_years item_tree_dates.days_of_months item_tree_dates.day_count item_tree_dates.day_number item_tree_jsonstring.code_unit item_tree_inside_words.joined json_text_inside_build.reading json_text_inside_machine.token_from json_text_inside_machine.token_at json_text_inside_machine.run_for json_text_inside_machine.run json_text_inside_scan.numeral_at json_text_inside_scan.pieces_at fn_table_dates.days_after fn_table_dates.days_before grammar_parts_levels.inside grammar_parts_parts.OneWhole grammar_parts_parts.OneBegun grammar_parts_parts.NothingWhole grammar_parts_parts.NothingBegun grammar_parts_parts.OnlyWhole grammar_parts_parts.OnlyBegun grammar_parts_parts.MappedWhole grammar_parts_parts.MappedBegun grammar_parts_parts.SeqWhole grammar_parts_parts.SeqBegun grammar_parts_parts.LongWhole grammar_parts_parts.LongBegun grammar_parts_parts.AltWhole grammar_parts_parts.AltBegun grammar_parts_parts.UnlessWhole grammar_parts_parts.UnlessBegun grammar_parts_parts.AheadWhole grammar_parts_parts.AheadBegun grammar_parts_parts.ManyWhole grammar_parts_parts.ManyBegun grammar_parts_parts.ManyLongWhole grammar_parts_parts.ManyLongBegun grammar_parts_parts.NoneWhole grammar_parts_readers.read_times grammar_parts_readers.read_many query_meaning_calls.own_value query_meaning_calls.call_value query_meaning_choices.if_value query_meaning_choices.switch_value query_meaning_choices.typeswitch_value query_meaning_choices.try_value query_meaning_choices.quantified_value query_meaning_clauses.bound_tuple query_meaning_clauses.for_tuples query_meaning_clauses.let_tuples query_meaning_clauses.where_tuples query_meaning_clauses.count_tuples query_meaning_clauses.each_tuple query_meaning_constructors.array_value query_meaning_constructors.entry_of query_meaning_constructors.object_value query_meaning_constructors.merge_value query_meaning_flwors.return_value query_meaning_flwors.flwor_value query_meaning_groups.group_key_value query_meaning_groups.keyed_tuple query_meaning_groups.group_tuples query_meaning_meaning.meaning query_meaning_operators.comma_value query_meaning_operators.mapped_by query_meaning_operators.map_value query_meaning_operators.text_behind query_meaning_operators.concat_value query_meaning_operators.or_value query_meaning_operators.and_value query_meaning_operators.not_value query_meaning_operators.compare_value query_meaning_operators.range_value query_meaning_operators.with_term query_meaning_operators.sum_value query_meaning_operators.with_factor query_meaning_operators.product_value query_meaning_operators.sign_value query_meaning_operators.cast_as query_meaning_operators.instance_value query_meaning_operators.treat_value query_meaning_operators.cast_to_value query_meaning_operators.castable_value query_meaning_orders.compared_keys query_meaning_orders.order_tuples query_meaning_paths.kept query_meaning_paths.filtered query_meaning_paths.member_value query_meaning_paths.key_value query_meaning_paths.field_value query_meaning_paths.postfix_value query_meaning_queries.global_value query_meaning_queries.query_value query_grammar_classes.is query_grammar_grammar.variable query_grammar_grammar.parens query_grammar_grammar.times query_grammar_grammar.item_type query_grammar_grammar.empty_parens query_grammar_grammar.empty_rest query_grammar_grammar.empty_type query_grammar_grammar.seq_type query_grammar_grammar.single_type query_grammar_grammar.as_type query_grammar_grammar.literal query_grammar_grammar.in_parens query_grammar_grammar.in_braces query_grammar_grammar.content query_grammar_grammar.paren query_grammar_grammar.merge query_grammar_grammar.array query_grammar_grammar.name_key query_grammar_grammar.computed_key query_grammar_grammar.pair_key query_grammar_grammar.pair query_grammar_grammar.pair_list query_grammar_grammar.pairs query_grammar_grammar.object query_grammar_grammar.argument query_grammar_grammar.argument_list query_grammar_grammar.some_arguments query_grammar_grammar.arguments query_grammar_grammar.arity query_grammar_grammar.call query_grammar_grammar.inline_function query_grammar_grammar.primary query_grammar_grammar.members query_grammar_grammar.member query_grammar_grammar.filter query_grammar_grammar.bracket_step query_grammar_grammar.plain_key query_grammar_grammar.computed_lookup query_grammar_grammar.field_step query_grammar_grammar.call_step query_grammar_grammar.step query_grammar_grammar.steps query_grammar_grammar.postfix query_grammar_grammar.mapped_operand query_grammar_grammar.mapped_operands query_grammar_grammar.map_level query_grammar_grammar.sign_mark query_grammar_grammar.sign_marks query_grammar_grammar.sign query_grammar_grammar.cast_type query_grammar_grammar.cast query_grammar_grammar.castable_type query_grammar_grammar.castable query_grammar_grammar.treat_type query_grammar_grammar.treat query_grammar_grammar.instance_type query_grammar_grammar.instance query_grammar_grammar.factor query_grammar_grammar.factors query_grammar_grammar.product query_grammar_grammar.term query_grammar_grammar.terms query_grammar_grammar.sum query_grammar_grammar.range_end query_grammar_grammar.range query_grammar_grammar.concat_operand query_grammar_grammar.concat_operands query_grammar_grammar.concat query_grammar_grammar.compared query_grammar_grammar.comparison query_grammar_grammar.compare query_grammar_grammar.not_level query_grammar_grammar.and_operand query_grammar_grammar.and_operands query_grammar_grammar.and_level query_grammar_grammar.or_operand query_grammar_grammar.or_operands query_grammar_grammar.or_level query_grammar_grammar.allowing query_grammar_grammar.at_variable query_grammar_grammar.for_var query_grammar_grammar.window query_grammar_grammar.for_vars query_grammar_grammar.for_clause query_grammar_grammar.let_var query_grammar_grammar.let_vars query_grammar_grammar.let_clause query_grammar_grammar.first_clause query_grammar_grammar.where_clause query_grammar_grammar.group_value query_grammar_grammar.group_var query_grammar_grammar.group_vars query_grammar_grammar.group_clause query_grammar_grammar.empty_order query_grammar_grammar.direction query_grammar_grammar.order_key query_grammar_grammar.order_list query_grammar_grammar.order_keys query_grammar_grammar.order_clause query_grammar_grammar.count_clause query_grammar_grammar.one_clause query_grammar_grammar.clause query_grammar_grammar.returned query_grammar_grammar.clauses query_grammar_grammar.flwor query_grammar_grammar.bind query_grammar_grammar.binds query_grammar_grammar.quant query_grammar_grammar.case_test query_grammar_grammar.case_tests query_grammar_grammar.case query_grammar_grammar.cases query_grammar_grammar.switch query_grammar_grammar.seq_types query_grammar_grammar.case_variable query_grammar_grammar.type_case query_grammar_grammar.default_variable query_grammar_grammar.type_default query_grammar_grammar.type_cases query_grammar_grammar.typeswitch query_grammar_grammar.if query_grammar_grammar.catch_names query_grammar_grammar.catch_codes query_grammar_grammar.catch query_grammar_grammar.catches query_grammar_grammar.try query_grammar_grammar.single query_grammar_grammar.comma_operand query_grammar_grammar.comma_operands query_grammar_grammar.expr query_grammar_grammar.param query_grammar_grammar.variable_declaration query_grammar_grammar.param_list query_grammar_grammar.some_params query_grammar_grammar.params query_grammar_grammar.function_body query_grammar_grammar.function_declaration query_grammar_grammar.declaration query_grammar_grammar.declarations query_grammar_grammar.module_part
comparisons_rows = record {
  value_words = refl;
  null_is_least = refl;
  value_of_nothing = refl;
  other_classes = refl;
  value_of_an_object = refl;
  pairs = refl;
  pair_that_holds_stops = refl;
  pair_that_faults_stops = refl;
  pair_with_an_array = refl;
}
