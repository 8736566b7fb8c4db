-- Written by tools/query_rows.py from rows.txt. Change that, and run it again.
-- Arithmetic.
use Rattle.std.proofs.Common.{[], ◌∷◌, codes, refl}
use Rattle.std.specs.Fmt.{digits}
use Rattle.std.specs.Str.{chars}
use lib.Utf8.{encode}
use Rattle.query_grammar.specs.declared.word.Kind.TheVariants as k
use Rattle.query_rows.proofs.Computing.{name, mark, whole, units, Gives}
use Rattle.num_fixed.specs.Fronts as num_fixed_fronts
use Rattle.num_fixed.specs.Values as num_fixed_values
use Rattle.num_fixed.specs.inside.Spells as num_fixed_inside_spells
use Rattle.item_tree.specs.Dates as item_tree_dates
use Rattle.item_tree.specs.JsonString as item_tree_jsonstring
use Rattle.item_tree.specs.inside.Words as item_tree_inside_words
use Rattle.json_text.specs.inside.Build as json_text_inside_build
use Rattle.json_text.specs.inside.Machine as json_text_inside_machine
use Rattle.json_text.specs.inside.Scan as json_text_inside_scan
use Rattle.fn_table.specs.Dates as fn_table_dates
use Rattle.grammar_parts.specs.Levels as grammar_parts_levels
use Rattle.grammar_parts.specs.Parts as grammar_parts_parts
use Rattle.grammar_parts.specs.Readers as grammar_parts_readers
use Rattle.query_meaning.specs.Calls as query_meaning_calls
use Rattle.query_meaning.specs.Choices as query_meaning_choices
use Rattle.query_meaning.specs.Clauses as query_meaning_clauses
use Rattle.query_meaning.specs.Constructors as query_meaning_constructors
use Rattle.query_meaning.specs.Flwors as query_meaning_flwors
use Rattle.query_meaning.specs.Groups as query_meaning_groups
use Rattle.query_meaning.specs.Meaning as query_meaning_meaning
use Rattle.query_meaning.specs.Operators as query_meaning_operators
use Rattle.query_meaning.specs.Orders as query_meaning_orders
use Rattle.query_meaning.specs.Paths as query_meaning_paths
use Rattle.query_meaning.specs.Queries as query_meaning_queries
use Rattle.query_grammar.specs.Classes as query_grammar_classes
use Rattle.query_grammar.specs.Grammar as query_grammar_grammar

pub record ArithmeticRows : Type 0 where
  -- 1 + 2 - 5, 0.1 + 0.2, 1 + 0.5
  pub sums : Gives ((whole k.Int 0 1) ∷ (mark k.Plus 2) ∷ (whole k.Int 4 2) ∷ (mark k.Minus 6) ∷ (whole k.Int 8 5) ∷ (mark k.Comma 9) ∷ (units k.Dec 11 100000) ∷ (mark k.Plus 15) ∷ (units k.Dec 17 200000) ∷ (mark k.Comma 20) ∷ (whole k.Int 22 1) ∷ (mark k.Plus 24) ∷ (units k.Dec 26 500000) ∷ [])
      ([])
      (codes "-2/0.3/1.5/")
  -- 2 * 3 * 4, 1.5 * 2, 7 div 2, 4 div 2
  pub products : Gives ((whole k.Int 0 2) ∷ (mark k.Star 2) ∷ (whole k.Int 4 3) ∷ (mark k.Star 6) ∷ (whole k.Int 8 4) ∷ (mark k.Comma 9) ∷ (units k.Dec 11 1500000) ∷ (mark k.Star 15) ∷ (whole k.Int 17 2) ∷ (mark k.Comma 18) ∷ (whole k.Int 20 7) ∷ (name k.Div 22 (codes "div")) ∷ (whole k.Int 26 2) ∷ (mark k.Comma 27) ∷ (whole k.Int 29 4) ∷ (name k.Div 31 (codes "div")) ∷ (whole k.Int 35 2) ∷ [])
      ([])
      (codes "24/3/3.5/2/")
  -- 2 div 3, 1 div 3, -2 div 3
  pub near_units : Gives ((whole k.Int 0 2) ∷ (name k.Div 2 (codes "div")) ∷ (whole k.Int 6 3) ∷ (mark k.Comma 7) ∷ (whole k.Int 9 1) ∷ (name k.Div 11 (codes "div")) ∷ (whole k.Int 15 3) ∷ (mark k.Comma 16) ∷ (mark k.Minus 18) ∷ (whole k.Int 19 2) ∷ (name k.Div 21 (codes "div")) ∷ (whole k.Int 25 3) ∷ [])
      ([])
      (codes "0.666667/0.333333/-0.666667/")
  -- 7 idiv 2, -7 idiv 2, 7.5 idiv 2
  pub whole_quotients : Gives ((whole k.Int 0 7) ∷ (name k.Idiv 2 (codes "idiv")) ∷ (whole k.Int 7 2) ∷ (mark k.Comma 8) ∷ (mark k.Minus 10) ∷ (whole k.Int 11 7) ∷ (name k.Idiv 13 (codes "idiv")) ∷ (whole k.Int 18 2) ∷ (mark k.Comma 19) ∷ (units k.Dec 21 7500000) ∷ (name k.Idiv 25 (codes "idiv")) ∷ (whole k.Int 30 2) ∷ [])
      ([])
      (codes "3/-3/3/")
  -- 7 mod 2, -7 mod 2, 7 mod -2, 5.5 mod 2
  pub remainders : Gives ((whole k.Int 0 7) ∷ (name k.Mod 2 (codes "mod")) ∷ (whole k.Int 6 2) ∷ (mark k.Comma 7) ∷ (mark k.Minus 9) ∷ (whole k.Int 10 7) ∷ (name k.Mod 12 (codes "mod")) ∷ (whole k.Int 16 2) ∷ (mark k.Comma 17) ∷ (whole k.Int 19 7) ∷ (name k.Mod 21 (codes "mod")) ∷ (mark k.Minus 25) ∷ (whole k.Int 26 2) ∷ (mark k.Comma 27) ∷ (units k.Dec 29 5500000) ∷ (name k.Mod 33 (codes "mod")) ∷ (whole k.Int 37 2) ∷ [])
      ([])
      (codes "1/-1/1/1.5/")
  -- -1, --1, +1, -+-2, -(1.5)
  pub signs : Gives ((mark k.Minus 0) ∷ (whole k.Int 1 1) ∷ (mark k.Comma 2) ∷ (mark k.Minus 4) ∷ (mark k.Minus 5) ∷ (whole k.Int 6 1) ∷ (mark k.Comma 7) ∷ (mark k.Plus 9) ∷ (whole k.Int 10 1) ∷ (mark k.Comma 11) ∷ (mark k.Minus 13) ∷ (mark k.Plus 14) ∷ (mark k.Minus 15) ∷ (whole k.Int 16 2) ∷ (mark k.Comma 17) ∷ (mark k.Minus 19) ∷ (mark k.OpenParen 20) ∷ (units k.Dec 21 1500000) ∷ (mark k.CloseParen 24) ∷ [])
      ([])
      (codes "-1/1/1/2/-1.5/")
  -- -(), +()
  pub signs_of_nothing : Gives ((mark k.Minus 0) ∷ (mark k.OpenParen 1) ∷ (mark k.CloseParen 2) ∷ (mark k.Comma 3) ∷ (mark k.Plus 5) ∷ (mark k.OpenParen 6) ∷ (mark k.CloseParen 7) ∷ [])
      ([])
      (codes "")
  -- () + 1, 1 + (), () + "a", (1, 2) * ()
  pub empty_operands : Gives ((mark k.OpenParen 0) ∷ (mark k.CloseParen 1) ∷ (mark k.Plus 3) ∷ (whole k.Int 5 1) ∷ (mark k.Comma 6) ∷ (whole k.Int 8 1) ∷ (mark k.Plus 10) ∷ (mark k.OpenParen 12) ∷ (mark k.CloseParen 13) ∷ (mark k.Comma 14) ∷ (mark k.OpenParen 16) ∷ (mark k.CloseParen 17) ∷ (mark k.Plus 19) ∷ (name k.Text 21 (codes "a")) ∷ (mark k.Comma 24) ∷ (mark k.OpenParen 26) ∷ (whole k.Int 27 1) ∷ (mark k.Comma 28) ∷ (whole k.Int 30 2) ∷ (mark k.CloseParen 31) ∷ (mark k.Star 33) ∷ (mark k.OpenParen 35) ∷ (mark k.CloseParen 36) ∷ [])
      ([])
      (codes "")
  -- 1 + 2 * 3, (1 + 2) * 3, 10 - 2 - 3, 100 div 10 div 5
  pub tightness : Gives ((whole k.Int 0 1) ∷ (mark k.Plus 2) ∷ (whole k.Int 4 2) ∷ (mark k.Star 6) ∷ (whole k.Int 8 3) ∷ (mark k.Comma 9) ∷ (mark k.OpenParen 11) ∷ (whole k.Int 12 1) ∷ (mark k.Plus 14) ∷ (whole k.Int 16 2) ∷ (mark k.CloseParen 17) ∷ (mark k.Star 19) ∷ (whole k.Int 21 3) ∷ (mark k.Comma 22) ∷ (whole k.Int 24 10) ∷ (mark k.Minus 27) ∷ (whole k.Int 29 2) ∷ (mark k.Minus 31) ∷ (whole k.Int 33 3) ∷ (mark k.Comma 34) ∷ (whole k.Int 36 100) ∷ (name k.Div 40 (codes "div")) ∷ (whole k.Int 44 10) ∷ (name k.Div 47 (codes "div")) ∷ (whole k.Int 51 5) ∷ [])
      ([])
      (codes "7/9/5/2/")
  -- 99999999999999999999 + 1
  pub overflow : Gives ((whole k.Int 0 99999999999999999999) ∷ (mark k.Plus 21) ∷ (whole k.Int 23 1) ∷ [])
      ([])
      (codes "FOAR0002 at 22")
  -- 1 + 1 idiv 0
  pub zero_divisor : Gives ((whole k.Int 0 1) ∷ (mark k.Plus 2) ∷ (whole k.Int 4 1) ∷ (name k.Idiv 6 (codes "idiv")) ∷ (whole k.Int 11 0) ∷ [])
      ([])
      (codes "FOAR0001 at 7")
  -- "a" + [1]
  pub left_operand_first : Gives ((name k.Text 0 (codes "a")) ∷ (mark k.Plus 4) ∷ (mark k.OpenBracket 6) ∷ (whole k.Int 7 1) ∷ (mark k.CloseBracket 8) ∷ [])
      ([])
      (codes "XPTY0004 at 5")
  -- 1 + [1]
  pub right_operand_is_an_array : Gives ((whole k.Int 0 1) ∷ (mark k.Plus 2) ∷ (mark k.OpenBracket 4) ∷ (whole k.Int 5 1) ∷ (mark k.CloseBracket 6) ∷ [])
      ([])
      (codes "JNTY0004 at 3")
  -- (1, 2) + 1
  pub several_items : Gives ((mark k.OpenParen 0) ∷ (whole k.Int 1 1) ∷ (mark k.Comma 2) ∷ (whole k.Int 4 2) ∷ (mark k.CloseParen 5) ∷ (mark k.Plus 7) ∷ (whole k.Int 9 1) ∷ [])
      ([])
      (codes "XPTY0004 at 8")
  -- 1 div 0 div "a"
  pub each_operator_as_soon_as_it_can : Gives ((whole k.Int 0 1) ∷ (name k.Div 2 (codes "div")) ∷ (whole k.Int 6 0) ∷ (name k.Div 8 (codes "div")) ∷ (name k.Text 12 (codes "a")) ∷ [])
      ([])
      (codes "FOAR0001 at 3")
  -- "a" + (1 div 0)
  pub operands_before_their_operator : Gives ((name k.Text 0 (codes "a")) ∷ (mark k.Plus 4) ∷ (mark k.OpenParen 6) ∷ (whole k.Int 7 1) ∷ (name k.Div 9 (codes "div")) ∷ (whole k.Int 13 0) ∷ (mark k.CloseParen 14) ∷ [])
      ([])
      (codes "FOAR0001 at 10")
  -- 1, -"a"
  pub sign_of_a_string : Gives ((whole k.Int 0 1) ∷ (mark k.Comma 1) ∷ (mark k.Minus 3) ∷ (name k.Text 4 (codes "a")) ∷ [])
      ([])
      (codes "XPTY0004 at 4")

pub arithmetic_rows : ArithmeticRows
unfolding digits encode chars num_fixed_fronts.fraction_len num_fixed_fronts.exponent_len num_fixed_fronts.whole_end num_fixed_fronts.fraction_end num_fixed_fronts.number_end num_fixed_fronts.numeral_front num_fixed_fronts.short_whole num_fixed_values.near_natural num_fixed_values.near num_fixed_values.units_said num_fixed_inside_spells.spelled item_tree_dates.days_of_years item_tree_dates.days_of_months item_tree_dates.day_count item_tree_dates.day_number item_tree_jsonstring.code_unit item_tree_inside_words.joined json_text_inside_build.reading json_text_inside_machine.token_from json_text_inside_machine.token_at json_text_inside_machine.run_for json_text_inside_machine.run json_text_inside_scan.numeral_at json_text_inside_scan.pieces_at fn_table_dates.days_after fn_table_dates.days_before grammar_parts_levels.inside grammar_parts_parts.OneWhole grammar_parts_parts.OneBegun grammar_parts_parts.NothingWhole grammar_parts_parts.NothingBegun grammar_parts_parts.OnlyWhole grammar_parts_parts.OnlyBegun grammar_parts_parts.MappedWhole grammar_parts_parts.MappedBegun grammar_parts_parts.SeqWhole grammar_parts_parts.SeqBegun grammar_parts_parts.LongWhole grammar_parts_parts.LongBegun grammar_parts_parts.AltWhole grammar_parts_parts.AltBegun grammar_parts_parts.UnlessWhole grammar_parts_parts.UnlessBegun grammar_parts_parts.AheadWhole grammar_parts_parts.AheadBegun grammar_parts_parts.ManyWhole grammar_parts_parts.ManyBegun grammar_parts_parts.ManyLongWhole grammar_parts_parts.ManyLongBegun grammar_parts_parts.NoneWhole grammar_parts_readers.read_times grammar_parts_readers.read_many query_meaning_calls.own_value query_meaning_calls.call_value query_meaning_choices.if_value query_meaning_choices.switch_value query_meaning_choices.typeswitch_value query_meaning_choices.try_value query_meaning_choices.quantified_value query_meaning_clauses.bound_tuple query_meaning_clauses.for_tuples query_meaning_clauses.let_tuples query_meaning_clauses.where_tuples query_meaning_clauses.count_tuples query_meaning_clauses.each_tuple query_meaning_constructors.array_value query_meaning_constructors.entry_of query_meaning_constructors.object_value query_meaning_constructors.merge_value query_meaning_flwors.return_value query_meaning_flwors.flwor_value query_meaning_groups.group_key_value query_meaning_groups.keyed_tuple query_meaning_groups.group_tuples query_meaning_meaning.meaning query_meaning_operators.comma_value query_meaning_operators.mapped_by query_meaning_operators.map_value query_meaning_operators.text_behind query_meaning_operators.concat_value query_meaning_operators.or_value query_meaning_operators.and_value query_meaning_operators.not_value query_meaning_operators.compare_value query_meaning_operators.range_value query_meaning_operators.with_term query_meaning_operators.sum_value query_meaning_operators.with_factor query_meaning_operators.product_value query_meaning_operators.sign_value query_meaning_operators.cast_as query_meaning_operators.instance_value query_meaning_operators.treat_value query_meaning_operators.cast_to_value query_meaning_operators.castable_value query_meaning_orders.compared_keys query_meaning_orders.order_tuples query_meaning_paths.kept query_meaning_paths.filtered query_meaning_paths.member_value query_meaning_paths.key_value query_meaning_paths.field_value query_meaning_paths.postfix_value query_meaning_queries.global_value query_meaning_queries.query_value query_grammar_classes.is query_grammar_grammar.variable query_grammar_grammar.parens query_grammar_grammar.times query_grammar_grammar.item_type query_grammar_grammar.empty_parens query_grammar_grammar.empty_rest query_grammar_grammar.empty_type query_grammar_grammar.seq_type query_grammar_grammar.single_type query_grammar_grammar.as_type query_grammar_grammar.literal query_grammar_grammar.in_parens query_grammar_grammar.in_braces query_grammar_grammar.content query_grammar_grammar.paren query_grammar_grammar.merge query_grammar_grammar.array query_grammar_grammar.name_key query_grammar_grammar.computed_key query_grammar_grammar.pair_key query_grammar_grammar.pair query_grammar_grammar.pair_list query_grammar_grammar.pairs query_grammar_grammar.object query_grammar_grammar.argument query_grammar_grammar.argument_list query_grammar_grammar.some_arguments query_grammar_grammar.arguments query_grammar_grammar.arity query_grammar_grammar.call query_grammar_grammar.inline_function query_grammar_grammar.primary query_grammar_grammar.members query_grammar_grammar.member query_grammar_grammar.filter query_grammar_grammar.bracket_step query_grammar_grammar.plain_key query_grammar_grammar.computed_lookup query_grammar_grammar.field_step query_grammar_grammar.call_step query_grammar_grammar.step query_grammar_grammar.steps query_grammar_grammar.postfix query_grammar_grammar.mapped_operand query_grammar_grammar.mapped_operands query_grammar_grammar.map_level query_grammar_grammar.sign_mark query_grammar_grammar.sign_marks query_grammar_grammar.sign query_grammar_grammar.cast_type query_grammar_grammar.cast query_grammar_grammar.castable_type query_grammar_grammar.castable query_grammar_grammar.treat_type query_grammar_grammar.treat query_grammar_grammar.instance_type query_grammar_grammar.instance query_grammar_grammar.factor query_grammar_grammar.factors query_grammar_grammar.product query_grammar_grammar.term query_grammar_grammar.terms query_grammar_grammar.sum query_grammar_grammar.range_end query_grammar_grammar.range query_grammar_grammar.concat_operand query_grammar_grammar.concat_operands query_grammar_grammar.concat query_grammar_grammar.compared query_grammar_grammar.comparison query_grammar_grammar.compare query_grammar_grammar.not_level query_grammar_grammar.and_operand query_grammar_grammar.and_operands query_grammar_grammar.and_level query_grammar_grammar.or_operand query_grammar_grammar.or_operands query_grammar_grammar.or_level query_grammar_grammar.allowing query_grammar_grammar.at_variable query_grammar_grammar.for_var query_grammar_grammar.window query_grammar_grammar.for_vars query_grammar_grammar.for_clause query_grammar_grammar.let_var query_grammar_grammar.let_vars query_grammar_grammar.let_clause query_grammar_grammar.first_clause query_grammar_grammar.where_clause query_grammar_grammar.group_value query_grammar_grammar.group_var query_grammar_grammar.group_vars query_grammar_grammar.group_clause query_grammar_grammar.empty_order query_grammar_grammar.direction query_grammar_grammar.order_key query_grammar_grammar.order_list query_grammar_grammar.order_keys query_grammar_grammar.order_clause query_grammar_grammar.count_clause query_grammar_grammar.one_clause query_grammar_grammar.clause query_grammar_grammar.returned query_grammar_grammar.clauses query_grammar_grammar.flwor query_grammar_grammar.bind query_grammar_grammar.binds query_grammar_grammar.quant query_grammar_grammar.case_test query_grammar_grammar.case_tests query_grammar_grammar.case query_grammar_grammar.cases query_grammar_grammar.switch query_grammar_grammar.seq_types query_grammar_grammar.case_variable query_grammar_grammar.type_case query_grammar_grammar.default_variable query_grammar_grammar.type_default query_grammar_grammar.type_cases query_grammar_grammar.typeswitch query_grammar_grammar.if query_grammar_grammar.catch_names query_grammar_grammar.catch_codes query_grammar_grammar.catch query_grammar_grammar.catches query_grammar_grammar.try query_grammar_grammar.single query_grammar_grammar.comma_operand query_grammar_grammar.comma_operands query_grammar_grammar.expr query_grammar_grammar.param query_grammar_grammar.variable_declaration query_grammar_grammar.param_list query_grammar_grammar.some_params query_grammar_grammar.params query_grammar_grammar.function_body query_grammar_grammar.function_declaration query_grammar_grammar.declaration query_grammar_grammar.declarations query_grammar_grammar.module_part
arithmetic_rows = record {
  sums = refl;
  products = refl;
  near_units = refl;
  whole_quotients = refl;
  remainders = refl;
  signs = refl;
  signs_of_nothing = refl;
  empty_operands = refl;
  tightness = refl;
  overflow = refl;
  zero_divisor = refl;
  left_operand_first = refl;
  right_operand_is_an_array = refl;
  several_items = refl;
  each_operator_as_soon_as_it_can = refl;
  operands_before_their_operator = refl;
  sign_of_a_string = refl;
}
