-- Written by tools/query_rows.py from rows.txt. Change that, and run it again.
-- Groups.
use Rattle.std.proofs.Common.{pos, true, false, [], ◌∷◌, Some, Ok, codes, refl}
use Rattle.std.specs.Fmt.{digits}
use Rattle.std.specs.Str.{chars}
use lib.Utf8.{encode}
use Rattle.item_tree.specs.Datum.{null, integer, decimal, text, object_of_pairs}
use Rattle.query_grammar.specs.declared.word.Kind.TheVariants as k
use Rattle.query_rows.proofs.Computing.{name, mark, whole, Gives}
use Rattle.num_fixed.specs.Fronts as num_fixed_fronts
use Rattle.num_fixed.specs.Values as num_fixed_values
use Rattle.num_fixed.specs.inside.Spells as num_fixed_inside_spells
use Rattle.item_tree.specs.Dates as item_tree_dates
use Rattle.item_tree.specs.JsonString as item_tree_jsonstring
use Rattle.item_tree.specs.inside.Words as item_tree_inside_words
use Rattle.json_text.specs.inside.Build as json_text_inside_build
use Rattle.json_text.specs.inside.Machine as json_text_inside_machine
use Rattle.json_text.specs.inside.Scan as json_text_inside_scan
use Rattle.fn_table.specs.Dates as fn_table_dates
use Rattle.grammar_parts.specs.Levels as grammar_parts_levels
use Rattle.grammar_parts.specs.Parts as grammar_parts_parts
use Rattle.grammar_parts.specs.Readers as grammar_parts_readers
use Rattle.query_meaning.specs.Calls as query_meaning_calls
use Rattle.query_meaning.specs.Choices as query_meaning_choices
use Rattle.query_meaning.specs.Clauses as query_meaning_clauses
use Rattle.query_meaning.specs.Constructors as query_meaning_constructors
use Rattle.query_meaning.specs.Flwors as query_meaning_flwors
use Rattle.query_meaning.specs.Groups as query_meaning_groups
use Rattle.query_meaning.specs.Meaning as query_meaning_meaning
use Rattle.query_meaning.specs.Operators as query_meaning_operators
use Rattle.query_meaning.specs.Orders as query_meaning_orders
use Rattle.query_meaning.specs.Paths as query_meaning_paths
use Rattle.query_meaning.specs.Queries as query_meaning_queries
use Rattle.query_grammar.specs.Classes as query_grammar_classes
use Rattle.query_grammar.specs.Grammar as query_grammar_grammar

pub record GroupsRows : Type 0 where
  -- for $x in json-lines("a") group by $k := $x.k return [$k, count($x)]
  pub groups : Gives ((name k.For 0 (codes "for")) ∷ (name k.Var 4 (codes "x")) ∷ (name k.In 7 (codes "in")) ∷ (name k.Name 10 (codes "json-lines")) ∷ (mark k.OpenParen 20) ∷ (name k.Text 21 (codes "a")) ∷ (mark k.CloseParen 24) ∷ (name k.Group 26 (codes "group")) ∷ (name k.By 32 (codes "by")) ∷ (name k.Var 35 (codes "k")) ∷ (mark k.Assign 38) ∷ (name k.Var 41 (codes "x")) ∷ (mark k.Dot 43) ∷ (name k.Name 44 (codes "k")) ∷ (name k.Return 46 (codes "return")) ∷ (mark k.OpenBracket 53) ∷ (name k.Var 54 (codes "k")) ∷ (mark k.Comma 56) ∷ (name k.Count 58 (codes "count")) ∷ (mark k.OpenParen 63) ∷ (name k.Var 64 (codes "x")) ∷ (mark k.CloseParen 66) ∷ (mark k.CloseBracket 67) ∷ [])
      (((codes "a", Some (Ok ((object_of_pairs (((codes "k", integer (pos 1))) ∷ [])) ∷ (object_of_pairs (((codes "k", decimal (pos 1000000))) ∷ [])) ∷ (object_of_pairs (((codes "k", text (codes "1"))) ∷ [])) ∷ (object_of_pairs (((codes "k", null)) ∷ [])) ∷ (object_of_pairs ([])) ∷ (object_of_pairs (((codes "k", integer (pos 1))) ∷ [])) ∷ [])))) ∷ [])
      (codes "[1,3]/[\"1\",1]/[null,1]/[1]/")
  -- for $x in 1 to 3 let $y := $x * 2 group by $g := $x mod 2 return [$g, $y]
  pub groups_join : Gives ((name k.For 0 (codes "for")) ∷ (name k.Var 4 (codes "x")) ∷ (name k.In 7 (codes "in")) ∷ (whole k.Int 10 1) ∷ (name k.To 12 (codes "to")) ∷ (whole k.Int 15 3) ∷ (name k.Let 17 (codes "let")) ∷ (name k.Var 21 (codes "y")) ∷ (mark k.Assign 24) ∷ (name k.Var 27 (codes "x")) ∷ (mark k.Star 30) ∷ (whole k.Int 32 2) ∷ (name k.Group 34 (codes "group")) ∷ (name k.By 40 (codes "by")) ∷ (name k.Var 43 (codes "g")) ∷ (mark k.Assign 46) ∷ (name k.Var 49 (codes "x")) ∷ (name k.Mod 52 (codes "mod")) ∷ (whole k.Int 56 2) ∷ (name k.Return 58 (codes "return")) ∷ (mark k.OpenBracket 65) ∷ (name k.Var 66 (codes "g")) ∷ (mark k.Comma 68) ∷ (name k.Var 70 (codes "y")) ∷ (mark k.CloseBracket 72) ∷ [])
      ([])
      (codes "[1,2,6]/[0,4]/")
  -- let $o := (7, 8) return for $x in (1, 2, 3) group by $k := $x ge 2 return [$k, $x, $o]
  pub outer_variables_stay : Gives ((name k.Let 0 (codes "let")) ∷ (name k.Var 4 (codes "o")) ∷ (mark k.Assign 7) ∷ (mark k.OpenParen 10) ∷ (whole k.Int 11 7) ∷ (mark k.Comma 12) ∷ (whole k.Int 14 8) ∷ (mark k.CloseParen 15) ∷ (name k.Return 17 (codes "return")) ∷ (name k.For 24 (codes "for")) ∷ (name k.Var 28 (codes "x")) ∷ (name k.In 31 (codes "in")) ∷ (mark k.OpenParen 34) ∷ (whole k.Int 35 1) ∷ (mark k.Comma 36) ∷ (whole k.Int 38 2) ∷ (mark k.Comma 39) ∷ (whole k.Int 41 3) ∷ (mark k.CloseParen 42) ∷ (name k.Group 44 (codes "group")) ∷ (name k.By 50 (codes "by")) ∷ (name k.Var 53 (codes "k")) ∷ (mark k.Assign 56) ∷ (name k.Var 59 (codes "x")) ∷ (name k.Ge 62 (codes "ge")) ∷ (whole k.Int 65 2) ∷ (name k.Return 67 (codes "return")) ∷ (mark k.OpenBracket 74) ∷ (name k.Var 75 (codes "k")) ∷ (mark k.Comma 77) ∷ (name k.Var 79 (codes "x")) ∷ (mark k.Comma 81) ∷ (name k.Var 83 (codes "o")) ∷ (mark k.CloseBracket 85) ∷ [])
      ([])
      (codes "[false,1,7,8]/[true,2,3,7,8]/")
  -- for $x in (2, 1, 2) group by $x return $x
  pub group_by_a_stream_variable : Gives ((name k.For 0 (codes "for")) ∷ (name k.Var 4 (codes "x")) ∷ (name k.In 7 (codes "in")) ∷ (mark k.OpenParen 10) ∷ (whole k.Int 11 2) ∷ (mark k.Comma 12) ∷ (whole k.Int 14 1) ∷ (mark k.Comma 15) ∷ (whole k.Int 17 2) ∷ (mark k.CloseParen 18) ∷ (name k.Group 20 (codes "group")) ∷ (name k.By 26 (codes "by")) ∷ (name k.Var 29 (codes "x")) ∷ (name k.Return 32 (codes "return")) ∷ (name k.Var 39 (codes "x")) ∷ [])
      ([])
      (codes "2/1/")
  -- for $x in (1, 2, 3, 4) group by $a := $x mod 2, $b := $a eq 1 and $x gt 1 return [$a, $b, count($x)]
  pub two_keys : Gives ((name k.For 0 (codes "for")) ∷ (name k.Var 4 (codes "x")) ∷ (name k.In 7 (codes "in")) ∷ (mark k.OpenParen 10) ∷ (whole k.Int 11 1) ∷ (mark k.Comma 12) ∷ (whole k.Int 14 2) ∷ (mark k.Comma 15) ∷ (whole k.Int 17 3) ∷ (mark k.Comma 18) ∷ (whole k.Int 20 4) ∷ (mark k.CloseParen 21) ∷ (name k.Group 23 (codes "group")) ∷ (name k.By 29 (codes "by")) ∷ (name k.Var 32 (codes "a")) ∷ (mark k.Assign 35) ∷ (name k.Var 38 (codes "x")) ∷ (name k.Mod 41 (codes "mod")) ∷ (whole k.Int 45 2) ∷ (mark k.Comma 46) ∷ (name k.Var 48 (codes "b")) ∷ (mark k.Assign 51) ∷ (name k.Var 54 (codes "a")) ∷ (name k.Eq 57 (codes "eq")) ∷ (whole k.Int 60 1) ∷ (name k.And 62 (codes "and")) ∷ (name k.Var 66 (codes "x")) ∷ (name k.Gt 69 (codes "gt")) ∷ (whole k.Int 72 1) ∷ (name k.Return 74 (codes "return")) ∷ (mark k.OpenBracket 81) ∷ (name k.Var 82 (codes "a")) ∷ (mark k.Comma 84) ∷ (name k.Var 86 (codes "b")) ∷ (mark k.Comma 88) ∷ (name k.Count 90 (codes "count")) ∷ (mark k.OpenParen 95) ∷ (name k.Var 96 (codes "x")) ∷ (mark k.CloseParen 98) ∷ (mark k.CloseBracket 99) ∷ [])
      ([])
      (codes "[1,false,1]/[0,false,2]/[1,true,1]/")
  -- for $x in (1, 2) group by $k := (1 to $x) return 1
  pub key_of_two : Gives ((name k.For 0 (codes "for")) ∷ (name k.Var 4 (codes "x")) ∷ (name k.In 7 (codes "in")) ∷ (mark k.OpenParen 10) ∷ (whole k.Int 11 1) ∷ (mark k.Comma 12) ∷ (whole k.Int 14 2) ∷ (mark k.CloseParen 15) ∷ (name k.Group 17 (codes "group")) ∷ (name k.By 23 (codes "by")) ∷ (name k.Var 26 (codes "k")) ∷ (mark k.Assign 29) ∷ (mark k.OpenParen 32) ∷ (whole k.Int 33 1) ∷ (name k.To 35 (codes "to")) ∷ (name k.Var 38 (codes "x")) ∷ (mark k.CloseParen 40) ∷ (name k.Return 42 (codes "return")) ∷ (whole k.Int 49 1) ∷ [])
      ([])
      (codes "XPTY0004 at 27 clause 2 tuple 2")
  -- for $x in (1, [2]) group by $k := $x return 1
  pub key_is_an_item : Gives ((name k.For 0 (codes "for")) ∷ (name k.Var 4 (codes "x")) ∷ (name k.In 7 (codes "in")) ∷ (mark k.OpenParen 10) ∷ (whole k.Int 11 1) ∷ (mark k.Comma 12) ∷ (mark k.OpenBracket 14) ∷ (whole k.Int 15 2) ∷ (mark k.CloseBracket 16) ∷ (mark k.CloseParen 17) ∷ (name k.Group 19 (codes "group")) ∷ (name k.By 25 (codes "by")) ∷ (name k.Var 28 (codes "k")) ∷ (mark k.Assign 31) ∷ (name k.Var 34 (codes "x")) ∷ (name k.Return 37 (codes "return")) ∷ (whole k.Int 44 1) ∷ [])
      ([])
      (codes "XPTY0004 at 29 clause 2 tuple 2")

pub groups_rows : GroupsRows
unfolding digits encode chars num_fixed_fronts.fraction_len num_fixed_fronts.exponent_len num_fixed_fronts.whole_end num_fixed_fronts.fraction_end num_fixed_fronts.number_end num_fixed_fronts.numeral_front num_fixed_fronts.short_whole num_fixed_values.near_natural num_fixed_values.near num_fixed_values.units_said num_fixed_inside_spells.spelled item_tree_dates.days_of_years item_tree_dates.days_of_months item_tree_dates.day_count item_tree_dates.day_number item_tree_jsonstring.code_unit item_tree_inside_words.joined json_text_inside_build.reading json_text_inside_machine.token_from json_text_inside_machine.token_at json_text_inside_machine.run_for json_text_inside_machine.run json_text_inside_scan.numeral_at json_text_inside_scan.pieces_at fn_table_dates.days_after fn_table_dates.days_before grammar_parts_levels.inside grammar_parts_parts.OneWhole grammar_parts_parts.OneBegun grammar_parts_parts.NothingWhole grammar_parts_parts.NothingBegun grammar_parts_parts.OnlyWhole grammar_parts_parts.OnlyBegun grammar_parts_parts.MappedWhole grammar_parts_parts.MappedBegun grammar_parts_parts.SeqWhole grammar_parts_parts.SeqBegun grammar_parts_parts.LongWhole grammar_parts_parts.LongBegun grammar_parts_parts.AltWhole grammar_parts_parts.AltBegun grammar_parts_parts.UnlessWhole grammar_parts_parts.UnlessBegun grammar_parts_parts.AheadWhole grammar_parts_parts.AheadBegun grammar_parts_parts.ManyWhole grammar_parts_parts.ManyBegun grammar_parts_parts.ManyLongWhole grammar_parts_parts.ManyLongBegun grammar_parts_parts.NoneWhole grammar_parts_readers.read_times grammar_parts_readers.read_many query_meaning_calls.own_value query_meaning_calls.call_value query_meaning_choices.if_value query_meaning_choices.switch_value query_meaning_choices.typeswitch_value query_meaning_choices.try_value query_meaning_choices.quantified_value query_meaning_clauses.bound_tuple query_meaning_clauses.for_tuples query_meaning_clauses.let_tuples query_meaning_clauses.where_tuples query_meaning_clauses.count_tuples query_meaning_clauses.each_tuple query_meaning_constructors.array_value query_meaning_constructors.entry_of query_meaning_constructors.object_value query_meaning_constructors.merge_value query_meaning_flwors.return_value query_meaning_flwors.flwor_value query_meaning_groups.group_key_value query_meaning_groups.keyed_tuple query_meaning_groups.group_tuples query_meaning_meaning.meaning query_meaning_operators.comma_value query_meaning_operators.mapped_by query_meaning_operators.map_value query_meaning_operators.text_behind query_meaning_operators.concat_value query_meaning_operators.or_value query_meaning_operators.and_value query_meaning_operators.not_value query_meaning_operators.compare_value query_meaning_operators.range_value query_meaning_operators.with_term query_meaning_operators.sum_value query_meaning_operators.with_factor query_meaning_operators.product_value query_meaning_operators.sign_value query_meaning_operators.cast_as query_meaning_operators.instance_value query_meaning_operators.treat_value query_meaning_operators.cast_to_value query_meaning_operators.castable_value query_meaning_orders.compared_keys query_meaning_orders.order_tuples query_meaning_paths.kept query_meaning_paths.filtered query_meaning_paths.member_value query_meaning_paths.key_value query_meaning_paths.field_value query_meaning_paths.postfix_value query_meaning_queries.global_value query_meaning_queries.query_value query_grammar_classes.is query_grammar_grammar.variable query_grammar_grammar.parens query_grammar_grammar.times query_grammar_grammar.item_type query_grammar_grammar.empty_parens query_grammar_grammar.empty_rest query_grammar_grammar.empty_type query_grammar_grammar.seq_type query_grammar_grammar.single_type query_grammar_grammar.as_type query_grammar_grammar.literal query_grammar_grammar.in_parens query_grammar_grammar.in_braces query_grammar_grammar.content query_grammar_grammar.paren query_grammar_grammar.merge query_grammar_grammar.array query_grammar_grammar.name_key query_grammar_grammar.computed_key query_grammar_grammar.pair_key query_grammar_grammar.pair query_grammar_grammar.pair_list query_grammar_grammar.pairs query_grammar_grammar.object query_grammar_grammar.argument query_grammar_grammar.argument_list query_grammar_grammar.some_arguments query_grammar_grammar.arguments query_grammar_grammar.arity query_grammar_grammar.call query_grammar_grammar.inline_function query_grammar_grammar.primary query_grammar_grammar.members query_grammar_grammar.member query_grammar_grammar.filter query_grammar_grammar.bracket_step query_grammar_grammar.plain_key query_grammar_grammar.computed_lookup query_grammar_grammar.field_step query_grammar_grammar.call_step query_grammar_grammar.step query_grammar_grammar.steps query_grammar_grammar.postfix query_grammar_grammar.mapped_operand query_grammar_grammar.mapped_operands query_grammar_grammar.map_level query_grammar_grammar.sign_mark query_grammar_grammar.sign_marks query_grammar_grammar.sign query_grammar_grammar.cast_type query_grammar_grammar.cast query_grammar_grammar.castable_type query_grammar_grammar.castable query_grammar_grammar.treat_type query_grammar_grammar.treat query_grammar_grammar.instance_type query_grammar_grammar.instance query_grammar_grammar.factor query_grammar_grammar.factors query_grammar_grammar.product query_grammar_grammar.term query_grammar_grammar.terms query_grammar_grammar.sum query_grammar_grammar.range_end query_grammar_grammar.range query_grammar_grammar.concat_operand query_grammar_grammar.concat_operands query_grammar_grammar.concat query_grammar_grammar.compared query_grammar_grammar.comparison query_grammar_grammar.compare query_grammar_grammar.not_level query_grammar_grammar.and_operand query_grammar_grammar.and_operands query_grammar_grammar.and_level query_grammar_grammar.or_operand query_grammar_grammar.or_operands query_grammar_grammar.or_level query_grammar_grammar.allowing query_grammar_grammar.at_variable query_grammar_grammar.for_var query_grammar_grammar.window query_grammar_grammar.for_vars query_grammar_grammar.for_clause query_grammar_grammar.let_var query_grammar_grammar.let_vars query_grammar_grammar.let_clause query_grammar_grammar.first_clause query_grammar_grammar.where_clause query_grammar_grammar.group_value query_grammar_grammar.group_var query_grammar_grammar.group_vars query_grammar_grammar.group_clause query_grammar_grammar.empty_order query_grammar_grammar.direction query_grammar_grammar.order_key query_grammar_grammar.order_list query_grammar_grammar.order_keys query_grammar_grammar.order_clause query_grammar_grammar.count_clause query_grammar_grammar.one_clause query_grammar_grammar.clause query_grammar_grammar.returned query_grammar_grammar.clauses query_grammar_grammar.flwor query_grammar_grammar.bind query_grammar_grammar.binds query_grammar_grammar.quant query_grammar_grammar.case_test query_grammar_grammar.case_tests query_grammar_grammar.case query_grammar_grammar.cases query_grammar_grammar.switch query_grammar_grammar.seq_types query_grammar_grammar.case_variable query_grammar_grammar.type_case query_grammar_grammar.default_variable query_grammar_grammar.type_default query_grammar_grammar.type_cases query_grammar_grammar.typeswitch query_grammar_grammar.if query_grammar_grammar.catch_names query_grammar_grammar.catch_codes query_grammar_grammar.catch query_grammar_grammar.catches query_grammar_grammar.try query_grammar_grammar.single query_grammar_grammar.comma_operand query_grammar_grammar.comma_operands query_grammar_grammar.expr query_grammar_grammar.param query_grammar_grammar.variable_declaration query_grammar_grammar.param_list query_grammar_grammar.some_params query_grammar_grammar.params query_grammar_grammar.function_body query_grammar_grammar.function_declaration query_grammar_grammar.declaration query_grammar_grammar.declarations query_grammar_grammar.module_part
groups_rows = record {
  groups = refl;
  groups_join = refl;
  outer_variables_stay = refl;
  group_by_a_stream_variable = refl;
  two_keys = refl;
  key_of_two = refl;
  key_is_an_item = refl;
}
