-- Written by tools/query_rows.py from rows.txt. Change that, and run it again.
-- Paths through arrays and objects.
use Rattle.std.proofs.Common.{[], ◌∷◌, codes, refl}
use Rattle.std.specs.Fmt.{digits}
use Rattle.std.specs.Str.{chars}
use lib.Utf8.{encode}
use Rattle.query_grammar.specs.declared.word.Kind.TheVariants as k
use Rattle.query_rows.proofs.Computing.{name, mark, whole, units, Gives}
use Rattle.num_fixed.specs.Fronts as num_fixed_fronts
use Rattle.num_fixed.specs.Values as num_fixed_values
use Rattle.num_fixed.specs.inside.Spells as num_fixed_inside_spells
use Rattle.item_tree.specs.Dates as item_tree_dates
use Rattle.item_tree.specs.JsonString as item_tree_jsonstring
use Rattle.item_tree.specs.inside.Words as item_tree_inside_words
use Rattle.json_text.specs.inside.Build as json_text_inside_build
use Rattle.json_text.specs.inside.Machine as json_text_inside_machine
use Rattle.json_text.specs.inside.Scan as json_text_inside_scan
use Rattle.fn_table.specs.Dates as fn_table_dates
use Rattle.grammar_parts.specs.Levels as grammar_parts_levels
use Rattle.grammar_parts.specs.Parts as grammar_parts_parts
use Rattle.grammar_parts.specs.Readers as grammar_parts_readers
use Rattle.query_meaning.specs.Calls as query_meaning_calls
use Rattle.query_meaning.specs.Choices as query_meaning_choices
use Rattle.query_meaning.specs.Clauses as query_meaning_clauses
use Rattle.query_meaning.specs.Constructors as query_meaning_constructors
use Rattle.query_meaning.specs.Flwors as query_meaning_flwors
use Rattle.query_meaning.specs.Groups as query_meaning_groups
use Rattle.query_meaning.specs.Meaning as query_meaning_meaning
use Rattle.query_meaning.specs.Operators as query_meaning_operators
use Rattle.query_meaning.specs.Orders as query_meaning_orders
use Rattle.query_meaning.specs.Paths as query_meaning_paths
use Rattle.query_meaning.specs.Queries as query_meaning_queries
use Rattle.query_grammar.specs.Classes as query_grammar_classes
use Rattle.query_grammar.specs.Grammar as query_grammar_grammar

pub record PathsRows : Type 0 where
  -- (10, 20, 30)[2], (10, 20)[1.0], (10, 20)[3], (10, 20)[1.5], (10, 20)[0]
  pub positions : Gives ((mark k.OpenParen 0) ∷ (whole k.Int 1 10) ∷ (mark k.Comma 3) ∷ (whole k.Int 5 20) ∷ (mark k.Comma 7) ∷ (whole k.Int 9 30) ∷ (mark k.CloseParen 11) ∷ (mark k.OpenBracket 12) ∷ (whole k.Int 13 2) ∷ (mark k.CloseBracket 14) ∷ (mark k.Comma 15) ∷ (mark k.OpenParen 17) ∷ (whole k.Int 18 10) ∷ (mark k.Comma 20) ∷ (whole k.Int 22 20) ∷ (mark k.CloseParen 24) ∷ (mark k.OpenBracket 25) ∷ (units k.Dec 26 1000000) ∷ (mark k.CloseBracket 29) ∷ (mark k.Comma 30) ∷ (mark k.OpenParen 32) ∷ (whole k.Int 33 10) ∷ (mark k.Comma 35) ∷ (whole k.Int 37 20) ∷ (mark k.CloseParen 39) ∷ (mark k.OpenBracket 40) ∷ (whole k.Int 41 3) ∷ (mark k.CloseBracket 42) ∷ (mark k.Comma 43) ∷ (mark k.OpenParen 45) ∷ (whole k.Int 46 10) ∷ (mark k.Comma 48) ∷ (whole k.Int 50 20) ∷ (mark k.CloseParen 52) ∷ (mark k.OpenBracket 53) ∷ (units k.Dec 54 1500000) ∷ (mark k.CloseBracket 57) ∷ (mark k.Comma 58) ∷ (mark k.OpenParen 60) ∷ (whole k.Int 61 10) ∷ (mark k.Comma 63) ∷ (whole k.Int 65 20) ∷ (mark k.CloseParen 67) ∷ (mark k.OpenBracket 68) ∷ (whole k.Int 69 0) ∷ (mark k.CloseBracket 70) ∷ [])
      ([])
      (codes "20/10/")
  -- (1, 2, 3)[$$ gt 1], ("a", "", "b")[$$]
  pub tests : Gives ((mark k.OpenParen 0) ∷ (whole k.Int 1 1) ∷ (mark k.Comma 2) ∷ (whole k.Int 4 2) ∷ (mark k.Comma 5) ∷ (whole k.Int 7 3) ∷ (mark k.CloseParen 8) ∷ (mark k.OpenBracket 9) ∷ (mark k.Context 10) ∷ (name k.Gt 13 (codes "gt")) ∷ (whole k.Int 16 1) ∷ (mark k.CloseBracket 17) ∷ (mark k.Comma 18) ∷ (mark k.OpenParen 20) ∷ (name k.Text 21 (codes "a")) ∷ (mark k.Comma 24) ∷ (name k.Text 26 (codes "")) ∷ (mark k.Comma 28) ∷ (name k.Text 30 (codes "b")) ∷ (mark k.CloseParen 33) ∷ (mark k.OpenBracket 34) ∷ (mark k.Context 35) ∷ (mark k.CloseBracket 37) ∷ [])
      ([])
      (codes "2/3/\"a\"/\"b\"/")
  -- ()[1 div 0]
  pub predicate_on_nothing : Gives ((mark k.OpenParen 0) ∷ (mark k.CloseParen 1) ∷ (mark k.OpenBracket 2) ∷ (whole k.Int 3 1) ∷ (name k.Div 5 (codes "div")) ∷ (whole k.Int 9 0) ∷ (mark k.CloseBracket 10) ∷ [])
      ([])
      (codes "")
  -- (1, 2)[(1, 2)]
  pub predicate_of_two_items : Gives ((mark k.OpenParen 0) ∷ (whole k.Int 1 1) ∷ (mark k.Comma 2) ∷ (whole k.Int 4 2) ∷ (mark k.CloseParen 5) ∷ (mark k.OpenBracket 6) ∷ (mark k.OpenParen 7) ∷ (whole k.Int 8 1) ∷ (mark k.Comma 9) ∷ (whole k.Int 11 2) ∷ (mark k.CloseParen 12) ∷ (mark k.CloseBracket 13) ∷ [])
      ([])
      (codes "FORG0006 at 7")
  -- ([1, 2], [3])[$$[[1]] eq 3], (1, 2)[(3, 4)[$$ eq 3] eq 3]
  pub inner_item_hides_the_outer : Gives ((mark k.OpenParen 0) ∷ (mark k.OpenBracket 1) ∷ (whole k.Int 2 1) ∷ (mark k.Comma 3) ∷ (whole k.Int 5 2) ∷ (mark k.CloseBracket 6) ∷ (mark k.Comma 7) ∷ (mark k.OpenBracket 9) ∷ (whole k.Int 10 3) ∷ (mark k.CloseBracket 11) ∷ (mark k.CloseParen 12) ∷ (mark k.OpenBracket 13) ∷ (mark k.Context 14) ∷ (mark k.OpenBracket 16) ∷ (mark k.OpenBracket 17) ∷ (whole k.Int 18 1) ∷ (mark k.CloseBracket 19) ∷ (mark k.CloseBracket 20) ∷ (name k.Eq 22 (codes "eq")) ∷ (whole k.Int 25 3) ∷ (mark k.CloseBracket 26) ∷ (mark k.Comma 27) ∷ (mark k.OpenParen 29) ∷ (whole k.Int 30 1) ∷ (mark k.Comma 31) ∷ (whole k.Int 33 2) ∷ (mark k.CloseParen 34) ∷ (mark k.OpenBracket 35) ∷ (mark k.OpenParen 36) ∷ (whole k.Int 37 3) ∷ (mark k.Comma 38) ∷ (whole k.Int 40 4) ∷ (mark k.CloseParen 41) ∷ (mark k.OpenBracket 42) ∷ (mark k.Context 43) ∷ (name k.Eq 46 (codes "eq")) ∷ (whole k.Int 49 3) ∷ (mark k.CloseBracket 50) ∷ (name k.Eq 52 (codes "eq")) ∷ (whole k.Int 55 3) ∷ (mark k.CloseBracket 56) ∷ [])
      ([])
      (codes "[3]/1/2/")
  -- ([10, 20], 1, [30])[[1]], ([10], {})[[2]], [1, 2][[2.0]]
  pub members_at : Gives ((mark k.OpenParen 0) ∷ (mark k.OpenBracket 1) ∷ (whole k.Int 2 10) ∷ (mark k.Comma 4) ∷ (whole k.Int 6 20) ∷ (mark k.CloseBracket 8) ∷ (mark k.Comma 9) ∷ (whole k.Int 11 1) ∷ (mark k.Comma 12) ∷ (mark k.OpenBracket 14) ∷ (whole k.Int 15 30) ∷ (mark k.CloseBracket 17) ∷ (mark k.CloseParen 18) ∷ (mark k.OpenBracket 19) ∷ (mark k.OpenBracket 20) ∷ (whole k.Int 21 1) ∷ (mark k.CloseBracket 22) ∷ (mark k.CloseBracket 23) ∷ (mark k.Comma 24) ∷ (mark k.OpenParen 26) ∷ (mark k.OpenBracket 27) ∷ (whole k.Int 28 10) ∷ (mark k.CloseBracket 30) ∷ (mark k.Comma 31) ∷ (mark k.OpenBrace 33) ∷ (mark k.CloseBrace 34) ∷ (mark k.CloseParen 35) ∷ (mark k.OpenBracket 36) ∷ (mark k.OpenBracket 37) ∷ (whole k.Int 38 2) ∷ (mark k.CloseBracket 39) ∷ (mark k.CloseBracket 40) ∷ (mark k.Comma 41) ∷ (mark k.OpenBracket 43) ∷ (whole k.Int 44 1) ∷ (mark k.Comma 45) ∷ (whole k.Int 47 2) ∷ (mark k.CloseBracket 48) ∷ (mark k.OpenBracket 49) ∷ (mark k.OpenBracket 50) ∷ (units k.Dec 51 2000000) ∷ (mark k.CloseBracket 54) ∷ (mark k.CloseBracket 55) ∷ [])
      ([])
      (codes "10/30/2/")
  -- [1][["a"]]
  pub member_index_is_no_number : Gives ((mark k.OpenBracket 0) ∷ (whole k.Int 1 1) ∷ (mark k.CloseBracket 2) ∷ (mark k.OpenBracket 3) ∷ (mark k.OpenBracket 4) ∷ (name k.Text 5 (codes "a")) ∷ (mark k.CloseBracket 8) ∷ (mark k.CloseBracket 9) ∷ [])
      ([])
      (codes "XPTY0004 at 4")
  -- [1][[[1]]]
  pub member_index_is_an_array : Gives ((mark k.OpenBracket 0) ∷ (whole k.Int 1 1) ∷ (mark k.CloseBracket 2) ∷ (mark k.OpenBracket 3) ∷ (mark k.OpenBracket 4) ∷ (mark k.OpenBracket 5) ∷ (whole k.Int 6 1) ∷ (mark k.CloseBracket 7) ∷ (mark k.CloseBracket 8) ∷ (mark k.CloseBracket 9) ∷ [])
      ([])
      (codes "XPTY0004 at 4")
  -- ([1, [2]], 3, [])[]
  pub unboxed : Gives ((mark k.OpenParen 0) ∷ (mark k.OpenBracket 1) ∷ (whole k.Int 2 1) ∷ (mark k.Comma 3) ∷ (mark k.OpenBracket 5) ∷ (whole k.Int 6 2) ∷ (mark k.CloseBracket 7) ∷ (mark k.CloseBracket 8) ∷ (mark k.Comma 9) ∷ (whole k.Int 11 3) ∷ (mark k.Comma 12) ∷ (mark k.OpenBracket 14) ∷ (mark k.CloseBracket 15) ∷ (mark k.CloseParen 16) ∷ (mark k.OpenBracket 17) ∷ (mark k.CloseBracket 18) ∷ [])
      ([])
      (codes "1/[2]/")
  -- ({"a":1}, 2, {"a":[3]}, {"b":4}).a, {"a":{"b":5}}.a.b, {"1":6}.(1), {"x y":7}."x y"
  pub fields : Gives ((mark k.OpenParen 0) ∷ (mark k.OpenBrace 1) ∷ (name k.Text 2 (codes "a")) ∷ (mark k.Colon 5) ∷ (whole k.Int 6 1) ∷ (mark k.CloseBrace 7) ∷ (mark k.Comma 8) ∷ (whole k.Int 10 2) ∷ (mark k.Comma 11) ∷ (mark k.OpenBrace 13) ∷ (name k.Text 14 (codes "a")) ∷ (mark k.Colon 17) ∷ (mark k.OpenBracket 18) ∷ (whole k.Int 19 3) ∷ (mark k.CloseBracket 20) ∷ (mark k.CloseBrace 21) ∷ (mark k.Comma 22) ∷ (mark k.OpenBrace 24) ∷ (name k.Text 25 (codes "b")) ∷ (mark k.Colon 28) ∷ (whole k.Int 29 4) ∷ (mark k.CloseBrace 30) ∷ (mark k.CloseParen 31) ∷ (mark k.Dot 32) ∷ (name k.Name 33 (codes "a")) ∷ (mark k.Comma 34) ∷ (mark k.OpenBrace 36) ∷ (name k.Text 37 (codes "a")) ∷ (mark k.Colon 40) ∷ (mark k.OpenBrace 41) ∷ (name k.Text 42 (codes "b")) ∷ (mark k.Colon 45) ∷ (whole k.Int 46 5) ∷ (mark k.CloseBrace 47) ∷ (mark k.CloseBrace 48) ∷ (mark k.Dot 49) ∷ (name k.Name 50 (codes "a")) ∷ (mark k.Dot 51) ∷ (name k.Name 52 (codes "b")) ∷ (mark k.Comma 53) ∷ (mark k.OpenBrace 55) ∷ (name k.Text 56 (codes "1")) ∷ (mark k.Colon 59) ∷ (whole k.Int 60 6) ∷ (mark k.CloseBrace 61) ∷ (mark k.Dot 62) ∷ (mark k.OpenParen 63) ∷ (whole k.Int 64 1) ∷ (mark k.CloseParen 65) ∷ (mark k.Comma 66) ∷ (mark k.OpenBrace 68) ∷ (name k.Text 69 (codes "x y")) ∷ (mark k.Colon 74) ∷ (whole k.Int 75 7) ∷ (mark k.CloseBrace 76) ∷ (mark k.Dot 77) ∷ (name k.Text 78 (codes "x y")) ∷ [])
      ([])
      (codes "1/[3]/5/6/7/")
  -- {"a":1}.(("a", "b"))
  pub key_of_two_items : Gives ((mark k.OpenBrace 0) ∷ (name k.Text 1 (codes "a")) ∷ (mark k.Colon 4) ∷ (whole k.Int 5 1) ∷ (mark k.CloseBrace 6) ∷ (mark k.Dot 7) ∷ (mark k.OpenParen 8) ∷ (mark k.OpenParen 9) ∷ (name k.Text 10 (codes "a")) ∷ (mark k.Comma 13) ∷ (name k.Text 15 (codes "b")) ∷ (mark k.CloseParen 18) ∷ (mark k.CloseParen 19) ∷ [])
      ([])
      (codes "JNTY0018 at 8")
  -- {"a":1}.({})
  pub key_is_an_object : Gives ((mark k.OpenBrace 0) ∷ (name k.Text 1 (codes "a")) ∷ (mark k.Colon 4) ∷ (whole k.Int 5 1) ∷ (mark k.CloseBrace 6) ∷ (mark k.Dot 7) ∷ (mark k.OpenParen 8) ∷ (mark k.OpenBrace 9) ∷ (mark k.CloseBrace 10) ∷ (mark k.CloseParen 11) ∷ [])
      ([])
      (codes "JNTY0018 at 8")
  -- (1, 2) ! ($$ + 1), (1, 2) ! ($$, $$ * 10) ! ($$ + 1)
  pub mapped : Gives ((mark k.OpenParen 0) ∷ (whole k.Int 1 1) ∷ (mark k.Comma 2) ∷ (whole k.Int 4 2) ∷ (mark k.CloseParen 5) ∷ (mark k.Bang 7) ∷ (mark k.OpenParen 9) ∷ (mark k.Context 10) ∷ (mark k.Plus 13) ∷ (whole k.Int 15 1) ∷ (mark k.CloseParen 16) ∷ (mark k.Comma 17) ∷ (mark k.OpenParen 19) ∷ (whole k.Int 20 1) ∷ (mark k.Comma 21) ∷ (whole k.Int 23 2) ∷ (mark k.CloseParen 24) ∷ (mark k.Bang 26) ∷ (mark k.OpenParen 28) ∷ (mark k.Context 29) ∷ (mark k.Comma 31) ∷ (mark k.Context 33) ∷ (mark k.Star 36) ∷ (whole k.Int 38 10) ∷ (mark k.CloseParen 40) ∷ (mark k.Bang 42) ∷ (mark k.OpenParen 44) ∷ (mark k.Context 45) ∷ (mark k.Plus 48) ∷ (whole k.Int 50 1) ∷ (mark k.CloseParen 51) ∷ [])
      ([])
      (codes "2/3/2/11/3/21/")
  -- (1, 0) ! (1 div $$)
  pub mapped_fault : Gives ((mark k.OpenParen 0) ∷ (whole k.Int 1 1) ∷ (mark k.Comma 2) ∷ (whole k.Int 4 0) ∷ (mark k.CloseParen 5) ∷ (mark k.Bang 7) ∷ (mark k.OpenParen 9) ∷ (whole k.Int 10 1) ∷ (name k.Div 12 (codes "div")) ∷ (mark k.Context 16) ∷ (mark k.CloseParen 18) ∷ [])
      ([])
      (codes "FOAR0001 at 13")

pub paths_rows : PathsRows
unfolding digits encode chars num_fixed_fronts.fraction_len num_fixed_fronts.exponent_len num_fixed_fronts.whole_end num_fixed_fronts.fraction_end num_fixed_fronts.number_end num_fixed_fronts.numeral_front num_fixed_fronts.short_whole num_fixed_values.near_natural num_fixed_values.near num_fixed_values.units_said num_fixed_inside_spells.spelled item_tree_dates.days_of_years item_tree_dates.days_of_months item_tree_dates.day_count item_tree_dates.day_number item_tree_jsonstring.code_unit item_tree_inside_words.joined json_text_inside_build.reading json_text_inside_machine.token_from json_text_inside_machine.token_at json_text_inside_machine.run_for json_text_inside_machine.run json_text_inside_scan.numeral_at json_text_inside_scan.pieces_at fn_table_dates.days_after fn_table_dates.days_before grammar_parts_levels.inside grammar_parts_parts.OneWhole grammar_parts_parts.OneBegun grammar_parts_parts.NothingWhole grammar_parts_parts.NothingBegun grammar_parts_parts.OnlyWhole grammar_parts_parts.OnlyBegun grammar_parts_parts.MappedWhole grammar_parts_parts.MappedBegun grammar_parts_parts.SeqWhole grammar_parts_parts.SeqBegun grammar_parts_parts.LongWhole grammar_parts_parts.LongBegun grammar_parts_parts.AltWhole grammar_parts_parts.AltBegun grammar_parts_parts.UnlessWhole grammar_parts_parts.UnlessBegun grammar_parts_parts.AheadWhole grammar_parts_parts.AheadBegun grammar_parts_parts.ManyWhole grammar_parts_parts.ManyBegun grammar_parts_parts.ManyLongWhole grammar_parts_parts.ManyLongBegun grammar_parts_parts.NoneWhole grammar_parts_readers.read_times grammar_parts_readers.read_many query_meaning_calls.own_value query_meaning_calls.call_value query_meaning_choices.if_value query_meaning_choices.switch_value query_meaning_choices.typeswitch_value query_meaning_choices.try_value query_meaning_choices.quantified_value query_meaning_clauses.bound_tuple query_meaning_clauses.for_tuples query_meaning_clauses.let_tuples query_meaning_clauses.where_tuples query_meaning_clauses.count_tuples query_meaning_clauses.each_tuple query_meaning_constructors.array_value query_meaning_constructors.entry_of query_meaning_constructors.object_value query_meaning_constructors.merge_value query_meaning_flwors.return_value query_meaning_flwors.flwor_value query_meaning_groups.group_key_value query_meaning_groups.keyed_tuple query_meaning_groups.group_tuples query_meaning_meaning.meaning query_meaning_operators.comma_value query_meaning_operators.mapped_by query_meaning_operators.map_value query_meaning_operators.text_behind query_meaning_operators.concat_value query_meaning_operators.or_value query_meaning_operators.and_value query_meaning_operators.not_value query_meaning_operators.compare_value query_meaning_operators.range_value query_meaning_operators.with_term query_meaning_operators.sum_value query_meaning_operators.with_factor query_meaning_operators.product_value query_meaning_operators.sign_value query_meaning_operators.cast_as query_meaning_operators.instance_value query_meaning_operators.treat_value query_meaning_operators.cast_to_value query_meaning_operators.castable_value query_meaning_orders.compared_keys query_meaning_orders.order_tuples query_meaning_paths.kept query_meaning_paths.filtered query_meaning_paths.member_value query_meaning_paths.key_value query_meaning_paths.field_value query_meaning_paths.postfix_value query_meaning_queries.global_value query_meaning_queries.query_value query_grammar_classes.is query_grammar_grammar.variable query_grammar_grammar.parens query_grammar_grammar.times query_grammar_grammar.item_type query_grammar_grammar.empty_parens query_grammar_grammar.empty_rest query_grammar_grammar.empty_type query_grammar_grammar.seq_type query_grammar_grammar.single_type query_grammar_grammar.as_type query_grammar_grammar.literal query_grammar_grammar.in_parens query_grammar_grammar.in_braces query_grammar_grammar.content query_grammar_grammar.paren query_grammar_grammar.merge query_grammar_grammar.array query_grammar_grammar.name_key query_grammar_grammar.computed_key query_grammar_grammar.pair_key query_grammar_grammar.pair query_grammar_grammar.pair_list query_grammar_grammar.pairs query_grammar_grammar.object query_grammar_grammar.argument query_grammar_grammar.argument_list query_grammar_grammar.some_arguments query_grammar_grammar.arguments query_grammar_grammar.arity query_grammar_grammar.call query_grammar_grammar.inline_function query_grammar_grammar.primary query_grammar_grammar.members query_grammar_grammar.member query_grammar_grammar.filter query_grammar_grammar.bracket_step query_grammar_grammar.plain_key query_grammar_grammar.computed_lookup query_grammar_grammar.field_step query_grammar_grammar.call_step query_grammar_grammar.step query_grammar_grammar.steps query_grammar_grammar.postfix query_grammar_grammar.mapped_operand query_grammar_grammar.mapped_operands query_grammar_grammar.map_level query_grammar_grammar.sign_mark query_grammar_grammar.sign_marks query_grammar_grammar.sign query_grammar_grammar.cast_type query_grammar_grammar.cast query_grammar_grammar.castable_type query_grammar_grammar.castable query_grammar_grammar.treat_type query_grammar_grammar.treat query_grammar_grammar.instance_type query_grammar_grammar.instance query_grammar_grammar.factor query_grammar_grammar.factors query_grammar_grammar.product query_grammar_grammar.term query_grammar_grammar.terms query_grammar_grammar.sum query_grammar_grammar.range_end query_grammar_grammar.range query_grammar_grammar.concat_operand query_grammar_grammar.concat_operands query_grammar_grammar.concat query_grammar_grammar.compared query_grammar_grammar.comparison query_grammar_grammar.compare query_grammar_grammar.not_level query_grammar_grammar.and_operand query_grammar_grammar.and_operands query_grammar_grammar.and_level query_grammar_grammar.or_operand query_grammar_grammar.or_operands query_grammar_grammar.or_level query_grammar_grammar.allowing query_grammar_grammar.at_variable query_grammar_grammar.for_var query_grammar_grammar.window query_grammar_grammar.for_vars query_grammar_grammar.for_clause query_grammar_grammar.let_var query_grammar_grammar.let_vars query_grammar_grammar.let_clause query_grammar_grammar.first_clause query_grammar_grammar.where_clause query_grammar_grammar.group_value query_grammar_grammar.group_var query_grammar_grammar.group_vars query_grammar_grammar.group_clause query_grammar_grammar.empty_order query_grammar_grammar.direction query_grammar_grammar.order_key query_grammar_grammar.order_list query_grammar_grammar.order_keys query_grammar_grammar.order_clause query_grammar_grammar.count_clause query_grammar_grammar.one_clause query_grammar_grammar.clause query_grammar_grammar.returned query_grammar_grammar.clauses query_grammar_grammar.flwor query_grammar_grammar.bind query_grammar_grammar.binds query_grammar_grammar.quant query_grammar_grammar.case_test query_grammar_grammar.case_tests query_grammar_grammar.case query_grammar_grammar.cases query_grammar_grammar.switch query_grammar_grammar.seq_types query_grammar_grammar.case_variable query_grammar_grammar.type_case query_grammar_grammar.default_variable query_grammar_grammar.type_default query_grammar_grammar.type_cases query_grammar_grammar.typeswitch query_grammar_grammar.if query_grammar_grammar.catch_names query_grammar_grammar.catch_codes query_grammar_grammar.catch query_grammar_grammar.catches query_grammar_grammar.try query_grammar_grammar.single query_grammar_grammar.comma_operand query_grammar_grammar.comma_operands query_grammar_grammar.expr query_grammar_grammar.param query_grammar_grammar.variable_declaration query_grammar_grammar.param_list query_grammar_grammar.some_params query_grammar_grammar.params query_grammar_grammar.function_body query_grammar_grammar.function_declaration query_grammar_grammar.declaration query_grammar_grammar.declarations query_grammar_grammar.module_part
paths_rows = record {
  positions = refl;
  tests = refl;
  predicate_on_nothing = refl;
  predicate_of_two_items = refl;
  inner_item_hides_the_outer = refl;
  members_at = refl;
  member_index_is_no_number = refl;
  member_index_is_an_array = refl;
  unboxed = refl;
  fields = refl;
  key_of_two_items = refl;
  key_is_an_object = refl;
  mapped = refl;
  mapped_fault = refl;
}
