-- Written by tools/query_rows.py from rows.txt. Change that, and run it again.
-- Flwors.
use Rattle.std.proofs.Common.{pos, [], ◌∷◌, Some, Ok, Err, codes, refl}
use Rattle.std.specs.Fmt.{digits}
use Rattle.std.specs.Str.{chars}
use lib.Utf8.{encode}
use Rattle.item_tree.specs.declared.code.Code.TheVariants as c
use Rattle.item_tree.specs.Datum.{integer, text, object_of_pairs}
use Rattle.query_grammar.specs.declared.word.Kind.TheVariants as k
use Rattle.query_rows.proofs.Computing.{name, mark, whole, Gives}
use Rattle.num_fixed.specs.Fronts as num_fixed_fronts
use Rattle.num_fixed.specs.Values as num_fixed_values
use Rattle.num_fixed.specs.inside.Spells as num_fixed_inside_spells
use Rattle.item_tree.specs.Dates as item_tree_dates
use Rattle.item_tree.specs.JsonString as item_tree_jsonstring
use Rattle.item_tree.specs.inside.Words as item_tree_inside_words
use Rattle.json_text.specs.inside.Build as json_text_inside_build
use Rattle.json_text.specs.inside.Machine as json_text_inside_machine
use Rattle.json_text.specs.inside.Scan as json_text_inside_scan
use Rattle.fn_table.specs.Dates as fn_table_dates
use Rattle.grammar_parts.specs.Levels as grammar_parts_levels
use Rattle.grammar_parts.specs.Parts as grammar_parts_parts
use Rattle.grammar_parts.specs.Readers as grammar_parts_readers
use Rattle.query_meaning.specs.Calls as query_meaning_calls
use Rattle.query_meaning.specs.Choices as query_meaning_choices
use Rattle.query_meaning.specs.Clauses as query_meaning_clauses
use Rattle.query_meaning.specs.Constructors as query_meaning_constructors
use Rattle.query_meaning.specs.Flwors as query_meaning_flwors
use Rattle.query_meaning.specs.Groups as query_meaning_groups
use Rattle.query_meaning.specs.Meaning as query_meaning_meaning
use Rattle.query_meaning.specs.Operators as query_meaning_operators
use Rattle.query_meaning.specs.Orders as query_meaning_orders
use Rattle.query_meaning.specs.Paths as query_meaning_paths
use Rattle.query_meaning.specs.Queries as query_meaning_queries
use Rattle.query_grammar.specs.Classes as query_grammar_classes
use Rattle.query_grammar.specs.Grammar as query_grammar_grammar

pub record FlworsRows : Type 0 where
  -- for $x in (1, 2) let $y := $x * 10 return ($x, $y)
  pub for_and_let : Gives ((name k.For 0 (codes "for")) ∷ (name k.Var 4 (codes "x")) ∷ (name k.In 7 (codes "in")) ∷ (mark k.OpenParen 10) ∷ (whole k.Int 11 1) ∷ (mark k.Comma 12) ∷ (whole k.Int 14 2) ∷ (mark k.CloseParen 15) ∷ (name k.Let 17 (codes "let")) ∷ (name k.Var 21 (codes "y")) ∷ (mark k.Assign 24) ∷ (name k.Var 27 (codes "x")) ∷ (mark k.Star 30) ∷ (whole k.Int 32 10) ∷ (name k.Return 35 (codes "return")) ∷ (mark k.OpenParen 42) ∷ (name k.Var 43 (codes "x")) ∷ (mark k.Comma 45) ∷ (name k.Var 47 (codes "y")) ∷ (mark k.CloseParen 49) ∷ [])
      ([])
      (codes "1/10/2/20/")
  -- for $x in (1, 2), $y in ($x, 5) return [$x, $y]
  pub two_for : Gives ((name k.For 0 (codes "for")) ∷ (name k.Var 4 (codes "x")) ∷ (name k.In 7 (codes "in")) ∷ (mark k.OpenParen 10) ∷ (whole k.Int 11 1) ∷ (mark k.Comma 12) ∷ (whole k.Int 14 2) ∷ (mark k.CloseParen 15) ∷ (mark k.Comma 16) ∷ (name k.Var 18 (codes "y")) ∷ (name k.In 21 (codes "in")) ∷ (mark k.OpenParen 24) ∷ (name k.Var 25 (codes "x")) ∷ (mark k.Comma 27) ∷ (whole k.Int 29 5) ∷ (mark k.CloseParen 30) ∷ (name k.Return 32 (codes "return")) ∷ (mark k.OpenBracket 39) ∷ (name k.Var 40 (codes "x")) ∷ (mark k.Comma 42) ∷ (name k.Var 44 (codes "y")) ∷ (mark k.CloseBracket 46) ∷ [])
      ([])
      (codes "[1,1]/[1,5]/[2,2]/[2,5]/")
  -- for $x at $i in ("a", "b") for $y at $j in ($x, $x) return $i * 10 + $j
  pub positions_of_items : Gives ((name k.For 0 (codes "for")) ∷ (name k.Var 4 (codes "x")) ∷ (name k.At 7 (codes "at")) ∷ (name k.Var 10 (codes "i")) ∷ (name k.In 13 (codes "in")) ∷ (mark k.OpenParen 16) ∷ (name k.Text 17 (codes "a")) ∷ (mark k.Comma 20) ∷ (name k.Text 22 (codes "b")) ∷ (mark k.CloseParen 25) ∷ (name k.For 27 (codes "for")) ∷ (name k.Var 31 (codes "y")) ∷ (name k.At 34 (codes "at")) ∷ (name k.Var 37 (codes "j")) ∷ (name k.In 40 (codes "in")) ∷ (mark k.OpenParen 43) ∷ (name k.Var 44 (codes "x")) ∷ (mark k.Comma 46) ∷ (name k.Var 48 (codes "x")) ∷ (mark k.CloseParen 50) ∷ (name k.Return 52 (codes "return")) ∷ (name k.Var 59 (codes "i")) ∷ (mark k.Star 62) ∷ (whole k.Int 64 10) ∷ (mark k.Plus 67) ∷ (name k.Var 69 (codes "j")) ∷ [])
      ([])
      (codes "11/12/21/22/")
  -- for $x allowing empty at $i in () return [$x, $i], for $x allowing empty at $i in (5, 6) return $i
  pub allowing_empty : Gives ((name k.For 0 (codes "for")) ∷ (name k.Var 4 (codes "x")) ∷ (name k.Allowing 7 (codes "allowing")) ∷ (name k.Empty 16 (codes "empty")) ∷ (name k.At 22 (codes "at")) ∷ (name k.Var 25 (codes "i")) ∷ (name k.In 28 (codes "in")) ∷ (mark k.OpenParen 31) ∷ (mark k.CloseParen 32) ∷ (name k.Return 34 (codes "return")) ∷ (mark k.OpenBracket 41) ∷ (name k.Var 42 (codes "x")) ∷ (mark k.Comma 44) ∷ (name k.Var 46 (codes "i")) ∷ (mark k.CloseBracket 48) ∷ (mark k.Comma 49) ∷ (name k.For 51 (codes "for")) ∷ (name k.Var 55 (codes "x")) ∷ (name k.Allowing 58 (codes "allowing")) ∷ (name k.Empty 67 (codes "empty")) ∷ (name k.At 73 (codes "at")) ∷ (name k.Var 76 (codes "i")) ∷ (name k.In 79 (codes "in")) ∷ (mark k.OpenParen 82) ∷ (whole k.Int 83 5) ∷ (mark k.Comma 84) ∷ (whole k.Int 86 6) ∷ (mark k.CloseParen 87) ∷ (name k.Return 89 (codes "return")) ∷ (name k.Var 96 (codes "i")) ∷ [])
      ([])
      (codes "[0]/1/2/")
  -- for $x in () return 1 div 0
  pub empty_for : Gives ((name k.For 0 (codes "for")) ∷ (name k.Var 4 (codes "x")) ∷ (name k.In 7 (codes "in")) ∷ (mark k.OpenParen 10) ∷ (mark k.CloseParen 11) ∷ (name k.Return 13 (codes "return")) ∷ (whole k.Int 20 1) ∷ (name k.Div 22 (codes "div")) ∷ (whole k.Int 26 0) ∷ [])
      ([])
      (codes "")
  -- for $x in (1, 2, 3, 1, 4) where $x ge 2 count $c return {"c":$c, "x":$x}
  pub where_keeps : Gives ((name k.For 0 (codes "for")) ∷ (name k.Var 4 (codes "x")) ∷ (name k.In 7 (codes "in")) ∷ (mark k.OpenParen 10) ∷ (whole k.Int 11 1) ∷ (mark k.Comma 12) ∷ (whole k.Int 14 2) ∷ (mark k.Comma 15) ∷ (whole k.Int 17 3) ∷ (mark k.Comma 18) ∷ (whole k.Int 20 1) ∷ (mark k.Comma 21) ∷ (whole k.Int 23 4) ∷ (mark k.CloseParen 24) ∷ (name k.Where 26 (codes "where")) ∷ (name k.Var 32 (codes "x")) ∷ (name k.Ge 35 (codes "ge")) ∷ (whole k.Int 38 2) ∷ (name k.Count 40 (codes "count")) ∷ (name k.Var 46 (codes "c")) ∷ (name k.Return 49 (codes "return")) ∷ (mark k.OpenBrace 56) ∷ (name k.Text 57 (codes "c")) ∷ (mark k.Colon 60) ∷ (name k.Var 61 (codes "c")) ∷ (mark k.Comma 63) ∷ (name k.Text 65 (codes "x")) ∷ (mark k.Colon 68) ∷ (name k.Var 69 (codes "x")) ∷ (mark k.CloseBrace 71) ∷ [])
      ([])
      (codes "{\"c\":1,\"x\":2}/{\"c\":2,\"x\":3}/{\"c\":3,\"x\":4}/")
  -- let $x := (1, 2) return (count($x), $x)
  pub let_keeps_sequences : Gives ((name k.Let 0 (codes "let")) ∷ (name k.Var 4 (codes "x")) ∷ (mark k.Assign 7) ∷ (mark k.OpenParen 10) ∷ (whole k.Int 11 1) ∷ (mark k.Comma 12) ∷ (whole k.Int 14 2) ∷ (mark k.CloseParen 15) ∷ (name k.Return 17 (codes "return")) ∷ (mark k.OpenParen 24) ∷ (name k.Count 25 (codes "count")) ∷ (mark k.OpenParen 30) ∷ (name k.Var 31 (codes "x")) ∷ (mark k.CloseParen 33) ∷ (mark k.Comma 34) ∷ (name k.Var 36 (codes "x")) ∷ (mark k.CloseParen 38) ∷ [])
      ([])
      (codes "2/1/2/")
  -- for $x in json-lines("a") let $y := $x.a div $x.b where $x.c + 1 gt 0 return $y
  pub earliest_clause_first : Gives ((name k.For 0 (codes "for")) ∷ (name k.Var 4 (codes "x")) ∷ (name k.In 7 (codes "in")) ∷ (name k.Name 10 (codes "json-lines")) ∷ (mark k.OpenParen 20) ∷ (name k.Text 21 (codes "a")) ∷ (mark k.CloseParen 24) ∷ (name k.Let 26 (codes "let")) ∷ (name k.Var 30 (codes "y")) ∷ (mark k.Assign 33) ∷ (name k.Var 36 (codes "x")) ∷ (mark k.Dot 38) ∷ (name k.Name 39 (codes "a")) ∷ (name k.Div 41 (codes "div")) ∷ (name k.Var 45 (codes "x")) ∷ (mark k.Dot 47) ∷ (name k.Name 48 (codes "b")) ∷ (name k.Where 50 (codes "where")) ∷ (name k.Var 56 (codes "x")) ∷ (mark k.Dot 58) ∷ (name k.Name 59 (codes "c")) ∷ (mark k.Plus 61) ∷ (whole k.Int 63 1) ∷ (name k.Gt 65 (codes "gt")) ∷ (whole k.Int 68 0) ∷ (name k.Return 70 (codes "return")) ∷ (name k.Var 77 (codes "y")) ∷ [])
      (((codes "a", Some (Ok ((object_of_pairs (((codes "a", integer (pos 1))) ∷ ((codes "b", integer (pos 1))) ∷ ((codes "c", text (codes "s"))) ∷ [])) ∷ (object_of_pairs (((codes "a", integer (pos 1))) ∷ ((codes "b", integer (pos 0))) ∷ ((codes "c", integer (pos 1))) ∷ [])) ∷ [])))) ∷ [])
      (codes "FOAR0001 at 42 clause 2 tuple 2")
  -- for $x in (1, 2, 0) return 1 div $x
  pub fault_of_return : Gives ((name k.For 0 (codes "for")) ∷ (name k.Var 4 (codes "x")) ∷ (name k.In 7 (codes "in")) ∷ (mark k.OpenParen 10) ∷ (whole k.Int 11 1) ∷ (mark k.Comma 12) ∷ (whole k.Int 14 2) ∷ (mark k.Comma 15) ∷ (whole k.Int 17 0) ∷ (mark k.CloseParen 18) ∷ (name k.Return 20 (codes "return")) ∷ (whole k.Int 27 1) ∷ (name k.Div 29 (codes "div")) ∷ (name k.Var 33 (codes "x")) ∷ [])
      ([])
      (codes "FOAR0001 at 30 clause 2 tuple 3")
  -- for $x in (1, 2) where ($x, $x)[$$ lt 3] return 1
  pub fault_of_where : Gives ((name k.For 0 (codes "for")) ∷ (name k.Var 4 (codes "x")) ∷ (name k.In 7 (codes "in")) ∷ (mark k.OpenParen 10) ∷ (whole k.Int 11 1) ∷ (mark k.Comma 12) ∷ (whole k.Int 14 2) ∷ (mark k.CloseParen 15) ∷ (name k.Where 17 (codes "where")) ∷ (mark k.OpenParen 23) ∷ (name k.Var 24 (codes "x")) ∷ (mark k.Comma 26) ∷ (name k.Var 28 (codes "x")) ∷ (mark k.CloseParen 30) ∷ (mark k.OpenBracket 31) ∷ (mark k.Context 32) ∷ (name k.Lt 35 (codes "lt")) ∷ (whole k.Int 38 3) ∷ (mark k.CloseBracket 39) ∷ (name k.Return 41 (codes "return")) ∷ (whole k.Int 48 1) ∷ [])
      ([])
      (codes "FORG0006 at 24 clause 2 tuple 1")
  -- for $x as integer in (1, "a") return $x
  pub for_type : Gives ((name k.For 0 (codes "for")) ∷ (name k.Var 4 (codes "x")) ∷ (name k.As 7 (codes "as")) ∷ (name k.Name 10 (codes "integer")) ∷ (name k.In 18 (codes "in")) ∷ (mark k.OpenParen 21) ∷ (whole k.Int 22 1) ∷ (mark k.Comma 23) ∷ (name k.Text 25 (codes "a")) ∷ (mark k.CloseParen 28) ∷ (name k.Return 30 (codes "return")) ∷ (name k.Var 37 (codes "x")) ∷ [])
      ([])
      (codes "XPTY0004 at 5 clause 1 tuple 1")
  -- for $x as string in (1, 1 div 0) return $x
  pub source_before_type : Gives ((name k.For 0 (codes "for")) ∷ (name k.Var 4 (codes "x")) ∷ (name k.As 7 (codes "as")) ∷ (name k.Name 10 (codes "string")) ∷ (name k.In 17 (codes "in")) ∷ (mark k.OpenParen 20) ∷ (whole k.Int 21 1) ∷ (mark k.Comma 22) ∷ (whole k.Int 24 1) ∷ (name k.Div 26 (codes "div")) ∷ (whole k.Int 30 0) ∷ (mark k.CloseParen 31) ∷ (name k.Return 33 (codes "return")) ∷ (name k.Var 40 (codes "x")) ∷ [])
      ([])
      (codes "FOAR0001 at 27 clause 1 tuple 1")
  -- for $y in (1, 2) let $x as integer? := (1 to $y) return $x
  pub let_type : Gives ((name k.For 0 (codes "for")) ∷ (name k.Var 4 (codes "y")) ∷ (name k.In 7 (codes "in")) ∷ (mark k.OpenParen 10) ∷ (whole k.Int 11 1) ∷ (mark k.Comma 12) ∷ (whole k.Int 14 2) ∷ (mark k.CloseParen 15) ∷ (name k.Let 17 (codes "let")) ∷ (name k.Var 21 (codes "x")) ∷ (name k.As 24 (codes "as")) ∷ (name k.Name 27 (codes "integer")) ∷ (mark k.Question 34) ∷ (mark k.Assign 36) ∷ (mark k.OpenParen 39) ∷ (whole k.Int 40 1) ∷ (name k.To 42 (codes "to")) ∷ (name k.Var 45 (codes "y")) ∷ (mark k.CloseParen 47) ∷ (name k.Return 49 (codes "return")) ∷ (name k.Var 56 (codes "x")) ∷ [])
      ([])
      (codes "XPTY0004 at 22 clause 2 tuple 2")
  -- for $x as integer allowing empty in () return $x
  pub empty_against_a_type : Gives ((name k.For 0 (codes "for")) ∷ (name k.Var 4 (codes "x")) ∷ (name k.As 7 (codes "as")) ∷ (name k.Name 10 (codes "integer")) ∷ (name k.Allowing 18 (codes "allowing")) ∷ (name k.Empty 27 (codes "empty")) ∷ (name k.In 33 (codes "in")) ∷ (mark k.OpenParen 36) ∷ (mark k.CloseParen 37) ∷ (name k.Return 39 (codes "return")) ∷ (name k.Var 46 (codes "x")) ∷ [])
      ([])
      (codes "XPTY0004 at 5 clause 1 tuple 1")
  -- for $x in json-lines("a") return 1 div $x.b
  pub lines_in_a_flwor : Gives ((name k.For 0 (codes "for")) ∷ (name k.Var 4 (codes "x")) ∷ (name k.In 7 (codes "in")) ∷ (name k.Name 10 (codes "json-lines")) ∷ (mark k.OpenParen 20) ∷ (name k.Text 21 (codes "a")) ∷ (mark k.CloseParen 24) ∷ (name k.Return 26 (codes "return")) ∷ (whole k.Int 33 1) ∷ (name k.Div 35 (codes "div")) ∷ (name k.Var 39 (codes "x")) ∷ (mark k.Dot 41) ∷ (name k.Name 42 (codes "b")) ∷ [])
      (((codes "a", Some (Err c.JNDY0021))) ∷ [])
      (codes "JNDY0021 at 11 clause 1 tuple 1")
  -- for $x in (2, 1) return (for $y in (3, 0) return 6 div ($y * ($x - 1)))
  pub outer_spot_stands : Gives ((name k.For 0 (codes "for")) ∷ (name k.Var 4 (codes "x")) ∷ (name k.In 7 (codes "in")) ∷ (mark k.OpenParen 10) ∷ (whole k.Int 11 2) ∷ (mark k.Comma 12) ∷ (whole k.Int 14 1) ∷ (mark k.CloseParen 15) ∷ (name k.Return 17 (codes "return")) ∷ (mark k.OpenParen 24) ∷ (name k.For 25 (codes "for")) ∷ (name k.Var 29 (codes "y")) ∷ (name k.In 32 (codes "in")) ∷ (mark k.OpenParen 35) ∷ (whole k.Int 36 3) ∷ (mark k.Comma 37) ∷ (whole k.Int 39 0) ∷ (mark k.CloseParen 40) ∷ (name k.Return 42 (codes "return")) ∷ (whole k.Int 49 6) ∷ (name k.Div 51 (codes "div")) ∷ (mark k.OpenParen 55) ∷ (name k.Var 56 (codes "y")) ∷ (mark k.Star 59) ∷ (mark k.OpenParen 61) ∷ (name k.Var 62 (codes "x")) ∷ (mark k.Minus 65) ∷ (whole k.Int 67 1) ∷ (mark k.CloseParen 68) ∷ (mark k.CloseParen 69) ∷ (mark k.CloseParen 70) ∷ [])
      ([])
      (codes "FOAR0001 at 52 clause 2 tuple 1")
  -- for $x in (1, 2) return try { 1 div 0 } catch * { $x }
  pub caught_and_raised_elsewhere : Gives ((name k.For 0 (codes "for")) ∷ (name k.Var 4 (codes "x")) ∷ (name k.In 7 (codes "in")) ∷ (mark k.OpenParen 10) ∷ (whole k.Int 11 1) ∷ (mark k.Comma 12) ∷ (whole k.Int 14 2) ∷ (mark k.CloseParen 15) ∷ (name k.Return 17 (codes "return")) ∷ (name k.Try 24 (codes "try")) ∷ (mark k.OpenBrace 28) ∷ (whole k.Int 30 1) ∷ (name k.Div 32 (codes "div")) ∷ (whole k.Int 36 0) ∷ (mark k.CloseBrace 38) ∷ (name k.Catch 40 (codes "catch")) ∷ (mark k.Star 46) ∷ (mark k.OpenBrace 48) ∷ (name k.Var 50 (codes "x")) ∷ (mark k.CloseBrace 53) ∷ [])
      ([])
      (codes "1/2/")

pub flwors_rows : FlworsRows
unfolding digits encode chars num_fixed_fronts.fraction_len num_fixed_fronts.exponent_len num_fixed_fronts.whole_end num_fixed_fronts.fraction_end num_fixed_fronts.number_end num_fixed_fronts.numeral_front num_fixed_fronts.short_whole num_fixed_values.near_natural num_fixed_values.near num_fixed_values.units_said num_fixed_inside_spells.spelled item_tree_dates.days_of_years item_tree_dates.days_of_months item_tree_dates.day_count item_tree_dates.day_number item_tree_jsonstring.code_unit item_tree_inside_words.joined json_text_inside_build.reading json_text_inside_machine.token_from json_text_inside_machine.token_at json_text_inside_machine.run_for json_text_inside_machine.run json_text_inside_scan.numeral_at json_text_inside_scan.pieces_at fn_table_dates.days_after fn_table_dates.days_before grammar_parts_levels.inside grammar_parts_parts.OneWhole grammar_parts_parts.OneBegun grammar_parts_parts.NothingWhole grammar_parts_parts.NothingBegun grammar_parts_parts.OnlyWhole grammar_parts_parts.OnlyBegun grammar_parts_parts.MappedWhole grammar_parts_parts.MappedBegun grammar_parts_parts.SeqWhole grammar_parts_parts.SeqBegun grammar_parts_parts.LongWhole grammar_parts_parts.LongBegun grammar_parts_parts.AltWhole grammar_parts_parts.AltBegun grammar_parts_parts.UnlessWhole grammar_parts_parts.UnlessBegun grammar_parts_parts.AheadWhole grammar_parts_parts.AheadBegun grammar_parts_parts.ManyWhole grammar_parts_parts.ManyBegun grammar_parts_parts.ManyLongWhole grammar_parts_parts.ManyLongBegun grammar_parts_parts.NoneWhole grammar_parts_readers.read_times grammar_parts_readers.read_many query_meaning_calls.own_value query_meaning_calls.call_value query_meaning_choices.if_value query_meaning_choices.switch_value query_meaning_choices.typeswitch_value query_meaning_choices.try_value query_meaning_choices.quantified_value query_meaning_clauses.bound_tuple query_meaning_clauses.for_tuples query_meaning_clauses.let_tuples query_meaning_clauses.where_tuples query_meaning_clauses.count_tuples query_meaning_clauses.each_tuple query_meaning_constructors.array_value query_meaning_constructors.entry_of query_meaning_constructors.object_value query_meaning_constructors.merge_value query_meaning_flwors.return_value query_meaning_flwors.flwor_value query_meaning_groups.group_key_value query_meaning_groups.keyed_tuple query_meaning_groups.group_tuples query_meaning_meaning.meaning query_meaning_operators.comma_value query_meaning_operators.mapped_by query_meaning_operators.map_value query_meaning_operators.text_behind query_meaning_operators.concat_value query_meaning_operators.or_value query_meaning_operators.and_value query_meaning_operators.not_value query_meaning_operators.compare_value query_meaning_operators.range_value query_meaning_operators.with_term query_meaning_operators.sum_value query_meaning_operators.with_factor query_meaning_operators.product_value query_meaning_operators.sign_value query_meaning_operators.cast_as query_meaning_operators.instance_value query_meaning_operators.treat_value query_meaning_operators.cast_to_value query_meaning_operators.castable_value query_meaning_orders.compared_keys query_meaning_orders.order_tuples query_meaning_paths.kept query_meaning_paths.filtered query_meaning_paths.member_value query_meaning_paths.key_value query_meaning_paths.field_value query_meaning_paths.postfix_value query_meaning_queries.global_value query_meaning_queries.query_value query_grammar_classes.is query_grammar_grammar.variable query_grammar_grammar.parens query_grammar_grammar.times query_grammar_grammar.item_type query_grammar_grammar.empty_parens query_grammar_grammar.empty_rest query_grammar_grammar.empty_type query_grammar_grammar.seq_type query_grammar_grammar.single_type query_grammar_grammar.as_type query_grammar_grammar.literal query_grammar_grammar.in_parens query_grammar_grammar.in_braces query_grammar_grammar.content query_grammar_grammar.paren query_grammar_grammar.merge query_grammar_grammar.array query_grammar_grammar.name_key query_grammar_grammar.computed_key query_grammar_grammar.pair_key query_grammar_grammar.pair query_grammar_grammar.pair_list query_grammar_grammar.pairs query_grammar_grammar.object query_grammar_grammar.argument query_grammar_grammar.argument_list query_grammar_grammar.some_arguments query_grammar_grammar.arguments query_grammar_grammar.arity query_grammar_grammar.call query_grammar_grammar.inline_function query_grammar_grammar.primary query_grammar_grammar.members query_grammar_grammar.member query_grammar_grammar.filter query_grammar_grammar.bracket_step query_grammar_grammar.plain_key query_grammar_grammar.computed_lookup query_grammar_grammar.field_step query_grammar_grammar.call_step query_grammar_grammar.step query_grammar_grammar.steps query_grammar_grammar.postfix query_grammar_grammar.mapped_operand query_grammar_grammar.mapped_operands query_grammar_grammar.map_level query_grammar_grammar.sign_mark query_grammar_grammar.sign_marks query_grammar_grammar.sign query_grammar_grammar.cast_type query_grammar_grammar.cast query_grammar_grammar.castable_type query_grammar_grammar.castable query_grammar_grammar.treat_type query_grammar_grammar.treat query_grammar_grammar.instance_type query_grammar_grammar.instance query_grammar_grammar.factor query_grammar_grammar.factors query_grammar_grammar.product query_grammar_grammar.term query_grammar_grammar.terms query_grammar_grammar.sum query_grammar_grammar.range_end query_grammar_grammar.range query_grammar_grammar.concat_operand query_grammar_grammar.concat_operands query_grammar_grammar.concat query_grammar_grammar.compared query_grammar_grammar.comparison query_grammar_grammar.compare query_grammar_grammar.not_level query_grammar_grammar.and_operand query_grammar_grammar.and_operands query_grammar_grammar.and_level query_grammar_grammar.or_operand query_grammar_grammar.or_operands query_grammar_grammar.or_level query_grammar_grammar.allowing query_grammar_grammar.at_variable query_grammar_grammar.for_var query_grammar_grammar.window query_grammar_grammar.for_vars query_grammar_grammar.for_clause query_grammar_grammar.let_var query_grammar_grammar.let_vars query_grammar_grammar.let_clause query_grammar_grammar.first_clause query_grammar_grammar.where_clause query_grammar_grammar.group_value query_grammar_grammar.group_var query_grammar_grammar.group_vars query_grammar_grammar.group_clause query_grammar_grammar.empty_order query_grammar_grammar.direction query_grammar_grammar.order_key query_grammar_grammar.order_list query_grammar_grammar.order_keys query_grammar_grammar.order_clause query_grammar_grammar.count_clause query_grammar_grammar.one_clause query_grammar_grammar.clause query_grammar_grammar.returned query_grammar_grammar.clauses query_grammar_grammar.flwor query_grammar_grammar.bind query_grammar_grammar.binds query_grammar_grammar.quant query_grammar_grammar.case_test query_grammar_grammar.case_tests query_grammar_grammar.case query_grammar_grammar.cases query_grammar_grammar.switch query_grammar_grammar.seq_types query_grammar_grammar.case_variable query_grammar_grammar.type_case query_grammar_grammar.default_variable query_grammar_grammar.type_default query_grammar_grammar.type_cases query_grammar_grammar.typeswitch query_grammar_grammar.if query_grammar_grammar.catch_names query_grammar_grammar.catch_codes query_grammar_grammar.catch query_grammar_grammar.catches query_grammar_grammar.try query_grammar_grammar.single query_grammar_grammar.comma_operand query_grammar_grammar.comma_operands query_grammar_grammar.expr query_grammar_grammar.param query_grammar_grammar.variable_declaration query_grammar_grammar.param_list query_grammar_grammar.some_params query_grammar_grammar.params query_grammar_grammar.function_body query_grammar_grammar.function_declaration query_grammar_grammar.declaration query_grammar_grammar.declarations query_grammar_grammar.module_part
flwors_rows = record {
  for_and_let = refl;
  two_for = refl;
  positions_of_items = refl;
  allowing_empty = refl;
  empty_for = refl;
  where_keeps = refl;
  let_keeps_sequences = refl;
  earliest_clause_first = refl;
  fault_of_return = refl;
  fault_of_where = refl;
  for_type = refl;
  source_before_type = refl;
  let_type = refl;
  empty_against_a_type = refl;
  lines_in_a_flwor = refl;
  outer_spot_stands = refl;
  caught_and_raised_elsewhere = refl;
}
