-- Written by tools/query_rows.py from rows.txt. Change that, and run it again.
-- Choices.
use Rattle.std.proofs.Common.{true, false, [], ◌∷◌, codes, refl}
use Rattle.std.specs.Fmt.{digits}
use Rattle.std.specs.Str.{chars}
use lib.Utf8.{encode}
use Rattle.item_tree.specs.Datum.{integer, decimal}
use Rattle.query_grammar.specs.declared.word.Kind.TheVariants as k
use Rattle.query_rows.proofs.Computing.{name, mark, whole, units, Gives}
use Rattle.num_fixed.specs.Fronts as num_fixed_fronts
use Rattle.num_fixed.specs.Values as num_fixed_values
use Rattle.num_fixed.specs.inside.Spells as num_fixed_inside_spells
use Rattle.item_tree.specs.Dates as item_tree_dates
use Rattle.item_tree.specs.JsonString as item_tree_jsonstring
use Rattle.item_tree.specs.inside.Words as item_tree_inside_words
use Rattle.json_text.specs.inside.Build as json_text_inside_build
use Rattle.json_text.specs.inside.Machine as json_text_inside_machine
use Rattle.json_text.specs.inside.Scan as json_text_inside_scan
use Rattle.fn_table.specs.Dates as fn_table_dates
use Rattle.grammar_parts.specs.Levels as grammar_parts_levels
use Rattle.grammar_parts.specs.Parts as grammar_parts_parts
use Rattle.grammar_parts.specs.Readers as grammar_parts_readers
use Rattle.query_meaning.specs.Calls as query_meaning_calls
use Rattle.query_meaning.specs.Choices as query_meaning_choices
use Rattle.query_meaning.specs.Clauses as query_meaning_clauses
use Rattle.query_meaning.specs.Constructors as query_meaning_constructors
use Rattle.query_meaning.specs.Flwors as query_meaning_flwors
use Rattle.query_meaning.specs.Groups as query_meaning_groups
use Rattle.query_meaning.specs.Meaning as query_meaning_meaning
use Rattle.query_meaning.specs.Operators as query_meaning_operators
use Rattle.query_meaning.specs.Orders as query_meaning_orders
use Rattle.query_meaning.specs.Paths as query_meaning_paths
use Rattle.query_meaning.specs.Queries as query_meaning_queries
use Rattle.query_grammar.specs.Classes as query_grammar_classes
use Rattle.query_grammar.specs.Grammar as query_grammar_grammar

pub record ChoicesRows : Type 0 where
  -- if (0) then 1 else 2, if ("a") then 1 else 1 div 0
  pub conditions : Gives ((name k.If 0 (codes "if")) ∷ (mark k.OpenParen 3) ∷ (whole k.Int 4 0) ∷ (mark k.CloseParen 5) ∷ (name k.Then 7 (codes "then")) ∷ (whole k.Int 12 1) ∷ (name k.Else 14 (codes "else")) ∷ (whole k.Int 19 2) ∷ (mark k.Comma 20) ∷ (name k.If 22 (codes "if")) ∷ (mark k.OpenParen 25) ∷ (name k.Text 26 (codes "a")) ∷ (mark k.CloseParen 29) ∷ (name k.Then 31 (codes "then")) ∷ (whole k.Int 36 1) ∷ (name k.Else 38 (codes "else")) ∷ (whole k.Int 43 1) ∷ (name k.Div 45 (codes "div")) ∷ (whole k.Int 49 0) ∷ [])
      ([])
      (codes "2/1/")
  -- if ((1, 2)) then 1 else 2
  pub condition_of_two_items : Gives ((name k.If 0 (codes "if")) ∷ (mark k.OpenParen 3) ∷ (mark k.OpenParen 4) ∷ (whole k.Int 5 1) ∷ (mark k.Comma 6) ∷ (whole k.Int 8 2) ∷ (mark k.CloseParen 9) ∷ (mark k.CloseParen 10) ∷ (name k.Then 12 (codes "then")) ∷ (whole k.Int 17 1) ∷ (name k.Else 19 (codes "else")) ∷ (whole k.Int 24 2) ∷ [])
      ([])
      (codes "FORG0006 at 5")
  -- switch (1.0) case "1" return "s" case 1 return "n" default return "d", switch (()) case () return "e" default return "d"
  pub switches : Gives ((name k.Switch 0 (codes "switch")) ∷ (mark k.OpenParen 7) ∷ (units k.Dec 8 1000000) ∷ (mark k.CloseParen 11) ∷ (name k.Case 13 (codes "case")) ∷ (name k.Text 18 (codes "1")) ∷ (name k.Return 22 (codes "return")) ∷ (name k.Text 29 (codes "s")) ∷ (name k.Case 33 (codes "case")) ∷ (whole k.Int 38 1) ∷ (name k.Return 40 (codes "return")) ∷ (name k.Text 47 (codes "n")) ∷ (name k.Default 51 (codes "default")) ∷ (name k.Return 59 (codes "return")) ∷ (name k.Text 66 (codes "d")) ∷ (mark k.Comma 69) ∷ (name k.Switch 71 (codes "switch")) ∷ (mark k.OpenParen 78) ∷ (mark k.OpenParen 79) ∷ (mark k.CloseParen 80) ∷ (mark k.CloseParen 81) ∷ (name k.Case 83 (codes "case")) ∷ (mark k.OpenParen 88) ∷ (mark k.CloseParen 89) ∷ (name k.Return 91 (codes "return")) ∷ (name k.Text 98 (codes "e")) ∷ (name k.Default 102 (codes "default")) ∷ (name k.Return 110 (codes "return")) ∷ (name k.Text 117 (codes "d")) ∷ [])
      ([])
      (codes "\"n\"/\"e\"/")
  -- switch ("b") case "a" case "b" return 1 case 1 div 0 return 2 default return 3, switch (5) case 1 return 1 default return 2
  pub switches_with_tests : Gives ((name k.Switch 0 (codes "switch")) ∷ (mark k.OpenParen 7) ∷ (name k.Text 8 (codes "b")) ∷ (mark k.CloseParen 11) ∷ (name k.Case 13 (codes "case")) ∷ (name k.Text 18 (codes "a")) ∷ (name k.Case 22 (codes "case")) ∷ (name k.Text 27 (codes "b")) ∷ (name k.Return 31 (codes "return")) ∷ (whole k.Int 38 1) ∷ (name k.Case 40 (codes "case")) ∷ (whole k.Int 45 1) ∷ (name k.Div 47 (codes "div")) ∷ (whole k.Int 51 0) ∷ (name k.Return 53 (codes "return")) ∷ (whole k.Int 60 2) ∷ (name k.Default 62 (codes "default")) ∷ (name k.Return 70 (codes "return")) ∷ (whole k.Int 77 3) ∷ (mark k.Comma 78) ∷ (name k.Switch 80 (codes "switch")) ∷ (mark k.OpenParen 87) ∷ (whole k.Int 88 5) ∷ (mark k.CloseParen 89) ∷ (name k.Case 91 (codes "case")) ∷ (whole k.Int 96 1) ∷ (name k.Return 98 (codes "return")) ∷ (whole k.Int 105 1) ∷ (name k.Default 107 (codes "default")) ∷ (name k.Return 115 (codes "return")) ∷ (whole k.Int 122 2) ∷ [])
      ([])
      (codes "1/2/")
  -- 1, switch ((1, 2)) case 1 return 1 default return 2
  pub switch_of_two_items : Gives ((whole k.Int 0 1) ∷ (mark k.Comma 1) ∷ (name k.Switch 3 (codes "switch")) ∷ (mark k.OpenParen 10) ∷ (mark k.OpenParen 11) ∷ (whole k.Int 12 1) ∷ (mark k.Comma 13) ∷ (whole k.Int 15 2) ∷ (mark k.CloseParen 16) ∷ (mark k.CloseParen 17) ∷ (name k.Case 19 (codes "case")) ∷ (whole k.Int 24 1) ∷ (name k.Return 26 (codes "return")) ∷ (whole k.Int 33 1) ∷ (name k.Default 35 (codes "default")) ∷ (name k.Return 43 (codes "return")) ∷ (whole k.Int 50 2) ∷ [])
      ([])
      (codes "XPTY0004 at 4")
  -- 1, switch ([]) case 1 return 1 default return 2
  pub switch_of_an_array : Gives ((whole k.Int 0 1) ∷ (mark k.Comma 1) ∷ (name k.Switch 3 (codes "switch")) ∷ (mark k.OpenParen 10) ∷ (mark k.OpenBracket 11) ∷ (mark k.CloseBracket 12) ∷ (mark k.CloseParen 13) ∷ (name k.Case 15 (codes "case")) ∷ (whole k.Int 20 1) ∷ (name k.Return 22 (codes "return")) ∷ (whole k.Int 29 1) ∷ (name k.Default 31 (codes "default")) ∷ (name k.Return 39 (codes "return")) ∷ (whole k.Int 46 2) ∷ [])
      ([])
      (codes "JNTY0004 at 4")
  -- switch (1) case [] return 1 default return 2
  pub switch_test_is_an_array : Gives ((name k.Switch 0 (codes "switch")) ∷ (mark k.OpenParen 7) ∷ (whole k.Int 8 1) ∷ (mark k.CloseParen 9) ∷ (name k.Case 11 (codes "case")) ∷ (mark k.OpenBracket 16) ∷ (mark k.CloseBracket 17) ∷ (name k.Return 19 (codes "return")) ∷ (whole k.Int 26 1) ∷ (name k.Default 28 (codes "default")) ∷ (name k.Return 36 (codes "return")) ∷ (whole k.Int 43 2) ∷ [])
      ([])
      (codes "JNTY0004 at 17")
  -- typeswitch (1.0) case integer return "i" case decimal return "d" default return "o"
  pub typeswitches : Gives ((name k.Typeswitch 0 (codes "typeswitch")) ∷ (mark k.OpenParen 11) ∷ (units k.Dec 12 1000000) ∷ (mark k.CloseParen 15) ∷ (name k.Case 17 (codes "case")) ∷ (name k.Name 22 (codes "integer")) ∷ (name k.Return 30 (codes "return")) ∷ (name k.Text 37 (codes "i")) ∷ (name k.Case 41 (codes "case")) ∷ (name k.Name 46 (codes "decimal")) ∷ (name k.Return 54 (codes "return")) ∷ (name k.Text 61 (codes "d")) ∷ (name k.Default 65 (codes "default")) ∷ (name k.Return 73 (codes "return")) ∷ (name k.Text 80 (codes "o")) ∷ [])
      ([])
      (codes "\"d\"/")
  -- typeswitch ((1, 2)) case $x as string | integer return 0 case $y as integer+ return count($y) default $z return $z, typeswitch ("a") case integer return 0 default $z return ($z, $z)
  pub typeswitch_variables : Gives ((name k.Typeswitch 0 (codes "typeswitch")) ∷ (mark k.OpenParen 11) ∷ (mark k.OpenParen 12) ∷ (whole k.Int 13 1) ∷ (mark k.Comma 14) ∷ (whole k.Int 16 2) ∷ (mark k.CloseParen 17) ∷ (mark k.CloseParen 18) ∷ (name k.Case 20 (codes "case")) ∷ (name k.Var 25 (codes "x")) ∷ (name k.As 28 (codes "as")) ∷ (name k.Name 31 (codes "string")) ∷ (mark k.Bar 38) ∷ (name k.Name 40 (codes "integer")) ∷ (name k.Return 48 (codes "return")) ∷ (whole k.Int 55 0) ∷ (name k.Case 57 (codes "case")) ∷ (name k.Var 62 (codes "y")) ∷ (name k.As 65 (codes "as")) ∷ (name k.Name 68 (codes "integer")) ∷ (mark k.Plus 75) ∷ (name k.Return 77 (codes "return")) ∷ (name k.Count 84 (codes "count")) ∷ (mark k.OpenParen 89) ∷ (name k.Var 90 (codes "y")) ∷ (mark k.CloseParen 92) ∷ (name k.Default 94 (codes "default")) ∷ (name k.Var 102 (codes "z")) ∷ (name k.Return 105 (codes "return")) ∷ (name k.Var 112 (codes "z")) ∷ (mark k.Comma 114) ∷ (name k.Typeswitch 116 (codes "typeswitch")) ∷ (mark k.OpenParen 127) ∷ (name k.Text 128 (codes "a")) ∷ (mark k.CloseParen 131) ∷ (name k.Case 133 (codes "case")) ∷ (name k.Name 138 (codes "integer")) ∷ (name k.Return 146 (codes "return")) ∷ (whole k.Int 153 0) ∷ (name k.Default 155 (codes "default")) ∷ (name k.Var 163 (codes "z")) ∷ (name k.Return 166 (codes "return")) ∷ (mark k.OpenParen 173) ∷ (name k.Var 174 (codes "z")) ∷ (mark k.Comma 176) ∷ (name k.Var 178 (codes "z")) ∷ (mark k.CloseParen 180) ∷ [])
      ([])
      (codes "2/\"a\"/\"a\"/")
  -- try { 1 div 0 } catch FOAR0001 { $err:code }, try { 1 } catch * { 2 }, try { "a" + 1 } catch FOAR0001 | XPTY0004 { 3 } catch * { 4 }
  pub tries : Gives ((name k.Try 0 (codes "try")) ∷ (mark k.OpenBrace 4) ∷ (whole k.Int 6 1) ∷ (name k.Div 8 (codes "div")) ∷ (whole k.Int 12 0) ∷ (mark k.CloseBrace 14) ∷ (name k.Catch 16 (codes "catch")) ∷ (name k.Name 22 (codes "FOAR0001")) ∷ (mark k.OpenBrace 31) ∷ (name k.Var 33 (codes "err:code")) ∷ (mark k.CloseBrace 43) ∷ (mark k.Comma 44) ∷ (name k.Try 46 (codes "try")) ∷ (mark k.OpenBrace 50) ∷ (whole k.Int 52 1) ∷ (mark k.CloseBrace 54) ∷ (name k.Catch 56 (codes "catch")) ∷ (mark k.Star 62) ∷ (mark k.OpenBrace 64) ∷ (whole k.Int 66 2) ∷ (mark k.CloseBrace 68) ∷ (mark k.Comma 69) ∷ (name k.Try 71 (codes "try")) ∷ (mark k.OpenBrace 75) ∷ (name k.Text 77 (codes "a")) ∷ (mark k.Plus 81) ∷ (whole k.Int 83 1) ∷ (mark k.CloseBrace 85) ∷ (name k.Catch 87 (codes "catch")) ∷ (name k.Name 93 (codes "FOAR0001")) ∷ (mark k.Bar 102) ∷ (name k.Name 104 (codes "XPTY0004")) ∷ (mark k.OpenBrace 113) ∷ (whole k.Int 115 3) ∷ (mark k.CloseBrace 117) ∷ (name k.Catch 119 (codes "catch")) ∷ (mark k.Star 125) ∷ (mark k.OpenBrace 127) ∷ (whole k.Int 129 4) ∷ (mark k.CloseBrace 131) ∷ [])
      ([])
      (codes "\"FOAR0001\"/1/3/")
  -- try { 1 div 0 } catch XPTY0004 { 1 }
  pub fault_that_no_handler_takes : Gives ((name k.Try 0 (codes "try")) ∷ (mark k.OpenBrace 4) ∷ (whole k.Int 6 1) ∷ (name k.Div 8 (codes "div")) ∷ (whole k.Int 12 0) ∷ (mark k.CloseBrace 14) ∷ (name k.Catch 16 (codes "catch")) ∷ (name k.Name 22 (codes "XPTY0004")) ∷ (mark k.OpenBrace 31) ∷ (whole k.Int 33 1) ∷ (mark k.CloseBrace 35) ∷ [])
      ([])
      (codes "FOAR0001 at 9")
  -- try { 1 div 0 } catch * { "a" + 1 }
  pub fault_of_a_handler : Gives ((name k.Try 0 (codes "try")) ∷ (mark k.OpenBrace 4) ∷ (whole k.Int 6 1) ∷ (name k.Div 8 (codes "div")) ∷ (whole k.Int 12 0) ∷ (mark k.CloseBrace 14) ∷ (name k.Catch 16 (codes "catch")) ∷ (mark k.Star 22) ∷ (mark k.OpenBrace 24) ∷ (name k.Text 26 (codes "a")) ∷ (mark k.Plus 30) ∷ (whole k.Int 32 1) ∷ (mark k.CloseBrace 34) ∷ [])
      ([])
      (codes "XPTY0004 at 31")
  -- some $x in (1, 2) satisfies $x eq 2, every $x in (1, 2) satisfies $x eq 2, some $x in () satisfies true, every $x in () satisfies false
  pub quantifiers : Gives ((name k.Some 0 (codes "some")) ∷ (name k.Var 5 (codes "x")) ∷ (name k.In 8 (codes "in")) ∷ (mark k.OpenParen 11) ∷ (whole k.Int 12 1) ∷ (mark k.Comma 13) ∷ (whole k.Int 15 2) ∷ (mark k.CloseParen 16) ∷ (name k.Satisfies 18 (codes "satisfies")) ∷ (name k.Var 28 (codes "x")) ∷ (name k.Eq 31 (codes "eq")) ∷ (whole k.Int 34 2) ∷ (mark k.Comma 35) ∷ (name k.Every 37 (codes "every")) ∷ (name k.Var 43 (codes "x")) ∷ (name k.In 46 (codes "in")) ∷ (mark k.OpenParen 49) ∷ (whole k.Int 50 1) ∷ (mark k.Comma 51) ∷ (whole k.Int 53 2) ∷ (mark k.CloseParen 54) ∷ (name k.Satisfies 56 (codes "satisfies")) ∷ (name k.Var 66 (codes "x")) ∷ (name k.Eq 69 (codes "eq")) ∷ (whole k.Int 72 2) ∷ (mark k.Comma 73) ∷ (name k.Some 75 (codes "some")) ∷ (name k.Var 80 (codes "x")) ∷ (name k.In 83 (codes "in")) ∷ (mark k.OpenParen 86) ∷ (mark k.CloseParen 87) ∷ (name k.Satisfies 89 (codes "satisfies")) ∷ (name k.True 99 (codes "true")) ∷ (mark k.Comma 103) ∷ (name k.Every 105 (codes "every")) ∷ (name k.Var 111 (codes "x")) ∷ (name k.In 114 (codes "in")) ∷ (mark k.OpenParen 117) ∷ (mark k.CloseParen 118) ∷ (name k.Satisfies 120 (codes "satisfies")) ∷ (name k.False 130 (codes "false")) ∷ [])
      ([])
      (codes "true/false/false/true/")
  -- some $x in (1, 0) satisfies 1 div $x eq 1, every $x in (2, 0) satisfies 1 div $x eq 1
  pub quantifier_stops : Gives ((name k.Some 0 (codes "some")) ∷ (name k.Var 5 (codes "x")) ∷ (name k.In 8 (codes "in")) ∷ (mark k.OpenParen 11) ∷ (whole k.Int 12 1) ∷ (mark k.Comma 13) ∷ (whole k.Int 15 0) ∷ (mark k.CloseParen 16) ∷ (name k.Satisfies 18 (codes "satisfies")) ∷ (whole k.Int 28 1) ∷ (name k.Div 30 (codes "div")) ∷ (name k.Var 34 (codes "x")) ∷ (name k.Eq 37 (codes "eq")) ∷ (whole k.Int 40 1) ∷ (mark k.Comma 41) ∷ (name k.Every 43 (codes "every")) ∷ (name k.Var 49 (codes "x")) ∷ (name k.In 52 (codes "in")) ∷ (mark k.OpenParen 55) ∷ (whole k.Int 56 2) ∷ (mark k.Comma 57) ∷ (whole k.Int 59 0) ∷ (mark k.CloseParen 60) ∷ (name k.Satisfies 62 (codes "satisfies")) ∷ (whole k.Int 72 1) ∷ (name k.Div 74 (codes "div")) ∷ (name k.Var 78 (codes "x")) ∷ (name k.Eq 81 (codes "eq")) ∷ (whole k.Int 84 1) ∷ [])
      ([])
      (codes "true/false/")
  -- some $x in (1, 2), $y in ($x, 3) satisfies $x + $y eq 5, every $x in (1, 2), $y in (3, 4) satisfies $y gt $x
  pub several_bindings : Gives ((name k.Some 0 (codes "some")) ∷ (name k.Var 5 (codes "x")) ∷ (name k.In 8 (codes "in")) ∷ (mark k.OpenParen 11) ∷ (whole k.Int 12 1) ∷ (mark k.Comma 13) ∷ (whole k.Int 15 2) ∷ (mark k.CloseParen 16) ∷ (mark k.Comma 17) ∷ (name k.Var 19 (codes "y")) ∷ (name k.In 22 (codes "in")) ∷ (mark k.OpenParen 25) ∷ (name k.Var 26 (codes "x")) ∷ (mark k.Comma 28) ∷ (whole k.Int 30 3) ∷ (mark k.CloseParen 31) ∷ (name k.Satisfies 33 (codes "satisfies")) ∷ (name k.Var 43 (codes "x")) ∷ (mark k.Plus 46) ∷ (name k.Var 48 (codes "y")) ∷ (name k.Eq 51 (codes "eq")) ∷ (whole k.Int 54 5) ∷ (mark k.Comma 55) ∷ (name k.Every 57 (codes "every")) ∷ (name k.Var 63 (codes "x")) ∷ (name k.In 66 (codes "in")) ∷ (mark k.OpenParen 69) ∷ (whole k.Int 70 1) ∷ (mark k.Comma 71) ∷ (whole k.Int 73 2) ∷ (mark k.CloseParen 74) ∷ (mark k.Comma 75) ∷ (name k.Var 77 (codes "y")) ∷ (name k.In 80 (codes "in")) ∷ (mark k.OpenParen 83) ∷ (whole k.Int 84 3) ∷ (mark k.Comma 85) ∷ (whole k.Int 87 4) ∷ (mark k.CloseParen 88) ∷ (name k.Satisfies 90 (codes "satisfies")) ∷ (name k.Var 100 (codes "y")) ∷ (name k.Gt 103 (codes "gt")) ∷ (name k.Var 106 (codes "x")) ∷ [])
      ([])
      (codes "true/true/")
  -- every $x in (1, 2), $y in ($x, "a") satisfies $x le $y
  pub quantifier_fault : Gives ((name k.Every 0 (codes "every")) ∷ (name k.Var 6 (codes "x")) ∷ (name k.In 9 (codes "in")) ∷ (mark k.OpenParen 12) ∷ (whole k.Int 13 1) ∷ (mark k.Comma 14) ∷ (whole k.Int 16 2) ∷ (mark k.CloseParen 17) ∷ (mark k.Comma 18) ∷ (name k.Var 20 (codes "y")) ∷ (name k.In 23 (codes "in")) ∷ (mark k.OpenParen 26) ∷ (name k.Var 27 (codes "x")) ∷ (mark k.Comma 29) ∷ (name k.Text 31 (codes "a")) ∷ (mark k.CloseParen 34) ∷ (name k.Satisfies 36 (codes "satisfies")) ∷ (name k.Var 46 (codes "x")) ∷ (name k.Le 49 (codes "le")) ∷ (name k.Var 52 (codes "y")) ∷ [])
      ([])
      (codes "XPTY0004 at 50")
  -- some $x as integer in (1, "a") satisfies $x eq 2
  pub quantifier_type : Gives ((name k.Some 0 (codes "some")) ∷ (name k.Var 5 (codes "x")) ∷ (name k.As 8 (codes "as")) ∷ (name k.Name 11 (codes "integer")) ∷ (name k.In 19 (codes "in")) ∷ (mark k.OpenParen 22) ∷ (whole k.Int 23 1) ∷ (mark k.Comma 24) ∷ (name k.Text 26 (codes "a")) ∷ (mark k.CloseParen 29) ∷ (name k.Satisfies 31 (codes "satisfies")) ∷ (name k.Var 41 (codes "x")) ∷ (name k.Eq 44 (codes "eq")) ∷ (whole k.Int 47 2) ∷ [])
      ([])
      (codes "XPTY0004 at 6")

pub choices_rows : ChoicesRows
unfolding digits encode chars num_fixed_fronts.fraction_len num_fixed_fronts.exponent_len num_fixed_fronts.whole_end num_fixed_fronts.fraction_end num_fixed_fronts.number_end num_fixed_fronts.numeral_front num_fixed_fronts.short_whole num_fixed_values.near_natural num_fixed_values.near num_fixed_values.units_said num_fixed_inside_spells.spelled item_tree_dates.days_of_years item_tree_dates.days_of_months item_tree_dates.day_count item_tree_dates.day_number item_tree_jsonstring.code_unit item_tree_inside_words.joined json_text_inside_build.reading json_text_inside_machine.token_from json_text_inside_machine.token_at json_text_inside_machine.run_for json_text_inside_machine.run json_text_inside_scan.numeral_at json_text_inside_scan.pieces_at fn_table_dates.days_after fn_table_dates.days_before grammar_parts_levels.inside grammar_parts_parts.OneWhole grammar_parts_parts.OneBegun grammar_parts_parts.NothingWhole grammar_parts_parts.NothingBegun grammar_parts_parts.OnlyWhole grammar_parts_parts.OnlyBegun grammar_parts_parts.MappedWhole grammar_parts_parts.MappedBegun grammar_parts_parts.SeqWhole grammar_parts_parts.SeqBegun grammar_parts_parts.LongWhole grammar_parts_parts.LongBegun grammar_parts_parts.AltWhole grammar_parts_parts.AltBegun grammar_parts_parts.UnlessWhole grammar_parts_parts.UnlessBegun grammar_parts_parts.AheadWhole grammar_parts_parts.AheadBegun grammar_parts_parts.ManyWhole grammar_parts_parts.ManyBegun grammar_parts_parts.ManyLongWhole grammar_parts_parts.ManyLongBegun grammar_parts_parts.NoneWhole grammar_parts_readers.read_times grammar_parts_readers.read_many query_meaning_calls.own_value query_meaning_calls.call_value query_meaning_choices.if_value query_meaning_choices.switch_value query_meaning_choices.typeswitch_value query_meaning_choices.try_value query_meaning_choices.quantified_value query_meaning_clauses.bound_tuple query_meaning_clauses.for_tuples query_meaning_clauses.let_tuples query_meaning_clauses.where_tuples query_meaning_clauses.count_tuples query_meaning_clauses.each_tuple query_meaning_constructors.array_value query_meaning_constructors.entry_of query_meaning_constructors.object_value query_meaning_constructors.merge_value query_meaning_flwors.return_value query_meaning_flwors.flwor_value query_meaning_groups.group_key_value query_meaning_groups.keyed_tuple query_meaning_groups.group_tuples query_meaning_meaning.meaning query_meaning_operators.comma_value query_meaning_operators.mapped_by query_meaning_operators.map_value query_meaning_operators.text_behind query_meaning_operators.concat_value query_meaning_operators.or_value query_meaning_operators.and_value query_meaning_operators.not_value query_meaning_operators.compare_value query_meaning_operators.range_value query_meaning_operators.with_term query_meaning_operators.sum_value query_meaning_operators.with_factor query_meaning_operators.product_value query_meaning_operators.sign_value query_meaning_operators.cast_as query_meaning_operators.instance_value query_meaning_operators.treat_value query_meaning_operators.cast_to_value query_meaning_operators.castable_value query_meaning_orders.compared_keys query_meaning_orders.order_tuples query_meaning_paths.kept query_meaning_paths.filtered query_meaning_paths.member_value query_meaning_paths.key_value query_meaning_paths.field_value query_meaning_paths.postfix_value query_meaning_queries.global_value query_meaning_queries.query_value query_grammar_classes.is query_grammar_grammar.variable query_grammar_grammar.parens query_grammar_grammar.times query_grammar_grammar.item_type query_grammar_grammar.empty_parens query_grammar_grammar.empty_rest query_grammar_grammar.empty_type query_grammar_grammar.seq_type query_grammar_grammar.single_type query_grammar_grammar.as_type query_grammar_grammar.literal query_grammar_grammar.in_parens query_grammar_grammar.in_braces query_grammar_grammar.content query_grammar_grammar.paren query_grammar_grammar.merge query_grammar_grammar.array query_grammar_grammar.name_key query_grammar_grammar.computed_key query_grammar_grammar.pair_key query_grammar_grammar.pair query_grammar_grammar.pair_list query_grammar_grammar.pairs query_grammar_grammar.object query_grammar_grammar.argument query_grammar_grammar.argument_list query_grammar_grammar.some_arguments query_grammar_grammar.arguments query_grammar_grammar.arity query_grammar_grammar.call query_grammar_grammar.inline_function query_grammar_grammar.primary query_grammar_grammar.members query_grammar_grammar.member query_grammar_grammar.filter query_grammar_grammar.bracket_step query_grammar_grammar.plain_key query_grammar_grammar.computed_lookup query_grammar_grammar.field_step query_grammar_grammar.call_step query_grammar_grammar.step query_grammar_grammar.steps query_grammar_grammar.postfix query_grammar_grammar.mapped_operand query_grammar_grammar.mapped_operands query_grammar_grammar.map_level query_grammar_grammar.sign_mark query_grammar_grammar.sign_marks query_grammar_grammar.sign query_grammar_grammar.cast_type query_grammar_grammar.cast query_grammar_grammar.castable_type query_grammar_grammar.castable query_grammar_grammar.treat_type query_grammar_grammar.treat query_grammar_grammar.instance_type query_grammar_grammar.instance query_grammar_grammar.factor query_grammar_grammar.factors query_grammar_grammar.product query_grammar_grammar.term query_grammar_grammar.terms query_grammar_grammar.sum query_grammar_grammar.range_end query_grammar_grammar.range query_grammar_grammar.concat_operand query_grammar_grammar.concat_operands query_grammar_grammar.concat query_grammar_grammar.compared query_grammar_grammar.comparison query_grammar_grammar.compare query_grammar_grammar.not_level query_grammar_grammar.and_operand query_grammar_grammar.and_operands query_grammar_grammar.and_level query_grammar_grammar.or_operand query_grammar_grammar.or_operands query_grammar_grammar.or_level query_grammar_grammar.allowing query_grammar_grammar.at_variable query_grammar_grammar.for_var query_grammar_grammar.window query_grammar_grammar.for_vars query_grammar_grammar.for_clause query_grammar_grammar.let_var query_grammar_grammar.let_vars query_grammar_grammar.let_clause query_grammar_grammar.first_clause query_grammar_grammar.where_clause query_grammar_grammar.group_value query_grammar_grammar.group_var query_grammar_grammar.group_vars query_grammar_grammar.group_clause query_grammar_grammar.empty_order query_grammar_grammar.direction query_grammar_grammar.order_key query_grammar_grammar.order_list query_grammar_grammar.order_keys query_grammar_grammar.order_clause query_grammar_grammar.count_clause query_grammar_grammar.one_clause query_grammar_grammar.clause query_grammar_grammar.returned query_grammar_grammar.clauses query_grammar_grammar.flwor query_grammar_grammar.bind query_grammar_grammar.binds query_grammar_grammar.quant query_grammar_grammar.case_test query_grammar_grammar.case_tests query_grammar_grammar.case query_grammar_grammar.cases query_grammar_grammar.switch query_grammar_grammar.seq_types query_grammar_grammar.case_variable query_grammar_grammar.type_case query_grammar_grammar.default_variable query_grammar_grammar.type_default query_grammar_grammar.type_cases query_grammar_grammar.typeswitch query_grammar_grammar.if query_grammar_grammar.catch_names query_grammar_grammar.catch_codes query_grammar_grammar.catch query_grammar_grammar.catches query_grammar_grammar.try query_grammar_grammar.single query_grammar_grammar.comma_operand query_grammar_grammar.comma_operands query_grammar_grammar.expr query_grammar_grammar.param query_grammar_grammar.variable_declaration query_grammar_grammar.param_list query_grammar_grammar.some_params query_grammar_grammar.params query_grammar_grammar.function_body query_grammar_grammar.function_declaration query_grammar_grammar.declaration query_grammar_grammar.declarations query_grammar_grammar.module_part
choices_rows = record {
  conditions = refl;
  condition_of_two_items = refl;
  switches = refl;
  switches_with_tests = refl;
  switch_of_two_items = refl;
  switch_of_an_array = refl;
  switch_test_is_an_array = refl;
  typeswitches = refl;
  typeswitch_variables = refl;
  tries = refl;
  fault_that_no_handler_takes = refl;
  fault_of_a_handler = refl;
  quantifiers = refl;
  quantifier_stops = refl;
  several_bindings = refl;
  quantifier_fault = refl;
  quantifier_type = refl;
}
