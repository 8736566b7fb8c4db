-- Written by tools/query_rows.py from rows.txt. Change that, and run it again.
-- Functions.
use Rattle.std.proofs.Common.{true, [], ◌∷◌, codes, refl}
use Rattle.std.specs.Fmt.{digits}
use Rattle.std.specs.Str.{chars}
use lib.Utf8.{encode}
use Rattle.item_tree.specs.Datum.{null, integer}
use Rattle.query_grammar.specs.declared.word.Kind.TheVariants as k
use Rattle.query_rows.proofs.Computing.{name, mark, whole, units, Gives}
use Rattle.num_fixed.specs.Fronts as num_fixed_fronts
use Rattle.num_fixed.specs.Values as num_fixed_values
use Rattle.num_fixed.specs.inside.Spells as num_fixed_inside_spells
use Rattle.item_tree.specs.Dates as item_tree_dates
use Rattle.item_tree.specs.JsonString as item_tree_jsonstring
use Rattle.item_tree.specs.inside.Words as item_tree_inside_words
use Rattle.json_text.specs.inside.Build as json_text_inside_build
use Rattle.json_text.specs.inside.Machine as json_text_inside_machine
use Rattle.json_text.specs.inside.Scan as json_text_inside_scan
use Rattle.fn_table.specs.Dates as fn_table_dates
use Rattle.grammar_parts.specs.Levels as grammar_parts_levels
use Rattle.grammar_parts.specs.Parts as grammar_parts_parts
use Rattle.grammar_parts.specs.Readers as grammar_parts_readers
use Rattle.query_meaning.specs.Calls as query_meaning_calls
use Rattle.query_meaning.specs.Choices as query_meaning_choices
use Rattle.query_meaning.specs.Clauses as query_meaning_clauses
use Rattle.query_meaning.specs.Constructors as query_meaning_constructors
use Rattle.query_meaning.specs.Flwors as query_meaning_flwors
use Rattle.query_meaning.specs.Groups as query_meaning_groups
use Rattle.query_meaning.specs.Meaning as query_meaning_meaning
use Rattle.query_meaning.specs.Operators as query_meaning_operators
use Rattle.query_meaning.specs.Orders as query_meaning_orders
use Rattle.query_meaning.specs.Paths as query_meaning_paths
use Rattle.query_meaning.specs.Queries as query_meaning_queries
use Rattle.query_grammar.specs.Classes as query_grammar_classes
use Rattle.query_grammar.specs.Grammar as query_grammar_grammar

pub record FunctionsRows : Type 0 where
  -- count((1, 2)), sum((1, 2.5)), substring("müesli", 2, 3), keys(({"b":1}, {"b":2, "a":3}))
  pub built_ones : Gives ((name k.Count 0 (codes "count")) ∷ (mark k.OpenParen 5) ∷ (mark k.OpenParen 6) ∷ (whole k.Int 7 1) ∷ (mark k.Comma 8) ∷ (whole k.Int 10 2) ∷ (mark k.CloseParen 11) ∷ (mark k.CloseParen 12) ∷ (mark k.Comma 13) ∷ (name k.Name 15 (codes "sum")) ∷ (mark k.OpenParen 18) ∷ (mark k.OpenParen 19) ∷ (whole k.Int 20 1) ∷ (mark k.Comma 21) ∷ (units k.Dec 23 2500000) ∷ (mark k.CloseParen 26) ∷ (mark k.CloseParen 27) ∷ (mark k.Comma 28) ∷ (name k.Name 30 (codes "substring")) ∷ (mark k.OpenParen 39) ∷ (name k.Text 40 (109 ∷ 252 ∷ 101 ∷ 115 ∷ 108 ∷ 105 ∷ [])) ∷ (mark k.Comma 49) ∷ (whole k.Int 51 2) ∷ (mark k.Comma 52) ∷ (whole k.Int 54 3) ∷ (mark k.CloseParen 55) ∷ (mark k.Comma 56) ∷ (name k.Name 58 (codes "keys")) ∷ (mark k.OpenParen 62) ∷ (mark k.OpenParen 63) ∷ (mark k.OpenBrace 64) ∷ (name k.Text 65 (codes "b")) ∷ (mark k.Colon 68) ∷ (whole k.Int 69 1) ∷ (mark k.CloseBrace 70) ∷ (mark k.Comma 71) ∷ (mark k.OpenBrace 73) ∷ (name k.Text 74 (codes "b")) ∷ (mark k.Colon 77) ∷ (whole k.Int 78 2) ∷ (mark k.Comma 79) ∷ (name k.Text 81 (codes "a")) ∷ (mark k.Colon 84) ∷ (whole k.Int 85 3) ∷ (mark k.CloseBrace 86) ∷ (mark k.CloseParen 87) ∷ (mark k.CloseParen 88) ∷ [])
      ([])
      (50 ∷ 47 ∷ 51 ∷ 46 ∷ 53 ∷ 47 ∷ 34 ∷ 195 ∷ 188 ∷ 101 ∷ 115 ∷ 34 ∷ 47 ∷ 34 ∷ 98 ∷ 34 ∷ 47 ∷ 34 ∷ 97 ∷ 34 ∷ 47 ∷ [])
  -- head((1, 2)), tail((1, 2, 3)), reverse((1, 2)), empty(()), exists(1)
  pub sequences : Gives ((name k.Name 0 (codes "head")) ∷ (mark k.OpenParen 4) ∷ (mark k.OpenParen 5) ∷ (whole k.Int 6 1) ∷ (mark k.Comma 7) ∷ (whole k.Int 9 2) ∷ (mark k.CloseParen 10) ∷ (mark k.CloseParen 11) ∷ (mark k.Comma 12) ∷ (name k.Name 14 (codes "tail")) ∷ (mark k.OpenParen 18) ∷ (mark k.OpenParen 19) ∷ (whole k.Int 20 1) ∷ (mark k.Comma 21) ∷ (whole k.Int 23 2) ∷ (mark k.Comma 24) ∷ (whole k.Int 26 3) ∷ (mark k.CloseParen 27) ∷ (mark k.CloseParen 28) ∷ (mark k.Comma 29) ∷ (name k.Name 31 (codes "reverse")) ∷ (mark k.OpenParen 38) ∷ (mark k.OpenParen 39) ∷ (whole k.Int 40 1) ∷ (mark k.Comma 41) ∷ (whole k.Int 43 2) ∷ (mark k.CloseParen 44) ∷ (mark k.CloseParen 45) ∷ (mark k.Comma 46) ∷ (name k.Empty 48 (codes "empty")) ∷ (mark k.OpenParen 53) ∷ (mark k.OpenParen 54) ∷ (mark k.CloseParen 55) ∷ (mark k.CloseParen 56) ∷ (mark k.Comma 57) ∷ (name k.Name 59 (codes "exists")) ∷ (mark k.OpenParen 65) ∷ (whole k.Int 66 1) ∷ (mark k.CloseParen 67) ∷ [])
      ([])
      (codes "1/2/3/2/1/true/true/")
  -- subsequence((1, 2, 3), 0, 2), subsequence((1, 2, 3), 2), insert-before((1, 2), 2, 9), remove((1, 2, 3), 2)
  pub parts_of_sequences : Gives ((name k.Name 0 (codes "subsequence")) ∷ (mark k.OpenParen 11) ∷ (mark k.OpenParen 12) ∷ (whole k.Int 13 1) ∷ (mark k.Comma 14) ∷ (whole k.Int 16 2) ∷ (mark k.Comma 17) ∷ (whole k.Int 19 3) ∷ (mark k.CloseParen 20) ∷ (mark k.Comma 21) ∷ (whole k.Int 23 0) ∷ (mark k.Comma 24) ∷ (whole k.Int 26 2) ∷ (mark k.CloseParen 27) ∷ (mark k.Comma 28) ∷ (name k.Name 30 (codes "subsequence")) ∷ (mark k.OpenParen 41) ∷ (mark k.OpenParen 42) ∷ (whole k.Int 43 1) ∷ (mark k.Comma 44) ∷ (whole k.Int 46 2) ∷ (mark k.Comma 47) ∷ (whole k.Int 49 3) ∷ (mark k.CloseParen 50) ∷ (mark k.Comma 51) ∷ (whole k.Int 53 2) ∷ (mark k.CloseParen 54) ∷ (mark k.Comma 55) ∷ (name k.Name 57 (codes "insert-before")) ∷ (mark k.OpenParen 70) ∷ (mark k.OpenParen 71) ∷ (whole k.Int 72 1) ∷ (mark k.Comma 73) ∷ (whole k.Int 75 2) ∷ (mark k.CloseParen 76) ∷ (mark k.Comma 77) ∷ (whole k.Int 79 2) ∷ (mark k.Comma 80) ∷ (whole k.Int 82 9) ∷ (mark k.CloseParen 83) ∷ (mark k.Comma 84) ∷ (name k.Name 86 (codes "remove")) ∷ (mark k.OpenParen 92) ∷ (mark k.OpenParen 93) ∷ (whole k.Int 94 1) ∷ (mark k.Comma 95) ∷ (whole k.Int 97 2) ∷ (mark k.Comma 98) ∷ (whole k.Int 100 3) ∷ (mark k.CloseParen 101) ∷ (mark k.Comma 102) ∷ (whole k.Int 104 2) ∷ (mark k.CloseParen 105) ∷ [])
      ([])
      (codes "1/2/3/1/9/2/1/3/")
  -- distinct-values((1, 1.0, "1", null, 1)), index-of((1, 2, 1.0), 1)
  pub different_values : Gives ((name k.Name 0 (codes "distinct-values")) ∷ (mark k.OpenParen 15) ∷ (mark k.OpenParen 16) ∷ (whole k.Int 17 1) ∷ (mark k.Comma 18) ∷ (units k.Dec 20 1000000) ∷ (mark k.Comma 23) ∷ (name k.Text 25 (codes "1")) ∷ (mark k.Comma 28) ∷ (name k.Null 30 (codes "null")) ∷ (mark k.Comma 34) ∷ (whole k.Int 36 1) ∷ (mark k.CloseParen 37) ∷ (mark k.CloseParen 38) ∷ (mark k.Comma 39) ∷ (name k.Name 41 (codes "index-of")) ∷ (mark k.OpenParen 49) ∷ (mark k.OpenParen 50) ∷ (whole k.Int 51 1) ∷ (mark k.Comma 52) ∷ (whole k.Int 54 2) ∷ (mark k.Comma 55) ∷ (units k.Dec 57 1000000) ∷ (mark k.CloseParen 60) ∷ (mark k.Comma 61) ∷ (whole k.Int 63 1) ∷ (mark k.CloseParen 64) ∷ [])
      ([])
      (codes "1/\"1\"/null/1/3/")
  -- 1, exactly-one((1, 2))
  pub two_for_one : Gives ((whole k.Int 0 1) ∷ (mark k.Comma 1) ∷ (name k.Name 3 (codes "exactly-one")) ∷ (mark k.OpenParen 14) ∷ (mark k.OpenParen 15) ∷ (whole k.Int 16 1) ∷ (mark k.Comma 17) ∷ (whole k.Int 19 2) ∷ (mark k.CloseParen 20) ∷ (mark k.CloseParen 21) ∷ [])
      ([])
      (codes "FORG0005 at 4")
  -- 1, zero-or-one((1, 2))
  pub two_for_none_or_one : Gives ((whole k.Int 0 1) ∷ (mark k.Comma 1) ∷ (name k.Name 3 (codes "zero-or-one")) ∷ (mark k.OpenParen 14) ∷ (mark k.OpenParen 15) ∷ (whole k.Int 16 1) ∷ (mark k.Comma 17) ∷ (whole k.Int 19 2) ∷ (mark k.CloseParen 20) ∷ (mark k.CloseParen 21) ∷ [])
      ([])
      (codes "FORG0003 at 4")
  -- 1, one-or-more(())
  pub none_for_one_or_more : Gives ((whole k.Int 0 1) ∷ (mark k.Comma 1) ∷ (name k.Name 3 (codes "one-or-more")) ∷ (mark k.OpenParen 14) ∷ (mark k.OpenParen 15) ∷ (mark k.CloseParen 16) ∷ (mark k.CloseParen 17) ∷ [])
      ([])
      (codes "FORG0004 at 4")
  -- accumulate(({"a":1}, {"b":2, "a":null})), descendant-objects([{"a":{"b":1}}]), flatten(([1, [2]], 3))
  pub objects_gathered : Gives ((name k.Name 0 (codes "accumulate")) ∷ (mark k.OpenParen 10) ∷ (mark k.OpenParen 11) ∷ (mark k.OpenBrace 12) ∷ (name k.Text 13 (codes "a")) ∷ (mark k.Colon 16) ∷ (whole k.Int 17 1) ∷ (mark k.CloseBrace 18) ∷ (mark k.Comma 19) ∷ (mark k.OpenBrace 21) ∷ (name k.Text 22 (codes "b")) ∷ (mark k.Colon 25) ∷ (whole k.Int 26 2) ∷ (mark k.Comma 27) ∷ (name k.Text 29 (codes "a")) ∷ (mark k.Colon 32) ∷ (name k.Null 33 (codes "null")) ∷ (mark k.CloseBrace 37) ∷ (mark k.CloseParen 38) ∷ (mark k.CloseParen 39) ∷ (mark k.Comma 40) ∷ (name k.Name 42 (codes "descendant-objects")) ∷ (mark k.OpenParen 60) ∷ (mark k.OpenBracket 61) ∷ (mark k.OpenBrace 62) ∷ (name k.Text 63 (codes "a")) ∷ (mark k.Colon 66) ∷ (mark k.OpenBrace 67) ∷ (name k.Text 68 (codes "b")) ∷ (mark k.Colon 71) ∷ (whole k.Int 72 1) ∷ (mark k.CloseBrace 73) ∷ (mark k.CloseBrace 74) ∷ (mark k.CloseBracket 75) ∷ (mark k.CloseParen 76) ∷ (mark k.Comma 77) ∷ (name k.Name 79 (codes "flatten")) ∷ (mark k.OpenParen 86) ∷ (mark k.OpenParen 87) ∷ (mark k.OpenBracket 88) ∷ (whole k.Int 89 1) ∷ (mark k.Comma 90) ∷ (mark k.OpenBracket 92) ∷ (whole k.Int 93 2) ∷ (mark k.CloseBracket 94) ∷ (mark k.CloseBracket 95) ∷ (mark k.Comma 96) ∷ (whole k.Int 98 3) ∷ (mark k.CloseParen 99) ∷ (mark k.CloseParen 100) ∷ [])
      ([])
      (codes "{\"a\":[1,null],\"b\":2}/{\"a\":{\"b\":1}}/{\"b\":1}/1/2/3/")
  -- project({"a":1, "b":2}, "b"), remove-keys({"a":1, "b":2}, "b"), size([1, 2])
  pub objects_cut : Gives ((name k.Name 0 (codes "project")) ∷ (mark k.OpenParen 7) ∷ (mark k.OpenBrace 8) ∷ (name k.Text 9 (codes "a")) ∷ (mark k.Colon 12) ∷ (whole k.Int 13 1) ∷ (mark k.Comma 14) ∷ (name k.Text 16 (codes "b")) ∷ (mark k.Colon 19) ∷ (whole k.Int 20 2) ∷ (mark k.CloseBrace 21) ∷ (mark k.Comma 22) ∷ (name k.Text 24 (codes "b")) ∷ (mark k.CloseParen 27) ∷ (mark k.Comma 28) ∷ (name k.Name 30 (codes "remove-keys")) ∷ (mark k.OpenParen 41) ∷ (mark k.OpenBrace 42) ∷ (name k.Text 43 (codes "a")) ∷ (mark k.Colon 46) ∷ (whole k.Int 47 1) ∷ (mark k.Comma 48) ∷ (name k.Text 50 (codes "b")) ∷ (mark k.Colon 53) ∷ (whole k.Int 54 2) ∷ (mark k.CloseBrace 55) ∷ (mark k.Comma 56) ∷ (name k.Text 58 (codes "b")) ∷ (mark k.CloseParen 61) ∷ (mark k.Comma 62) ∷ (name k.Name 64 (codes "size")) ∷ (mark k.OpenParen 68) ∷ (mark k.OpenBracket 69) ∷ (whole k.Int 70 1) ∷ (mark k.Comma 71) ∷ (whole k.Int 73 2) ∷ (mark k.CloseBracket 74) ∷ (mark k.CloseParen 75) ∷ [])
      ([])
      (codes "{\"b\":2}/{\"a\":1}/2/")
  -- translate("banana", "an", "o"), tokenize("  x y "), string-join((1, "a"), "-"), normalize-space(" a  b ")
  pub texts_changed : Gives ((name k.Name 0 (codes "translate")) ∷ (mark k.OpenParen 9) ∷ (name k.Text 10 (codes "banana")) ∷ (mark k.Comma 18) ∷ (name k.Text 20 (codes "an")) ∷ (mark k.Comma 24) ∷ (name k.Text 26 (codes "o")) ∷ (mark k.CloseParen 29) ∷ (mark k.Comma 30) ∷ (name k.Name 32 (codes "tokenize")) ∷ (mark k.OpenParen 40) ∷ (name k.Text 41 (codes "  x y ")) ∷ (mark k.CloseParen 49) ∷ (mark k.Comma 50) ∷ (name k.Name 52 (codes "string-join")) ∷ (mark k.OpenParen 63) ∷ (mark k.OpenParen 64) ∷ (whole k.Int 65 1) ∷ (mark k.Comma 66) ∷ (name k.Text 68 (codes "a")) ∷ (mark k.CloseParen 71) ∷ (mark k.Comma 72) ∷ (name k.Text 74 (codes "-")) ∷ (mark k.CloseParen 77) ∷ (mark k.Comma 78) ∷ (name k.Name 80 (codes "normalize-space")) ∷ (mark k.OpenParen 95) ∷ (name k.Text 96 (codes " a  b ")) ∷ (mark k.CloseParen 104) ∷ [])
      ([])
      (codes "\"booo\"/\"x\"/\"y\"/\"1-a\"/\"a b\"/")
  -- substring-before("abc", "b"), substring-after("abc", "x"), contains("abc", "bc"), string-length("abc")
  pub texts_cut : Gives ((name k.Name 0 (codes "substring-before")) ∷ (mark k.OpenParen 16) ∷ (name k.Text 17 (codes "abc")) ∷ (mark k.Comma 22) ∷ (name k.Text 24 (codes "b")) ∷ (mark k.CloseParen 27) ∷ (mark k.Comma 28) ∷ (name k.Name 30 (codes "substring-after")) ∷ (mark k.OpenParen 45) ∷ (name k.Text 46 (codes "abc")) ∷ (mark k.Comma 51) ∷ (name k.Text 53 (codes "x")) ∷ (mark k.CloseParen 56) ∷ (mark k.Comma 57) ∷ (name k.Name 59 (codes "contains")) ∷ (mark k.OpenParen 67) ∷ (name k.Text 68 (codes "abc")) ∷ (mark k.Comma 73) ∷ (name k.Text 75 (codes "bc")) ∷ (mark k.CloseParen 79) ∷ (mark k.Comma 80) ∷ (name k.Name 82 (codes "string-length")) ∷ (mark k.OpenParen 95) ∷ (name k.Text 96 (codes "abc")) ∷ (mark k.CloseParen 101) ∷ [])
      ([])
      (codes "\"a\"/\"\"/true/3/")
  -- round(-2.5), abs(-1.5), floor(-1.5), ceiling(1.2), round-half-to-even(2.5)
  pub numbers_rounded : Gives ((name k.Name 0 (codes "round")) ∷ (mark k.OpenParen 5) ∷ (mark k.Minus 6) ∷ (units k.Dec 7 2500000) ∷ (mark k.CloseParen 10) ∷ (mark k.Comma 11) ∷ (name k.Name 13 (codes "abs")) ∷ (mark k.OpenParen 16) ∷ (mark k.Minus 17) ∷ (units k.Dec 18 1500000) ∷ (mark k.CloseParen 21) ∷ (mark k.Comma 22) ∷ (name k.Name 24 (codes "floor")) ∷ (mark k.OpenParen 29) ∷ (mark k.Minus 30) ∷ (units k.Dec 31 1500000) ∷ (mark k.CloseParen 34) ∷ (mark k.Comma 35) ∷ (name k.Name 37 (codes "ceiling")) ∷ (mark k.OpenParen 44) ∷ (units k.Dec 45 1200000) ∷ (mark k.CloseParen 48) ∷ (mark k.Comma 49) ∷ (name k.Name 51 (codes "round-half-to-even")) ∷ (mark k.OpenParen 69) ∷ (units k.Dec 70 2500000) ∷ (mark k.CloseParen 73) ∷ [])
      ([])
      (codes "-2/1.5/-2/2/2/")
  -- avg((1, 2.5)), sum((99999999999999999999, 1, -1)), min((2, null)), max((1, 3, 2)), sum(())
  pub numbers_gathered : Gives ((name k.Name 0 (codes "avg")) ∷ (mark k.OpenParen 3) ∷ (mark k.OpenParen 4) ∷ (whole k.Int 5 1) ∷ (mark k.Comma 6) ∷ (units k.Dec 8 2500000) ∷ (mark k.CloseParen 11) ∷ (mark k.CloseParen 12) ∷ (mark k.Comma 13) ∷ (name k.Name 15 (codes "sum")) ∷ (mark k.OpenParen 18) ∷ (mark k.OpenParen 19) ∷ (whole k.Int 20 99999999999999999999) ∷ (mark k.Comma 40) ∷ (whole k.Int 42 1) ∷ (mark k.Comma 43) ∷ (mark k.Minus 45) ∷ (whole k.Int 46 1) ∷ (mark k.CloseParen 47) ∷ (mark k.CloseParen 48) ∷ (mark k.Comma 49) ∷ (name k.Name 51 (codes "min")) ∷ (mark k.OpenParen 54) ∷ (mark k.OpenParen 55) ∷ (whole k.Int 56 2) ∷ (mark k.Comma 57) ∷ (name k.Null 59 (codes "null")) ∷ (mark k.CloseParen 63) ∷ (mark k.CloseParen 64) ∷ (mark k.Comma 65) ∷ (name k.Name 67 (codes "max")) ∷ (mark k.OpenParen 70) ∷ (mark k.OpenParen 71) ∷ (whole k.Int 72 1) ∷ (mark k.Comma 73) ∷ (whole k.Int 75 3) ∷ (mark k.Comma 76) ∷ (whole k.Int 78 2) ∷ (mark k.CloseParen 79) ∷ (mark k.CloseParen 80) ∷ (mark k.Comma 81) ∷ (name k.Name 83 (codes "sum")) ∷ (mark k.OpenParen 86) ∷ (mark k.OpenParen 87) ∷ (mark k.CloseParen 88) ∷ (mark k.CloseParen 89) ∷ [])
      ([])
      (codes "1.75/99999999999999999999/null/3/0/")
  -- 1, sum("a")
  pub sum_of_a_text : Gives ((whole k.Int 0 1) ∷ (mark k.Comma 1) ∷ (name k.Name 3 (codes "sum")) ∷ (mark k.OpenParen 6) ∷ (name k.Text 7 (codes "a")) ∷ (mark k.CloseParen 10) ∷ [])
      ([])
      (codes "FORG0006 at 4")
  -- 1, abs("a")
  pub text_as_a_number : Gives ((whole k.Int 0 1) ∷ (mark k.Comma 1) ∷ (name k.Name 3 (codes "abs")) ∷ (mark k.OpenParen 6) ∷ (name k.Text 7 (codes "a")) ∷ (mark k.CloseParen 10) ∷ [])
      ([])
      (codes "XPTY0004 at 4")
  -- 1, string-length([])
  pub array_as_a_text : Gives ((whole k.Int 0 1) ∷ (mark k.Comma 1) ∷ (name k.Name 3 (codes "string-length")) ∷ (mark k.OpenParen 16) ∷ (mark k.OpenBracket 17) ∷ (mark k.CloseBracket 18) ∷ (mark k.CloseParen 19) ∷ [])
      ([])
      (codes "JNTY0004 at 4")
  -- 1, error()
  pub raised_by_the_query : Gives ((whole k.Int 0 1) ∷ (mark k.Comma 1) ∷ (name k.Name 3 (codes "error")) ∷ (mark k.OpenParen 8) ∷ (mark k.CloseParen 9) ∷ [])
      ([])
      (codes "FOER0000 at 4")
  -- parse-json("7"), parse-json(())
  pub texts_read : Gives ((name k.Name 0 (codes "parse-json")) ∷ (mark k.OpenParen 10) ∷ (name k.Text 11 (codes "7")) ∷ (mark k.CloseParen 14) ∷ (mark k.Comma 15) ∷ (name k.Name 17 (codes "parse-json")) ∷ (mark k.OpenParen 27) ∷ (mark k.OpenParen 28) ∷ (mark k.CloseParen 29) ∷ (mark k.CloseParen 30) ∷ [])
      ([])
      (codes "7/")
  -- 1, parse-json(" ")
  pub blank_text_read : Gives ((whole k.Int 0 1) ∷ (mark k.Comma 1) ∷ (name k.Name 3 (codes "parse-json")) ∷ (mark k.OpenParen 13) ∷ (name k.Text 14 (codes " ")) ∷ (mark k.CloseParen 17) ∷ [])
      ([])
      (codes "JNDY0021 at 4")
  -- ("2024-02-29" cast as date) ! (string($$), add-days($$, 1), year-from-date($$))
  pub dates : Gives ((mark k.OpenParen 0) ∷ (name k.Text 1 (codes "2024-02-29")) ∷ (name k.Cast 14 (codes "cast")) ∷ (name k.As 19 (codes "as")) ∷ (name k.Name 22 (codes "date")) ∷ (mark k.CloseParen 26) ∷ (mark k.Bang 28) ∷ (mark k.OpenParen 30) ∷ (name k.Name 31 (codes "string")) ∷ (mark k.OpenParen 37) ∷ (mark k.Context 38) ∷ (mark k.CloseParen 40) ∷ (mark k.Comma 41) ∷ (name k.Name 43 (codes "add-days")) ∷ (mark k.OpenParen 51) ∷ (mark k.Context 52) ∷ (mark k.Comma 54) ∷ (whole k.Int 56 1) ∷ (mark k.CloseParen 57) ∷ (mark k.Comma 58) ∷ (name k.Name 60 (codes "year-from-date")) ∷ (mark k.OpenParen 74) ∷ (mark k.Context 75) ∷ (mark k.CloseParen 77) ∷ (mark k.CloseParen 78) ∷ [])
      ([])
      (codes "\"2024-02-29\"/\"2024-03-01\"/2024/")
  -- days-between("2024-02-28" cast as date, "2024-03-01" cast as date)
  pub days_between_dates : Gives ((name k.Name 0 (codes "days-between")) ∷ (mark k.OpenParen 12) ∷ (name k.Text 13 (codes "2024-02-28")) ∷ (name k.Cast 26 (codes "cast")) ∷ (name k.As 31 (codes "as")) ∷ (name k.Name 34 (codes "date")) ∷ (mark k.Comma 38) ∷ (name k.Text 40 (codes "2024-03-01")) ∷ (name k.Cast 53 (codes "cast")) ∷ (name k.As 58 (codes "as")) ∷ (name k.Name 61 (codes "date")) ∷ (mark k.CloseParen 65) ∷ [])
      ([])
      (codes "2/")
  -- "2024-05-01T01:30:00.50+02:00" cast as dateTime
  pub date_times : Gives ((name k.Text 0 (codes "2024-05-01T01:30:00.50+02:00")) ∷ (name k.Cast 31 (codes "cast")) ∷ (name k.As 36 (codes "as")) ∷ (name k.Name 39 (codes "dateTime")) ∷ [])
      ([])
      (codes "\"2024-04-30T23:30:00.5Z\"/")
  -- "2023-02-29" cast as date
  pub no_such_date : Gives ((name k.Text 0 (codes "2023-02-29")) ∷ (name k.Cast 13 (codes "cast")) ∷ (name k.As 18 (codes "as")) ∷ (name k.Name 21 (codes "date")) ∷ [])
      ([])
      (codes "FORG0001 at 14")
  -- serialize([1.50, "x"])
  pub serialized : Gives ((name k.Name 0 (codes "serialize")) ∷ (mark k.OpenParen 9) ∷ (mark k.OpenBracket 10) ∷ (units k.Dec 11 1500000) ∷ (mark k.Comma 15) ∷ (name k.Text 17 (codes "x")) ∷ (mark k.CloseBracket 20) ∷ (mark k.CloseParen 21) ∷ [])
      ([])
      (codes "\"[1.5,\\\"x\\\"]\"/")
  -- 1 + min((1, "a"))
  pub fault_of_a_function : Gives ((whole k.Int 0 1) ∷ (mark k.Plus 2) ∷ (name k.Name 4 (codes "min")) ∷ (mark k.OpenParen 7) ∷ (mark k.OpenParen 8) ∷ (whole k.Int 9 1) ∷ (mark k.Comma 10) ∷ (name k.Text 12 (codes "a")) ∷ (mark k.CloseParen 15) ∷ (mark k.CloseParen 16) ∷ [])
      ([])
      (codes "FORG0006 at 5")
  -- substring(1, 1 div 0)
  pub arguments_before_checks : Gives ((name k.Name 0 (codes "substring")) ∷ (mark k.OpenParen 9) ∷ (whole k.Int 10 1) ∷ (mark k.Comma 11) ∷ (whole k.Int 13 1) ∷ (name k.Div 15 (codes "div")) ∷ (whole k.Int 19 0) ∷ (mark k.CloseParen 20) ∷ [])
      ([])
      (codes "FOAR0001 at 16")
  -- declare function f($x, $y) { $x * 10 + $y }; f(1, 2), f(3, f(0, 4))
  pub declared_ones : Gives ((name k.Declare 0 (codes "declare")) ∷ (name k.Function 8 (codes "function")) ∷ (name k.Name 17 (codes "f")) ∷ (mark k.OpenParen 18) ∷ (name k.Var 19 (codes "x")) ∷ (mark k.Comma 21) ∷ (name k.Var 23 (codes "y")) ∷ (mark k.CloseParen 25) ∷ (mark k.OpenBrace 27) ∷ (name k.Var 29 (codes "x")) ∷ (mark k.Star 32) ∷ (whole k.Int 34 10) ∷ (mark k.Plus 37) ∷ (name k.Var 39 (codes "y")) ∷ (mark k.CloseBrace 42) ∷ (mark k.Semicolon 43) ∷ (name k.Name 45 (codes "f")) ∷ (mark k.OpenParen 46) ∷ (whole k.Int 47 1) ∷ (mark k.Comma 48) ∷ (whole k.Int 50 2) ∷ (mark k.CloseParen 51) ∷ (mark k.Comma 52) ∷ (name k.Name 54 (codes "f")) ∷ (mark k.OpenParen 55) ∷ (whole k.Int 56 3) ∷ (mark k.Comma 57) ∷ (name k.Name 59 (codes "f")) ∷ (mark k.OpenParen 60) ∷ (whole k.Int 61 0) ∷ (mark k.Comma 62) ∷ (whole k.Int 64 4) ∷ (mark k.CloseParen 65) ∷ (mark k.CloseParen 66) ∷ [])
      ([])
      (codes "12/34/")
  -- declare function fact($n as integer) as integer { if ($n eq 0) then 1 else $n * fact($n - 1) }; fact(20)
  pub recursion : Gives ((name k.Declare 0 (codes "declare")) ∷ (name k.Function 8 (codes "function")) ∷ (name k.Name 17 (codes "fact")) ∷ (mark k.OpenParen 21) ∷ (name k.Var 22 (codes "n")) ∷ (name k.As 25 (codes "as")) ∷ (name k.Name 28 (codes "integer")) ∷ (mark k.CloseParen 35) ∷ (name k.As 37 (codes "as")) ∷ (name k.Name 40 (codes "integer")) ∷ (mark k.OpenBrace 48) ∷ (name k.If 50 (codes "if")) ∷ (mark k.OpenParen 53) ∷ (name k.Var 54 (codes "n")) ∷ (name k.Eq 57 (codes "eq")) ∷ (whole k.Int 60 0) ∷ (mark k.CloseParen 61) ∷ (name k.Then 63 (codes "then")) ∷ (whole k.Int 68 1) ∷ (name k.Else 70 (codes "else")) ∷ (name k.Var 75 (codes "n")) ∷ (mark k.Star 78) ∷ (name k.Name 80 (codes "fact")) ∷ (mark k.OpenParen 84) ∷ (name k.Var 85 (codes "n")) ∷ (mark k.Minus 88) ∷ (whole k.Int 90 1) ∷ (mark k.CloseParen 91) ∷ (mark k.CloseBrace 93) ∷ (mark k.Semicolon 94) ∷ (name k.Name 96 (codes "fact")) ∷ (mark k.OpenParen 100) ∷ (whole k.Int 101 20) ∷ (mark k.CloseParen 103) ∷ [])
      ([])
      (codes "2432902008176640000/")
  -- declare function f($x as integer) { 1 }; 1, f("a")
  pub argument_type : Gives ((name k.Declare 0 (codes "declare")) ∷ (name k.Function 8 (codes "function")) ∷ (name k.Name 17 (codes "f")) ∷ (mark k.OpenParen 18) ∷ (name k.Var 19 (codes "x")) ∷ (name k.As 22 (codes "as")) ∷ (name k.Name 25 (codes "integer")) ∷ (mark k.CloseParen 32) ∷ (mark k.OpenBrace 34) ∷ (whole k.Int 36 1) ∷ (mark k.CloseBrace 38) ∷ (mark k.Semicolon 39) ∷ (whole k.Int 41 1) ∷ (mark k.Comma 42) ∷ (name k.Name 44 (codes "f")) ∷ (mark k.OpenParen 45) ∷ (name k.Text 46 (codes "a")) ∷ (mark k.CloseParen 49) ∷ [])
      ([])
      (codes "XPTY0004 at 45")
  -- declare function f($x) as integer { $x }; 1, f("a")
  pub result_type : Gives ((name k.Declare 0 (codes "declare")) ∷ (name k.Function 8 (codes "function")) ∷ (name k.Name 17 (codes "f")) ∷ (mark k.OpenParen 18) ∷ (name k.Var 19 (codes "x")) ∷ (mark k.CloseParen 21) ∷ (name k.As 23 (codes "as")) ∷ (name k.Name 26 (codes "integer")) ∷ (mark k.OpenBrace 34) ∷ (name k.Var 36 (codes "x")) ∷ (mark k.CloseBrace 39) ∷ (mark k.Semicolon 40) ∷ (whole k.Int 42 1) ∷ (mark k.Comma 43) ∷ (name k.Name 45 (codes "f")) ∷ (mark k.OpenParen 46) ∷ (name k.Text 47 (codes "a")) ∷ (mark k.CloseParen 50) ∷ [])
      ([])
      (codes "XPTY0004 at 46")
  -- declare function f($x as string, $y) { 1 }; f(1, 1 div 0)
  pub all_arguments_before_types : Gives ((name k.Declare 0 (codes "declare")) ∷ (name k.Function 8 (codes "function")) ∷ (name k.Name 17 (codes "f")) ∷ (mark k.OpenParen 18) ∷ (name k.Var 19 (codes "x")) ∷ (name k.As 22 (codes "as")) ∷ (name k.Name 25 (codes "string")) ∷ (mark k.Comma 31) ∷ (name k.Var 33 (codes "y")) ∷ (mark k.CloseParen 35) ∷ (mark k.OpenBrace 37) ∷ (whole k.Int 39 1) ∷ (mark k.CloseBrace 41) ∷ (mark k.Semicolon 42) ∷ (name k.Name 44 (codes "f")) ∷ (mark k.OpenParen 45) ∷ (whole k.Int 46 1) ∷ (mark k.Comma 47) ∷ (whole k.Int 49 1) ∷ (name k.Div 51 (codes "div")) ∷ (whole k.Int 55 0) ∷ (mark k.CloseParen 56) ∷ [])
      ([])
      (codes "FOAR0001 at 52")
  -- declare variable $a := 1; declare variable $b := $a + 1; declare function f() { $b * 10 }; $a, $b, f()
  pub declared_variables : Gives ((name k.Declare 0 (codes "declare")) ∷ (name k.Variable 8 (codes "variable")) ∷ (name k.Var 17 (codes "a")) ∷ (mark k.Assign 20) ∷ (whole k.Int 23 1) ∷ (mark k.Semicolon 24) ∷ (name k.Declare 26 (codes "declare")) ∷ (name k.Variable 34 (codes "variable")) ∷ (name k.Var 43 (codes "b")) ∷ (mark k.Assign 46) ∷ (name k.Var 49 (codes "a")) ∷ (mark k.Plus 52) ∷ (whole k.Int 54 1) ∷ (mark k.Semicolon 55) ∷ (name k.Declare 57 (codes "declare")) ∷ (name k.Function 65 (codes "function")) ∷ (name k.Name 74 (codes "f")) ∷ (mark k.OpenParen 75) ∷ (mark k.CloseParen 76) ∷ (mark k.OpenBrace 78) ∷ (name k.Var 80 (codes "b")) ∷ (mark k.Star 83) ∷ (whole k.Int 85 10) ∷ (mark k.CloseBrace 88) ∷ (mark k.Semicolon 89) ∷ (name k.Var 91 (codes "a")) ∷ (mark k.Comma 93) ∷ (name k.Var 95 (codes "b")) ∷ (mark k.Comma 97) ∷ (name k.Name 99 (codes "f")) ∷ (mark k.OpenParen 100) ∷ (mark k.CloseParen 101) ∷ [])
      ([])
      (codes "1/2/20/")
  -- declare variable $a as string := 1; 2
  pub declared_variable_type : Gives ((name k.Declare 0 (codes "declare")) ∷ (name k.Variable 8 (codes "variable")) ∷ (name k.Var 17 (codes "a")) ∷ (name k.As 20 (codes "as")) ∷ (name k.Name 23 (codes "string")) ∷ (mark k.Assign 30) ∷ (whole k.Int 33 1) ∷ (mark k.Semicolon 34) ∷ (whole k.Int 36 2) ∷ [])
      ([])
      (codes "XPTY0004 at 18")
  -- declare variable $a := 1 div 0; "a" + 1
  pub declared_variables_come_first : Gives ((name k.Declare 0 (codes "declare")) ∷ (name k.Variable 8 (codes "variable")) ∷ (name k.Var 17 (codes "a")) ∷ (mark k.Assign 20) ∷ (whole k.Int 23 1) ∷ (name k.Div 25 (codes "div")) ∷ (whole k.Int 29 0) ∷ (mark k.Semicolon 30) ∷ (name k.Text 32 (codes "a")) ∷ (mark k.Plus 36) ∷ (whole k.Int 38 1) ∷ [])
      ([])
      (codes "FOAR0001 at 26")
  -- declare function f($x) { for $y in (1, 2) return $x + $y }; for $z in (10, 20) return f($z)
  pub own_function_sees_no_outer_variable : Gives ((name k.Declare 0 (codes "declare")) ∷ (name k.Function 8 (codes "function")) ∷ (name k.Name 17 (codes "f")) ∷ (mark k.OpenParen 18) ∷ (name k.Var 19 (codes "x")) ∷ (mark k.CloseParen 21) ∷ (mark k.OpenBrace 23) ∷ (name k.For 25 (codes "for")) ∷ (name k.Var 29 (codes "y")) ∷ (name k.In 32 (codes "in")) ∷ (mark k.OpenParen 35) ∷ (whole k.Int 36 1) ∷ (mark k.Comma 37) ∷ (whole k.Int 39 2) ∷ (mark k.CloseParen 40) ∷ (name k.Return 42 (codes "return")) ∷ (name k.Var 49 (codes "x")) ∷ (mark k.Plus 52) ∷ (name k.Var 54 (codes "y")) ∷ (mark k.CloseBrace 57) ∷ (mark k.Semicolon 58) ∷ (name k.For 60 (codes "for")) ∷ (name k.Var 64 (codes "z")) ∷ (name k.In 67 (codes "in")) ∷ (mark k.OpenParen 70) ∷ (whole k.Int 71 10) ∷ (mark k.Comma 73) ∷ (whole k.Int 75 20) ∷ (mark k.CloseParen 77) ∷ (name k.Return 79 (codes "return")) ∷ (name k.Name 86 (codes "f")) ∷ (mark k.OpenParen 87) ∷ (name k.Var 88 (codes "z")) ∷ (mark k.CloseParen 90) ∷ [])
      ([])
      (codes "11/12/21/22/")

pub functions_rows : FunctionsRows
unfolding digits encode chars num_fixed_fronts.fraction_len num_fixed_fronts.exponent_len num_fixed_fronts.whole_end num_fixed_fronts.fraction_end num_fixed_fronts.number_end num_fixed_fronts.numeral_front num_fixed_fronts.short_whole num_fixed_values.near_natural num_fixed_values.near num_fixed_values.units_said num_fixed_inside_spells.spelled item_tree_dates.days_of_years item_tree_dates.days_of_months item_tree_dates.day_count item_tree_dates.day_number item_tree_jsonstring.code_unit item_tree_inside_words.joined json_text_inside_build.reading json_text_inside_machine.token_from json_text_inside_machine.token_at json_text_inside_machine.run_for json_text_inside_machine.run json_text_inside_scan.numeral_at json_text_inside_scan.pieces_at fn_table_dates.days_after fn_table_dates.days_before grammar_parts_levels.inside grammar_parts_parts.OneWhole grammar_parts_parts.OneBegun grammar_parts_parts.NothingWhole grammar_parts_parts.NothingBegun grammar_parts_parts.OnlyWhole grammar_parts_parts.OnlyBegun grammar_parts_parts.MappedWhole grammar_parts_parts.MappedBegun grammar_parts_parts.SeqWhole grammar_parts_parts.SeqBegun grammar_parts_parts.LongWhole grammar_parts_parts.LongBegun grammar_parts_parts.AltWhole grammar_parts_parts.AltBegun grammar_parts_parts.UnlessWhole grammar_parts_parts.UnlessBegun grammar_parts_parts.AheadWhole grammar_parts_parts.AheadBegun grammar_parts_parts.ManyWhole grammar_parts_parts.ManyBegun grammar_parts_parts.ManyLongWhole grammar_parts_parts.ManyLongBegun grammar_parts_parts.NoneWhole grammar_parts_readers.read_times grammar_parts_readers.read_many query_meaning_calls.own_value query_meaning_calls.call_value query_meaning_choices.if_value query_meaning_choices.switch_value query_meaning_choices.typeswitch_value query_meaning_choices.try_value query_meaning_choices.quantified_value query_meaning_clauses.bound_tuple query_meaning_clauses.for_tuples query_meaning_clauses.let_tuples query_meaning_clauses.where_tuples query_meaning_clauses.count_tuples query_meaning_clauses.each_tuple query_meaning_constructors.array_value query_meaning_constructors.entry_of query_meaning_constructors.object_value query_meaning_constructors.merge_value query_meaning_flwors.return_value query_meaning_flwors.flwor_value query_meaning_groups.group_key_value query_meaning_groups.keyed_tuple query_meaning_groups.group_tuples query_meaning_meaning.meaning query_meaning_operators.comma_value query_meaning_operators.mapped_by query_meaning_operators.map_value query_meaning_operators.text_behind query_meaning_operators.concat_value query_meaning_operators.or_value query_meaning_operators.and_value query_meaning_operators.not_value query_meaning_operators.compare_value query_meaning_operators.range_value query_meaning_operators.with_term query_meaning_operators.sum_value query_meaning_operators.with_factor query_meaning_operators.product_value query_meaning_operators.sign_value query_meaning_operators.cast_as query_meaning_operators.instance_value query_meaning_operators.treat_value query_meaning_operators.cast_to_value query_meaning_operators.castable_value query_meaning_orders.compared_keys query_meaning_orders.order_tuples query_meaning_paths.kept query_meaning_paths.filtered query_meaning_paths.member_value query_meaning_paths.key_value query_meaning_paths.field_value query_meaning_paths.postfix_value query_meaning_queries.global_value query_meaning_queries.query_value query_grammar_classes.is query_grammar_grammar.variable query_grammar_grammar.parens query_grammar_grammar.times query_grammar_grammar.item_type query_grammar_grammar.empty_parens query_grammar_grammar.empty_rest query_grammar_grammar.empty_type query_grammar_grammar.seq_type query_grammar_grammar.single_type query_grammar_grammar.as_type query_grammar_grammar.literal query_grammar_grammar.in_parens query_grammar_grammar.in_braces query_grammar_grammar.content query_grammar_grammar.paren query_grammar_grammar.merge query_grammar_grammar.array query_grammar_grammar.name_key query_grammar_grammar.computed_key query_grammar_grammar.pair_key query_grammar_grammar.pair query_grammar_grammar.pair_list query_grammar_grammar.pairs query_grammar_grammar.object query_grammar_grammar.argument query_grammar_grammar.argument_list query_grammar_grammar.some_arguments query_grammar_grammar.arguments query_grammar_grammar.arity query_grammar_grammar.call query_grammar_grammar.inline_function query_grammar_grammar.primary query_grammar_grammar.members query_grammar_grammar.member query_grammar_grammar.filter query_grammar_grammar.bracket_step query_grammar_grammar.plain_key query_grammar_grammar.computed_lookup query_grammar_grammar.field_step query_grammar_grammar.call_step query_grammar_grammar.step query_grammar_grammar.steps query_grammar_grammar.postfix query_grammar_grammar.mapped_operand query_grammar_grammar.mapped_operands query_grammar_grammar.map_level query_grammar_grammar.sign_mark query_grammar_grammar.sign_marks query_grammar_grammar.sign query_grammar_grammar.cast_type query_grammar_grammar.cast query_grammar_grammar.castable_type query_grammar_grammar.castable query_grammar_grammar.treat_type query_grammar_grammar.treat query_grammar_grammar.instance_type query_grammar_grammar.instance query_grammar_grammar.factor query_grammar_grammar.factors query_grammar_grammar.product query_grammar_grammar.term query_grammar_grammar.terms query_grammar_grammar.sum query_grammar_grammar.range_end query_grammar_grammar.range query_grammar_grammar.concat_operand query_grammar_grammar.concat_operands query_grammar_grammar.concat query_grammar_grammar.compared query_grammar_grammar.comparison query_grammar_grammar.compare query_grammar_grammar.not_level query_grammar_grammar.and_operand query_grammar_grammar.and_operands query_grammar_grammar.and_level query_grammar_grammar.or_operand query_grammar_grammar.or_operands query_grammar_grammar.or_level query_grammar_grammar.allowing query_grammar_grammar.at_variable query_grammar_grammar.for_var query_grammar_grammar.window query_grammar_grammar.for_vars query_grammar_grammar.for_clause query_grammar_grammar.let_var query_grammar_grammar.let_vars query_grammar_grammar.let_clause query_grammar_grammar.first_clause query_grammar_grammar.where_clause query_grammar_grammar.group_value query_grammar_grammar.group_var query_grammar_grammar.group_vars query_grammar_grammar.group_clause query_grammar_grammar.empty_order query_grammar_grammar.direction query_grammar_grammar.order_key query_grammar_grammar.order_list query_grammar_grammar.order_keys query_grammar_grammar.order_clause query_grammar_grammar.count_clause query_grammar_grammar.one_clause query_grammar_grammar.clause query_grammar_grammar.returned query_grammar_grammar.clauses query_grammar_grammar.flwor query_grammar_grammar.bind query_grammar_grammar.binds query_grammar_grammar.quant query_grammar_grammar.case_test query_grammar_grammar.case_tests query_grammar_grammar.case query_grammar_grammar.cases query_grammar_grammar.switch query_grammar_grammar.seq_types query_grammar_grammar.case_variable query_grammar_grammar.type_case query_grammar_grammar.default_variable query_grammar_grammar.type_default query_grammar_grammar.type_cases query_grammar_grammar.typeswitch query_grammar_grammar.if query_grammar_grammar.catch_names query_grammar_grammar.catch_codes query_grammar_grammar.catch query_grammar_grammar.catches query_grammar_grammar.try query_grammar_grammar.single query_grammar_grammar.comma_operand query_grammar_grammar.comma_operands query_grammar_grammar.expr query_grammar_grammar.param query_grammar_grammar.variable_declaration query_grammar_grammar.param_list query_grammar_grammar.some_params query_grammar_grammar.params query_grammar_grammar.function_body query_grammar_grammar.function_declaration query_grammar_grammar.declaration query_grammar_grammar.declarations query_grammar_grammar.module_part
functions_rows = record {
  built_ones = refl;
  sequences = refl;
  parts_of_sequences = refl;
  different_values = refl;
  two_for_one = refl;
  two_for_none_or_one = refl;
  none_for_one_or_more = refl;
  objects_gathered = refl;
  objects_cut = refl;
  texts_changed = refl;
  texts_cut = refl;
  numbers_rounded = refl;
  numbers_gathered = refl;
  sum_of_a_text = refl;
  text_as_a_number = refl;
  array_as_a_text = refl;
  raised_by_the_query = refl;
  texts_read = refl;
  blank_text_read = refl;
  dates = refl;
  days_between_dates = refl;
  date_times = refl;
  no_such_date = refl;
  serialized = refl;
  fault_of_a_function = refl;
  arguments_before_checks = refl;
  declared_ones = refl;
  recursion = refl;
  argument_type = refl;
  result_type = refl;
  all_arguments_before_types = refl;
  declared_variables = refl;
  declared_variable_type = refl;
  declared_variables_come_first = refl;
  own_function_sees_no_outer_variable = refl;
}
