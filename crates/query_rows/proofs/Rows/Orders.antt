-- Written by tools/query_rows.py from rows.txt. Change that, and run it again.
-- Orders.
use Rattle.std.proofs.Common.{pos, true, [], ◌∷◌, Some, Ok, codes, refl}
use Rattle.std.specs.Fmt.{digits}
use Rattle.std.specs.Str.{chars}
use lib.Utf8.{encode}
use Rattle.item_tree.specs.Datum.{null, boolean, integer, decimal, text, array_of_list, object_of_pairs}
use Rattle.query_grammar.specs.declared.word.Kind.TheVariants as k
use Rattle.query_rows.proofs.Computing.{name, mark, whole, Gives}
use Rattle.num_fixed.specs.Fronts as num_fixed_fronts
use Rattle.num_fixed.specs.Values as num_fixed_values
use Rattle.num_fixed.specs.inside.Spells as num_fixed_inside_spells
use Rattle.item_tree.specs.Dates as item_tree_dates
use Rattle.item_tree.specs.JsonString as item_tree_jsonstring
use Rattle.item_tree.specs.inside.Words as item_tree_inside_words
use Rattle.json_text.specs.inside.Build as json_text_inside_build
use Rattle.json_text.specs.inside.Machine as json_text_inside_machine
use Rattle.json_text.specs.inside.Scan as json_text_inside_scan
use Rattle.fn_table.specs.Dates as fn_table_dates
use Rattle.grammar_parts.specs.Levels as grammar_parts_levels
use Rattle.grammar_parts.specs.Parts as grammar_parts_parts
use Rattle.grammar_parts.specs.Readers as grammar_parts_readers
use Rattle.query_meaning.specs.Calls as query_meaning_calls
use Rattle.query_meaning.specs.Choices as query_meaning_choices
use Rattle.query_meaning.specs.Clauses as query_meaning_clauses
use Rattle.query_meaning.specs.Constructors as query_meaning_constructors
use Rattle.query_meaning.specs.Flwors as query_meaning_flwors
use Rattle.query_meaning.specs.Groups as query_meaning_groups
use Rattle.query_meaning.specs.Meaning as query_meaning_meaning
use Rattle.query_meaning.specs.Operators as query_meaning_operators
use Rattle.query_meaning.specs.Orders as query_meaning_orders
use Rattle.query_meaning.specs.Paths as query_meaning_paths
use Rattle.query_meaning.specs.Queries as query_meaning_queries
use Rattle.query_grammar.specs.Classes as query_grammar_classes
use Rattle.query_grammar.specs.Grammar as query_grammar_grammar

pub record OrdersRows : Type 0 where
  -- for $x in (2, 3, 1) order by $x return $x
  pub orders : Gives ((name k.For 0 (codes "for")) ∷ (name k.Var 4 (codes "x")) ∷ (name k.In 7 (codes "in")) ∷ (mark k.OpenParen 10) ∷ (whole k.Int 11 2) ∷ (mark k.Comma 12) ∷ (whole k.Int 14 3) ∷ (mark k.Comma 15) ∷ (whole k.Int 17 1) ∷ (mark k.CloseParen 18) ∷ (name k.Order 20 (codes "order")) ∷ (name k.By 26 (codes "by")) ∷ (name k.Var 29 (codes "x")) ∷ (name k.Return 32 (codes "return")) ∷ (name k.Var 39 (codes "x")) ∷ [])
      ([])
      (codes "1/2/3/")
  -- for $x in (2, null, 1) order by $x descending return $x
  pub descending : Gives ((name k.For 0 (codes "for")) ∷ (name k.Var 4 (codes "x")) ∷ (name k.In 7 (codes "in")) ∷ (mark k.OpenParen 10) ∷ (whole k.Int 11 2) ∷ (mark k.Comma 12) ∷ (name k.Null 14 (codes "null")) ∷ (mark k.Comma 18) ∷ (whole k.Int 20 1) ∷ (mark k.CloseParen 21) ∷ (name k.Order 23 (codes "order")) ∷ (name k.By 29 (codes "by")) ∷ (name k.Var 32 (codes "x")) ∷ (name k.Descending 35 (codes "descending")) ∷ (name k.Return 46 (codes "return")) ∷ (name k.Var 53 (codes "x")) ∷ [])
      ([])
      (codes "2/1/null/")
  -- for $x in ({"a":1}, {}, {"a":null}) order by $x.a empty greatest return {"v":$x.a}
  pub empty_greatest : Gives ((name k.For 0 (codes "for")) ∷ (name k.Var 4 (codes "x")) ∷ (name k.In 7 (codes "in")) ∷ (mark k.OpenParen 10) ∷ (mark k.OpenBrace 11) ∷ (name k.Text 12 (codes "a")) ∷ (mark k.Colon 15) ∷ (whole k.Int 16 1) ∷ (mark k.CloseBrace 17) ∷ (mark k.Comma 18) ∷ (mark k.OpenBrace 20) ∷ (mark k.CloseBrace 21) ∷ (mark k.Comma 22) ∷ (mark k.OpenBrace 24) ∷ (name k.Text 25 (codes "a")) ∷ (mark k.Colon 28) ∷ (name k.Null 29 (codes "null")) ∷ (mark k.CloseBrace 33) ∷ (mark k.CloseParen 34) ∷ (name k.Order 36 (codes "order")) ∷ (name k.By 42 (codes "by")) ∷ (name k.Var 45 (codes "x")) ∷ (mark k.Dot 47) ∷ (name k.Name 48 (codes "a")) ∷ (name k.Empty 50 (codes "empty")) ∷ (name k.Greatest 56 (codes "greatest")) ∷ (name k.Return 65 (codes "return")) ∷ (mark k.OpenBrace 72) ∷ (name k.Text 73 (codes "v")) ∷ (mark k.Colon 76) ∷ (name k.Var 77 (codes "x")) ∷ (mark k.Dot 79) ∷ (name k.Name 80 (codes "a")) ∷ (mark k.CloseBrace 81) ∷ [])
      ([])
      (codes "{\"v\":null}/{\"v\":1}/{\"v\":null}/")
  -- for $x in ({"a":1}, {}, {"a":null}) order by $x.a return {"v":$x.a, "n":count($x.a)}
  pub empty_least : Gives ((name k.For 0 (codes "for")) ∷ (name k.Var 4 (codes "x")) ∷ (name k.In 7 (codes "in")) ∷ (mark k.OpenParen 10) ∷ (mark k.OpenBrace 11) ∷ (name k.Text 12 (codes "a")) ∷ (mark k.Colon 15) ∷ (whole k.Int 16 1) ∷ (mark k.CloseBrace 17) ∷ (mark k.Comma 18) ∷ (mark k.OpenBrace 20) ∷ (mark k.CloseBrace 21) ∷ (mark k.Comma 22) ∷ (mark k.OpenBrace 24) ∷ (name k.Text 25 (codes "a")) ∷ (mark k.Colon 28) ∷ (name k.Null 29 (codes "null")) ∷ (mark k.CloseBrace 33) ∷ (mark k.CloseParen 34) ∷ (name k.Order 36 (codes "order")) ∷ (name k.By 42 (codes "by")) ∷ (name k.Var 45 (codes "x")) ∷ (mark k.Dot 47) ∷ (name k.Name 48 (codes "a")) ∷ (name k.Return 50 (codes "return")) ∷ (mark k.OpenBrace 57) ∷ (name k.Text 58 (codes "v")) ∷ (mark k.Colon 61) ∷ (name k.Var 62 (codes "x")) ∷ (mark k.Dot 64) ∷ (name k.Name 65 (codes "a")) ∷ (mark k.Comma 66) ∷ (name k.Text 68 (codes "n")) ∷ (mark k.Colon 71) ∷ (name k.Count 72 (codes "count")) ∷ (mark k.OpenParen 77) ∷ (name k.Var 78 (codes "x")) ∷ (mark k.Dot 80) ∷ (name k.Name 81 (codes "a")) ∷ (mark k.CloseParen 82) ∷ (mark k.CloseBrace 83) ∷ [])
      ([])
      (codes "{\"v\":null,\"n\":0}/{\"v\":null,\"n\":1}/{\"v\":1,\"n\":1}/")
  -- for $x in ([2, 1], [1, 2], [2, 3], [1, 4]) stable order by $x[[1]] return $x
  pub stable_orders : Gives ((name k.For 0 (codes "for")) ∷ (name k.Var 4 (codes "x")) ∷ (name k.In 7 (codes "in")) ∷ (mark k.OpenParen 10) ∷ (mark k.OpenBracket 11) ∷ (whole k.Int 12 2) ∷ (mark k.Comma 13) ∷ (whole k.Int 15 1) ∷ (mark k.CloseBracket 16) ∷ (mark k.Comma 17) ∷ (mark k.OpenBracket 19) ∷ (whole k.Int 20 1) ∷ (mark k.Comma 21) ∷ (whole k.Int 23 2) ∷ (mark k.CloseBracket 24) ∷ (mark k.Comma 25) ∷ (mark k.OpenBracket 27) ∷ (whole k.Int 28 2) ∷ (mark k.Comma 29) ∷ (whole k.Int 31 3) ∷ (mark k.CloseBracket 32) ∷ (mark k.Comma 33) ∷ (mark k.OpenBracket 35) ∷ (whole k.Int 36 1) ∷ (mark k.Comma 37) ∷ (whole k.Int 39 4) ∷ (mark k.CloseBracket 40) ∷ (mark k.CloseParen 41) ∷ (name k.Stable 43 (codes "stable")) ∷ (name k.Order 50 (codes "order")) ∷ (name k.By 56 (codes "by")) ∷ (name k.Var 59 (codes "x")) ∷ (mark k.OpenBracket 61) ∷ (mark k.OpenBracket 62) ∷ (whole k.Int 63 1) ∷ (mark k.CloseBracket 64) ∷ (mark k.CloseBracket 65) ∷ (name k.Return 67 (codes "return")) ∷ (name k.Var 74 (codes "x")) ∷ [])
      ([])
      (codes "[1,2]/[1,4]/[2,1]/[2,3]/")
  -- for $x in ([2, 1], [1, 2], [2, 3], [1, 4]) order by $x[[1]], $x[[2]] descending return $x
  pub two_columns : Gives ((name k.For 0 (codes "for")) ∷ (name k.Var 4 (codes "x")) ∷ (name k.In 7 (codes "in")) ∷ (mark k.OpenParen 10) ∷ (mark k.OpenBracket 11) ∷ (whole k.Int 12 2) ∷ (mark k.Comma 13) ∷ (whole k.Int 15 1) ∷ (mark k.CloseBracket 16) ∷ (mark k.Comma 17) ∷ (mark k.OpenBracket 19) ∷ (whole k.Int 20 1) ∷ (mark k.Comma 21) ∷ (whole k.Int 23 2) ∷ (mark k.CloseBracket 24) ∷ (mark k.Comma 25) ∷ (mark k.OpenBracket 27) ∷ (whole k.Int 28 2) ∷ (mark k.Comma 29) ∷ (whole k.Int 31 3) ∷ (mark k.CloseBracket 32) ∷ (mark k.Comma 33) ∷ (mark k.OpenBracket 35) ∷ (whole k.Int 36 1) ∷ (mark k.Comma 37) ∷ (whole k.Int 39 4) ∷ (mark k.CloseBracket 40) ∷ (mark k.CloseParen 41) ∷ (name k.Order 43 (codes "order")) ∷ (name k.By 49 (codes "by")) ∷ (name k.Var 52 (codes "x")) ∷ (mark k.OpenBracket 54) ∷ (mark k.OpenBracket 55) ∷ (whole k.Int 56 1) ∷ (mark k.CloseBracket 57) ∷ (mark k.CloseBracket 58) ∷ (mark k.Comma 59) ∷ (name k.Var 61 (codes "x")) ∷ (mark k.OpenBracket 63) ∷ (mark k.OpenBracket 64) ∷ (whole k.Int 65 2) ∷ (mark k.CloseBracket 66) ∷ (mark k.CloseBracket 67) ∷ (name k.Descending 69 (codes "descending")) ∷ (name k.Return 80 (codes "return")) ∷ (name k.Var 87 (codes "x")) ∷ [])
      ([])
      (codes "[1,4]/[1,2]/[2,3]/[2,1]/")
  -- for $x in json-lines("a") order by $x.k return $x.k
  pub clash : Gives ((name k.For 0 (codes "for")) ∷ (name k.Var 4 (codes "x")) ∷ (name k.In 7 (codes "in")) ∷ (name k.Name 10 (codes "json-lines")) ∷ (mark k.OpenParen 20) ∷ (name k.Text 21 (codes "a")) ∷ (mark k.CloseParen 24) ∷ (name k.Order 26 (codes "order")) ∷ (name k.By 32 (codes "by")) ∷ (name k.Var 35 (codes "x")) ∷ (mark k.Dot 37) ∷ (name k.Name 38 (codes "k")) ∷ (name k.Return 40 (codes "return")) ∷ (name k.Var 47 (codes "x")) ∷ (mark k.Dot 49) ∷ (name k.Name 50 (codes "k")) ∷ [])
      (((codes "a", Some (Ok ((object_of_pairs (((codes "k", text (codes "a"))) ∷ [])) ∷ (object_of_pairs (((codes "k", text (codes "b"))) ∷ [])) ∷ (object_of_pairs (((codes "k", integer (pos 1))) ∷ [])) ∷ [])))) ∷ [])
      (codes "XPTY0004 at 36 clause 2 tuple 3")
  -- for $x in json-lines("a") order by if ($x.z) then 1 div 0 else $x.k return $x
  pub clash_before_a_later_fault : Gives ((name k.For 0 (codes "for")) ∷ (name k.Var 4 (codes "x")) ∷ (name k.In 7 (codes "in")) ∷ (name k.Name 10 (codes "json-lines")) ∷ (mark k.OpenParen 20) ∷ (name k.Text 21 (codes "a")) ∷ (mark k.CloseParen 24) ∷ (name k.Order 26 (codes "order")) ∷ (name k.By 32 (codes "by")) ∷ (name k.If 35 (codes "if")) ∷ (mark k.OpenParen 38) ∷ (name k.Var 39 (codes "x")) ∷ (mark k.Dot 41) ∷ (name k.Name 42 (codes "z")) ∷ (mark k.CloseParen 43) ∷ (name k.Then 45 (codes "then")) ∷ (whole k.Int 50 1) ∷ (name k.Div 52 (codes "div")) ∷ (whole k.Int 56 0) ∷ (name k.Else 58 (codes "else")) ∷ (name k.Var 63 (codes "x")) ∷ (mark k.Dot 65) ∷ (name k.Name 66 (codes "k")) ∷ (name k.Return 68 (codes "return")) ∷ (name k.Var 75 (codes "x")) ∷ [])
      (((codes "a", Some (Ok ((object_of_pairs (((codes "k", integer (pos 1))) ∷ [])) ∷ (object_of_pairs (((codes "k", integer (pos 2))) ∷ [])) ∷ (object_of_pairs (((codes "k", text (codes "s"))) ∷ [])) ∷ (object_of_pairs (((codes "z", boolean true)) ∷ [])) ∷ [])))) ∷ [])
      (codes "XPTY0004 at 36 clause 2 tuple 3")
  -- for $x in json-lines("a") order by if ($x.z) then 1 div 0 else $x.k return $x
  pub fault_before_a_later_clash : Gives ((name k.For 0 (codes "for")) ∷ (name k.Var 4 (codes "x")) ∷ (name k.In 7 (codes "in")) ∷ (name k.Name 10 (codes "json-lines")) ∷ (mark k.OpenParen 20) ∷ (name k.Text 21 (codes "a")) ∷ (mark k.CloseParen 24) ∷ (name k.Order 26 (codes "order")) ∷ (name k.By 32 (codes "by")) ∷ (name k.If 35 (codes "if")) ∷ (mark k.OpenParen 38) ∷ (name k.Var 39 (codes "x")) ∷ (mark k.Dot 41) ∷ (name k.Name 42 (codes "z")) ∷ (mark k.CloseParen 43) ∷ (name k.Then 45 (codes "then")) ∷ (whole k.Int 50 1) ∷ (name k.Div 52 (codes "div")) ∷ (whole k.Int 56 0) ∷ (name k.Else 58 (codes "else")) ∷ (name k.Var 63 (codes "x")) ∷ (mark k.Dot 65) ∷ (name k.Name 66 (codes "k")) ∷ (name k.Return 68 (codes "return")) ∷ (name k.Var 75 (codes "x")) ∷ [])
      (((codes "a", Some (Ok ((object_of_pairs (((codes "k", integer (pos 1))) ∷ [])) ∷ (object_of_pairs (((codes "k", integer (pos 2))) ∷ [])) ∷ (object_of_pairs (((codes "z", boolean true)) ∷ [])) ∷ (object_of_pairs (((codes "k", text (codes "s"))) ∷ [])) ∷ [])))) ∷ [])
      (codes "FOAR0001 at 53 clause 2 tuple 3")
  -- for $x in (1, 2) order by 1, (1 to $x) return $x
  pub key_of_two_items_in_an_order : Gives ((name k.For 0 (codes "for")) ∷ (name k.Var 4 (codes "x")) ∷ (name k.In 7 (codes "in")) ∷ (mark k.OpenParen 10) ∷ (whole k.Int 11 1) ∷ (mark k.Comma 12) ∷ (whole k.Int 14 2) ∷ (mark k.CloseParen 15) ∷ (name k.Order 17 (codes "order")) ∷ (name k.By 23 (codes "by")) ∷ (whole k.Int 26 1) ∷ (mark k.Comma 27) ∷ (mark k.OpenParen 29) ∷ (whole k.Int 30 1) ∷ (name k.To 32 (codes "to")) ∷ (name k.Var 35 (codes "x")) ∷ (mark k.CloseParen 37) ∷ (name k.Return 39 (codes "return")) ∷ (name k.Var 46 (codes "x")) ∷ [])
      ([])
      (codes "XPTY0004 at 30 clause 2 tuple 2")
  -- for $x in ([1, 1], ["a", "a"]) order by $x[[1]], $x[[2]] return 1
  pub clash_in_the_first_column : Gives ((name k.For 0 (codes "for")) ∷ (name k.Var 4 (codes "x")) ∷ (name k.In 7 (codes "in")) ∷ (mark k.OpenParen 10) ∷ (mark k.OpenBracket 11) ∷ (whole k.Int 12 1) ∷ (mark k.Comma 13) ∷ (whole k.Int 15 1) ∷ (mark k.CloseBracket 16) ∷ (mark k.Comma 17) ∷ (mark k.OpenBracket 19) ∷ (name k.Text 20 (codes "a")) ∷ (mark k.Comma 23) ∷ (name k.Text 25 (codes "a")) ∷ (mark k.CloseBracket 28) ∷ (mark k.CloseParen 29) ∷ (name k.Order 31 (codes "order")) ∷ (name k.By 37 (codes "by")) ∷ (name k.Var 40 (codes "x")) ∷ (mark k.OpenBracket 42) ∷ (mark k.OpenBracket 43) ∷ (whole k.Int 44 1) ∷ (mark k.CloseBracket 45) ∷ (mark k.CloseBracket 46) ∷ (mark k.Comma 47) ∷ (name k.Var 49 (codes "x")) ∷ (mark k.OpenBracket 51) ∷ (mark k.OpenBracket 52) ∷ (whole k.Int 53 2) ∷ (mark k.CloseBracket 54) ∷ (mark k.CloseBracket 55) ∷ (name k.Return 57 (codes "return")) ∷ (whole k.Int 64 1) ∷ [])
      ([])
      (codes "XPTY0004 at 41 clause 2 tuple 2")
  -- for $o in json-lines("sales") for $i in $o.items[] let $v := $i.price * $i.qty group by $s := $o.store order by sum($v) descending return {"store": $s, "lines": count($i), "total": sum($v), "last": $o[count($o)].id}
  pub sales : Gives ((name k.For 0 (codes "for")) ∷ (name k.Var 4 (codes "o")) ∷ (name k.In 7 (codes "in")) ∷ (name k.Name 10 (codes "json-lines")) ∷ (mark k.OpenParen 20) ∷ (name k.Text 21 (codes "sales")) ∷ (mark k.CloseParen 28) ∷ (name k.For 30 (codes "for")) ∷ (name k.Var 34 (codes "i")) ∷ (name k.In 37 (codes "in")) ∷ (name k.Var 40 (codes "o")) ∷ (mark k.Dot 42) ∷ (name k.Name 43 (codes "items")) ∷ (mark k.OpenBracket 48) ∷ (mark k.CloseBracket 49) ∷ (name k.Let 51 (codes "let")) ∷ (name k.Var 55 (codes "v")) ∷ (mark k.Assign 58) ∷ (name k.Var 61 (codes "i")) ∷ (mark k.Dot 63) ∷ (name k.Name 64 (codes "price")) ∷ (mark k.Star 70) ∷ (name k.Var 72 (codes "i")) ∷ (mark k.Dot 74) ∷ (name k.Name 75 (codes "qty")) ∷ (name k.Group 79 (codes "group")) ∷ (name k.By 85 (codes "by")) ∷ (name k.Var 88 (codes "s")) ∷ (mark k.Assign 91) ∷ (name k.Var 94 (codes "o")) ∷ (mark k.Dot 96) ∷ (name k.Name 97 (codes "store")) ∷ (name k.Order 103 (codes "order")) ∷ (name k.By 109 (codes "by")) ∷ (name k.Name 112 (codes "sum")) ∷ (mark k.OpenParen 115) ∷ (name k.Var 116 (codes "v")) ∷ (mark k.CloseParen 118) ∷ (name k.Descending 120 (codes "descending")) ∷ (name k.Return 131 (codes "return")) ∷ (mark k.OpenBrace 138) ∷ (name k.Text 139 (codes "store")) ∷ (mark k.Colon 146) ∷ (name k.Var 148 (codes "s")) ∷ (mark k.Comma 150) ∷ (name k.Text 152 (codes "lines")) ∷ (mark k.Colon 159) ∷ (name k.Count 161 (codes "count")) ∷ (mark k.OpenParen 166) ∷ (name k.Var 167 (codes "i")) ∷ (mark k.CloseParen 169) ∷ (mark k.Comma 170) ∷ (name k.Text 172 (codes "total")) ∷ (mark k.Colon 179) ∷ (name k.Name 181 (codes "sum")) ∷ (mark k.OpenParen 184) ∷ (name k.Var 185 (codes "v")) ∷ (mark k.CloseParen 187) ∷ (mark k.Comma 188) ∷ (name k.Text 190 (codes "last")) ∷ (mark k.Colon 196) ∷ (name k.Var 198 (codes "o")) ∷ (mark k.OpenBracket 200) ∷ (name k.Count 201 (codes "count")) ∷ (mark k.OpenParen 206) ∷ (name k.Var 207 (codes "o")) ∷ (mark k.CloseParen 209) ∷ (mark k.CloseBracket 210) ∷ (mark k.Dot 211) ∷ (name k.Name 212 (codes "id")) ∷ (mark k.CloseBrace 214) ∷ [])
      (((codes "sales", Some (Ok ((object_of_pairs (((codes "id", integer (pos 9007199254740993001))) ∷ ((codes "store", text (90 ∷ 252 ∷ 114 ∷ 105 ∷ 99 ∷ 104 ∷ []))) ∷ ((codes "items", array_of_list ((object_of_pairs (((codes "sku", text (codes "A1"))) ∷ ((codes "price", decimal (pos 12500000))) ∷ ((codes "qty", integer (pos 2))) ∷ [])) ∷ (object_of_pairs (((codes "sku", text (codes "B2"))) ∷ ((codes "price", decimal (pos 990000))) ∷ ((codes "qty", integer (pos 10))) ∷ [])) ∷ []))) ∷ [])) ∷ (object_of_pairs (((codes "id", integer (pos 9007199254740993002))) ∷ ((codes "store", text (codes "Bern"))) ∷ ((codes "items", array_of_list ((object_of_pairs (((codes "sku", text (codes "A1"))) ∷ ((codes "price", decimal (pos 12500000))) ∷ ((codes "qty", integer (pos 1))) ∷ [])) ∷ []))) ∷ ((codes "note", null)) ∷ [])) ∷ (object_of_pairs (((codes "id", integer (pos 9007199254740993003))) ∷ ((codes "store", text (90 ∷ 252 ∷ 114 ∷ 105 ∷ 99 ∷ 104 ∷ []))) ∷ ((codes "items", array_of_list ([]))) ∷ [])) ∷ (object_of_pairs (((codes "id", text (codes "9007199254740993004"))) ∷ ((codes "store", text (codes "Bern"))) ∷ ((codes "items", array_of_list ((object_of_pairs (((codes "sku", text (codes "C3"))) ∷ ((codes "price", decimal (pos 100000000))) ∷ ((codes "qty", integer (pos 3))) ∷ [])) ∷ []))) ∷ [])) ∷ [])))) ∷ [])
      (123 ∷ 34 ∷ 115 ∷ 116 ∷ 111 ∷ 114 ∷ 101 ∷ 34 ∷ 58 ∷ 34 ∷ 66 ∷ 101 ∷ 114 ∷ 110 ∷ 34 ∷ 44 ∷ 34 ∷ 108 ∷ 105 ∷ 110 ∷ 101 ∷ 115 ∷ 34 ∷ 58 ∷ 50 ∷ 44 ∷ 34 ∷ 116 ∷ 111 ∷ 116 ∷ 97 ∷ 108 ∷ 34 ∷ 58 ∷ 51 ∷ 49 ∷ 50 ∷ 46 ∷ 53 ∷ 44 ∷ 34 ∷ 108 ∷ 97 ∷ 115 ∷ 116 ∷ 34 ∷ 58 ∷ 34 ∷ 57 ∷ 48 ∷ 48 ∷ 55 ∷ 49 ∷ 57 ∷ 57 ∷ 50 ∷ 53 ∷ 52 ∷ 55 ∷ 52 ∷ 48 ∷ 57 ∷ 57 ∷ 51 ∷ 48 ∷ 48 ∷ 52 ∷ 34 ∷ 125 ∷ 47 ∷ 123 ∷ 34 ∷ 115 ∷ 116 ∷ 111 ∷ 114 ∷ 101 ∷ 34 ∷ 58 ∷ 34 ∷ 90 ∷ 195 ∷ 188 ∷ 114 ∷ 105 ∷ 99 ∷ 104 ∷ 34 ∷ 44 ∷ 34 ∷ 108 ∷ 105 ∷ 110 ∷ 101 ∷ 115 ∷ 34 ∷ 58 ∷ 50 ∷ 44 ∷ 34 ∷ 116 ∷ 111 ∷ 116 ∷ 97 ∷ 108 ∷ 34 ∷ 58 ∷ 51 ∷ 52 ∷ 46 ∷ 57 ∷ 44 ∷ 34 ∷ 108 ∷ 97 ∷ 115 ∷ 116 ∷ 34 ∷ 58 ∷ 57 ∷ 48 ∷ 48 ∷ 55 ∷ 49 ∷ 57 ∷ 57 ∷ 50 ∷ 53 ∷ 52 ∷ 55 ∷ 52 ∷ 48 ∷ 57 ∷ 57 ∷ 51 ∷ 48 ∷ 48 ∷ 49 ∷ 125 ∷ 47 ∷ [])

pub orders_rows : OrdersRows
unfolding digits encode chars num_fixed_fronts.fraction_len num_fixed_fronts.exponent_len num_fixed_fronts.whole_end num_fixed_fronts.fraction_end num_fixed_fronts.number_end num_fixed_fronts.numeral_front num_fixed_fronts.short_whole num_fixed_values.near_natural num_fixed_values.near num_fixed_values.units_said num_fixed_inside_spells.spelled item_tree_dates.days_of_years item_tree_dates.days_of_months item_tree_dates.day_count item_tree_dates.day_number item_tree_jsonstring.code_unit item_tree_inside_words.joined json_text_inside_build.reading json_text_inside_machine.token_from json_text_inside_machine.token_at json_text_inside_machine.run_for json_text_inside_machine.run json_text_inside_scan.numeral_at json_text_inside_scan.pieces_at fn_table_dates.days_after fn_table_dates.days_before grammar_parts_levels.inside grammar_parts_parts.OneWhole grammar_parts_parts.OneBegun grammar_parts_parts.NothingWhole grammar_parts_parts.NothingBegun grammar_parts_parts.OnlyWhole grammar_parts_parts.OnlyBegun grammar_parts_parts.MappedWhole grammar_parts_parts.MappedBegun grammar_parts_parts.SeqWhole grammar_parts_parts.SeqBegun grammar_parts_parts.LongWhole grammar_parts_parts.LongBegun grammar_parts_parts.AltWhole grammar_parts_parts.AltBegun grammar_parts_parts.UnlessWhole grammar_parts_parts.UnlessBegun grammar_parts_parts.AheadWhole grammar_parts_parts.AheadBegun grammar_parts_parts.ManyWhole grammar_parts_parts.ManyBegun grammar_parts_parts.ManyLongWhole grammar_parts_parts.ManyLongBegun grammar_parts_parts.NoneWhole grammar_parts_readers.read_times grammar_parts_readers.read_many query_meaning_calls.own_value query_meaning_calls.call_value query_meaning_choices.if_value query_meaning_choices.switch_value query_meaning_choices.typeswitch_value query_meaning_choices.try_value query_meaning_choices.quantified_value query_meaning_clauses.bound_tuple query_meaning_clauses.for_tuples query_meaning_clauses.let_tuples query_meaning_clauses.where_tuples query_meaning_clauses.count_tuples query_meaning_clauses.each_tuple query_meaning_constructors.array_value query_meaning_constructors.entry_of query_meaning_constructors.object_value query_meaning_constructors.merge_value query_meaning_flwors.return_value query_meaning_flwors.flwor_value query_meaning_groups.group_key_value query_meaning_groups.keyed_tuple query_meaning_groups.group_tuples query_meaning_meaning.meaning query_meaning_operators.comma_value query_meaning_operators.mapped_by query_meaning_operators.map_value query_meaning_operators.text_behind query_meaning_operators.concat_value query_meaning_operators.or_value query_meaning_operators.and_value query_meaning_operators.not_value query_meaning_operators.compare_value query_meaning_operators.range_value query_meaning_operators.with_term query_meaning_operators.sum_value query_meaning_operators.with_factor query_meaning_operators.product_value query_meaning_operators.sign_value query_meaning_operators.cast_as query_meaning_operators.instance_value query_meaning_operators.treat_value query_meaning_operators.cast_to_value query_meaning_operators.castable_value query_meaning_orders.compared_keys query_meaning_orders.order_tuples query_meaning_paths.kept query_meaning_paths.filtered query_meaning_paths.member_value query_meaning_paths.key_value query_meaning_paths.field_value query_meaning_paths.postfix_value query_meaning_queries.global_value query_meaning_queries.query_value query_grammar_classes.is query_grammar_grammar.variable query_grammar_grammar.parens query_grammar_grammar.times query_grammar_grammar.item_type query_grammar_grammar.empty_parens query_grammar_grammar.empty_rest query_grammar_grammar.empty_type query_grammar_grammar.seq_type query_grammar_grammar.single_type query_grammar_grammar.as_type query_grammar_grammar.literal query_grammar_grammar.in_parens query_grammar_grammar.in_braces query_grammar_grammar.content query_grammar_grammar.paren query_grammar_grammar.merge query_grammar_grammar.array query_grammar_grammar.name_key query_grammar_grammar.computed_key query_grammar_grammar.pair_key query_grammar_grammar.pair query_grammar_grammar.pair_list query_grammar_grammar.pairs query_grammar_grammar.object query_grammar_grammar.argument query_grammar_grammar.argument_list query_grammar_grammar.some_arguments query_grammar_grammar.arguments query_grammar_grammar.arity query_grammar_grammar.call query_grammar_grammar.inline_function query_grammar_grammar.primary query_grammar_grammar.members query_grammar_grammar.member query_grammar_grammar.filter query_grammar_grammar.bracket_step query_grammar_grammar.plain_key query_grammar_grammar.computed_lookup query_grammar_grammar.field_step query_grammar_grammar.call_step query_grammar_grammar.step query_grammar_grammar.steps query_grammar_grammar.postfix query_grammar_grammar.mapped_operand query_grammar_grammar.mapped_operands query_grammar_grammar.map_level query_grammar_grammar.sign_mark query_grammar_grammar.sign_marks query_grammar_grammar.sign query_grammar_grammar.cast_type query_grammar_grammar.cast query_grammar_grammar.castable_type query_grammar_grammar.castable query_grammar_grammar.treat_type query_grammar_grammar.treat query_grammar_grammar.instance_type query_grammar_grammar.instance query_grammar_grammar.factor query_grammar_grammar.factors query_grammar_grammar.product query_grammar_grammar.term query_grammar_grammar.terms query_grammar_grammar.sum query_grammar_grammar.range_end query_grammar_grammar.range query_grammar_grammar.concat_operand query_grammar_grammar.concat_operands query_grammar_grammar.concat query_grammar_grammar.compared query_grammar_grammar.comparison query_grammar_grammar.compare query_grammar_grammar.not_level query_grammar_grammar.and_operand query_grammar_grammar.and_operands query_grammar_grammar.and_level query_grammar_grammar.or_operand query_grammar_grammar.or_operands query_grammar_grammar.or_level query_grammar_grammar.allowing query_grammar_grammar.at_variable query_grammar_grammar.for_var query_grammar_grammar.window query_grammar_grammar.for_vars query_grammar_grammar.for_clause query_grammar_grammar.let_var query_grammar_grammar.let_vars query_grammar_grammar.let_clause query_grammar_grammar.first_clause query_grammar_grammar.where_clause query_grammar_grammar.group_value query_grammar_grammar.group_var query_grammar_grammar.group_vars query_grammar_grammar.group_clause query_grammar_grammar.empty_order query_grammar_grammar.direction query_grammar_grammar.order_key query_grammar_grammar.order_list query_grammar_grammar.order_keys query_grammar_grammar.order_clause query_grammar_grammar.count_clause query_grammar_grammar.one_clause query_grammar_grammar.clause query_grammar_grammar.returned query_grammar_grammar.clauses query_grammar_grammar.flwor query_grammar_grammar.bind query_grammar_grammar.binds query_grammar_grammar.quant query_grammar_grammar.case_test query_grammar_grammar.case_tests query_grammar_grammar.case query_grammar_grammar.cases query_grammar_grammar.switch query_grammar_grammar.seq_types query_grammar_grammar.case_variable query_grammar_grammar.type_case query_grammar_grammar.default_variable query_grammar_grammar.type_default query_grammar_grammar.type_cases query_grammar_grammar.typeswitch query_grammar_grammar.if query_grammar_grammar.catch_names query_grammar_grammar.catch_codes query_grammar_grammar.catch query_grammar_grammar.catches query_grammar_grammar.try query_grammar_grammar.single query_grammar_grammar.comma_operand query_grammar_grammar.comma_operands query_grammar_grammar.expr query_grammar_grammar.param query_grammar_grammar.variable_declaration query_grammar_grammar.param_list query_grammar_grammar.some_params query_grammar_grammar.params query_grammar_grammar.function_body query_grammar_grammar.function_declaration query_grammar_grammar.declaration query_grammar_grammar.declarations query_grammar_grammar.module_part
orders_rows = record {
  orders = refl;
  descending = refl;
  empty_greatest = refl;
  empty_least = refl;
  stable_orders = refl;
  two_columns = refl;
  clash = refl;
  clash_before_a_later_fault = refl;
  fault_before_a_later_clash = refl;
  key_of_two_items_in_an_order = refl;
  clash_in_the_first_column = refl;
  sales = refl;
}
