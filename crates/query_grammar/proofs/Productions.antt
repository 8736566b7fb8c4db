-- Written by tools/grammar_laws.py from the productions of specs/Grammar.antt. Change those, and run it again.
-- The laws of the productions: each is read as it derives, whatever may nest.
use Rattle.std.proofs.Common.{◌≡◌, true, false, List, [], ◌∷◌, refl}
use Rattle.std.specs.Prelude.{◌&&◌}
use Rattle.grammar_parts.specs.Tokens.{Class, never}
use Rattle.grammar_parts.specs.Levels.{Mode}
use Rattle.grammar_parts.proofs.AllKinds.{kinds_of}
use Rattle.grammar_parts.proofs.Modes.{Language, Set, named, one_at, only_at, unless_at, mapped_at, alt_at, opt_at, seq_at, behind_at, long_at, many_at, many_long_at, ahead_at}
use Rattle.grammar_parts.proofs.Levels.{Sets, Ground, Law, LawInside, Lawful}
use Rattle.query_grammar.specs.contracts.word.Kind.{the_type}
use Rattle.query_grammar.specs.declared.word.Kind.{Kind}
use Rattle.query_grammar.specs.declared.word.Kind.TheVariants as k
use Rattle.query_grammar.specs.declared.word.Word.{Word}
use Rattle.query_grammar.specs.declared.part.Part.{Part}
use Rattle.query_grammar.specs.declared.part.Part.TheVariants as i
use Rattle.query_grammar.specs.Nodes.{Tree}
use Rattle.query_grammar.specs.Classes.{is, given, is_name, is_call_name, is_type_name, is_literal, is_lookup_key, is_sum_op, is_product_op, is_compare_op, is_times, is_direction, is_extreme, is_quantifier, is_window, single_first, pair_first, argument_first, step_first, order_clause_first, first_clause_first, clause_first, flwor_first}
use Rattle.query_grammar.specs.Grammar as g

abbrev pub all_kinds : List Kind
all_kinds = k.Declare ∷ k.Variable ∷ k.Function ∷ k.As ∷ k.Return ∷ k.For ∷ k.Allowing ∷ k.Empty ∷ k.At ∷ k.In ∷ k.Let ∷ k.Where ∷ k.Group ∷ k.By ∷ k.Stable ∷ k.Order ∷ k.Ascending ∷ k.Descending ∷ k.Least ∷ k.Greatest ∷ k.Count ∷ k.Some ∷ k.Every ∷ k.Satisfies ∷ k.Switch ∷ k.Case ∷ k.Default ∷ k.Typeswitch ∷ k.If ∷ k.Then ∷ k.Else ∷ k.Try ∷ k.Catch ∷ k.Or ∷ k.And ∷ k.Not ∷ k.Eq ∷ k.Ne ∷ k.Lt ∷ k.Le ∷ k.Gt ∷ k.Ge ∷ k.To ∷ k.Div ∷ k.Idiv ∷ k.Mod ∷ k.Instance ∷ k.Of ∷ k.Treat ∷ k.Castable ∷ k.Cast ∷ k.True ∷ k.False ∷ k.Null ∷ k.EmptySequence ∷ k.Tumbling ∷ k.Sliding ∷ k.Name ∷ k.Var ∷ k.Context ∷ k.Int ∷ k.Dec ∷ k.Double ∷ k.Text ∷ k.OpenMerge ∷ k.CloseMerge ∷ k.Bars ∷ k.Assign ∷ k.Differs ∷ k.AtMost ∷ k.AtLeast ∷ k.OpenParen ∷ k.CloseParen ∷ k.OpenBracket ∷ k.CloseBracket ∷ k.OpenBrace ∷ k.CloseBrace ∷ k.Comma ∷ k.Semicolon ∷ k.Colon ∷ k.Dot ∷ k.Bang ∷ k.Bar ∷ k.Plus ∷ k.Minus ∷ k.Star ∷ k.Equals ∷ k.Less ∷ k.Greater ∷ k.Hash ∷ k.Question ∷ []

abbrev pub language : Language Word Kind
language = record { kind = λ w. w.kind; kinds = kinds_of the_type tt all_kinds refl refl }

abbrev pub empty_rest_firsts : Set Kind
empty_rest_firsts m k.OpenParen = true
empty_rest_firsts m k.Plus = true
empty_rest_firsts m k.Star = true
empty_rest_firsts m k.Question = true
empty_rest_firsts m _ = false

abbrev pub as_type_ext : Set Kind
as_type_ext m k.As = true
as_type_ext m k.OpenParen = true
as_type_ext m k.Plus = true
as_type_ext m k.Star = true
as_type_ext m k.Question = true
as_type_ext m _ = false

abbrev pub for_var_ext : Set Kind
for_var_ext m k.Catch = true
for_var_ext m k.Or = true
for_var_ext m k.And = true
for_var_ext m k.Eq = true
for_var_ext m k.Ne = true
for_var_ext m k.Lt = true
for_var_ext m k.Le = true
for_var_ext m k.Gt = true
for_var_ext m k.Ge = true
for_var_ext m k.To = true
for_var_ext m k.Div = true
for_var_ext m k.Idiv = true
for_var_ext m k.Mod = true
for_var_ext m k.Instance = true
for_var_ext m k.Treat = true
for_var_ext m k.Castable = true
for_var_ext m k.Cast = true
for_var_ext m k.Bars = true
for_var_ext m k.Differs = true
for_var_ext m k.AtMost = true
for_var_ext m k.AtLeast = true
for_var_ext m k.OpenParen = true
for_var_ext m k.OpenBracket = true
for_var_ext m k.Dot = true
for_var_ext m k.Bang = true
for_var_ext m k.Plus = true
for_var_ext m k.Minus = true
for_var_ext m k.Star = true
for_var_ext m k.Equals = true
for_var_ext m k.Less = true
for_var_ext m k.Greater = true
for_var_ext m k.Question = true
for_var_ext m _ = false

abbrev pub for_vars_ext : Set Kind
for_vars_ext m k.Catch = true
for_vars_ext m k.Or = true
for_vars_ext m k.And = true
for_vars_ext m k.Eq = true
for_vars_ext m k.Ne = true
for_vars_ext m k.Lt = true
for_vars_ext m k.Le = true
for_vars_ext m k.Gt = true
for_vars_ext m k.Ge = true
for_vars_ext m k.To = true
for_vars_ext m k.Div = true
for_vars_ext m k.Idiv = true
for_vars_ext m k.Mod = true
for_vars_ext m k.Instance = true
for_vars_ext m k.Treat = true
for_vars_ext m k.Castable = true
for_vars_ext m k.Cast = true
for_vars_ext m k.Bars = true
for_vars_ext m k.Differs = true
for_vars_ext m k.AtMost = true
for_vars_ext m k.AtLeast = true
for_vars_ext m k.OpenParen = true
for_vars_ext m k.OpenBracket = true
for_vars_ext m k.Comma = true
for_vars_ext m k.Dot = true
for_vars_ext m k.Bang = true
for_vars_ext m k.Plus = true
for_vars_ext m k.Minus = true
for_vars_ext m k.Star = true
for_vars_ext m k.Equals = true
for_vars_ext m k.Less = true
for_vars_ext m k.Greater = true
for_vars_ext m k.Question = true
for_vars_ext m _ = false

abbrev pub group_value_ext : Set Kind
group_value_ext m k.Catch = true
group_value_ext m k.Or = true
group_value_ext m k.And = true
group_value_ext m k.Eq = true
group_value_ext m k.Ne = true
group_value_ext m k.Lt = true
group_value_ext m k.Le = true
group_value_ext m k.Gt = true
group_value_ext m k.Ge = true
group_value_ext m k.To = true
group_value_ext m k.Div = true
group_value_ext m k.Idiv = true
group_value_ext m k.Mod = true
group_value_ext m k.Instance = true
group_value_ext m k.Treat = true
group_value_ext m k.Castable = true
group_value_ext m k.Cast = true
group_value_ext m k.Bars = true
group_value_ext m k.Assign = true
group_value_ext m k.Differs = true
group_value_ext m k.AtMost = true
group_value_ext m k.AtLeast = true
group_value_ext m k.OpenParen = true
group_value_ext m k.OpenBracket = true
group_value_ext m k.Dot = true
group_value_ext m k.Bang = true
group_value_ext m k.Plus = true
group_value_ext m k.Minus = true
group_value_ext m k.Star = true
group_value_ext m k.Equals = true
group_value_ext m k.Less = true
group_value_ext m k.Greater = true
group_value_ext m k.Question = true
group_value_ext m _ = false

abbrev pub group_vars_ext : Set Kind
group_vars_ext m k.Catch = true
group_vars_ext m k.Or = true
group_vars_ext m k.And = true
group_vars_ext m k.Eq = true
group_vars_ext m k.Ne = true
group_vars_ext m k.Lt = true
group_vars_ext m k.Le = true
group_vars_ext m k.Gt = true
group_vars_ext m k.Ge = true
group_vars_ext m k.To = true
group_vars_ext m k.Div = true
group_vars_ext m k.Idiv = true
group_vars_ext m k.Mod = true
group_vars_ext m k.Instance = true
group_vars_ext m k.Treat = true
group_vars_ext m k.Castable = true
group_vars_ext m k.Cast = true
group_vars_ext m k.Bars = true
group_vars_ext m k.Assign = true
group_vars_ext m k.Differs = true
group_vars_ext m k.AtMost = true
group_vars_ext m k.AtLeast = true
group_vars_ext m k.OpenParen = true
group_vars_ext m k.OpenBracket = true
group_vars_ext m k.Comma = true
group_vars_ext m k.Dot = true
group_vars_ext m k.Bang = true
group_vars_ext m k.Plus = true
group_vars_ext m k.Minus = true
group_vars_ext m k.Star = true
group_vars_ext m k.Equals = true
group_vars_ext m k.Less = true
group_vars_ext m k.Greater = true
group_vars_ext m k.Question = true
group_vars_ext m _ = false

abbrev pub order_key_ext : Set Kind
order_key_ext m k.Empty = true
order_key_ext m k.Ascending = true
order_key_ext m k.Descending = true
order_key_ext m k.Catch = true
order_key_ext m k.Or = true
order_key_ext m k.And = true
order_key_ext m k.Eq = true
order_key_ext m k.Ne = true
order_key_ext m k.Lt = true
order_key_ext m k.Le = true
order_key_ext m k.Gt = true
order_key_ext m k.Ge = true
order_key_ext m k.To = true
order_key_ext m k.Div = true
order_key_ext m k.Idiv = true
order_key_ext m k.Mod = true
order_key_ext m k.Instance = true
order_key_ext m k.Treat = true
order_key_ext m k.Castable = true
order_key_ext m k.Cast = true
order_key_ext m k.Bars = true
order_key_ext m k.Differs = true
order_key_ext m k.AtMost = true
order_key_ext m k.AtLeast = true
order_key_ext m k.OpenParen = true
order_key_ext m k.OpenBracket = true
order_key_ext m k.Dot = true
order_key_ext m k.Bang = true
order_key_ext m k.Plus = true
order_key_ext m k.Minus = true
order_key_ext m k.Star = true
order_key_ext m k.Equals = true
order_key_ext m k.Less = true
order_key_ext m k.Greater = true
order_key_ext m k.Question = true
order_key_ext m _ = false

abbrev pub order_list_ext : Set Kind
order_list_ext m k.Empty = true
order_list_ext m k.Ascending = true
order_list_ext m k.Descending = true
order_list_ext m k.Catch = true
order_list_ext m k.Or = true
order_list_ext m k.And = true
order_list_ext m k.Eq = true
order_list_ext m k.Ne = true
order_list_ext m k.Lt = true
order_list_ext m k.Le = true
order_list_ext m k.Gt = true
order_list_ext m k.Ge = true
order_list_ext m k.To = true
order_list_ext m k.Div = true
order_list_ext m k.Idiv = true
order_list_ext m k.Mod = true
order_list_ext m k.Instance = true
order_list_ext m k.Treat = true
order_list_ext m k.Castable = true
order_list_ext m k.Cast = true
order_list_ext m k.Bars = true
order_list_ext m k.Differs = true
order_list_ext m k.AtMost = true
order_list_ext m k.AtLeast = true
order_list_ext m k.OpenParen = true
order_list_ext m k.OpenBracket = true
order_list_ext m k.Comma = true
order_list_ext m k.Dot = true
order_list_ext m k.Bang = true
order_list_ext m k.Plus = true
order_list_ext m k.Minus = true
order_list_ext m k.Star = true
order_list_ext m k.Equals = true
order_list_ext m k.Less = true
order_list_ext m k.Greater = true
order_list_ext m k.Question = true
order_list_ext m _ = false

abbrev pub one_clause_firsts : Set Kind
one_clause_firsts m k.Stable = true
one_clause_firsts m k.Order = true
one_clause_firsts m k.Count = true
one_clause_firsts m _ = false

abbrev pub one_clause_firsts_2 : Set Kind
one_clause_firsts_2 m k.Group = true
one_clause_firsts_2 m k.Stable = true
one_clause_firsts_2 m k.Order = true
one_clause_firsts_2 m k.Count = true
one_clause_firsts_2 m _ = false

abbrev pub one_clause_ext : Set Kind
one_clause_ext m k.Empty = true
one_clause_ext m k.Ascending = true
one_clause_ext m k.Descending = true
one_clause_ext m k.Catch = true
one_clause_ext m k.Or = true
one_clause_ext m k.And = true
one_clause_ext m k.Eq = true
one_clause_ext m k.Ne = true
one_clause_ext m k.Lt = true
one_clause_ext m k.Le = true
one_clause_ext m k.Gt = true
one_clause_ext m k.Ge = true
one_clause_ext m k.To = true
one_clause_ext m k.Div = true
one_clause_ext m k.Idiv = true
one_clause_ext m k.Mod = true
one_clause_ext m k.Instance = true
one_clause_ext m k.Treat = true
one_clause_ext m k.Castable = true
one_clause_ext m k.Cast = true
one_clause_ext m k.Bars = true
one_clause_ext m k.Assign = true
one_clause_ext m k.Differs = true
one_clause_ext m k.AtMost = true
one_clause_ext m k.AtLeast = true
one_clause_ext m k.OpenParen = true
one_clause_ext m k.OpenBracket = true
one_clause_ext m k.Comma = true
one_clause_ext m k.Dot = true
one_clause_ext m k.Bang = true
one_clause_ext m k.Plus = true
one_clause_ext m k.Minus = true
one_clause_ext m k.Star = true
one_clause_ext m k.Equals = true
one_clause_ext m k.Less = true
one_clause_ext m k.Greater = true
one_clause_ext m k.Question = true
one_clause_ext m _ = false

abbrev pub one_clause_firsts_3 : Set Kind
one_clause_firsts_3 m k.Where = true
one_clause_firsts_3 m k.Group = true
one_clause_firsts_3 m k.Stable = true
one_clause_firsts_3 m k.Order = true
one_clause_firsts_3 m k.Count = true
one_clause_firsts_3 m _ = false

abbrev pub clauses_ext : Set Kind
clauses_ext m k.For = true
clauses_ext m k.Empty = true
clauses_ext m k.Let = true
clauses_ext m k.Where = true
clauses_ext m k.Group = true
clauses_ext m k.Stable = true
clauses_ext m k.Order = true
clauses_ext m k.Ascending = true
clauses_ext m k.Descending = true
clauses_ext m k.Count = true
clauses_ext m k.Catch = true
clauses_ext m k.Or = true
clauses_ext m k.And = true
clauses_ext m k.Eq = true
clauses_ext m k.Ne = true
clauses_ext m k.Lt = true
clauses_ext m k.Le = true
clauses_ext m k.Gt = true
clauses_ext m k.Ge = true
clauses_ext m k.To = true
clauses_ext m k.Div = true
clauses_ext m k.Idiv = true
clauses_ext m k.Mod = true
clauses_ext m k.Instance = true
clauses_ext m k.Treat = true
clauses_ext m k.Castable = true
clauses_ext m k.Cast = true
clauses_ext m k.Bars = true
clauses_ext m k.Assign = true
clauses_ext m k.Differs = true
clauses_ext m k.AtMost = true
clauses_ext m k.AtLeast = true
clauses_ext m k.OpenParen = true
clauses_ext m k.OpenBracket = true
clauses_ext m k.Comma = true
clauses_ext m k.Dot = true
clauses_ext m k.Bang = true
clauses_ext m k.Plus = true
clauses_ext m k.Minus = true
clauses_ext m k.Star = true
clauses_ext m k.Equals = true
clauses_ext m k.Less = true
clauses_ext m k.Greater = true
clauses_ext m k.Question = true
clauses_ext m _ = false

abbrev pub case_tests_ext : Set Kind
case_tests_ext m k.Case = true
case_tests_ext m k.Catch = true
case_tests_ext m k.Or = true
case_tests_ext m k.And = true
case_tests_ext m k.Eq = true
case_tests_ext m k.Ne = true
case_tests_ext m k.Lt = true
case_tests_ext m k.Le = true
case_tests_ext m k.Gt = true
case_tests_ext m k.Ge = true
case_tests_ext m k.To = true
case_tests_ext m k.Div = true
case_tests_ext m k.Idiv = true
case_tests_ext m k.Mod = true
case_tests_ext m k.Instance = true
case_tests_ext m k.Treat = true
case_tests_ext m k.Castable = true
case_tests_ext m k.Cast = true
case_tests_ext m k.Bars = true
case_tests_ext m k.Differs = true
case_tests_ext m k.AtMost = true
case_tests_ext m k.AtLeast = true
case_tests_ext m k.OpenParen = true
case_tests_ext m k.OpenBracket = true
case_tests_ext m k.Dot = true
case_tests_ext m k.Bang = true
case_tests_ext m k.Plus = true
case_tests_ext m k.Minus = true
case_tests_ext m k.Star = true
case_tests_ext m k.Equals = true
case_tests_ext m k.Less = true
case_tests_ext m k.Greater = true
case_tests_ext m k.Question = true
case_tests_ext m _ = false

abbrev pub seq_types_ext : Set Kind
seq_types_ext m k.OpenParen = true
seq_types_ext m k.Bar = true
seq_types_ext m k.Plus = true
seq_types_ext m k.Star = true
seq_types_ext m k.Question = true
seq_types_ext m _ = false

abbrev pub catch_codes_firsts : Set Kind
catch_codes_firsts m k.Var = false
catch_codes_firsts m k.Context = false
catch_codes_firsts m k.Int = false
catch_codes_firsts m k.Dec = false
catch_codes_firsts m k.Double = false
catch_codes_firsts m k.Text = false
catch_codes_firsts m k.OpenMerge = false
catch_codes_firsts m k.CloseMerge = false
catch_codes_firsts m k.Bars = false
catch_codes_firsts m k.Assign = false
catch_codes_firsts m k.Differs = false
catch_codes_firsts m k.AtMost = false
catch_codes_firsts m k.AtLeast = false
catch_codes_firsts m k.OpenParen = false
catch_codes_firsts m k.CloseParen = false
catch_codes_firsts m k.OpenBracket = false
catch_codes_firsts m k.CloseBracket = false
catch_codes_firsts m k.OpenBrace = false
catch_codes_firsts m k.CloseBrace = false
catch_codes_firsts m k.Comma = false
catch_codes_firsts m k.Semicolon = false
catch_codes_firsts m k.Colon = false
catch_codes_firsts m k.Dot = false
catch_codes_firsts m k.Bang = false
catch_codes_firsts m k.Bar = false
catch_codes_firsts m k.Plus = false
catch_codes_firsts m k.Minus = false
catch_codes_firsts m k.Equals = false
catch_codes_firsts m k.Less = false
catch_codes_firsts m k.Greater = false
catch_codes_firsts m k.Hash = false
catch_codes_firsts m k.Question = false
catch_codes_firsts m _ = true

abbrev pub content_ext : Set Kind
content_ext m k.Declare = false
content_ext m k.EmptySequence = false
content_ext m k.CloseMerge = false
content_ext m k.Assign = false
content_ext m k.CloseParen = false
content_ext m k.CloseBracket = false
content_ext m k.CloseBrace = false
content_ext m k.Semicolon = false
content_ext m k.Colon = false
content_ext m k.Bar = false
content_ext m k.Hash = false
content_ext m _ = true

abbrev pub pairs_ext : Set Kind
pairs_ext m k.CloseMerge = false
pairs_ext m k.Assign = false
pairs_ext m k.CloseParen = false
pairs_ext m k.CloseBracket = false
pairs_ext m k.CloseBrace = false
pairs_ext m k.Semicolon = false
pairs_ext m k.Colon = false
pairs_ext m k.Bar = false
pairs_ext m k.Hash = false
pairs_ext m _ = true

abbrev pub primary_firsts : Set Kind
primary_firsts m k.Variable = m.room
primary_firsts m k.Function = m.wide
primary_firsts m k.As = m.room
primary_firsts m k.Return = m.room
primary_firsts m k.Allowing = m.room
primary_firsts m k.Empty = m.room
primary_firsts m k.At = m.room
primary_firsts m k.In = m.room
primary_firsts m k.Where = m.room
primary_firsts m k.Group = m.room
primary_firsts m k.By = m.room
primary_firsts m k.Stable = m.room
primary_firsts m k.Order = m.room
primary_firsts m k.Ascending = m.room
primary_firsts m k.Descending = m.room
primary_firsts m k.Least = m.room
primary_firsts m k.Greatest = m.room
primary_firsts m k.Count = m.room
primary_firsts m k.Satisfies = m.room
primary_firsts m k.Case = m.room
primary_firsts m k.Default = m.room
primary_firsts m k.Then = m.room
primary_firsts m k.Else = m.room
primary_firsts m k.Catch = m.room
primary_firsts m k.Or = m.room
primary_firsts m k.And = m.room
primary_firsts m k.Eq = m.room
primary_firsts m k.Ne = m.room
primary_firsts m k.Lt = m.room
primary_firsts m k.Le = m.room
primary_firsts m k.Gt = m.room
primary_firsts m k.Ge = m.room
primary_firsts m k.To = m.room
primary_firsts m k.Div = m.room
primary_firsts m k.Idiv = m.room
primary_firsts m k.Mod = m.room
primary_firsts m k.Instance = m.room
primary_firsts m k.Of = m.room
primary_firsts m k.Treat = m.room
primary_firsts m k.Castable = m.room
primary_firsts m k.Cast = m.room
primary_firsts m k.Tumbling = m.room
primary_firsts m k.Sliding = m.room
primary_firsts m k.Name = m.room
primary_firsts m _ = false

abbrev pub primary_firsts_2 : Set Kind
primary_firsts_2 m k.Variable = m.room
primary_firsts_2 m k.Function = m.wide
primary_firsts_2 m k.As = m.room
primary_firsts_2 m k.Return = m.room
primary_firsts_2 m k.Allowing = m.room
primary_firsts_2 m k.Empty = m.room
primary_firsts_2 m k.At = m.room
primary_firsts_2 m k.In = m.room
primary_firsts_2 m k.Where = m.room
primary_firsts_2 m k.Group = m.room
primary_firsts_2 m k.By = m.room
primary_firsts_2 m k.Stable = m.room
primary_firsts_2 m k.Order = m.room
primary_firsts_2 m k.Ascending = m.room
primary_firsts_2 m k.Descending = m.room
primary_firsts_2 m k.Least = m.room
primary_firsts_2 m k.Greatest = m.room
primary_firsts_2 m k.Count = m.room
primary_firsts_2 m k.Satisfies = m.room
primary_firsts_2 m k.Case = m.room
primary_firsts_2 m k.Default = m.room
primary_firsts_2 m k.Then = m.room
primary_firsts_2 m k.Else = m.room
primary_firsts_2 m k.Catch = m.room
primary_firsts_2 m k.Or = m.room
primary_firsts_2 m k.And = m.room
primary_firsts_2 m k.Eq = m.room
primary_firsts_2 m k.Ne = m.room
primary_firsts_2 m k.Lt = m.room
primary_firsts_2 m k.Le = m.room
primary_firsts_2 m k.Gt = m.room
primary_firsts_2 m k.Ge = m.room
primary_firsts_2 m k.To = m.room
primary_firsts_2 m k.Div = m.room
primary_firsts_2 m k.Idiv = m.room
primary_firsts_2 m k.Mod = m.room
primary_firsts_2 m k.Instance = m.room
primary_firsts_2 m k.Of = m.room
primary_firsts_2 m k.Treat = m.room
primary_firsts_2 m k.Castable = m.room
primary_firsts_2 m k.Cast = m.room
primary_firsts_2 m k.Tumbling = m.room
primary_firsts_2 m k.Sliding = m.room
primary_firsts_2 m k.Name = m.room
primary_firsts_2 m k.OpenBracket = m.room
primary_firsts_2 m _ = false

abbrev pub primary_firsts_3 : Set Kind
primary_firsts_3 m k.Variable = m.room
primary_firsts_3 m k.Function = m.wide
primary_firsts_3 m k.As = m.room
primary_firsts_3 m k.Return = m.room
primary_firsts_3 m k.Allowing = m.room
primary_firsts_3 m k.Empty = m.room
primary_firsts_3 m k.At = m.room
primary_firsts_3 m k.In = m.room
primary_firsts_3 m k.Where = m.room
primary_firsts_3 m k.Group = m.room
primary_firsts_3 m k.By = m.room
primary_firsts_3 m k.Stable = m.room
primary_firsts_3 m k.Order = m.room
primary_firsts_3 m k.Ascending = m.room
primary_firsts_3 m k.Descending = m.room
primary_firsts_3 m k.Least = m.room
primary_firsts_3 m k.Greatest = m.room
primary_firsts_3 m k.Count = m.room
primary_firsts_3 m k.Satisfies = m.room
primary_firsts_3 m k.Case = m.room
primary_firsts_3 m k.Default = m.room
primary_firsts_3 m k.Then = m.room
primary_firsts_3 m k.Else = m.room
primary_firsts_3 m k.Catch = m.room
primary_firsts_3 m k.Or = m.room
primary_firsts_3 m k.And = m.room
primary_firsts_3 m k.Eq = m.room
primary_firsts_3 m k.Ne = m.room
primary_firsts_3 m k.Lt = m.room
primary_firsts_3 m k.Le = m.room
primary_firsts_3 m k.Gt = m.room
primary_firsts_3 m k.Ge = m.room
primary_firsts_3 m k.To = m.room
primary_firsts_3 m k.Div = m.room
primary_firsts_3 m k.Idiv = m.room
primary_firsts_3 m k.Mod = m.room
primary_firsts_3 m k.Instance = m.room
primary_firsts_3 m k.Of = m.room
primary_firsts_3 m k.Treat = m.room
primary_firsts_3 m k.Castable = m.room
primary_firsts_3 m k.Cast = m.room
primary_firsts_3 m k.Tumbling = m.room
primary_firsts_3 m k.Sliding = m.room
primary_firsts_3 m k.Name = m.room
primary_firsts_3 m k.OpenMerge = m.room
primary_firsts_3 m k.OpenBracket = m.room
primary_firsts_3 m _ = false

abbrev pub primary_firsts_4 : Set Kind
primary_firsts_4 m k.Declare = false
primary_firsts_4 m k.Function = m.wide
primary_firsts_4 m k.For = false
primary_firsts_4 m k.Let = false
primary_firsts_4 m k.Some = false
primary_firsts_4 m k.Every = false
primary_firsts_4 m k.Switch = false
primary_firsts_4 m k.Typeswitch = false
primary_firsts_4 m k.If = false
primary_firsts_4 m k.Try = false
primary_firsts_4 m k.Not = false
primary_firsts_4 m k.True = false
primary_firsts_4 m k.False = false
primary_firsts_4 m k.Null = false
primary_firsts_4 m k.EmptySequence = false
primary_firsts_4 m k.Var = false
primary_firsts_4 m k.Context = false
primary_firsts_4 m k.Int = false
primary_firsts_4 m k.Dec = false
primary_firsts_4 m k.Double = false
primary_firsts_4 m k.Text = false
primary_firsts_4 m k.CloseMerge = false
primary_firsts_4 m k.Bars = false
primary_firsts_4 m k.Assign = false
primary_firsts_4 m k.Differs = false
primary_firsts_4 m k.AtMost = false
primary_firsts_4 m k.AtLeast = false
primary_firsts_4 m k.OpenParen = false
primary_firsts_4 m k.CloseParen = false
primary_firsts_4 m k.CloseBracket = false
primary_firsts_4 m k.CloseBrace = false
primary_firsts_4 m k.Comma = false
primary_firsts_4 m k.Semicolon = false
primary_firsts_4 m k.Colon = false
primary_firsts_4 m k.Dot = false
primary_firsts_4 m k.Bang = false
primary_firsts_4 m k.Bar = false
primary_firsts_4 m k.Plus = false
primary_firsts_4 m k.Minus = false
primary_firsts_4 m k.Star = false
primary_firsts_4 m k.Equals = false
primary_firsts_4 m k.Less = false
primary_firsts_4 m k.Greater = false
primary_firsts_4 m k.Hash = false
primary_firsts_4 m k.Question = false
primary_firsts_4 m _ = m.room

abbrev pub primary_firsts_5 : Set Kind
primary_firsts_5 m k.Declare = false
primary_firsts_5 m k.Function = m.wide
primary_firsts_5 m k.For = false
primary_firsts_5 m k.Let = false
primary_firsts_5 m k.Some = false
primary_firsts_5 m k.Every = false
primary_firsts_5 m k.Switch = false
primary_firsts_5 m k.Typeswitch = false
primary_firsts_5 m k.If = false
primary_firsts_5 m k.Try = false
primary_firsts_5 m k.Not = false
primary_firsts_5 m k.True = false
primary_firsts_5 m k.False = false
primary_firsts_5 m k.Null = false
primary_firsts_5 m k.EmptySequence = false
primary_firsts_5 m k.Var = false
primary_firsts_5 m k.Context = false
primary_firsts_5 m k.Int = false
primary_firsts_5 m k.Dec = false
primary_firsts_5 m k.Double = false
primary_firsts_5 m k.Text = false
primary_firsts_5 m k.CloseMerge = false
primary_firsts_5 m k.Bars = false
primary_firsts_5 m k.Assign = false
primary_firsts_5 m k.Differs = false
primary_firsts_5 m k.AtMost = false
primary_firsts_5 m k.AtLeast = false
primary_firsts_5 m k.CloseParen = false
primary_firsts_5 m k.CloseBracket = false
primary_firsts_5 m k.CloseBrace = false
primary_firsts_5 m k.Comma = false
primary_firsts_5 m k.Semicolon = false
primary_firsts_5 m k.Colon = false
primary_firsts_5 m k.Dot = false
primary_firsts_5 m k.Bang = false
primary_firsts_5 m k.Bar = false
primary_firsts_5 m k.Plus = false
primary_firsts_5 m k.Minus = false
primary_firsts_5 m k.Star = false
primary_firsts_5 m k.Equals = false
primary_firsts_5 m k.Less = false
primary_firsts_5 m k.Greater = false
primary_firsts_5 m k.Hash = false
primary_firsts_5 m k.Question = false
primary_firsts_5 m _ = m.room

abbrev pub primary_firsts_6 : Set Kind
primary_firsts_6 m k.Declare = false
primary_firsts_6 m k.Function = m.wide
primary_firsts_6 m k.For = false
primary_firsts_6 m k.Let = false
primary_firsts_6 m k.Some = false
primary_firsts_6 m k.Every = false
primary_firsts_6 m k.Switch = false
primary_firsts_6 m k.Typeswitch = false
primary_firsts_6 m k.If = false
primary_firsts_6 m k.Try = false
primary_firsts_6 m k.Not = false
primary_firsts_6 m k.True = true
primary_firsts_6 m k.False = true
primary_firsts_6 m k.Null = true
primary_firsts_6 m k.EmptySequence = false
primary_firsts_6 m k.Var = true
primary_firsts_6 m k.Context = true
primary_firsts_6 m k.Int = true
primary_firsts_6 m k.Dec = true
primary_firsts_6 m k.Double = m.wide
primary_firsts_6 m k.Text = true
primary_firsts_6 m k.CloseMerge = false
primary_firsts_6 m k.Bars = false
primary_firsts_6 m k.Assign = false
primary_firsts_6 m k.Differs = false
primary_firsts_6 m k.AtMost = false
primary_firsts_6 m k.AtLeast = false
primary_firsts_6 m k.CloseParen = false
primary_firsts_6 m k.CloseBracket = false
primary_firsts_6 m k.CloseBrace = false
primary_firsts_6 m k.Comma = false
primary_firsts_6 m k.Semicolon = false
primary_firsts_6 m k.Colon = false
primary_firsts_6 m k.Dot = false
primary_firsts_6 m k.Bang = false
primary_firsts_6 m k.Bar = false
primary_firsts_6 m k.Plus = false
primary_firsts_6 m k.Minus = false
primary_firsts_6 m k.Star = false
primary_firsts_6 m k.Equals = false
primary_firsts_6 m k.Less = false
primary_firsts_6 m k.Greater = false
primary_firsts_6 m k.Hash = false
primary_firsts_6 m k.Question = false
primary_firsts_6 m _ = m.room

abbrev pub filter_firsts : Set Kind
filter_firsts m k.Declare = false
filter_firsts m k.Function = m.wide && m.room
filter_firsts m k.Not = m.room
filter_firsts m k.True = m.room
filter_firsts m k.False = m.room
filter_firsts m k.Null = m.room
filter_firsts m k.EmptySequence = false
filter_firsts m k.Var = m.room
filter_firsts m k.Context = m.room
filter_firsts m k.Int = m.room
filter_firsts m k.Dec = m.room
filter_firsts m k.Double = m.wide && m.room
filter_firsts m k.Text = m.room
filter_firsts m k.CloseMerge = false
filter_firsts m k.Bars = false
filter_firsts m k.Assign = false
filter_firsts m k.Differs = false
filter_firsts m k.AtMost = false
filter_firsts m k.AtLeast = false
filter_firsts m k.CloseParen = false
filter_firsts m k.OpenBracket = false
filter_firsts m k.CloseBracket = false
filter_firsts m k.CloseBrace = false
filter_firsts m k.Comma = false
filter_firsts m k.Semicolon = false
filter_firsts m k.Colon = false
filter_firsts m k.Dot = false
filter_firsts m k.Bang = false
filter_firsts m k.Bar = false
filter_firsts m k.Plus = m.room
filter_firsts m k.Minus = m.room
filter_firsts m k.Star = false
filter_firsts m k.Equals = false
filter_firsts m k.Less = false
filter_firsts m k.Greater = false
filter_firsts m k.Hash = false
filter_firsts m k.Question = false
filter_firsts m _ = m.room && m.room_in

abbrev pub bracket_step_firsts : Set Kind
bracket_step_firsts m k.Declare = false
bracket_step_firsts m k.Function = m.wide && m.room
bracket_step_firsts m k.Not = m.room
bracket_step_firsts m k.True = m.room
bracket_step_firsts m k.False = m.room
bracket_step_firsts m k.Null = m.room
bracket_step_firsts m k.EmptySequence = false
bracket_step_firsts m k.Var = m.room
bracket_step_firsts m k.Context = m.room
bracket_step_firsts m k.Int = m.room
bracket_step_firsts m k.Dec = m.room
bracket_step_firsts m k.Double = m.wide && m.room
bracket_step_firsts m k.Text = m.room
bracket_step_firsts m k.CloseMerge = false
bracket_step_firsts m k.Bars = false
bracket_step_firsts m k.Assign = false
bracket_step_firsts m k.Differs = false
bracket_step_firsts m k.AtMost = false
bracket_step_firsts m k.AtLeast = false
bracket_step_firsts m k.CloseParen = false
bracket_step_firsts m k.OpenBracket = m.room
bracket_step_firsts m k.CloseBracket = false
bracket_step_firsts m k.CloseBrace = false
bracket_step_firsts m k.Comma = false
bracket_step_firsts m k.Semicolon = false
bracket_step_firsts m k.Colon = false
bracket_step_firsts m k.Dot = false
bracket_step_firsts m k.Bang = false
bracket_step_firsts m k.Bar = false
bracket_step_firsts m k.Plus = m.room
bracket_step_firsts m k.Minus = m.room
bracket_step_firsts m k.Star = false
bracket_step_firsts m k.Equals = false
bracket_step_firsts m k.Less = false
bracket_step_firsts m k.Greater = false
bracket_step_firsts m k.Hash = false
bracket_step_firsts m k.Question = false
bracket_step_firsts m _ = m.room && m.room_in

abbrev pub step_firsts : Set Kind
step_firsts m k.OpenParen = m.wide
step_firsts m k.Dot = true
step_firsts m _ = false

abbrev pub steps_ext : Set Kind
steps_ext m k.OpenParen = true
steps_ext m k.OpenBracket = true
steps_ext m k.Dot = true
steps_ext m _ = false

abbrev pub mapped_operands_ext : Set Kind
mapped_operands_ext m k.OpenParen = true
mapped_operands_ext m k.OpenBracket = true
mapped_operands_ext m k.Dot = true
mapped_operands_ext m k.Bang = true
mapped_operands_ext m _ = false

abbrev pub sign_firsts : Set Kind
sign_firsts m k.Declare = false
sign_firsts m k.Function = m.wide
sign_firsts m k.For = false
sign_firsts m k.Let = false
sign_firsts m k.Some = false
sign_firsts m k.Every = false
sign_firsts m k.Switch = false
sign_firsts m k.Typeswitch = false
sign_firsts m k.If = false
sign_firsts m k.Try = false
sign_firsts m k.Not = false
sign_firsts m k.True = true
sign_firsts m k.False = true
sign_firsts m k.Null = true
sign_firsts m k.EmptySequence = false
sign_firsts m k.Var = true
sign_firsts m k.Context = true
sign_firsts m k.Int = true
sign_firsts m k.Dec = true
sign_firsts m k.Double = m.wide
sign_firsts m k.Text = true
sign_firsts m k.CloseMerge = false
sign_firsts m k.Bars = false
sign_firsts m k.Assign = false
sign_firsts m k.Differs = false
sign_firsts m k.AtMost = false
sign_firsts m k.AtLeast = false
sign_firsts m k.CloseParen = false
sign_firsts m k.CloseBracket = false
sign_firsts m k.CloseBrace = false
sign_firsts m k.Comma = false
sign_firsts m k.Semicolon = false
sign_firsts m k.Colon = false
sign_firsts m k.Dot = false
sign_firsts m k.Bang = false
sign_firsts m k.Bar = false
sign_firsts m k.Plus = true
sign_firsts m k.Minus = true
sign_firsts m k.Star = false
sign_firsts m k.Equals = false
sign_firsts m k.Less = false
sign_firsts m k.Greater = false
sign_firsts m k.Hash = false
sign_firsts m k.Question = false
sign_firsts m _ = m.room

abbrev pub cast_type_ext : Set Kind
cast_type_ext m k.Cast = true
cast_type_ext m k.Question = true
cast_type_ext m _ = false

abbrev pub cast_ext : Set Kind
cast_ext m k.Cast = true
cast_ext m k.OpenParen = true
cast_ext m k.OpenBracket = true
cast_ext m k.Dot = true
cast_ext m k.Bang = true
cast_ext m k.Question = true
cast_ext m _ = false

abbrev pub castable_type_ext : Set Kind
castable_type_ext m k.Castable = true
castable_type_ext m k.Question = true
castable_type_ext m _ = false

abbrev pub castable_ext : Set Kind
castable_ext m k.Castable = true
castable_ext m k.Cast = true
castable_ext m k.OpenParen = true
castable_ext m k.OpenBracket = true
castable_ext m k.Dot = true
castable_ext m k.Bang = true
castable_ext m k.Question = true
castable_ext m _ = false

abbrev pub treat_type_ext : Set Kind
treat_type_ext m k.Treat = true
treat_type_ext m k.OpenParen = true
treat_type_ext m k.Plus = true
treat_type_ext m k.Star = true
treat_type_ext m k.Question = true
treat_type_ext m _ = false

abbrev pub treat_ext : Set Kind
treat_ext m k.Treat = true
treat_ext m k.Castable = true
treat_ext m k.Cast = true
treat_ext m k.OpenParen = true
treat_ext m k.OpenBracket = true
treat_ext m k.Dot = true
treat_ext m k.Bang = true
treat_ext m k.Plus = true
treat_ext m k.Star = true
treat_ext m k.Question = true
treat_ext m _ = false

abbrev pub instance_type_ext : Set Kind
instance_type_ext m k.Instance = true
instance_type_ext m k.OpenParen = true
instance_type_ext m k.Plus = true
instance_type_ext m k.Star = true
instance_type_ext m k.Question = true
instance_type_ext m _ = false

abbrev pub instance_ext : Set Kind
instance_ext m k.Instance = true
instance_ext m k.Treat = true
instance_ext m k.Castable = true
instance_ext m k.Cast = true
instance_ext m k.OpenParen = true
instance_ext m k.OpenBracket = true
instance_ext m k.Dot = true
instance_ext m k.Bang = true
instance_ext m k.Plus = true
instance_ext m k.Star = true
instance_ext m k.Question = true
instance_ext m _ = false

abbrev pub factors_ext : Set Kind
factors_ext m k.Div = true
factors_ext m k.Idiv = true
factors_ext m k.Mod = true
factors_ext m k.Instance = true
factors_ext m k.Treat = true
factors_ext m k.Castable = true
factors_ext m k.Cast = true
factors_ext m k.OpenParen = true
factors_ext m k.OpenBracket = true
factors_ext m k.Dot = true
factors_ext m k.Bang = true
factors_ext m k.Plus = true
factors_ext m k.Star = true
factors_ext m k.Question = true
factors_ext m _ = false

abbrev pub terms_ext : Set Kind
terms_ext m k.Div = true
terms_ext m k.Idiv = true
terms_ext m k.Mod = true
terms_ext m k.Instance = true
terms_ext m k.Treat = true
terms_ext m k.Castable = true
terms_ext m k.Cast = true
terms_ext m k.OpenParen = true
terms_ext m k.OpenBracket = true
terms_ext m k.Dot = true
terms_ext m k.Bang = true
terms_ext m k.Plus = true
terms_ext m k.Minus = true
terms_ext m k.Star = true
terms_ext m k.Question = true
terms_ext m _ = false

abbrev pub range_end_ext : Set Kind
range_end_ext m k.To = true
range_end_ext m k.Div = true
range_end_ext m k.Idiv = true
range_end_ext m k.Mod = true
range_end_ext m k.Instance = true
range_end_ext m k.Treat = true
range_end_ext m k.Castable = true
range_end_ext m k.Cast = true
range_end_ext m k.OpenParen = true
range_end_ext m k.OpenBracket = true
range_end_ext m k.Dot = true
range_end_ext m k.Bang = true
range_end_ext m k.Plus = true
range_end_ext m k.Minus = true
range_end_ext m k.Star = true
range_end_ext m k.Question = true
range_end_ext m _ = false

abbrev pub concat_operands_ext : Set Kind
concat_operands_ext m k.To = true
concat_operands_ext m k.Div = true
concat_operands_ext m k.Idiv = true
concat_operands_ext m k.Mod = true
concat_operands_ext m k.Instance = true
concat_operands_ext m k.Treat = true
concat_operands_ext m k.Castable = true
concat_operands_ext m k.Cast = true
concat_operands_ext m k.Bars = true
concat_operands_ext m k.OpenParen = true
concat_operands_ext m k.OpenBracket = true
concat_operands_ext m k.Dot = true
concat_operands_ext m k.Bang = true
concat_operands_ext m k.Plus = true
concat_operands_ext m k.Minus = true
concat_operands_ext m k.Star = true
concat_operands_ext m k.Question = true
concat_operands_ext m _ = false

abbrev pub comparison_ext : Set Kind
comparison_ext m k.Eq = true
comparison_ext m k.Ne = true
comparison_ext m k.Lt = true
comparison_ext m k.Le = true
comparison_ext m k.Gt = true
comparison_ext m k.Ge = true
comparison_ext m k.To = true
comparison_ext m k.Div = true
comparison_ext m k.Idiv = true
comparison_ext m k.Mod = true
comparison_ext m k.Instance = true
comparison_ext m k.Treat = true
comparison_ext m k.Castable = true
comparison_ext m k.Cast = true
comparison_ext m k.Bars = true
comparison_ext m k.Differs = true
comparison_ext m k.AtMost = true
comparison_ext m k.AtLeast = true
comparison_ext m k.OpenParen = true
comparison_ext m k.OpenBracket = true
comparison_ext m k.Dot = true
comparison_ext m k.Bang = true
comparison_ext m k.Plus = true
comparison_ext m k.Minus = true
comparison_ext m k.Star = true
comparison_ext m k.Equals = true
comparison_ext m k.Less = true
comparison_ext m k.Greater = true
comparison_ext m k.Question = true
comparison_ext m _ = false

abbrev pub not_level_firsts : Set Kind
not_level_firsts m k.Declare = false
not_level_firsts m k.Function = m.wide
not_level_firsts m k.For = false
not_level_firsts m k.Let = false
not_level_firsts m k.Some = false
not_level_firsts m k.Every = false
not_level_firsts m k.Switch = false
not_level_firsts m k.Typeswitch = false
not_level_firsts m k.If = false
not_level_firsts m k.Try = false
not_level_firsts m k.Not = true
not_level_firsts m k.True = true
not_level_firsts m k.False = true
not_level_firsts m k.Null = true
not_level_firsts m k.EmptySequence = false
not_level_firsts m k.Var = true
not_level_firsts m k.Context = true
not_level_firsts m k.Int = true
not_level_firsts m k.Dec = true
not_level_firsts m k.Double = m.wide
not_level_firsts m k.Text = true
not_level_firsts m k.CloseMerge = false
not_level_firsts m k.Bars = false
not_level_firsts m k.Assign = false
not_level_firsts m k.Differs = false
not_level_firsts m k.AtMost = false
not_level_firsts m k.AtLeast = false
not_level_firsts m k.CloseParen = false
not_level_firsts m k.CloseBracket = false
not_level_firsts m k.CloseBrace = false
not_level_firsts m k.Comma = false
not_level_firsts m k.Semicolon = false
not_level_firsts m k.Colon = false
not_level_firsts m k.Dot = false
not_level_firsts m k.Bang = false
not_level_firsts m k.Bar = false
not_level_firsts m k.Plus = true
not_level_firsts m k.Minus = true
not_level_firsts m k.Star = false
not_level_firsts m k.Equals = false
not_level_firsts m k.Less = false
not_level_firsts m k.Greater = false
not_level_firsts m k.Hash = false
not_level_firsts m k.Question = false
not_level_firsts m _ = m.room

abbrev pub and_operands_ext : Set Kind
and_operands_ext m k.And = true
and_operands_ext m k.Eq = true
and_operands_ext m k.Ne = true
and_operands_ext m k.Lt = true
and_operands_ext m k.Le = true
and_operands_ext m k.Gt = true
and_operands_ext m k.Ge = true
and_operands_ext m k.To = true
and_operands_ext m k.Div = true
and_operands_ext m k.Idiv = true
and_operands_ext m k.Mod = true
and_operands_ext m k.Instance = true
and_operands_ext m k.Treat = true
and_operands_ext m k.Castable = true
and_operands_ext m k.Cast = true
and_operands_ext m k.Bars = true
and_operands_ext m k.Differs = true
and_operands_ext m k.AtMost = true
and_operands_ext m k.AtLeast = true
and_operands_ext m k.OpenParen = true
and_operands_ext m k.OpenBracket = true
and_operands_ext m k.Dot = true
and_operands_ext m k.Bang = true
and_operands_ext m k.Plus = true
and_operands_ext m k.Minus = true
and_operands_ext m k.Star = true
and_operands_ext m k.Equals = true
and_operands_ext m k.Less = true
and_operands_ext m k.Greater = true
and_operands_ext m k.Question = true
and_operands_ext m _ = false

abbrev pub or_operands_ext : Set Kind
or_operands_ext m k.Or = true
or_operands_ext m k.And = true
or_operands_ext m k.Eq = true
or_operands_ext m k.Ne = true
or_operands_ext m k.Lt = true
or_operands_ext m k.Le = true
or_operands_ext m k.Gt = true
or_operands_ext m k.Ge = true
or_operands_ext m k.To = true
or_operands_ext m k.Div = true
or_operands_ext m k.Idiv = true
or_operands_ext m k.Mod = true
or_operands_ext m k.Instance = true
or_operands_ext m k.Treat = true
or_operands_ext m k.Castable = true
or_operands_ext m k.Cast = true
or_operands_ext m k.Bars = true
or_operands_ext m k.Differs = true
or_operands_ext m k.AtMost = true
or_operands_ext m k.AtLeast = true
or_operands_ext m k.OpenParen = true
or_operands_ext m k.OpenBracket = true
or_operands_ext m k.Dot = true
or_operands_ext m k.Bang = true
or_operands_ext m k.Plus = true
or_operands_ext m k.Minus = true
or_operands_ext m k.Star = true
or_operands_ext m k.Equals = true
or_operands_ext m k.Less = true
or_operands_ext m k.Greater = true
or_operands_ext m k.Question = true
or_operands_ext m _ = false

abbrev pub single_firsts : Set Kind
single_firsts m k.Declare = false
single_firsts m k.Function = m.wide
single_firsts m k.For = false
single_firsts m k.Let = false
single_firsts m k.Some = false
single_firsts m k.Every = false
single_firsts m k.Switch = false
single_firsts m k.Typeswitch = false
single_firsts m k.If = false
single_firsts m k.Not = true
single_firsts m k.True = true
single_firsts m k.False = true
single_firsts m k.Null = true
single_firsts m k.EmptySequence = false
single_firsts m k.Var = true
single_firsts m k.Context = true
single_firsts m k.Int = true
single_firsts m k.Dec = true
single_firsts m k.Double = m.wide
single_firsts m k.Text = true
single_firsts m k.CloseMerge = false
single_firsts m k.Bars = false
single_firsts m k.Assign = false
single_firsts m k.Differs = false
single_firsts m k.AtMost = false
single_firsts m k.AtLeast = false
single_firsts m k.CloseParen = false
single_firsts m k.CloseBracket = false
single_firsts m k.CloseBrace = false
single_firsts m k.Comma = false
single_firsts m k.Semicolon = false
single_firsts m k.Colon = false
single_firsts m k.Dot = false
single_firsts m k.Bang = false
single_firsts m k.Bar = false
single_firsts m k.Plus = true
single_firsts m k.Minus = true
single_firsts m k.Star = false
single_firsts m k.Equals = false
single_firsts m k.Less = false
single_firsts m k.Greater = false
single_firsts m k.Hash = false
single_firsts m k.Question = false
single_firsts m _ = m.room

abbrev pub single_firsts_2 : Set Kind
single_firsts_2 m k.Declare = false
single_firsts_2 m k.Function = m.wide
single_firsts_2 m k.For = false
single_firsts_2 m k.Let = false
single_firsts_2 m k.Some = false
single_firsts_2 m k.Every = false
single_firsts_2 m k.Switch = false
single_firsts_2 m k.Typeswitch = false
single_firsts_2 m k.Not = true
single_firsts_2 m k.True = true
single_firsts_2 m k.False = true
single_firsts_2 m k.Null = true
single_firsts_2 m k.EmptySequence = false
single_firsts_2 m k.Var = true
single_firsts_2 m k.Context = true
single_firsts_2 m k.Int = true
single_firsts_2 m k.Dec = true
single_firsts_2 m k.Double = m.wide
single_firsts_2 m k.Text = true
single_firsts_2 m k.CloseMerge = false
single_firsts_2 m k.Bars = false
single_firsts_2 m k.Assign = false
single_firsts_2 m k.Differs = false
single_firsts_2 m k.AtMost = false
single_firsts_2 m k.AtLeast = false
single_firsts_2 m k.CloseParen = false
single_firsts_2 m k.CloseBracket = false
single_firsts_2 m k.CloseBrace = false
single_firsts_2 m k.Comma = false
single_firsts_2 m k.Semicolon = false
single_firsts_2 m k.Colon = false
single_firsts_2 m k.Dot = false
single_firsts_2 m k.Bang = false
single_firsts_2 m k.Bar = false
single_firsts_2 m k.Plus = true
single_firsts_2 m k.Minus = true
single_firsts_2 m k.Star = false
single_firsts_2 m k.Equals = false
single_firsts_2 m k.Less = false
single_firsts_2 m k.Greater = false
single_firsts_2 m k.Hash = false
single_firsts_2 m k.Question = false
single_firsts_2 m _ = m.room

abbrev pub single_firsts_3 : Set Kind
single_firsts_3 m k.Declare = false
single_firsts_3 m k.Function = m.wide
single_firsts_3 m k.For = false
single_firsts_3 m k.Let = false
single_firsts_3 m k.Some = false
single_firsts_3 m k.Every = false
single_firsts_3 m k.Switch = false
single_firsts_3 m k.Not = true
single_firsts_3 m k.True = true
single_firsts_3 m k.False = true
single_firsts_3 m k.Null = true
single_firsts_3 m k.EmptySequence = false
single_firsts_3 m k.Var = true
single_firsts_3 m k.Context = true
single_firsts_3 m k.Int = true
single_firsts_3 m k.Dec = true
single_firsts_3 m k.Double = m.wide
single_firsts_3 m k.Text = true
single_firsts_3 m k.CloseMerge = false
single_firsts_3 m k.Bars = false
single_firsts_3 m k.Assign = false
single_firsts_3 m k.Differs = false
single_firsts_3 m k.AtMost = false
single_firsts_3 m k.AtLeast = false
single_firsts_3 m k.CloseParen = false
single_firsts_3 m k.CloseBracket = false
single_firsts_3 m k.CloseBrace = false
single_firsts_3 m k.Comma = false
single_firsts_3 m k.Semicolon = false
single_firsts_3 m k.Colon = false
single_firsts_3 m k.Dot = false
single_firsts_3 m k.Bang = false
single_firsts_3 m k.Bar = false
single_firsts_3 m k.Plus = true
single_firsts_3 m k.Minus = true
single_firsts_3 m k.Star = false
single_firsts_3 m k.Equals = false
single_firsts_3 m k.Less = false
single_firsts_3 m k.Greater = false
single_firsts_3 m k.Hash = false
single_firsts_3 m k.Question = false
single_firsts_3 m _ = m.room

abbrev pub single_firsts_4 : Set Kind
single_firsts_4 m k.Declare = false
single_firsts_4 m k.Function = m.wide
single_firsts_4 m k.For = false
single_firsts_4 m k.Let = false
single_firsts_4 m k.Some = false
single_firsts_4 m k.Every = false
single_firsts_4 m k.Not = true
single_firsts_4 m k.True = true
single_firsts_4 m k.False = true
single_firsts_4 m k.Null = true
single_firsts_4 m k.EmptySequence = false
single_firsts_4 m k.Var = true
single_firsts_4 m k.Context = true
single_firsts_4 m k.Int = true
single_firsts_4 m k.Dec = true
single_firsts_4 m k.Double = m.wide
single_firsts_4 m k.Text = true
single_firsts_4 m k.CloseMerge = false
single_firsts_4 m k.Bars = false
single_firsts_4 m k.Assign = false
single_firsts_4 m k.Differs = false
single_firsts_4 m k.AtMost = false
single_firsts_4 m k.AtLeast = false
single_firsts_4 m k.CloseParen = false
single_firsts_4 m k.CloseBracket = false
single_firsts_4 m k.CloseBrace = false
single_firsts_4 m k.Comma = false
single_firsts_4 m k.Semicolon = false
single_firsts_4 m k.Colon = false
single_firsts_4 m k.Dot = false
single_firsts_4 m k.Bang = false
single_firsts_4 m k.Bar = false
single_firsts_4 m k.Plus = true
single_firsts_4 m k.Minus = true
single_firsts_4 m k.Star = false
single_firsts_4 m k.Equals = false
single_firsts_4 m k.Less = false
single_firsts_4 m k.Greater = false
single_firsts_4 m k.Hash = false
single_firsts_4 m k.Question = false
single_firsts_4 m _ = m.room

abbrev pub single_firsts_5 : Set Kind
single_firsts_5 m k.Declare = false
single_firsts_5 m k.Function = m.wide
single_firsts_5 m k.For = false
single_firsts_5 m k.Let = false
single_firsts_5 m k.Not = true
single_firsts_5 m k.True = true
single_firsts_5 m k.False = true
single_firsts_5 m k.Null = true
single_firsts_5 m k.EmptySequence = false
single_firsts_5 m k.Var = true
single_firsts_5 m k.Context = true
single_firsts_5 m k.Int = true
single_firsts_5 m k.Dec = true
single_firsts_5 m k.Double = m.wide
single_firsts_5 m k.Text = true
single_firsts_5 m k.CloseMerge = false
single_firsts_5 m k.Bars = false
single_firsts_5 m k.Assign = false
single_firsts_5 m k.Differs = false
single_firsts_5 m k.AtMost = false
single_firsts_5 m k.AtLeast = false
single_firsts_5 m k.CloseParen = false
single_firsts_5 m k.CloseBracket = false
single_firsts_5 m k.CloseBrace = false
single_firsts_5 m k.Comma = false
single_firsts_5 m k.Semicolon = false
single_firsts_5 m k.Colon = false
single_firsts_5 m k.Dot = false
single_firsts_5 m k.Bang = false
single_firsts_5 m k.Bar = false
single_firsts_5 m k.Plus = true
single_firsts_5 m k.Minus = true
single_firsts_5 m k.Star = false
single_firsts_5 m k.Equals = false
single_firsts_5 m k.Less = false
single_firsts_5 m k.Greater = false
single_firsts_5 m k.Hash = false
single_firsts_5 m k.Question = false
single_firsts_5 m _ = m.room

abbrev pub param_list_ext : Set Kind
param_list_ext m k.As = true
param_list_ext m k.OpenParen = true
param_list_ext m k.Comma = true
param_list_ext m k.Plus = true
param_list_ext m k.Star = true
param_list_ext m k.Question = true
param_list_ext m _ = false

abbrev pub some_params_ext : Set Kind
some_params_ext m k.As = true
some_params_ext m k.Var = true
some_params_ext m k.OpenParen = true
some_params_ext m k.Comma = true
some_params_ext m k.Plus = true
some_params_ext m k.Star = true
some_params_ext m k.Question = true
some_params_ext m _ = false

abbrev pub module_part_firsts : Set Kind
module_part_firsts m k.Declare = true
module_part_firsts m k.Function = m.wide
module_part_firsts m k.Not = true
module_part_firsts m k.True = true
module_part_firsts m k.False = true
module_part_firsts m k.Null = true
module_part_firsts m k.EmptySequence = false
module_part_firsts m k.Var = true
module_part_firsts m k.Context = true
module_part_firsts m k.Int = true
module_part_firsts m k.Dec = true
module_part_firsts m k.Double = m.wide
module_part_firsts m k.Text = true
module_part_firsts m k.CloseMerge = false
module_part_firsts m k.Bars = false
module_part_firsts m k.Assign = false
module_part_firsts m k.Differs = false
module_part_firsts m k.AtMost = false
module_part_firsts m k.AtLeast = false
module_part_firsts m k.CloseParen = false
module_part_firsts m k.CloseBracket = false
module_part_firsts m k.CloseBrace = false
module_part_firsts m k.Comma = false
module_part_firsts m k.Semicolon = false
module_part_firsts m k.Colon = false
module_part_firsts m k.Dot = false
module_part_firsts m k.Bang = false
module_part_firsts m k.Bar = false
module_part_firsts m k.Plus = true
module_part_firsts m k.Minus = true
module_part_firsts m k.Star = false
module_part_firsts m k.Equals = false
module_part_firsts m k.Less = false
module_part_firsts m k.Greater = false
module_part_firsts m k.Hash = false
module_part_firsts m k.Question = false
module_part_firsts m _ = m.room_in

abbrev pub ext_of : Part → Mode → Class Kind
ext_of i.Expr = (λ m. for_vars_ext m)
ext_of i.Single = (λ m. for_var_ext m)

abbrev pub sets : Sets Kind Part
sets = record {
  first = λ part wide room. single_first wide room;
  ext = λ part wide. ext_of part (record { wide = wide; room = true; room_in = true });
}

module _ (w : Ground Word Kind Part Tree language sets) where
  pub variable-inside : LawInside w (λ m inner. g.variable) (λ m. is k.Var) (λ m. never) false
  unfolding g.variable is
  variable-inside = named _ _ (mapped_at _ (one_at (λ wide. is k.Var))) refl

  pub empty_parens-inside : LawInside w (λ m inner. g.empty_parens) (λ m. is k.OpenParen) (λ m. never) false
  unfolding g.empty_parens is
  empty_parens-inside = named _ _ (mapped_at _ (seq_at (one_at (λ wide. is k.OpenParen)) (one_at (λ wide. is k.CloseParen)) refl)) refl

  pub times-inside : LawInside w (λ m inner. g.times) (λ m. is_times) (λ m. is_times) true
  unfolding g.times is
  times-inside = named _ _ (mapped_at _ (opt_at (one_at (λ wide. is_times)) refl)) refl

  pub empty_rest-inside : LawInside w (λ m inner. g.empty_rest) (λ m. empty_rest_firsts m) (λ m. empty_rest_firsts m) true
  unfolding g.empty_rest is
  empty_rest-inside = named _ _ (alt_at empty_parens-inside (named (λ m. is_times) (λ m. is_times) (mapped_at _ times-inside) refl) refl) refl

  pub empty_type-inside : LawInside w (λ m inner. g.empty_type) (λ m. is k.EmptySequence) (λ m. empty_rest_firsts m) false
  unfolding g.empty_type is
  empty_type-inside = named _ _ (mapped_at _ (seq_at (one_at (λ wide. is k.EmptySequence)) empty_rest-inside refl)) refl

  pub parens-inside : LawInside w (λ m inner. g.parens) (λ m. is k.OpenParen) (λ m. is k.OpenParen) true
  unfolding g.parens is
  parens-inside = named _ _ (mapped_at _ (opt_at (named (λ m. is k.OpenParen) (λ m. never) (seq_at (one_at (λ wide. is k.OpenParen)) (one_at (λ wide. is k.CloseParen)) refl) refl) refl)) refl

  pub item_type-inside : LawInside w (λ m inner. g.item_type) (λ m. is_type_name) (λ m. empty_rest_firsts m) false
  unfolding g.item_type is
  item_type-inside = named _ _ (mapped_at _ (seq_at (one_at (λ wide. is_type_name)) (seq_at parens-inside times-inside refl) refl)) refl

  pub seq_type-inside : LawInside w (λ m inner. g.seq_type) (λ m. is_name) (λ m. empty_rest_firsts m) false
  unfolding g.seq_type is
  seq_type-inside = named _ _ (alt_at empty_type-inside item_type-inside refl) refl

  pub as_type-inside : LawInside w (λ m inner. g.as_type) (λ m. is k.As) (λ m. as_type_ext m) true
  unfolding g.as_type is
  as_type-inside = named _ _ (opt_at (named (λ m. is k.As) (λ m. empty_rest_firsts m) (mapped_at _ (seq_at (one_at (λ wide. is k.As)) seq_type-inside refl)) refl) refl) refl

  pub allowing-inside : LawInside w g.allowing (λ m. is k.Allowing) (λ m. is k.Allowing) true
  unfolding g.allowing is
  allowing-inside = named _ _ (mapped_at _ (opt_at (named (λ m. is k.Allowing) (λ m. never) (seq_at (one_at (λ wide. is k.Allowing)) (one_at (λ wide. is k.Empty)) refl) refl) refl)) refl

  pub at_variable-inside : LawInside w g.at_variable (λ m. is k.At) (λ m. is k.At) true
  unfolding g.at_variable is
  at_variable-inside = named _ _ (opt_at (named (λ m. is k.At) (λ m. never) (mapped_at _ (seq_at (one_at (λ wide. is k.At)) variable-inside refl)) refl) refl) refl

  pub for_var-inside : w.mode.room ≡ true → LawInside w g.for_var (λ m. is k.Var) (λ m. for_var_ext m) false
  unfolding g.for_var is
  for_var-inside r = named _ _ (mapped_at _ (seq_at variable-inside (seq_at as_type-inside (seq_at allowing-inside (seq_at at_variable-inside (mapped_at _ (seq_at (one_at (λ wide. is k.In)) (w.laws r i.Single) refl)) refl) refl) refl) refl)) refl

  pub for_vars-inside : w.mode.room ≡ true → LawInside w g.for_vars (λ m. is k.Var) (λ m. for_vars_ext m) false
  unfolding g.for_vars is
  for_vars-inside r = named _ _ (mapped_at _ (seq_at (for_var-inside r) (many_at (named (λ m. is k.Comma) (λ m. for_var_ext m) (mapped_at _ (seq_at (one_at (λ wide. is k.Comma)) (for_var-inside r) refl)) refl) refl) refl)) refl

  pub window-inside : LawInside w g.window (λ m. given m.wide is_window) (λ m. never) false
  unfolding g.window is
  window-inside = named _ _ (only_at (λ m. m.wide) (λ o. mapped_at _ (one_at (λ wide. is_window)))) refl

  pub for_clause-law : w.mode.room ≡ true → Law w g.for_clause (λ m. is k.For) (λ m. for_vars_ext m) false
  unfolding g.for_clause is
  for_clause-law r = named _ _ (mapped_at _ (behind_at w.one_less (one_at (λ wide. is k.For)) (alt_at (for_vars-inside r) window-inside refl) refl)) refl

  pub let_var-inside : w.mode.room ≡ true → LawInside w g.let_var (λ m. is k.Var) (λ m. for_var_ext m) false
  unfolding g.let_var is
  let_var-inside r = named _ _ (mapped_at _ (seq_at variable-inside (seq_at as_type-inside (mapped_at _ (seq_at (one_at (λ wide. is k.Assign)) (w.laws r i.Single) refl)) refl) refl)) refl

  pub let_vars-inside : w.mode.room ≡ true → LawInside w g.let_vars (λ m. is k.Var) (λ m. for_vars_ext m) false
  unfolding g.let_vars is
  let_vars-inside r = named _ _ (mapped_at _ (seq_at (let_var-inside r) (many_at (named (λ m. is k.Comma) (λ m. for_var_ext m) (mapped_at _ (seq_at (one_at (λ wide. is k.Comma)) (let_var-inside r) refl)) refl) refl) refl)) refl

  pub let_clause-law : w.mode.room ≡ true → Law w g.let_clause (λ m. is k.Let) (λ m. for_vars_ext m) false
  unfolding g.let_clause is
  let_clause-law r = named _ _ (mapped_at _ (behind_at w.one_less (one_at (λ wide. is k.Let)) (let_vars-inside r) refl)) refl

  pub first_clause-law : w.mode.room ≡ true → Law w g.first_clause (λ m. first_clause_first) (λ m. for_vars_ext m) false
  unfolding g.first_clause is
  first_clause-law r = named _ _ (alt_at (for_clause-law r) (let_clause-law r) refl) refl

  pub for_clause-inside : w.mode.room ≡ true → LawInside w g.for_clause (λ m. is k.For) (λ m. for_vars_ext m) false
  unfolding g.for_clause is
  for_clause-inside r = named _ _ (mapped_at _ (seq_at (one_at (λ wide. is k.For)) (alt_at (for_vars-inside r) window-inside refl) refl)) refl

  pub let_clause-inside : w.mode.room ≡ true → LawInside w g.let_clause (λ m. is k.Let) (λ m. for_vars_ext m) false
  unfolding g.let_clause is
  let_clause-inside r = named _ _ (mapped_at _ (seq_at (one_at (λ wide. is k.Let)) (let_vars-inside r) refl)) refl

  pub first_clause-inside : w.mode.room ≡ true → LawInside w g.first_clause (λ m. first_clause_first) (λ m. for_vars_ext m) false
  unfolding g.first_clause is
  first_clause-inside r = named _ _ (alt_at (for_clause-inside r) (let_clause-inside r) refl) refl

  pub where_clause-inside : w.mode.room ≡ true → LawInside w g.where_clause (λ m. is k.Where) (λ m. for_var_ext m) false
  unfolding g.where_clause is
  where_clause-inside r = named _ _ (mapped_at _ (mapped_at _ (seq_at (one_at (λ wide. is k.Where)) (w.laws r i.Single) refl))) refl

  pub group_value-inside : w.mode.room ≡ true → LawInside w g.group_value (λ m. is k.Assign) (λ m. group_value_ext m) true
  unfolding g.group_value is
  group_value-inside r = named _ _ (opt_at (named (λ m. is k.Assign) (λ m. for_var_ext m) (mapped_at _ (seq_at (one_at (λ wide. is k.Assign)) (w.laws r i.Single) refl)) refl) refl) refl

  pub group_var-inside : w.mode.room ≡ true → LawInside w g.group_var (λ m. is k.Var) (λ m. group_value_ext m) false
  unfolding g.group_var is
  group_var-inside r = named _ _ (mapped_at _ (seq_at variable-inside (group_value-inside r) refl)) refl

  pub group_vars-inside : w.mode.room ≡ true → LawInside w g.group_vars (λ m. is k.Var) (λ m. group_vars_ext m) false
  unfolding g.group_vars is
  group_vars-inside r = named _ _ (mapped_at _ (seq_at (group_var-inside r) (many_at (named (λ m. is k.Comma) (λ m. group_value_ext m) (mapped_at _ (seq_at (one_at (λ wide. is k.Comma)) (group_var-inside r) refl)) refl) refl) refl)) refl

  pub group_clause-inside : w.mode.room ≡ true → LawInside w g.group_clause (λ m. is k.Group) (λ m. group_vars_ext m) false
  unfolding g.group_clause is
  group_clause-inside r = named _ _ (mapped_at _ (mapped_at _ (seq_at (one_at (λ wide. is k.Group)) (mapped_at _ (seq_at (one_at (λ wide. is k.By)) (group_vars-inside r) refl)) refl))) refl

  pub direction-inside : LawInside w g.direction (λ m. is_direction) (λ m. is_direction) true
  unfolding g.direction is
  direction-inside = named _ _ (opt_at (one_at (λ wide. is_direction)) refl) refl

  pub empty_order-inside : LawInside w g.empty_order (λ m. is k.Empty) (λ m. is k.Empty) true
  unfolding g.empty_order is
  empty_order-inside = named _ _ (mapped_at _ (opt_at (named (λ m. is k.Empty) (λ m. never) (mapped_at _ (seq_at (one_at (λ wide. is k.Empty)) (one_at (λ wide. is_extreme)) refl)) refl) refl)) refl

  pub order_key-inside : w.mode.room ≡ true → LawInside w g.order_key (λ m. single_first m.wide m.room_in) (λ m. order_key_ext m) false
  unfolding g.order_key is
  order_key-inside r = named _ _ (mapped_at _ (seq_at (w.laws r i.Single) (seq_at direction-inside empty_order-inside refl) refl)) refl

  pub order_list-inside : w.mode.room ≡ true → LawInside w g.order_list (λ m. single_first m.wide m.room_in) (λ m. order_list_ext m) false
  unfolding g.order_list is
  order_list-inside r = named _ _ (mapped_at _ (seq_at (order_key-inside r) (many_at (named (λ m. is k.Comma) (λ m. order_key_ext m) (mapped_at _ (seq_at (one_at (λ wide. is k.Comma)) (order_key-inside r) refl)) refl) refl) refl)) refl

  pub order_keys-inside : w.mode.room ≡ true → LawInside w g.order_keys (λ m. is k.By) (λ m. order_list_ext m) false
  unfolding g.order_keys is
  order_keys-inside r = named _ _ (mapped_at _ (seq_at (one_at (λ wide. is k.By)) (order_list-inside r) refl)) refl

  pub order_clause-inside : w.mode.room ≡ true → LawInside w g.order_clause (λ m. order_clause_first) (λ m. order_list_ext m) false
  unfolding g.order_clause is
  order_clause-inside r = named _ _ (alt_at (named (λ m. is k.Stable) (λ m. order_list_ext m) (mapped_at _ (mapped_at _ (seq_at (one_at (λ wide. is k.Stable)) (mapped_at _ (seq_at (one_at (λ wide. is k.Order)) (order_keys-inside r) refl)) refl))) refl) (named (λ m. is k.Order) (λ m. order_list_ext m) (mapped_at _ (mapped_at _ (seq_at (one_at (λ wide. is k.Order)) (order_keys-inside r) refl))) refl) refl) refl

  pub count_clause-inside : LawInside w g.count_clause (λ m. is k.Count) (λ m. never) false
  unfolding g.count_clause is
  count_clause-inside = named _ _ (mapped_at _ (mapped_at _ (seq_at (one_at (λ wide. is k.Count)) variable-inside refl))) refl

  pub one_clause-inside : w.mode.room ≡ true → LawInside w g.one_clause (λ m. one_clause_firsts_3 m) (λ m. one_clause_ext m) false
  unfolding g.one_clause is
  one_clause-inside r = named _ _ (alt_at (where_clause-inside r) (named (λ m. one_clause_firsts_2 m) (λ m. one_clause_ext m) (alt_at (group_clause-inside r) (named (λ m. one_clause_firsts m) (λ m. order_list_ext m) (alt_at (order_clause-inside r) count_clause-inside refl) refl) refl) refl) refl) refl

  pub clause-inside : w.mode.room ≡ true → LawInside w g.clause (λ m. clause_first) (λ m. one_clause_ext m) false
  unfolding g.clause is
  clause-inside r = named _ _ (alt_at (named (λ m. first_clause_first) (λ m. for_vars_ext m) (mapped_at _ (first_clause-inside r)) refl) (named (λ m. one_clause_firsts_3 m) (λ m. one_clause_ext m) (mapped_at _ (one_clause-inside r)) refl) refl) refl

  pub clauses-inside : w.mode.room ≡ true → LawInside w g.clauses (λ m. clause_first) (λ m. clauses_ext m) true
  unfolding g.clauses is
  clauses-inside r = named _ _ (many_at (clause-inside r) refl) refl

  pub flwor-law : Law w g.flwor (λ m. flwor_first m.room) (λ m. for_var_ext m) false
  unfolding g.flwor is
  flwor-law = named _ _ (only_at (λ m. m.room) (λ r. mapped_at _ (behind_at w.one_less (first_clause-law r) (seq_at (clauses-inside r) (mapped_at _ (seq_at (one_at (λ wide. is k.Return)) (w.laws r i.Single) refl)) refl) refl))) refl

  pub bind-inside : w.mode.room ≡ true → LawInside w g.bind (λ m. is k.Var) (λ m. for_var_ext m) false
  unfolding g.bind is
  bind-inside r = named _ _ (mapped_at _ (seq_at variable-inside (seq_at as_type-inside (mapped_at _ (seq_at (one_at (λ wide. is k.In)) (w.laws r i.Single) refl)) refl) refl)) refl

  pub binds-inside : w.mode.room ≡ true → LawInside w g.binds (λ m. is k.Var) (λ m. for_vars_ext m) false
  unfolding g.binds is
  binds-inside r = named _ _ (mapped_at _ (seq_at (bind-inside r) (many_at (named (λ m. is k.Comma) (λ m. for_var_ext m) (mapped_at _ (seq_at (one_at (λ wide. is k.Comma)) (bind-inside r) refl)) refl) refl) refl)) refl

  pub quant-law : Law w g.quant (λ m. given m.room is_quantifier) (λ m. for_var_ext m) false
  unfolding g.quant is
  quant-law = named _ _ (only_at (λ m. m.room) (λ r. mapped_at _ (behind_at w.one_less (one_at (λ wide. is_quantifier)) (seq_at (binds-inside r) (mapped_at _ (seq_at (one_at (λ wide. is k.Satisfies)) (w.laws r i.Single) refl)) refl) refl))) refl

  pub in_parens-inside : w.mode.room ≡ true → LawInside w g.in_parens (λ m. is k.OpenParen) (λ m. never) false
  unfolding g.in_parens is
  in_parens-inside r = named _ _ (mapped_at _ (seq_at (one_at (λ wide. is k.OpenParen)) (mapped_at _ (seq_at (w.laws r i.Expr) (one_at (λ wide. is k.CloseParen)) refl)) refl)) refl

  pub case_test-inside : w.mode.room ≡ true → LawInside w g.case_test (λ m. is k.Case) (λ m. for_var_ext m) false
  unfolding g.case_test is
  case_test-inside r = named _ _ (mapped_at _ (seq_at (one_at (λ wide. is k.Case)) (w.laws r i.Single) refl)) refl

  pub case_tests-inside : w.mode.room ≡ true → LawInside w g.case_tests (λ m. is k.Case) (λ m. case_tests_ext m) false
  unfolding g.case_tests is
  case_tests-inside r = named _ _ (mapped_at _ (seq_at (case_test-inside r) (many_at (case_test-inside r) refl) refl)) refl

  pub returned-inside : w.mode.room ≡ true → LawInside w g.returned (λ m. is k.Return) (λ m. for_var_ext m) false
  unfolding g.returned is
  returned-inside r = named _ _ (mapped_at _ (seq_at (one_at (λ wide. is k.Return)) (w.laws r i.Single) refl)) refl

  pub case-inside : w.mode.room ≡ true → LawInside w g.case (λ m. is k.Case) (λ m. for_var_ext m) false
  unfolding g.case is
  case-inside r = named _ _ (mapped_at _ (seq_at (case_tests-inside r) (returned-inside r) refl)) refl

  pub cases-inside : w.mode.room ≡ true → LawInside w g.cases (λ m. is k.Case) (λ m. case_tests_ext m) false
  unfolding g.cases is
  cases-inside r = named _ _ (mapped_at _ (seq_at (case-inside r) (many_at (case-inside r) refl) refl)) refl

  pub switch-law : Law w g.switch (λ m. given m.room (is k.Switch)) (λ m. for_var_ext m) false
  unfolding g.switch is
  switch-law = named _ _ (only_at (λ m. m.room) (λ r. mapped_at _ (mapped_at _ (behind_at w.one_less (one_at (λ wide. is k.Switch)) (seq_at (in_parens-inside r) (seq_at (cases-inside r) (mapped_at _ (seq_at (one_at (λ wide. is k.Default)) (returned-inside r) refl)) refl) refl) refl)))) refl

  pub case_variable-inside : LawInside w g.case_variable (λ m. is k.Var) (λ m. is k.Var) true
  unfolding g.case_variable is
  case_variable-inside = named _ _ (opt_at (named (λ m. is k.Var) (λ m. never) (mapped_at _ (seq_at variable-inside (one_at (λ wide. is k.As)) refl)) refl) refl) refl

  pub seq_types-inside : LawInside w g.seq_types (λ m. is_name) (λ m. seq_types_ext m) false
  unfolding g.seq_types is
  seq_types-inside = named _ _ (mapped_at _ (seq_at seq_type-inside (many_at (named (λ m. is k.Bar) (λ m. empty_rest_firsts m) (mapped_at _ (seq_at (one_at (λ wide. is k.Bar)) seq_type-inside refl)) refl) refl) refl)) refl

  pub type_case-inside : w.mode.room ≡ true → LawInside w g.type_case (λ m. is k.Case) (λ m. for_var_ext m) false
  unfolding g.type_case is
  type_case-inside r = named _ _ (mapped_at _ (mapped_at _ (seq_at (one_at (λ wide. is k.Case)) (seq_at case_variable-inside (seq_at seq_types-inside (returned-inside r) refl) refl) refl))) refl

  pub type_cases-inside : w.mode.room ≡ true → LawInside w g.type_cases (λ m. is k.Case) (λ m. case_tests_ext m) false
  unfolding g.type_cases is
  type_cases-inside r = named _ _ (mapped_at _ (seq_at (type_case-inside r) (many_at (type_case-inside r) refl) refl)) refl

  pub default_variable-inside : LawInside w g.default_variable (λ m. is k.Var) (λ m. is k.Var) true
  unfolding g.default_variable is
  default_variable-inside = named _ _ (opt_at variable-inside refl) refl

  pub type_default-inside : w.mode.room ≡ true → LawInside w g.type_default (λ m. is k.Default) (λ m. for_var_ext m) false
  unfolding g.type_default is
  type_default-inside r = named _ _ (mapped_at _ (seq_at (one_at (λ wide. is k.Default)) (seq_at default_variable-inside (returned-inside r) refl) refl)) refl

  pub typeswitch-law : Law w g.typeswitch (λ m. given m.room (is k.Typeswitch)) (λ m. for_var_ext m) false
  unfolding g.typeswitch is
  typeswitch-law = named _ _ (only_at (λ m. m.room) (λ r. mapped_at _ (mapped_at _ (behind_at w.one_less (one_at (λ wide. is k.Typeswitch)) (seq_at (in_parens-inside r) (seq_at (type_cases-inside r) (type_default-inside r) refl) refl) refl)))) refl

  pub if-law : Law w g.if (λ m. given m.room (is k.If)) (λ m. for_var_ext m) false
  unfolding g.if is
  if-law = named _ _ (only_at (λ m. m.room) (λ r. mapped_at _ (mapped_at _ (behind_at w.one_less (one_at (λ wide. is k.If)) (seq_at (in_parens-inside r) (seq_at (mapped_at _ (seq_at (one_at (λ wide. is k.Then)) (w.laws r i.Single) refl)) (mapped_at _ (seq_at (one_at (λ wide. is k.Else)) (w.laws r i.Single) refl)) refl) refl) refl)))) refl

  pub in_braces-inside : w.mode.room ≡ true → LawInside w g.in_braces (λ m. is k.OpenBrace) (λ m. never) false
  unfolding g.in_braces is
  in_braces-inside r = named _ _ (mapped_at _ (seq_at (one_at (λ wide. is k.OpenBrace)) (mapped_at _ (seq_at (w.laws r i.Expr) (one_at (λ wide. is k.CloseBrace)) refl)) refl)) refl

  pub catch_names-inside : LawInside w g.catch_names (λ m. is_name) (λ m. is k.Bar) false
  unfolding g.catch_names is
  catch_names-inside = named _ _ (mapped_at _ (seq_at (one_at (λ wide. is_name)) (many_at (named (λ m. is k.Bar) (λ m. never) (mapped_at _ (seq_at (one_at (λ wide. is k.Bar)) (one_at (λ wide. is_name)) refl)) refl) refl) refl)) refl

  pub catch_codes-inside : LawInside w g.catch_codes (λ m. catch_codes_firsts m) (λ m. is k.Bar) false
  unfolding g.catch_codes is
  catch_codes-inside = named _ _ (alt_at (named (λ m. is k.Star) (λ m. never) (mapped_at _ (one_at (λ wide. is k.Star))) refl) (named (λ m. is_name) (λ m. is k.Bar) (mapped_at _ catch_names-inside) refl) refl) refl

  pub catch-inside : w.mode.room ≡ true → LawInside w g.catch (λ m. is k.Catch) (λ m. never) false
  unfolding g.catch is
  catch-inside r = named _ _ (mapped_at _ (mapped_at _ (seq_at (one_at (λ wide. is k.Catch)) (seq_at catch_codes-inside (in_braces-inside r) refl) refl))) refl

  pub catches-inside : w.mode.room ≡ true → LawInside w g.catches (λ m. is k.Catch) (λ m. is k.Catch) false
  unfolding g.catches is
  catches-inside r = named _ _ (mapped_at _ (seq_at (catch-inside r) (many_at (catch-inside r) refl) refl)) refl

  pub try-law : Law w g.try (λ m. given m.room (is k.Try)) (λ m. is k.Catch) false
  unfolding g.try is
  try-law = named _ _ (only_at (λ m. m.room) (λ r. mapped_at _ (mapped_at _ (behind_at w.one_less (one_at (λ wide. is k.Try)) (seq_at (in_braces-inside r) (catches-inside r) refl) refl)))) refl

  pub sign_mark-law : Law w g.sign_mark (λ m. is_sum_op) (λ m. never) false
  unfolding g.sign_mark is
  sign_mark-law = named _ _ (mapped_at _ (one_at (λ wide. is_sum_op))) refl

  pub sign_marks-law : Law w g.sign_marks (λ m. is_sum_op) (λ m. is_sum_op) true
  unfolding g.sign_marks is
  sign_marks-law = named _ _ (many_at sign_mark-law refl) refl

  pub literal-law : Law w g.literal (λ m. is_literal m.wide) (λ m. never) false
  unfolding g.literal is
  literal-law = named _ _ (mapped_at _ (one_at (λ wide. is_literal wide))) refl

  pub content-inside : w.mode.room ≡ true → LawInside w g.content (λ m. single_first m.wide m.room_in) (λ m. content_ext m) true
  unfolding g.content is
  content-inside r = named _ _ (opt_at (w.laws r i.Expr) refl) refl

  pub paren-law : Law w g.paren (λ m. given m.room (is k.OpenParen)) (λ m. never) false
  unfolding g.paren is
  paren-law = named _ _ (only_at (λ m. m.room) (λ r. mapped_at _ (mapped_at _ (behind_at w.one_less (one_at (λ wide. is k.OpenParen)) (mapped_at _ (seq_at (content-inside r) (one_at (λ wide. is k.CloseParen)) refl)) refl)))) refl

  pub computed_key-inside : w.mode.room ≡ true → LawInside w g.computed_key (λ m. single_first m.wide m.room_in) (λ m. never) false
  unfolding g.computed_key is
  computed_key-inside r = named _ _ (mapped_at _ (seq_at (w.laws r i.Single) (one_at (λ wide. is k.Colon)) refl)) refl

  pub pair_key-inside : w.mode.room ≡ true → LawInside w g.pair_key (λ m. pair_first m.wide m.room_in) (λ m. is k.Colon) false
  unfolding g.pair_key g.name_key is
  pair_key-inside r = named _ _ (ahead_at {f2 = (λ m. single_first m.wide m.room_in)} is_name (is k.Colon) _ (one_at (λ wide. is k.Colon)) (computed_key-inside r)) refl

  pub pair-inside : w.mode.room ≡ true → LawInside w g.pair (λ m. pair_first m.wide m.room_in) (λ m. for_var_ext m) false
  unfolding g.pair is
  pair-inside r = named _ _ (mapped_at _ (seq_at (pair_key-inside r) (w.laws r i.Single) refl)) refl

  pub pair_list-inside : w.mode.room ≡ true → LawInside w g.pair_list (λ m. pair_first m.wide m.room_in) (λ m. for_vars_ext m) false
  unfolding g.pair_list is
  pair_list-inside r = named _ _ (mapped_at _ (seq_at (pair-inside r) (many_at (named (λ m. is k.Comma) (λ m. for_var_ext m) (mapped_at _ (seq_at (one_at (λ wide. is k.Comma)) (pair-inside r) refl)) refl) refl) refl)) refl

  pub pairs-inside : w.mode.room ≡ true → LawInside w g.pairs (λ m. pair_first m.wide m.room_in) (λ m. pairs_ext m) true
  unfolding g.pairs is
  pairs-inside r = named _ _ (mapped_at _ (opt_at (pair_list-inside r) refl)) refl

  pub object-law : Law w g.object (λ m. given m.room (is k.OpenBrace)) (λ m. never) false
  unfolding g.object is
  object-law = named _ _ (only_at (λ m. m.room) (λ r. mapped_at _ (mapped_at _ (behind_at w.one_less (one_at (λ wide. is k.OpenBrace)) (mapped_at _ (seq_at (pairs-inside r) (one_at (λ wide. is k.CloseBrace)) refl)) refl)))) refl

  pub merge-law : Law w g.merge (λ m. given m.room (is k.OpenMerge)) (λ m. never) false
  unfolding g.merge is
  merge-law = named _ _ (only_at (λ m. m.room) (λ r. mapped_at _ (mapped_at _ (behind_at w.one_less (one_at (λ wide. is k.OpenMerge)) (mapped_at _ (seq_at (content-inside r) (one_at (λ wide. is k.CloseMerge)) refl)) refl)))) refl

  pub array-law : Law w g.array (λ m. given m.room (is k.OpenBracket)) (λ m. never) false
  unfolding g.array is
  array-law = named _ _ (only_at (λ m. m.room) (λ r. mapped_at _ (mapped_at _ (behind_at w.one_less (one_at (λ wide. is k.OpenBracket)) (mapped_at _ (seq_at (content-inside r) (one_at (λ wide. is k.CloseBracket)) refl)) refl)))) refl

  pub argument-inside : w.mode.room ≡ true → LawInside w g.argument (λ m. argument_first m.wide m.room_in) (λ m. for_var_ext m) false
  unfolding g.argument is
  argument-inside r = named _ _ (alt_at (w.laws r i.Single) (named (λ m. given m.wide (is k.Question)) (λ m. never) (only_at (λ m. m.wide) (λ o. mapped_at _ (one_at (λ wide. is k.Question)))) refl) refl) refl

  pub argument_list-inside : w.mode.room ≡ true → LawInside w g.argument_list (λ m. argument_first m.wide m.room_in) (λ m. for_vars_ext m) false
  unfolding g.argument_list is
  argument_list-inside r = named _ _ (mapped_at _ (seq_at (argument-inside r) (many_at (named (λ m. is k.Comma) (λ m. for_var_ext m) (mapped_at _ (seq_at (one_at (λ wide. is k.Comma)) (argument-inside r) refl)) refl) refl) refl)) refl

  pub some_arguments-inside : w.mode.room ≡ true → LawInside w g.some_arguments (λ m. argument_first m.wide m.room_in) (λ m. content_ext m) true
  unfolding g.some_arguments is
  some_arguments-inside r = named _ _ (mapped_at _ (opt_at (argument_list-inside r) refl)) refl

  pub arguments-inside : w.mode.room ≡ true → LawInside w g.arguments (λ m. is k.OpenParen) (λ m. never) false
  unfolding g.arguments is
  arguments-inside r = named _ _ (mapped_at _ (seq_at (one_at (λ wide. is k.OpenParen)) (mapped_at _ (seq_at (some_arguments-inside r) (one_at (λ wide. is k.CloseParen)) refl)) refl)) refl

  pub arity-inside : LawInside w g.arity (λ m. given m.wide (is k.Hash)) (λ m. never) false
  unfolding g.arity is
  arity-inside = named _ _ (only_at (λ m. m.wide) (λ o. mapped_at _ (seq_at (one_at (λ wide. is k.Hash)) (one_at (λ wide. is k.Int)) refl))) refl

  pub call-law : Law w g.call (λ m. given m.room is_call_name) (λ m. never) false
  unfolding g.call is
  call-law = named _ _ (only_at (λ m. m.room) (λ r. mapped_at _ (behind_at w.one_less (one_at (λ wide. is_call_name)) (alt_at (arguments-inside r) arity-inside refl) refl))) refl

  pub inline_function-law : Law w g.inline_function (λ m. given m.wide (is k.Function)) (λ m. never) false
  unfolding g.inline_function is
  inline_function-law = named _ _ (only_at (λ m. m.wide) (λ o. mapped_at _ (seq_at (one_at (λ wide. is k.Function)) (one_at (λ wide. is k.OpenParen)) refl))) refl

  pub primary-law : Law w g.primary (λ m. primary_firsts_6 m) (λ m. never) false
  unfolding g.primary is
  primary-law = named _ _ (alt_at literal-law (named (λ m. primary_firsts_5 m) (λ m. never) (alt_at paren-law (named (λ m. primary_firsts_4 m) (λ m. never) (alt_at object-law (named (λ m. primary_firsts_3 m) (λ m. never) (alt_at merge-law (named (λ m. primary_firsts_2 m) (λ m. never) (alt_at array-law (named (λ m. primary_firsts m) (λ m. never) (alt_at call-law inline_function-law refl) refl) refl) refl) refl) refl) refl) refl) refl) refl) refl) refl

  pub members-inside : LawInside w g.members (λ m. is k.CloseBracket) (λ m. never) false
  unfolding g.members is
  members-inside = named _ _ (mapped_at _ (one_at (λ wide. is k.CloseBracket))) refl

  pub member-inside : LawInside w g.member (λ m. given m.room (is k.OpenBracket)) (λ m. never) false
  unfolding g.member is
  member-inside = named _ _ (only_at (λ m. m.room) (λ r. mapped_at _ (mapped_at _ (seq_at (one_at (λ wide. is k.OpenBracket)) (mapped_at _ (seq_at (mapped_at _ (seq_at (w.laws r i.Expr) (one_at (λ wide. is k.CloseBracket)) refl)) (one_at (λ wide. is k.CloseBracket)) refl)) refl)))) refl

  pub filter-inside : LawInside w g.filter (λ m. filter_firsts m) (λ m. never) false
  unfolding g.filter is
  filter-inside = named _ _ (only_at (λ m. m.room) (λ r. mapped_at _ (mapped_at _ (seq_at (unless_at (is k.OpenBracket) (w.laws r i.Expr)) (one_at (λ wide. is k.CloseBracket)) refl)))) refl

  pub bracket_step-law : Law w g.bracket_step (λ m. is k.OpenBracket) (λ m. never) false
  unfolding g.bracket_step is
  bracket_step-law = named _ _ (mapped_at _ (mapped_at _ (behind_at w.one_less (one_at (λ wide. is k.OpenBracket)) (alt_at members-inside (named (λ m. bracket_step_firsts m) (λ m. never) (alt_at member-inside filter-inside refl) refl) refl) refl))) refl

  pub plain_key-law : Law w g.plain_key (λ m. is_lookup_key) (λ m. never) false
  unfolding g.plain_key is
  plain_key-law = named _ _ (mapped_at _ (one_at (λ wide. is_lookup_key))) refl

  pub in_parens-law : w.mode.room ≡ true → Law w g.in_parens (λ m. is k.OpenParen) (λ m. never) false
  unfolding g.in_parens is
  in_parens-law r = named _ _ (mapped_at _ (behind_at w.one_less (one_at (λ wide. is k.OpenParen)) (mapped_at _ (seq_at (w.laws r i.Expr) (one_at (λ wide. is k.CloseParen)) refl)) refl)) refl

  pub computed_lookup-law : Law w g.computed_lookup (λ m. given m.room (is k.OpenParen)) (λ m. never) false
  unfolding g.computed_lookup is
  computed_lookup-law = named _ _ (only_at (λ m. m.room) (λ r. mapped_at _ (in_parens-law r))) refl

  pub field_step-law : Law w g.field_step (λ m. is k.Dot) (λ m. never) false
  unfolding g.field_step is
  field_step-law = named _ _ (mapped_at _ (mapped_at _ (seq_at (one_at (λ wide. is k.Dot)) (alt_at plain_key-law computed_lookup-law refl) refl))) refl

  pub call_step-law : Law w g.call_step (λ m. given m.wide (is k.OpenParen)) (λ m. never) false
  unfolding g.call_step is
  call_step-law = named _ _ (only_at (λ m. m.wide) (λ o. mapped_at _ (one_at (λ wide. is k.OpenParen)))) refl

  pub step-law : Law w g.step (λ m. step_first m.wide) (λ m. never) false
  unfolding g.step is
  step-law = named _ _ (alt_at bracket_step-law (named (λ m. step_firsts m) (λ m. never) (alt_at field_step-law call_step-law refl) refl) refl) refl

  pub steps-law : Law w g.steps (λ m. step_first m.wide) (λ m. steps_ext m) true
  unfolding g.steps is
  steps-law = named _ _ (many_at step-law refl) refl

  pub postfix-law : Law w g.postfix (λ m. primary_firsts_6 m) (λ m. steps_ext m) false
  unfolding g.postfix is
  postfix-law = named _ _ (mapped_at _ (seq_at primary-law steps-law refl)) refl

  pub mapped_operand-law : Law w g.mapped_operand (λ m. is k.Bang) (λ m. steps_ext m) false
  unfolding g.mapped_operand is
  mapped_operand-law = named _ _ (mapped_at _ (mapped_at _ (seq_at (one_at (λ wide. is k.Bang)) postfix-law refl))) refl

  pub mapped_operands-law : Law w g.mapped_operands (λ m. is k.Bang) (λ m. mapped_operands_ext m) true
  unfolding g.mapped_operands is
  mapped_operands-law = named _ _ (many_at mapped_operand-law refl) refl

  pub map_level-law : Law w g.map_level (λ m. primary_firsts_6 m) (λ m. mapped_operands_ext m) false
  unfolding g.map_level is
  map_level-law = named _ _ (mapped_at _ (seq_at postfix-law mapped_operands-law refl)) refl

  pub sign-law : Law w g.sign (λ m. sign_firsts m) (λ m. mapped_operands_ext m) false
  unfolding g.sign is
  sign-law = named _ _ (mapped_at _ (seq_at sign_marks-law map_level-law refl)) refl

  pub single_type-law : Law w (λ m inner. g.single_type) (λ m. is_name) (λ m. is k.Question) false
  unfolding g.single_type is
  single_type-law = named _ _ (mapped_at _ (seq_at (one_at (λ wide. is_name)) (opt_at (one_at (λ wide. is k.Question)) refl) refl)) refl

  pub cast_type-law : Law w g.cast_type (λ m. is k.Cast) (λ m. cast_type_ext m) true
  unfolding g.cast_type is
  cast_type-law = named _ _ (opt_at (named (λ m. is k.Cast) (λ m. is k.Question) (mapped_at _ (seq_at (one_at (λ wide. is k.Cast)) (mapped_at _ (seq_at (one_at (λ wide. is k.As)) single_type-law refl)) refl)) refl) refl) refl

  pub cast-law : Law w g.cast (λ m. sign_firsts m) (λ m. cast_ext m) false
  unfolding g.cast is
  cast-law = named _ _ (mapped_at _ (seq_at sign-law cast_type-law refl)) refl

  pub castable_type-law : Law w g.castable_type (λ m. is k.Castable) (λ m. castable_type_ext m) true
  unfolding g.castable_type is
  castable_type-law = named _ _ (opt_at (named (λ m. is k.Castable) (λ m. is k.Question) (mapped_at _ (seq_at (one_at (λ wide. is k.Castable)) (mapped_at _ (seq_at (one_at (λ wide. is k.As)) single_type-law refl)) refl)) refl) refl) refl

  pub castable-law : Law w g.castable (λ m. sign_firsts m) (λ m. castable_ext m) false
  unfolding g.castable is
  castable-law = named _ _ (mapped_at _ (seq_at cast-law castable_type-law refl)) refl

  pub empty_parens-law : Law w (λ m inner. g.empty_parens) (λ m. is k.OpenParen) (λ m. never) false
  unfolding g.empty_parens is
  empty_parens-law = named _ _ (mapped_at _ (seq_at (one_at (λ wide. is k.OpenParen)) (one_at (λ wide. is k.CloseParen)) refl)) refl

  pub times-law : Law w (λ m inner. g.times) (λ m. is_times) (λ m. is_times) true
  unfolding g.times is
  times-law = named _ _ (mapped_at _ (opt_at (one_at (λ wide. is_times)) refl)) refl

  pub empty_rest-law : Law w (λ m inner. g.empty_rest) (λ m. empty_rest_firsts m) (λ m. empty_rest_firsts m) true
  unfolding g.empty_rest is
  empty_rest-law = named _ _ (alt_at empty_parens-law (named (λ m. is_times) (λ m. is_times) (mapped_at _ times-law) refl) refl) refl

  pub empty_type-law : Law w (λ m inner. g.empty_type) (λ m. is k.EmptySequence) (λ m. empty_rest_firsts m) false
  unfolding g.empty_type is
  empty_type-law = named _ _ (mapped_at _ (seq_at (one_at (λ wide. is k.EmptySequence)) empty_rest-law refl)) refl

  pub parens-law : Law w (λ m inner. g.parens) (λ m. is k.OpenParen) (λ m. is k.OpenParen) true
  unfolding g.parens is
  parens-law = named _ _ (mapped_at _ (opt_at (named (λ m. is k.OpenParen) (λ m. never) (seq_at (one_at (λ wide. is k.OpenParen)) (one_at (λ wide. is k.CloseParen)) refl) refl) refl)) refl

  pub item_type-law : Law w (λ m inner. g.item_type) (λ m. is_type_name) (λ m. empty_rest_firsts m) false
  unfolding g.item_type is
  item_type-law = named _ _ (mapped_at _ (seq_at (one_at (λ wide. is_type_name)) (seq_at parens-law times-law refl) refl)) refl

  pub seq_type-law : Law w (λ m inner. g.seq_type) (λ m. is_name) (λ m. empty_rest_firsts m) false
  unfolding g.seq_type is
  seq_type-law = named _ _ (alt_at empty_type-law item_type-law refl) refl

  pub treat_type-law : Law w g.treat_type (λ m. is k.Treat) (λ m. treat_type_ext m) true
  unfolding g.treat_type is
  treat_type-law = named _ _ (opt_at (named (λ m. is k.Treat) (λ m. empty_rest_firsts m) (mapped_at _ (seq_at (one_at (λ wide. is k.Treat)) (mapped_at _ (seq_at (one_at (λ wide. is k.As)) seq_type-law refl)) refl)) refl) refl) refl

  pub treat-law : Law w g.treat (λ m. sign_firsts m) (λ m. treat_ext m) false
  unfolding g.treat is
  treat-law = named _ _ (mapped_at _ (seq_at castable-law treat_type-law refl)) refl

  pub instance_type-law : Law w g.instance_type (λ m. is k.Instance) (λ m. instance_type_ext m) true
  unfolding g.instance_type is
  instance_type-law = named _ _ (opt_at (named (λ m. is k.Instance) (λ m. empty_rest_firsts m) (mapped_at _ (seq_at (one_at (λ wide. is k.Instance)) (mapped_at _ (seq_at (one_at (λ wide. is k.Of)) seq_type-law refl)) refl)) refl) refl) refl

  pub instance-law : Law w g.instance (λ m. sign_firsts m) (λ m. instance_ext m) false
  unfolding g.instance is
  instance-law = named _ _ (mapped_at _ (seq_at treat-law instance_type-law refl)) refl

  pub factor-law : Law w g.factor (λ m. is_product_op) (λ m. instance_ext m) false
  unfolding g.factor is
  factor-law = named _ _ (mapped_at _ (seq_at (one_at (λ wide. is_product_op)) instance-law refl)) refl

  pub factors-law : Law w g.factors (λ m. is_product_op) (λ m. factors_ext m) true
  unfolding g.factors is
  factors-law = named _ _ (many_long_at factor-law) refl

  pub product-law : Law w g.product (λ m. sign_firsts m) (λ m. factors_ext m) false
  unfolding g.product is
  product-law = named _ _ (mapped_at _ (long_at instance-law factors-law)) refl

  pub term-law : Law w g.term (λ m. is_sum_op) (λ m. factors_ext m) false
  unfolding g.term is
  term-law = named _ _ (mapped_at _ (seq_at (one_at (λ wide. is_sum_op)) product-law refl)) refl

  pub terms-law : Law w g.terms (λ m. is_sum_op) (λ m. terms_ext m) true
  unfolding g.terms is
  terms-law = named _ _ (many_long_at term-law) refl

  pub sum-law : Law w g.sum (λ m. sign_firsts m) (λ m. terms_ext m) false
  unfolding g.sum is
  sum-law = named _ _ (mapped_at _ (long_at product-law terms-law)) refl

  pub range_end-law : Law w g.range_end (λ m. is k.To) (λ m. range_end_ext m) true
  unfolding g.range_end is
  range_end-law = named _ _ (opt_at (named (λ m. is k.To) (λ m. terms_ext m) (mapped_at _ (seq_at (one_at (λ wide. is k.To)) sum-law refl)) refl) refl) refl

  pub range-law : Law w g.range (λ m. sign_firsts m) (λ m. range_end_ext m) false
  unfolding g.range is
  range-law = named _ _ (mapped_at _ (seq_at sum-law range_end-law refl)) refl

  pub concat_operand-law : Law w g.concat_operand (λ m. is k.Bars) (λ m. range_end_ext m) false
  unfolding g.concat_operand is
  concat_operand-law = named _ _ (mapped_at _ (mapped_at _ (seq_at (one_at (λ wide. is k.Bars)) range-law refl))) refl

  pub concat_operands-law : Law w g.concat_operands (λ m. is k.Bars) (λ m. concat_operands_ext m) true
  unfolding g.concat_operands is
  concat_operands-law = named _ _ (many_at concat_operand-law refl) refl

  pub concat-law : Law w g.concat (λ m. sign_firsts m) (λ m. concat_operands_ext m) false
  unfolding g.concat is
  concat-law = named _ _ (mapped_at _ (seq_at range-law concat_operands-law refl)) refl

  pub compared-law : Law w g.compared (λ m. is_compare_op) (λ m. concat_operands_ext m) false
  unfolding g.compared is
  compared-law = named _ _ (mapped_at _ (seq_at (one_at (λ wide. is_compare_op)) concat-law refl)) refl

  pub comparison-law : Law w g.comparison (λ m. is_compare_op) (λ m. comparison_ext m) true
  unfolding g.comparison is
  comparison-law = named _ _ (opt_at compared-law refl) refl

  pub compare-law : Law w g.compare (λ m. sign_firsts m) (λ m. comparison_ext m) false
  unfolding g.compare is
  compare-law = named _ _ (mapped_at _ (seq_at concat-law comparison-law refl)) refl

  pub not_level-law : Law w g.not_level (λ m. not_level_firsts m) (λ m. comparison_ext m) false
  unfolding g.not_level is
  not_level-law = named _ _ (alt_at (named (λ m. is k.Not) (λ m. comparison_ext m) (mapped_at _ (mapped_at _ (seq_at (one_at (λ wide. is k.Not)) compare-law refl))) refl) compare-law refl) refl

  pub and_operand-law : Law w g.and_operand (λ m. is k.And) (λ m. comparison_ext m) false
  unfolding g.and_operand is
  and_operand-law = named _ _ (mapped_at _ (mapped_at _ (seq_at (one_at (λ wide. is k.And)) not_level-law refl))) refl

  pub and_operands-law : Law w g.and_operands (λ m. is k.And) (λ m. and_operands_ext m) true
  unfolding g.and_operands is
  and_operands-law = named _ _ (many_at and_operand-law refl) refl

  pub and_level-law : Law w g.and_level (λ m. not_level_firsts m) (λ m. and_operands_ext m) false
  unfolding g.and_level is
  and_level-law = named _ _ (mapped_at _ (seq_at not_level-law and_operands-law refl)) refl

  pub or_operand-law : Law w g.or_operand (λ m. is k.Or) (λ m. and_operands_ext m) false
  unfolding g.or_operand is
  or_operand-law = named _ _ (mapped_at _ (mapped_at _ (seq_at (one_at (λ wide. is k.Or)) and_level-law refl))) refl

  pub or_operands-law : Law w g.or_operands (λ m. is k.Or) (λ m. or_operands_ext m) true
  unfolding g.or_operands is
  or_operands-law = named _ _ (many_at or_operand-law refl) refl

  pub or_level-law : Law w g.or_level (λ m. not_level_firsts m) (λ m. or_operands_ext m) false
  unfolding g.or_level is
  or_level-law = named _ _ (mapped_at _ (seq_at and_level-law or_operands-law refl)) refl

  pub single-law : Law w g.single (λ m. single_first m.wide m.room) (λ m. for_var_ext m) false
  unfolding g.single is
  single-law = named _ _ (alt_at flwor-law (named (λ m. single_firsts_5 m) (λ m. for_var_ext m) (alt_at quant-law (named (λ m. single_firsts_4 m) (λ m. for_var_ext m) (alt_at switch-law (named (λ m. single_firsts_3 m) (λ m. for_var_ext m) (alt_at typeswitch-law (named (λ m. single_firsts_2 m) (λ m. for_var_ext m) (alt_at if-law (named (λ m. single_firsts m) (λ m. for_var_ext m) (alt_at try-law or_level-law refl) refl) refl) refl) refl) refl) refl) refl) refl) refl) refl) refl

  pub comma_operand-law : Law w g.comma_operand (λ m. is k.Comma) (λ m. for_var_ext m) false
  unfolding g.comma_operand is
  comma_operand-law = named _ _ (mapped_at _ (mapped_at _ (seq_at (one_at (λ wide. is k.Comma)) single-law refl))) refl

  pub comma_operands-law : Law w g.comma_operands (λ m. is k.Comma) (λ m. for_vars_ext m) true
  unfolding g.comma_operands is
  comma_operands-law = named _ _ (many_at comma_operand-law refl) refl

  pub expr-law : Law w g.expr (λ m. single_first m.wide m.room) (λ m. for_vars_ext m) false
  unfolding g.expr is
  expr-law = named _ _ (mapped_at _ (seq_at single-law comma_operands-law refl)) refl

  pub variable_declaration-inside : w.mode.room ≡ true → LawInside w g.variable_declaration (λ m. is k.Variable) (λ m. for_var_ext m) false
  unfolding g.variable_declaration is
  variable_declaration-inside r = named _ _ (mapped_at _ (mapped_at _ (seq_at (one_at (λ wide. is k.Variable)) (seq_at variable-inside (seq_at as_type-inside (mapped_at _ (seq_at (one_at (λ wide. is k.Assign)) (w.laws r i.Single) refl)) refl) refl) refl))) refl

  pub param-inside : LawInside w g.param (λ m. is k.Var) (λ m. as_type_ext m) false
  unfolding g.param is
  param-inside = named _ _ (mapped_at _ (seq_at variable-inside as_type-inside refl)) refl

  pub param_list-inside : LawInside w g.param_list (λ m. is k.Var) (λ m. param_list_ext m) false
  unfolding g.param_list is
  param_list-inside = named _ _ (mapped_at _ (seq_at param-inside (many_at (named (λ m. is k.Comma) (λ m. as_type_ext m) (mapped_at _ (seq_at (one_at (λ wide. is k.Comma)) param-inside refl)) refl) refl) refl)) refl

  pub some_params-inside : LawInside w g.some_params (λ m. is k.Var) (λ m. some_params_ext m) true
  unfolding g.some_params is
  some_params-inside = named _ _ (mapped_at _ (opt_at param_list-inside refl)) refl

  pub params-inside : LawInside w g.params (λ m. is k.OpenParen) (λ m. never) false
  unfolding g.params is
  params-inside = named _ _ (mapped_at _ (seq_at (one_at (λ wide. is k.OpenParen)) (mapped_at _ (seq_at some_params-inside (one_at (λ wide. is k.CloseParen)) refl)) refl)) refl

  pub function_body-inside : w.mode.room ≡ true → LawInside w g.function_body (λ m. is k.OpenBrace) (λ m. never) false
  unfolding g.function_body is
  function_body-inside r = named _ _ (mapped_at _ (seq_at (one_at (λ wide. is k.OpenBrace)) (mapped_at _ (seq_at (w.laws r i.Expr) (one_at (λ wide. is k.CloseBrace)) refl)) refl)) refl

  pub function_declaration-inside : w.mode.room ≡ true → LawInside w g.function_declaration (λ m. is k.Function) (λ m. never) false
  unfolding g.function_declaration is
  function_declaration-inside r = named _ _ (mapped_at _ (mapped_at _ (seq_at (one_at (λ wide. is k.Function)) (seq_at (one_at (λ wide. is_name)) (seq_at params-inside (seq_at as_type-inside (function_body-inside r) refl) refl) refl) refl))) refl

  pub declaration-inside : w.mode.room ≡ true → LawInside w g.declaration (λ m. is k.Declare) (λ m. never) false
  unfolding g.declaration is
  declaration-inside r = named _ _ (mapped_at _ (seq_at (one_at (λ wide. is k.Declare)) (mapped_at _ (seq_at (alt_at (variable_declaration-inside r) (function_declaration-inside r) refl) (one_at (λ wide. is k.Semicolon)) refl)) refl)) refl

  pub declarations-inside : w.mode.room ≡ true → LawInside w g.declarations (λ m. is k.Declare) (λ m. is k.Declare) true
  unfolding g.declarations is
  declarations-inside r = named _ _ (many_at (declaration-inside r) refl) refl

  pub module_part-inside : w.mode.room ≡ true → LawInside w g.module_part (λ m. module_part_firsts m) (λ m. for_vars_ext m) false
  unfolding g.module_part is
  module_part-inside r = named _ _ (mapped_at _ (seq_at (declarations-inside r) (w.laws r i.Expr) refl)) refl

pub forms-law : Lawful language sets g.forms
forms-law w i.Expr = expr-law w
forms-law w i.Single = single-law w
