-- The classes of tokens that productions name.
use Rattle.std.specs.Prelude.{Bool, true, false, ◌&&◌}
use denote.Enum.Bare.{sameb}
use Rattle.query_grammar.specs.contracts.word.Kind.{the_type}
use Rattle.query_grammar.specs.declared.word.Kind.{Kind}
use Rattle.query_grammar.specs.declared.word.Kind.TheVariants as k

-- one kind; opaque, so that no search looks into it
unfoldable pub is : Kind → Kind → Bool
is k t = sameb the_type t k

-- a class where it is allowed
abbrev pub given : Bool → (Kind → Bool) → Kind → Bool
given allowed c t = allowed && c t

-- a name; every keyword is one
abbrev pub is_name : Kind → Bool
is_name k.Var = false
is_name k.Context = false
is_name k.Int = false
is_name k.Dec = false
is_name k.Double = false
is_name k.Text = false
is_name k.OpenMerge = false
is_name k.CloseMerge = false
is_name k.Bars = false
is_name k.Assign = false
is_name k.Differs = false
is_name k.AtMost = false
is_name k.AtLeast = false
is_name k.OpenParen = false
is_name k.CloseParen = false
is_name k.OpenBracket = false
is_name k.CloseBracket = false
is_name k.OpenBrace = false
is_name k.CloseBrace = false
is_name k.Comma = false
is_name k.Semicolon = false
is_name k.Colon = false
is_name k.Dot = false
is_name k.Bang = false
is_name k.Bar = false
is_name k.Plus = false
is_name k.Minus = false
is_name k.Star = false
is_name k.Equals = false
is_name k.Less = false
is_name k.Greater = false
is_name k.Hash = false
is_name k.Question = false
is_name _ = true

-- a name that a call may have
abbrev pub is_call_name : Kind → Bool
is_call_name k.Variable = true
is_call_name k.As = true
is_call_name k.Return = true
is_call_name k.Allowing = true
is_call_name k.Empty = true
is_call_name k.At = true
is_call_name k.In = true
is_call_name k.Where = true
is_call_name k.Group = true
is_call_name k.By = true
is_call_name k.Stable = true
is_call_name k.Order = true
is_call_name k.Ascending = true
is_call_name k.Descending = true
is_call_name k.Least = true
is_call_name k.Greatest = true
is_call_name k.Count = true
is_call_name k.Satisfies = true
is_call_name k.Case = true
is_call_name k.Default = true
is_call_name k.Then = true
is_call_name k.Else = true
is_call_name k.Catch = true
is_call_name k.Or = true
is_call_name k.And = true
is_call_name k.Eq = true
is_call_name k.Ne = true
is_call_name k.Lt = true
is_call_name k.Le = true
is_call_name k.Gt = true
is_call_name k.Ge = true
is_call_name k.To = true
is_call_name k.Div = true
is_call_name k.Idiv = true
is_call_name k.Mod = true
is_call_name k.Instance = true
is_call_name k.Of = true
is_call_name k.Treat = true
is_call_name k.Castable = true
is_call_name k.Cast = true
is_call_name k.Tumbling = true
is_call_name k.Sliding = true
is_call_name k.Name = true
is_call_name _ = false

-- a name that parentheses or a sign may follow in a type
abbrev pub is_type_name : Kind → Bool
is_type_name k.EmptySequence = false
is_type_name k.Var = false
is_type_name k.Context = false
is_type_name k.Int = false
is_type_name k.Dec = false
is_type_name k.Double = false
is_type_name k.Text = false
is_type_name k.OpenMerge = false
is_type_name k.CloseMerge = false
is_type_name k.Bars = false
is_type_name k.Assign = false
is_type_name k.Differs = false
is_type_name k.AtMost = false
is_type_name k.AtLeast = false
is_type_name k.OpenParen = false
is_type_name k.CloseParen = false
is_type_name k.OpenBracket = false
is_type_name k.CloseBracket = false
is_type_name k.OpenBrace = false
is_type_name k.CloseBrace = false
is_type_name k.Comma = false
is_type_name k.Semicolon = false
is_type_name k.Colon = false
is_type_name k.Dot = false
is_type_name k.Bang = false
is_type_name k.Bar = false
is_type_name k.Plus = false
is_type_name k.Minus = false
is_type_name k.Star = false
is_type_name k.Equals = false
is_type_name k.Less = false
is_type_name k.Greater = false
is_type_name k.Hash = false
is_type_name k.Question = false
is_type_name _ = true

-- what stands for itself behind a point
abbrev pub is_lookup_key : Kind → Bool
is_lookup_key k.Int = false
is_lookup_key k.Dec = false
is_lookup_key k.Double = false
is_lookup_key k.OpenMerge = false
is_lookup_key k.CloseMerge = false
is_lookup_key k.Bars = false
is_lookup_key k.Assign = false
is_lookup_key k.Differs = false
is_lookup_key k.AtMost = false
is_lookup_key k.AtLeast = false
is_lookup_key k.OpenParen = false
is_lookup_key k.CloseParen = false
is_lookup_key k.OpenBracket = false
is_lookup_key k.CloseBracket = false
is_lookup_key k.OpenBrace = false
is_lookup_key k.CloseBrace = false
is_lookup_key k.Comma = false
is_lookup_key k.Semicolon = false
is_lookup_key k.Colon = false
is_lookup_key k.Dot = false
is_lookup_key k.Bang = false
is_lookup_key k.Bar = false
is_lookup_key k.Plus = false
is_lookup_key k.Minus = false
is_lookup_key k.Star = false
is_lookup_key k.Equals = false
is_lookup_key k.Less = false
is_lookup_key k.Greater = false
is_lookup_key k.Hash = false
is_lookup_key k.Question = false
is_lookup_key _ = true

-- an operator of a sum, or a sign
abbrev pub is_sum_op : Kind → Bool
is_sum_op k.Plus = true
is_sum_op k.Minus = true
is_sum_op _ = false

abbrev pub is_product_op : Kind → Bool
is_product_op k.Star = true
is_product_op k.Div = true
is_product_op k.Idiv = true
is_product_op k.Mod = true
is_product_op _ = false

abbrev pub is_compare_op : Kind → Bool
is_compare_op k.Eq = true
is_compare_op k.Ne = true
is_compare_op k.Lt = true
is_compare_op k.Le = true
is_compare_op k.Gt = true
is_compare_op k.Ge = true
is_compare_op k.Equals = true
is_compare_op k.Differs = true
is_compare_op k.Less = true
is_compare_op k.AtMost = true
is_compare_op k.Greater = true
is_compare_op k.AtLeast = true
is_compare_op _ = false

abbrev pub is_times : Kind → Bool
is_times k.Question = true
is_times k.Star = true
is_times k.Plus = true
is_times _ = false

abbrev pub is_direction : Kind → Bool
is_direction k.Ascending = true
is_direction k.Descending = true
is_direction _ = false

abbrev pub is_extreme : Kind → Bool
is_extreme k.Least = true
is_extreme k.Greatest = true
is_extreme _ = false

abbrev pub is_quantifier : Kind → Bool
is_quantifier k.Some = true
is_quantifier k.Every = true
is_quantifier _ = false

abbrev pub is_window : Kind → Bool
is_window k.Tumbling = true
is_window k.Sliding = true
is_window _ = false

-- a literal, a variable or the context item; the wider grammar has doubles too
abbrev pub is_literal : Bool → Kind → Bool
is_literal wide k.Int = true
is_literal wide k.Dec = true
is_literal wide k.Text = true
is_literal wide k.True = true
is_literal wide k.False = true
is_literal wide k.Null = true
is_literal wide k.Var = true
is_literal wide k.Context = true
is_literal wide k.Double = wide
is_literal wide _ = false

-- ---- first tokens of parts; `room` tells whether a form may nest there

abbrev pub single_first : Bool → Bool → Kind → Bool
single_first wide room k.Declare = false
single_first wide room k.Function = wide
single_first wide room k.Not = true
single_first wide room k.True = true
single_first wide room k.False = true
single_first wide room k.Null = true
single_first wide room k.EmptySequence = false
single_first wide room k.Var = true
single_first wide room k.Context = true
single_first wide room k.Int = true
single_first wide room k.Dec = true
single_first wide room k.Double = wide
single_first wide room k.Text = true
single_first wide room k.CloseMerge = false
single_first wide room k.Bars = false
single_first wide room k.Assign = false
single_first wide room k.Differs = false
single_first wide room k.AtMost = false
single_first wide room k.AtLeast = false
single_first wide room k.CloseParen = false
single_first wide room k.CloseBracket = false
single_first wide room k.CloseBrace = false
single_first wide room k.Comma = false
single_first wide room k.Semicolon = false
single_first wide room k.Colon = false
single_first wide room k.Dot = false
single_first wide room k.Bang = false
single_first wide room k.Bar = false
single_first wide room k.Plus = true
single_first wide room k.Minus = true
single_first wide room k.Star = false
single_first wide room k.Equals = false
single_first wide room k.Less = false
single_first wide room k.Greater = false
single_first wide room k.Hash = false
single_first wide room k.Question = false
single_first wide room _ = room

abbrev pub pair_first : Bool → Bool → Kind → Bool
pair_first wide room k.Double = wide
pair_first wide room k.OpenMerge = room
pair_first wide room k.CloseMerge = false
pair_first wide room k.Bars = false
pair_first wide room k.Assign = false
pair_first wide room k.Differs = false
pair_first wide room k.AtMost = false
pair_first wide room k.AtLeast = false
pair_first wide room k.OpenParen = room
pair_first wide room k.CloseParen = false
pair_first wide room k.OpenBracket = room
pair_first wide room k.CloseBracket = false
pair_first wide room k.OpenBrace = room
pair_first wide room k.CloseBrace = false
pair_first wide room k.Comma = false
pair_first wide room k.Semicolon = false
pair_first wide room k.Colon = false
pair_first wide room k.Dot = false
pair_first wide room k.Bang = false
pair_first wide room k.Bar = false
pair_first wide room k.Star = false
pair_first wide room k.Equals = false
pair_first wide room k.Less = false
pair_first wide room k.Greater = false
pair_first wide room k.Hash = false
pair_first wide room k.Question = false
pair_first wide room _ = true

abbrev pub argument_first : Bool → Bool → Kind → Bool
argument_first wide room k.Declare = false
argument_first wide room k.Function = wide
argument_first wide room k.Not = true
argument_first wide room k.True = true
argument_first wide room k.False = true
argument_first wide room k.Null = true
argument_first wide room k.EmptySequence = false
argument_first wide room k.Var = true
argument_first wide room k.Context = true
argument_first wide room k.Int = true
argument_first wide room k.Dec = true
argument_first wide room k.Double = wide
argument_first wide room k.Text = true
argument_first wide room k.CloseMerge = false
argument_first wide room k.Bars = false
argument_first wide room k.Assign = false
argument_first wide room k.Differs = false
argument_first wide room k.AtMost = false
argument_first wide room k.AtLeast = false
argument_first wide room k.CloseParen = false
argument_first wide room k.CloseBracket = false
argument_first wide room k.CloseBrace = false
argument_first wide room k.Comma = false
argument_first wide room k.Semicolon = false
argument_first wide room k.Colon = false
argument_first wide room k.Dot = false
argument_first wide room k.Bang = false
argument_first wide room k.Bar = false
argument_first wide room k.Plus = true
argument_first wide room k.Minus = true
argument_first wide room k.Star = false
argument_first wide room k.Equals = false
argument_first wide room k.Less = false
argument_first wide room k.Greater = false
argument_first wide room k.Hash = false
argument_first wide room k.Question = wide
argument_first wide room _ = room

abbrev pub step_first : Bool → Kind → Bool
step_first wide k.OpenParen = wide
step_first wide k.OpenBracket = true
step_first wide k.Dot = true
step_first wide _ = false

abbrev pub order_clause_first : Kind → Bool
order_clause_first k.Stable = true
order_clause_first k.Order = true
order_clause_first _ = false

abbrev pub first_clause_first : Kind → Bool
first_clause_first k.For = true
first_clause_first k.Let = true
first_clause_first _ = false

abbrev pub clause_first : Kind → Bool
clause_first k.For = true
clause_first k.Let = true
clause_first k.Where = true
clause_first k.Group = true
clause_first k.Stable = true
clause_first k.Order = true
clause_first k.Count = true
clause_first _ = false

abbrev pub flwor_first : Bool → Kind → Bool
flwor_first room k.For = room
flwor_first room k.Let = room
flwor_first room _ = false
