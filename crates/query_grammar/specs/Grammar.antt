-- The grammar of queries, production by production. Each part has the language that derives it,
-- with its tree, what begins it, and its reader.
--
-- The mode `m` tells whether the forms are taken that are refused by a code of their own (`m.wide`;
-- their trees are never used) and whether a form may nest here (`m.room`). `inner` are the parts
-- that stand inside a form. In a sequence marked `long` a token that can belong to the first part
-- does. The class in `alt`, `opt`, `many` and `some_of` is what the reader looks for: the first
-- tokens of the part behind it. It is no part of what derives or begins.
use Rattle.std.specs.Prelude.{ℕ, Bool, true, false, List, Option}
use Rattle.seq_types.specs.declared.types.Times.{Times}
use Rattle.query_tree.specs.declared.names.Placed.{Placed}
use Rattle.query_tree.specs.declared.names.TypeName.{TypeName}
use Rattle.query_tree.specs.declared.module.Param.{Param}
use Rattle.query_tree.specs.declared.operator.CompareOp.{CompareOp}
use Rattle.query_tree.specs.declared.operator.SumOp.{SumOp}
use Rattle.query_tree.specs.Plain as p
use Rattle.grammar_parts.specs.Levels.{Mode, Inner}
use Rattle.query_grammar.specs.declared.word.Word.{Word}
use Rattle.query_grammar.specs.declared.word.Kind.TheVariants as k
use Rattle.query_grammar.specs.declared.part.Part.{Part}
use Rattle.query_grammar.specs.declared.part.Part.TheVariants as i
use Rattle.query_grammar.specs.Nodes as n
use Rattle.query_grammar.specs.Nodes.{Name, Tree, Type', Operand, Term, Factor, Step, Lookup, Pair, PairKey, Clause, GroupVar, OrderKey, Bind, Case, TypeCase, Catch, Declaration, Module}
use Rattle.query_grammar.specs.Classes.{is, given, is_name, is_call_name, is_type_name, is_literal, is_lookup_key, is_sum_op, is_product_op, is_compare_op, is_times, is_direction, is_extreme, is_quantifier, is_window, single_first, pair_first, argument_first, step_first, order_clause_first, first_clause_first, clause_first, flwor_first}
use Rattle.query_grammar.specs.Languages.{Lang, one, tok, only, mapped, seq, long, alt, opt, many, many_long, unless, ahead, before, behind, from, list_of, some_of}

-- ---- names and types

-- Var
unfoldable pub variable : Lang (Placed Name)
variable = mapped n.placed (tok k.Var)

-- [ "(" ")" ]
unfoldable pub parens : Lang Bool
parens = mapped n.is_there (opt (is k.OpenParen) (seq (tok k.OpenParen) (tok k.CloseParen)))

-- [ "?" | "*" | "+" ]
unfoldable pub times : Lang Times
times = mapped n.times_of (opt is_times (one is_times))

-- Name [ "(" ")" ] [ "?" | "*" | "+" ], where the name is not `empty-sequence`
unfoldable pub item_type : Lang Type'
item_type = mapped n.item_type (seq (one is_type_name) (seq parens times))

-- "(" ")"
unfoldable pub empty_parens : Lang (Bool × Times)
empty_parens = mapped n.empty_parens (seq (tok k.OpenParen) (tok k.CloseParen))

-- what follows `empty-sequence`: its parentheses, or else the signs of a type of that name
unfoldable pub empty_rest : Lang (Bool × Times)
empty_rest = alt (is k.OpenParen) empty_parens (mapped n.no_parens times)

-- "empty-sequence" "(" ")" | "empty-sequence" [ "?" | "*" | "+" ]
unfoldable pub empty_type : Lang Type'
empty_type = mapped n.item_type (seq (tok k.EmptySequence) empty_rest)

-- SeqType = "empty-sequence" "(" ")" | Name [ "(" ")" ] [ "?" | "*" | "+" ]
unfoldable pub seq_type : Lang Type'
seq_type = alt (is k.EmptySequence) empty_type item_type

-- Single1 = Name [ "?" ]
unfoldable pub single_type : Lang Type'
single_type = mapped n.single_type (seq (one is_name) (opt (is k.Question) (tok k.Question)))

-- [ "as" SeqType ]
unfoldable pub as_type : Lang (Option Type')
as_type = opt (is k.As) (before k.As seq_type)

module _ (m : Mode) (inner : Inner Word Part Tree) where
  -- ---- primary expressions

  -- Int | Dec | Text | True | False | Null | Var | Context
  unfoldable pub literal : Lang Tree
  literal = mapped n.literal (one (is_literal m.wide))

  -- "(" Expr ")"
  unfoldable pub in_parens : Lang Tree
  in_parens = before k.OpenParen (behind (inner i.Expr) k.CloseParen)

  -- "{" Expr "}"
  unfoldable pub in_braces : Lang Tree
  in_braces = before k.OpenBrace (behind (inner i.Expr) k.CloseBrace)

  -- [ Expr ]
  unfoldable pub content : Lang (Option Tree)
  content = opt (single_first m.wide m.room_in) (inner i.Expr)

  -- Paren = "(" [ Expr ] ")"
  unfoldable pub paren : Lang Tree
  paren = only m.room (mapped n.paren (from k.OpenParen (behind content k.CloseParen)))

  -- Merge = "{|" [ Expr ] "|}"
  unfoldable pub merge : Lang Tree
  merge = only m.room (mapped n.merge (from k.OpenMerge (behind content k.CloseMerge)))

  -- Array = "[" [ Expr ] "]"
  unfoldable pub array : Lang Tree
  array = only m.room (mapped n.array (from k.OpenBracket (behind content k.CloseBracket)))

  -- Name ":"
  unfoldable pub name_key : Lang (PairKey × ℕ)
  name_key = mapped n.name_key (seq (one is_name) (tok k.Colon))

  -- Single ":"
  unfoldable pub computed_key : Lang (PairKey × ℕ)
  computed_key = mapped n.computed_key (seq (inner i.Single) (tok k.Colon))

  -- ( Name | Single ) ":", where a name that `:` follows is a name
  unfoldable pub pair_key : Lang (PairKey × ℕ)
  pair_key = ahead is_name (is k.Colon) (single_first m.wide m.room_in) name_key computed_key

  -- Pair = ( Name | Single ) ":" Single
  unfoldable pub pair : Lang Pair
  pair = mapped n.pair (seq pair_key (inner i.Single))

  -- Pair { "," Pair }
  unfoldable pub pair_list : Lang (List Pair)
  pair_list = list_of k.Comma pair

  -- [ Pair { "," Pair } ]
  unfoldable pub pairs : Lang (List Pair)
  pairs = mapped n.listed (opt (pair_first m.wide m.room_in) pair_list)

  -- Object = "{" [ Pair { "," Pair } ] "}"
  unfoldable pub object : Lang Tree
  object = only m.room (mapped n.object (from k.OpenBrace (behind pairs k.CloseBrace)))

  -- an argument; the wider grammar also has "?"
  unfoldable pub argument : Lang Tree
  argument =
      alt (single_first m.wide m.room_in) (inner i.Single)
      (only m.wide (mapped n.unused (tok k.Question)))

  -- Single { "," Single }
  unfoldable pub argument_list : Lang (List Tree)
  argument_list = list_of k.Comma argument

  -- [ Single { "," Single } ]
  unfoldable pub some_arguments : Lang (List Tree)
  some_arguments = mapped n.listed (opt (argument_first m.wide m.room_in) argument_list)

  -- "(" [ Single { "," Single } ] ")"
  unfoldable pub arguments : Lang (List Tree)
  arguments = before k.OpenParen (behind some_arguments k.CloseParen)

  -- "#" Int, in the wider grammar
  unfoldable pub arity : Lang (List Tree)
  arity = only m.wide (mapped n.no_trees (seq (tok k.Hash) (tok k.Int)))

  -- Call = Name "(" [ Single { "," Single } ] ")"
  unfoldable pub call : Lang Tree
  call = only m.room (mapped n.call (seq (one is_call_name) (alt (is k.OpenParen) arguments arity)))

  -- "function" "(", in the wider grammar
  unfoldable pub inline_function : Lang Tree
  inline_function = only m.wide (mapped n.inline_function (seq (tok k.Function) (tok k.OpenParen)))

  unfoldable pub primary : Lang Tree
  primary =
      alt (is_literal m.wide) literal
      (alt (given m.room (is k.OpenParen)) paren
      (alt (given m.room (is k.OpenBrace)) object
      (alt (given m.room (is k.OpenMerge)) merge
      (alt (given m.room (is k.OpenBracket)) array
      (alt (given m.room is_call_name) call inline_function)))))

  -- ---- steps

  -- "]"
  unfoldable pub members : Lang (ℕ → Step)
  members = mapped n.members (tok k.CloseBracket)

  -- "[" Expr "]" "]"
  unfoldable pub member : Lang (ℕ → Step)
  member =
      only m.room
      (mapped n.member
      (before k.OpenBracket (behind (behind (inner i.Expr) k.CloseBracket) k.CloseBracket)))

  -- Expr "]", where the expression doesn't begin with "["
  unfoldable pub filter : Lang (ℕ → Step)
  filter =
      only m.room
      (mapped n.filter (behind (unless (is k.OpenBracket) (inner i.Expr)) k.CloseBracket))

  -- "[" "]" | "[" "[" Expr "]" "]" | "[" Expr "]"
  unfoldable pub bracket_step : Lang Step
  bracket_step =
      mapped n.step_at
      (from k.OpenBracket
      (alt (is k.CloseBracket) members (alt (given m.room (is k.OpenBracket)) member filter)))

  -- Name | Text | Var | Context
  unfoldable pub plain_key : Lang Lookup
  plain_key = mapped n.plain_key (one is_lookup_key)

  -- "(" Expr ")"
  unfoldable pub computed_lookup : Lang Lookup
  computed_lookup = only m.room (mapped n.computed_lookup in_parens)

  -- "." ( Name | Text | Var | Context | "(" Expr ")" )
  unfoldable pub field_step : Lang Step
  field_step = mapped n.field_step (from k.Dot (alt is_lookup_key plain_key computed_lookup))

  -- "(", in the wider grammar
  unfoldable pub call_step : Lang Step
  call_step = only m.wide (mapped n.unused_step (tok k.OpenParen))

  unfoldable pub step : Lang Step
  step = alt (is k.OpenBracket) bracket_step (alt (is k.Dot) field_step call_step)

  -- { Step }
  unfoldable pub steps : Lang (List Step)
  steps = many (step_first m.wide) step

  -- Postfix = Primary { Step }
  unfoldable pub postfix : Lang Tree
  postfix = mapped n.postfix (seq primary steps)

  -- ---- operators, from the tightest

  -- "!" Postfix
  unfoldable pub mapped_operand : Lang Operand
  mapped_operand = mapped n.operand (from k.Bang postfix)

  -- { "!" Postfix }
  unfoldable pub mapped_operands : Lang (List Operand)
  mapped_operands = many (is k.Bang) mapped_operand

  -- Map = Postfix { "!" Postfix }
  unfoldable pub map_level : Lang Tree
  map_level = mapped (n.chain p.map_form) (seq postfix mapped_operands)

  -- "+" | "-"
  unfoldable pub sign_mark : Lang (SumOp × ℕ)
  sign_mark = mapped n.sign_mark (one is_sum_op)

  -- { "+" | "-" }
  unfoldable pub sign_marks : Lang (List (SumOp × ℕ))
  sign_marks = many is_sum_op sign_mark

  -- Sign = { "+" | "-" } Map
  unfoldable pub sign : Lang Tree
  sign = mapped n.sign (seq sign_marks map_level)

  -- [ "cast" "as" Single1 ]
  unfoldable pub cast_type : Lang (Option (ℕ × Type'))
  cast_type = opt (is k.Cast) (from k.Cast (before k.As single_type))

  -- Cast = Sign [ "cast" "as" Single1 ]
  unfoldable pub cast : Lang Tree
  cast = mapped (n.typed p.cast_form) (seq sign cast_type)

  -- [ "castable" "as" Single1 ]
  unfoldable pub castable_type : Lang (Option (ℕ × Type'))
  castable_type = opt (is k.Castable) (from k.Castable (before k.As single_type))

  -- Castable = Cast [ "castable" "as" Single1 ]
  unfoldable pub castable : Lang Tree
  castable = mapped (n.typed p.castable_form) (seq cast castable_type)

  -- [ "treat" "as" SeqType ]
  unfoldable pub treat_type : Lang (Option (ℕ × Type'))
  treat_type = opt (is k.Treat) (from k.Treat (before k.As seq_type))

  -- Treat = Castable [ "treat" "as" SeqType ]
  unfoldable pub treat : Lang Tree
  treat = mapped (n.typed p.treat_form) (seq castable treat_type)

  -- [ "instance" "of" SeqType ]
  unfoldable pub instance_type : Lang (Option (ℕ × Type'))
  instance_type = opt (is k.Instance) (from k.Instance (before k.Of seq_type))

  -- Instance = Treat [ "instance" "of" SeqType ]
  unfoldable pub instance : Lang Tree
  instance = mapped (n.typed p.instance_form) (seq treat instance_type)

  -- ( "*" | "div" | "idiv" | "mod" ) Instance
  unfoldable pub factor : Lang Factor
  factor = mapped n.factor (seq (one is_product_op) instance)

  -- { ( "*" | "div" | "idiv" | "mod" ) Instance }
  unfoldable pub factors : Lang (List Factor)
  factors = many_long is_product_op factor

  -- Product = Instance { ( "*" | "div" | "idiv" | "mod" ) Instance }
  unfoldable pub product : Lang Tree
  product = mapped n.product (long instance factors)

  -- ( "+" | "-" ) Product
  unfoldable pub term : Lang Term
  term = mapped n.term (seq (one is_sum_op) product)

  -- { ( "+" | "-" ) Product }
  unfoldable pub terms : Lang (List Term)
  terms = many_long is_sum_op term

  -- Sum = Product { ( "+" | "-" ) Product }
  unfoldable pub sum : Lang Tree
  sum = mapped n.sum (long product terms)

  -- [ "to" Sum ]
  unfoldable pub range_end : Lang (Option (ℕ × Tree))
  range_end = opt (is k.To) (from k.To sum)

  -- Range = Sum [ "to" Sum ]
  unfoldable pub range : Lang Tree
  range = mapped n.range (seq sum range_end)

  -- "||" Range
  unfoldable pub concat_operand : Lang Operand
  concat_operand = mapped n.operand (from k.Bars range)

  -- { "||" Range }
  unfoldable pub concat_operands : Lang (List Operand)
  concat_operands = many (is k.Bars) concat_operand

  -- Concat = Range { "||" Range }
  unfoldable pub concat : Lang Tree
  concat = mapped (n.chain p.concat_form) (seq range concat_operands)

  -- CmpOp Concat
  unfoldable pub compared : Lang (CompareOp × ℕ × Tree)
  compared = mapped n.compared (seq (one is_compare_op) concat)

  -- [ CmpOp Concat ]
  unfoldable pub comparison : Lang (Option (CompareOp × ℕ × Tree))
  comparison = opt is_compare_op compared

  -- Compare = Concat [ CmpOp Concat ]
  unfoldable pub compare : Lang Tree
  compare = mapped n.compare (seq concat comparison)

  -- Not = [ "not" ] Compare
  unfoldable pub not_level : Lang Tree
  not_level = alt (is k.Not) (mapped n.not (from k.Not compare)) compare

  -- "and" Not
  unfoldable pub and_operand : Lang Operand
  and_operand = mapped n.operand (from k.And not_level)

  -- { "and" Not }
  unfoldable pub and_operands : Lang (List Operand)
  and_operands = many (is k.And) and_operand

  -- And = Not { "and" Not }
  unfoldable pub and_level : Lang Tree
  and_level = mapped (n.chain p.and_form) (seq not_level and_operands)

  -- "or" And
  unfoldable pub or_operand : Lang Operand
  or_operand = mapped n.operand (from k.Or and_level)

  -- { "or" And }
  unfoldable pub or_operands : Lang (List Operand)
  or_operands = many (is k.Or) or_operand

  -- Or = And { "or" And }
  unfoldable pub or_level : Lang Tree
  or_level = mapped (n.chain p.or_form) (seq and_level or_operands)

  -- ---- clauses

  -- [ "allowing" "empty" ]
  unfoldable pub allowing : Lang Bool
  allowing = mapped n.is_there (opt (is k.Allowing) (seq (tok k.Allowing) (tok k.Empty)))

  -- [ "at" Var ]
  unfoldable pub at_variable : Lang (Option (Placed Name))
  at_variable = opt (is k.At) (before k.At variable)

  -- ForVar = Var [ "as" SeqType ] [ "allowing" "empty" ] [ "at" Var ] "in" Single
  unfoldable pub for_var : Lang Clause
  for_var =
      mapped n.for_var
      (seq variable (seq as_type (seq allowing (seq at_variable (before k.In (inner i.Single))))))

  -- "tumbling" | "sliding", in the wider grammar
  unfoldable pub window : Lang (List Clause)
  window = only m.wide (mapped n.no_clauses (one is_window))

  -- ForVar { "," ForVar }
  unfoldable pub for_vars : Lang (List Clause)
  for_vars = list_of k.Comma for_var

  -- For = "for" ForVar { "," ForVar }
  unfoldable pub for_clause : Lang (ℕ × List Clause)
  for_clause = from k.For (alt (is k.Var) for_vars window)

  -- LetVar = Var [ "as" SeqType ] ":=" Single
  unfoldable pub let_var : Lang Clause
  let_var = mapped n.let_var (seq variable (seq as_type (before k.Assign (inner i.Single))))

  -- LetVar { "," LetVar }
  unfoldable pub let_vars : Lang (List Clause)
  let_vars = list_of k.Comma let_var

  -- Let = "let" LetVar { "," LetVar }
  unfoldable pub let_clause : Lang (ℕ × List Clause)
  let_clause = from k.Let let_vars

  -- For | Let
  unfoldable pub first_clause : Lang (ℕ × List Clause)
  first_clause = alt (is k.For) for_clause let_clause

  -- Where = "where" Single
  unfoldable pub where_clause : Lang Clause
  where_clause = mapped n.where_clause (from k.Where (inner i.Single))

  -- [ ":=" Single ]
  unfoldable pub group_value : Lang (Option Tree)
  group_value = opt (is k.Assign) (before k.Assign (inner i.Single))

  -- GroupVar = Var [ ":=" Single ]
  unfoldable pub group_var : Lang GroupVar
  group_var = mapped n.group_var (seq variable group_value)

  -- GroupVar { "," GroupVar }
  unfoldable pub group_vars : Lang (List GroupVar)
  group_vars = list_of k.Comma group_var

  -- Group = "group" "by" GroupVar { "," GroupVar }
  unfoldable pub group_clause : Lang Clause
  group_clause = mapped n.group_clause (from k.Group (before k.By group_vars))

  -- [ "empty" ( "least" | "greatest" ) ]
  unfoldable pub empty_order : Lang Bool
  empty_order = mapped n.is_greatest (opt (is k.Empty) (before k.Empty (one is_extreme)))

  -- [ "ascending" | "descending" ]
  unfoldable pub direction : Lang (Option Word)
  direction = opt is_direction (one is_direction)

  -- Key = Single [ "ascending" | "descending" ] [ "empty" ( "least" | "greatest" ) ]
  unfoldable pub order_key : Lang OrderKey
  order_key = mapped n.order_key (seq (inner i.Single) (seq direction empty_order))

  -- Key { "," Key }
  unfoldable pub order_list : Lang (List OrderKey)
  order_list = list_of k.Comma order_key

  -- "by" Key { "," Key }
  unfoldable pub order_keys : Lang (List OrderKey)
  order_keys = before k.By order_list

  -- Order = [ "stable" ] "order" "by" Key { "," Key }
  unfoldable pub order_clause : Lang Clause
  order_clause =
      alt (is k.Stable) (mapped (n.order_clause true) (from k.Stable (before k.Order order_keys)))
      (mapped (n.order_clause false) (from k.Order order_keys))

  -- Count = "count" Var
  unfoldable pub count_clause : Lang Clause
  count_clause = mapped n.count_clause (from k.Count variable)

  -- Where | Group | Order | Count
  unfoldable pub one_clause : Lang Clause
  one_clause =
      alt (is k.Where) where_clause
      (alt (is k.Group) group_clause (alt order_clause_first order_clause count_clause))

  -- For | Let | Where | Group | Order | Count
  unfoldable pub clause : Lang (List Clause)
  clause =
      alt first_clause_first (mapped n.clauses_of first_clause) (mapped n.just_clause one_clause)

  -- ---- statements

  -- "return" Single
  unfoldable pub returned : Lang Tree
  returned = before k.Return (inner i.Single)

  -- { For | Let | Where | Group | Order | Count }
  unfoldable pub clauses : Lang (List (List Clause))
  clauses = many clause_first clause

  -- Flwor = ( For | Let ) { For | Let | Where | Group | Order | Count } "return" Single
  unfoldable pub flwor : Lang Tree
  flwor =
      only m.room (mapped n.flwor (seq first_clause (seq clauses (from k.Return (inner i.Single)))))

  -- Bind = Var [ "as" SeqType ] "in" Single
  unfoldable pub bind : Lang Bind
  bind = mapped n.bind (seq variable (seq as_type (before k.In (inner i.Single))))

  -- Bind { "," Bind }
  unfoldable pub binds : Lang (List Bind)
  binds = list_of k.Comma bind

  -- Quant = ( "some" | "every" ) Bind { "," Bind } "satisfies" Single
  unfoldable pub quant : Lang Tree
  quant =
      only m.room
      (mapped n.quant (seq (one is_quantifier) (seq binds (before k.Satisfies (inner i.Single)))))

  -- "case" Single
  unfoldable pub case_test : Lang Tree
  case_test = before k.Case (inner i.Single)

  -- "case" Single { "case" Single }
  unfoldable pub case_tests : Lang (List Tree)
  case_tests = some_of (is k.Case) case_test

  -- Case = "case" Single { "case" Single } "return" Single
  unfoldable pub case : Lang Case
  case = mapped n.case (seq case_tests returned)

  -- Case { Case }
  unfoldable pub cases : Lang (List Case)
  cases = some_of (is k.Case) case

  -- Switch = "switch" "(" Expr ")" Case { Case } "default" "return" Single
  unfoldable pub switch : Lang Tree
  switch =
      only m.room
      (mapped n.switch (from k.Switch (seq in_parens (seq cases (before k.Default returned)))))

  -- SeqType { "|" SeqType }
  unfoldable pub seq_types : Lang (List Type')
  seq_types = list_of k.Bar seq_type

  -- [ Var "as" ]
  unfoldable pub case_variable : Lang (Option (Placed Name))
  case_variable = opt (is k.Var) (behind variable k.As)

  -- TCase = "case" [ Var "as" ] SeqType { "|" SeqType } "return" Single
  unfoldable pub type_case : Lang TypeCase
  type_case = mapped n.type_case (before k.Case (seq case_variable (seq seq_types returned)))

  -- [ Var ]
  unfoldable pub default_variable : Lang (Option (Placed Name))
  default_variable = opt (is k.Var) variable

  -- "default" [ Var ] "return" Single
  unfoldable pub type_default : Lang (Option (Placed Name) × Tree)
  type_default = before k.Default (seq default_variable returned)

  -- TCase { TCase }
  unfoldable pub type_cases : Lang (List TypeCase)
  type_cases = some_of (is k.Case) type_case

  -- Typeswitch = "typeswitch" "(" Expr ")" TCase { TCase } "default" [ Var ] "return" Single
  unfoldable pub typeswitch : Lang Tree
  typeswitch =
      only m.room
      (mapped n.typeswitch (from k.Typeswitch (seq in_parens (seq type_cases type_default))))

  -- If = "if" "(" Expr ")" "then" Single "else" Single
  unfoldable pub if : Lang Tree
  if =
      only m.room
      (mapped n.if
      (from k.If
      (seq in_parens (seq (before k.Then (inner i.Single)) (before k.Else (inner i.Single))))))

  -- Name { "|" Name }
  unfoldable pub catch_names : Lang (List Word)
  catch_names = list_of k.Bar (one is_name)

  -- "*" | Name { "|" Name }
  unfoldable pub catch_codes : Lang (Option (List Name))
  catch_codes = alt (is k.Star) (mapped n.any_code (tok k.Star)) (mapped n.these_codes catch_names)

  -- Catch = "catch" ( "*" | Name { "|" Name } ) "{" Expr "}"
  unfoldable pub catch : Lang Catch
  catch = mapped n.catch (from k.Catch (seq catch_codes in_braces))

  -- Catch { Catch }
  unfoldable pub catches : Lang (List Catch)
  catches = some_of (is k.Catch) catch

  -- Try = "try" "{" Expr "}" Catch { Catch }
  unfoldable pub try : Lang Tree
  try = only m.room (mapped n.try (from k.Try (seq in_braces catches)))

  -- Single = Flwor | Quant | Switch | Typeswitch | If | Try | Or
  unfoldable pub single : Lang Tree
  single =
      alt (flwor_first m.room) flwor
      (alt (given m.room is_quantifier) quant
      (alt (given m.room (is k.Switch)) switch
      (alt (given m.room (is k.Typeswitch)) typeswitch
      (alt (given m.room (is k.If)) if (alt (given m.room (is k.Try)) try or_level)))))

  -- "," Single
  unfoldable pub comma_operand : Lang Operand
  comma_operand = mapped n.operand (from k.Comma single)

  -- { "," Single }
  unfoldable pub comma_operands : Lang (List Operand)
  comma_operands = many (is k.Comma) comma_operand

  -- Expr = Single { "," Single }
  unfoldable pub expr : Lang Tree
  expr = mapped (n.chain p.comma_form) (seq single comma_operands)

-- the parts that stand inside a form, made from those with one form less
abbrev pub forms : Mode → Inner Word Part Tree → Inner Word Part Tree
forms m inner i.Expr = expr m inner
forms m inner i.Single = single m inner

-- ---- modules

module _ (m : Mode) (top : Inner Word Part Tree) where
  -- Param = Var [ "as" SeqType ]
  unfoldable pub param : Lang (Param Name TypeName)
  param = mapped n.param (seq variable as_type)

  -- Variable = "declare" "variable" Var [ "as" SeqType ] ":=" Single
  unfoldable pub variable_declaration : Lang Declaration
  variable_declaration =
      mapped n.variable_declaration
      (before k.Variable (seq variable (seq as_type (before k.Assign (top i.Single)))))

  -- Param { "," Param }
  unfoldable pub param_list : Lang (List (Param Name TypeName))
  param_list = list_of k.Comma param

  -- [ Param { "," Param } ]
  unfoldable pub some_params : Lang (List (Param Name TypeName))
  some_params = mapped n.listed (opt (is k.Var) param_list)

  -- "(" [ Param { "," Param } ] ")"
  unfoldable pub params : Lang (List (Param Name TypeName))
  params = before k.OpenParen (behind some_params k.CloseParen)

  -- "{" Expr "}"
  unfoldable pub function_body : Lang Tree
  function_body = before k.OpenBrace (behind (top i.Expr) k.CloseBrace)

  -- Function = "declare" "function" Name "(" [ Param { "," Param } ] ")" [ "as" SeqType ] "{"
  -- Expr "}"
  unfoldable pub function_declaration : Lang Declaration
  function_declaration =
      mapped n.function_declaration
      (before k.Function (seq (one is_name) (seq params (seq as_type function_body))))

  -- ( Variable | Function ) ";"
  unfoldable pub declaration : Lang Declaration
  declaration =
      before k.Declare
      (behind (alt (is k.Variable) variable_declaration function_declaration) k.Semicolon)

  -- { ( Variable | Function ) ";" }
  unfoldable pub declarations : Lang (List Declaration)
  declarations = many (is k.Declare) declaration

  -- Module = { ( Variable | Function ) ";" } Expr
  unfoldable pub module_part : Lang Module
  module_part = mapped n.module_with (seq declarations (top i.Expr))
