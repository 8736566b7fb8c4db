-- What some queries are read as: a row for each production, and for the precedence and the
-- associativity of the operators. The tokens of a row have the places 0, 1, 2 and so on.
use Rattle.std.proofs.Common.{◌≡◌, ◌+◌, ℕ, pos, Bool, true, false, List, [], ◌∷◌, Some, None, Ok, codes, refl}
use Rattle.seq_types.specs.declared.types.Times.{Times}
use Rattle.seq_types.specs.declared.types.Times.TheVariants as times
use Rattle.query_tree.specs.declared.names.Placed.{Placed}
use Rattle.query_tree.specs.declared.names.TypeName.{TypeName}
use Rattle.query_tree.specs.declared.operator.Quantifier.TheVariants as quantifiers
use Rattle.query_tree.specs.declared.operator.CompareOp.{CompareOp}
use Rattle.query_tree.specs.declared.operator.CompareOp.TheVariants as op
use Rattle.query_tree.specs.declared.operator.SumOp.TheVariants as sums
use Rattle.query_tree.specs.declared.operator.ProductOp.TheVariants as products
use Rattle.query_tree.specs.Plain as p
use Rattle.grammar_parts.specs.Readers.{read_many, read_times}
use Rattle.grammar_parts.specs.Levels.{inside}
use Rattle.query_grammar.specs.declared.word.Word.{Word}
use Rattle.query_grammar.specs.declared.word.Value.{Value}
use Rattle.query_grammar.specs.declared.word.Value.TheVariants as v
use Rattle.query_grammar.specs.declared.word.Kind.{Kind}
use Rattle.query_grammar.specs.declared.word.Kind.TheVariants as k
use Rattle.query_grammar.specs.Classes.{is}
use Rattle.query_grammar.specs.Grammar as g
use Rattle.query_grammar.specs.Nodes.{Name, Tree, Form, Type', Operand, Step, Module}
use Rattle.query_grammar.specs.Texts.{part_of}

-- ---- tokens

pub record Token : Type 0 where
  pub kind : Kind
  pub value : Value

abbrev a : Kind → Token
a kind = record { kind = kind; value = v.Nothing }

abbrev int : ℕ → Token
int n = record { kind = k.Int; value = v.Int (pos n) }

abbrev named_token : Kind → List ℕ → Token
named_token kind s = record { kind = kind; value = v.Text s }

abbrev name : List ℕ → Token
name s = named_token k.Name s

abbrev var : List ℕ → Token
var s = named_token k.Var s

abbrev text : List ℕ → Token
text s = named_token k.Text s

abbrev numbered : ℕ → List Token → List Word
numbered place [] = []
numbered place (t ∷ ts) =
    record { kind = t.kind; place = place; value = t.value } ∷ numbered (place + 1) ts

-- ---- trees

abbrev node : ℕ → Form → Tree
node place form = p.tree_node place form

abbrev num : ℕ → ℕ → Tree
num place n = node place (p.int_form (pos n))

abbrev read_var : ℕ → List ℕ → Tree
read_var place s = node place (p.var_form s)

abbrev operands : List Operand → p.PlainOperands Name Name TypeName
operands = p.operands_of Name Name TypeName

abbrev terms : List (p.PlainTerm Name Name TypeName) → p.PlainTerms Name Name TypeName
terms = p.terms_of Name Name TypeName

abbrev factors : List (p.PlainFactor Name Name TypeName) → p.PlainFactors Name Name TypeName
factors = p.factors_of Name Name TypeName

abbrev steps : List Step → p.PlainSteps Name Name TypeName
steps = p.steps_of Name Name TypeName

abbrev clauses : List (p.PlainClause Name Name TypeName) → p.PlainClauses Name Name TypeName
clauses = p.clauses_of Name Name TypeName

abbrev binds : List (p.PlainBind Name Name TypeName) → p.PlainBinds Name Name TypeName
binds = p.binds_of Name Name TypeName

abbrev keys : List (p.PlainOrderKey Name Name TypeName) → p.PlainOrderKeys Name Name TypeName
keys = p.order_keys_of Name Name TypeName

abbrev named : ℕ → List ℕ → Placed Name
named place s = record { place = place; name = s }

abbrev of_type : ℕ → List ℕ → Bool → Times → Type'
of_type place s parens times =
    record { place = place; name = record { name = s; parens = parens; times = times } }

abbrev one_type : ℕ → List ℕ → Type'
one_type place s = of_type place s false times.One

abbrev body : Tree → Module
body t = record { variables = []; functions = []; body = t }

-- The tokens are read as this module, where three forms may nest.
abbrev Reads : List Token → Module → Type 0
Reads ts m = (part_of false 3).read (numbered 0 ts) ≡ Ok (m, [])

-- the tokens of a body
abbrev Is : List Token → Tree → Type 0
Is ts t = Reads ts (body t)

-- ---- the rows

-- each operator of a comparison, as `1 eq 2`
abbrev Compares : Kind → CompareOp → Type 0
Compares kind operator =
    Is (int 1 ∷ a kind ∷ int 2 ∷ []) (node 0 (p.compare_form (num 0 1) operator 1 (num 2 2)))

pub record Comparisons : Type 0 where
  pub value_eq : Compares k.Eq op.ValueEq
  pub value_ne : Compares k.Ne op.ValueNe
  pub value_lt : Compares k.Lt op.ValueLt
  pub value_le : Compares k.Le op.ValueLe
  pub value_gt : Compares k.Gt op.ValueGt
  pub value_ge : Compares k.Ge op.ValueGe
  pub pairs_eq : Compares k.Equals op.PairsEq
  pub pairs_ne : Compares k.Differs op.PairsNe
  pub pairs_lt : Compares k.Less op.PairsLt
  pub pairs_le : Compares k.AtMost op.PairsLe
  pub pairs_gt : Compares k.Greater op.PairsGt
  pub pairs_ge : Compares k.AtLeast op.PairsGe

comparisons_read : Comparisons
unfolding read_many read_times inside is g.variable g.parens g.times g.item_type g.empty_parens g.empty_rest g.empty_type g.seq_type g.single_type g.as_type g.literal g.in_parens g.in_braces g.content g.paren g.merge g.array g.name_key g.computed_key g.pair_key g.pair g.pair_list g.pairs g.object g.argument g.argument_list g.some_arguments g.arguments g.arity g.call g.inline_function g.primary g.members g.member g.filter g.bracket_step g.plain_key g.computed_lookup g.field_step g.call_step g.step g.steps g.postfix g.mapped_operand g.mapped_operands g.map_level g.sign_mark g.sign_marks g.sign g.cast_type g.cast g.castable_type g.castable g.treat_type g.treat g.instance_type g.instance g.factor g.factors g.product g.term g.terms g.sum g.range_end g.range g.concat_operand g.concat_operands g.concat g.compared g.comparison g.compare g.not_level g.and_operand g.and_operands g.and_level g.or_operand g.or_operands g.or_level g.allowing g.at_variable g.for_var g.window g.for_vars g.for_clause g.let_var g.let_vars g.let_clause g.first_clause g.where_clause g.group_value g.group_var g.group_vars g.group_clause g.empty_order g.direction g.order_key g.order_list g.order_keys g.order_clause g.count_clause g.one_clause g.clause g.returned g.clauses g.flwor g.bind g.binds g.quant g.case_test g.case_tests g.case g.cases g.switch g.seq_types g.case_variable g.type_case g.default_variable g.type_default g.type_cases g.typeswitch g.if g.catch_names g.catch_codes g.catch g.catches g.try g.single g.comma_operand g.comma_operands g.expr g.param g.variable_declaration g.param_list g.some_params g.params g.function_body g.function_declaration g.declaration g.declarations g.module_part
comparisons_read = record { value_eq = refl; value_ne = refl; value_lt = refl; value_le = refl; value_gt = refl; value_ge = refl; pairs_eq = refl; pairs_ne = refl; pairs_lt = refl; pairs_le = refl; pairs_gt = refl; pairs_ge = refl }

-- `or` binds weaker than `and`, and that weaker than `not`
pub record Logic : Type 0 where
  -- 1 or 2 and not 3
  pub or_and_not : Is (int 1 ∷ a k.Or ∷ int 2 ∷ a k.And ∷ a k.Not ∷ int 3 ∷ [])
      (node 0 (p.or_form (num 0 1) (operands (p.operand_node 1 (node 2 (p.and_form (num 2 2) (operands (p.operand_node 3 (node 4 (p.not_form (num 5 3))) ∷ [])))) ∷ []))))
  -- 1 and 2 or 3 or 4
  pub and_or : Is (int 1 ∷ a k.And ∷ int 2 ∷ a k.Or ∷ int 3 ∷ a k.Or ∷ int 4 ∷ [])
      (node 0 (p.or_form (node 0 (p.and_form (num 0 1) (operands (p.operand_node 1 (num 2 2) ∷ [])))) (operands (p.operand_node 3 (num 4 3) ∷ p.operand_node 5 (num 6 4) ∷ []))))
  -- not 1 eq 2
  pub not_of_comparison : Is (a k.Not ∷ int 1 ∷ a k.Eq ∷ int 2 ∷ [])
      (node 0 (p.not_form (node 1 (p.compare_form (num 1 1) op.ValueEq 2 (num 3 2)))))
  -- 1, 2, 3
  pub commas : Is (int 1 ∷ a k.Comma ∷ int 2 ∷ a k.Comma ∷ int 3 ∷ [])
      (node 0 (p.comma_form (num 0 1) (operands (p.operand_node 1 (num 2 2) ∷ p.operand_node 3 (num 4 3) ∷ []))))

logic_read : Logic
unfolding read_many read_times inside is g.variable g.parens g.times g.item_type g.empty_parens g.empty_rest g.empty_type g.seq_type g.single_type g.as_type g.literal g.in_parens g.in_braces g.content g.paren g.merge g.array g.name_key g.computed_key g.pair_key g.pair g.pair_list g.pairs g.object g.argument g.argument_list g.some_arguments g.arguments g.arity g.call g.inline_function g.primary g.members g.member g.filter g.bracket_step g.plain_key g.computed_lookup g.field_step g.call_step g.step g.steps g.postfix g.mapped_operand g.mapped_operands g.map_level g.sign_mark g.sign_marks g.sign g.cast_type g.cast g.castable_type g.castable g.treat_type g.treat g.instance_type g.instance g.factor g.factors g.product g.term g.terms g.sum g.range_end g.range g.concat_operand g.concat_operands g.concat g.compared g.comparison g.compare g.not_level g.and_operand g.and_operands g.and_level g.or_operand g.or_operands g.or_level g.allowing g.at_variable g.for_var g.window g.for_vars g.for_clause g.let_var g.let_vars g.let_clause g.first_clause g.where_clause g.group_value g.group_var g.group_vars g.group_clause g.empty_order g.direction g.order_key g.order_list g.order_keys g.order_clause g.count_clause g.one_clause g.clause g.returned g.clauses g.flwor g.bind g.binds g.quant g.case_test g.case_tests g.case g.cases g.switch g.seq_types g.case_variable g.type_case g.default_variable g.type_default g.type_cases g.typeswitch g.if g.catch_names g.catch_codes g.catch g.catches g.try g.single g.comma_operand g.comma_operands g.expr g.param g.variable_declaration g.param_list g.some_params g.params g.function_body g.function_declaration g.declaration g.declarations g.module_part
logic_read = record { or_and_not = refl; and_or = refl; not_of_comparison = refl; commas = refl }

-- a sum holds products, a range sums, a concatenation ranges; each is a list from the left
pub record Sums : Type 0 where
  -- 1 - 2 - 3
  pub two_minus : Is (int 1 ∷ a k.Minus ∷ int 2 ∷ a k.Minus ∷ int 3 ∷ [])
      (node 0 (p.sum_form (num 0 1) (terms (p.term_node sums.Minus 1 (num 2 2) ∷ p.term_node sums.Minus 3 (num 4 3) ∷ []))))
  -- 1 div 2 idiv 3
  pub div_idiv : Is (int 1 ∷ a k.Div ∷ int 2 ∷ a k.Idiv ∷ int 3 ∷ [])
      (node 0 (p.product_form (num 0 1) (factors (p.factor_node products.Div 1 (num 2 2) ∷ p.factor_node products.Idiv 3 (num 4 3) ∷ []))))
  -- 1 * 2 + 3 mod 4
  pub times_plus_mod : Is (int 1 ∷ a k.Star ∷ int 2 ∷ a k.Plus ∷ int 3 ∷ a k.Mod ∷ int 4 ∷ [])
      (node 0 (p.sum_form (node 0 (p.product_form (num 0 1) (factors (p.factor_node products.Times 1 (num 2 2) ∷ [])))) (terms (p.term_node sums.Plus 3 (node 4 (p.product_form (num 4 3) (factors (p.factor_node products.Mod 5 (num 6 4) ∷ [])))) ∷ []))))
  -- - 1 + 2
  pub sign_plus : Is (a k.Minus ∷ int 1 ∷ a k.Plus ∷ int 2 ∷ [])
      (node 0 (p.sum_form (node 0 (p.sign_form ((sums.Minus, 0) ∷ []) (num 1 1))) (terms (p.term_node sums.Plus 2 (num 3 2) ∷ []))))
  -- 1 to 2 + 3
  pub range_of_sum : Is (int 1 ∷ a k.To ∷ int 2 ∷ a k.Plus ∷ int 3 ∷ [])
      (node 0 (p.range_form (num 0 1) 1 (node 2 (p.sum_form (num 2 2) (terms (p.term_node sums.Plus 3 (num 4 3) ∷ []))))))
  -- 1 || 2 to 3 < 4
  pub concat_compared : Is (int 1 ∷ a k.Bars ∷ int 2 ∷ a k.To ∷ int 3 ∷ a k.Less ∷ int 4 ∷ [])
      (node 0 (p.compare_form (node 0 (p.concat_form (num 0 1) (operands (p.operand_node 1 (node 2 (p.range_form (num 2 2) 3 (num 4 3))) ∷ [])))) op.PairsLt 5 (num 6 4)))

sums_read : Sums
unfolding read_many read_times inside is g.variable g.parens g.times g.item_type g.empty_parens g.empty_rest g.empty_type g.seq_type g.single_type g.as_type g.literal g.in_parens g.in_braces g.content g.paren g.merge g.array g.name_key g.computed_key g.pair_key g.pair g.pair_list g.pairs g.object g.argument g.argument_list g.some_arguments g.arguments g.arity g.call g.inline_function g.primary g.members g.member g.filter g.bracket_step g.plain_key g.computed_lookup g.field_step g.call_step g.step g.steps g.postfix g.mapped_operand g.mapped_operands g.map_level g.sign_mark g.sign_marks g.sign g.cast_type g.cast g.castable_type g.castable g.treat_type g.treat g.instance_type g.instance g.factor g.factors g.product g.term g.terms g.sum g.range_end g.range g.concat_operand g.concat_operands g.concat g.compared g.comparison g.compare g.not_level g.and_operand g.and_operands g.and_level g.or_operand g.or_operands g.or_level g.allowing g.at_variable g.for_var g.window g.for_vars g.for_clause g.let_var g.let_vars g.let_clause g.first_clause g.where_clause g.group_value g.group_var g.group_vars g.group_clause g.empty_order g.direction g.order_key g.order_list g.order_keys g.order_clause g.count_clause g.one_clause g.clause g.returned g.clauses g.flwor g.bind g.binds g.quant g.case_test g.case_tests g.case g.cases g.switch g.seq_types g.case_variable g.type_case g.default_variable g.type_default g.type_cases g.typeswitch g.if g.catch_names g.catch_codes g.catch g.catches g.try g.single g.comma_operand g.comma_operands g.expr g.param g.variable_declaration g.param_list g.some_params g.params g.function_body g.function_declaration g.declaration g.declarations g.module_part
sums_read = record { two_minus = refl; div_idiv = refl; times_plus_mod = refl; sign_plus = refl; range_of_sum = refl; concat_compared = refl }

-- the operators with a type, from the tightest; a sign behind a type's name belongs to it
pub record Types : Type 0 where
  -- $x instance of integer+
  pub instance_of : Is (var (codes "x") ∷ a k.Instance ∷ a k.Of ∷ name (codes "integer") ∷ a k.Plus ∷ [])
      (node 0 (p.instance_form (read_var 0 (codes "x")) 1 (of_type 3 (codes "integer") false times.Many)))
  -- 1 instance of empty-sequence() + 2
  pub empty_sequence : Is (int 1 ∷ a k.Instance ∷ a k.Of ∷ named_token k.EmptySequence (codes "EmptySequence") ∷ a k.OpenParen ∷ a k.CloseParen ∷ a k.Plus ∷ int 2 ∷ [])
      (node 0 (p.sum_form (node 0 (p.instance_form (num 0 1) 1 (of_type 3 (codes "EmptySequence") true times.One))) (terms (p.term_node sums.Plus 6 (num 7 2) ∷ []))))
  -- 1 cast as a castable as b? treat as c()* instance of d
  pub each_type : Is (int 1 ∷ a k.Cast ∷ a k.As ∷ name (codes "a") ∷ a k.Castable ∷ a k.As ∷ name (codes "b") ∷ a k.Question ∷ a k.Treat ∷ a k.As ∷ name (codes "c") ∷ a k.OpenParen ∷ a k.CloseParen ∷ a k.Star ∷ a k.Instance ∷ a k.Of ∷ name (codes "d") ∷ [])
      (node 0 (p.instance_form (node 0 (p.treat_form (node 0 (p.castable_form (node 0 (p.cast_form (num 0 1) 1 (one_type 3 (codes "a")))) 4 (of_type 6 (codes "b") false times.Optional))) 8 (of_type 10 (codes "c") true times.Any))) 14 (one_type 16 (codes "d"))))

types_read : Types
unfolding read_many read_times inside is g.variable g.parens g.times g.item_type g.empty_parens g.empty_rest g.empty_type g.seq_type g.single_type g.as_type g.literal g.in_parens g.in_braces g.content g.paren g.merge g.array g.name_key g.computed_key g.pair_key g.pair g.pair_list g.pairs g.object g.argument g.argument_list g.some_arguments g.arguments g.arity g.call g.inline_function g.primary g.members g.member g.filter g.bracket_step g.plain_key g.computed_lookup g.field_step g.call_step g.step g.steps g.postfix g.mapped_operand g.mapped_operands g.map_level g.sign_mark g.sign_marks g.sign g.cast_type g.cast g.castable_type g.castable g.treat_type g.treat g.instance_type g.instance g.factor g.factors g.product g.term g.terms g.sum g.range_end g.range g.concat_operand g.concat_operands g.concat g.compared g.comparison g.compare g.not_level g.and_operand g.and_operands g.and_level g.or_operand g.or_operands g.or_level g.allowing g.at_variable g.for_var g.window g.for_vars g.for_clause g.let_var g.let_vars g.let_clause g.first_clause g.where_clause g.group_value g.group_var g.group_vars g.group_clause g.empty_order g.direction g.order_key g.order_list g.order_keys g.order_clause g.count_clause g.one_clause g.clause g.returned g.clauses g.flwor g.bind g.binds g.quant g.case_test g.case_tests g.case g.cases g.switch g.seq_types g.case_variable g.type_case g.default_variable g.type_default g.type_cases g.typeswitch g.if g.catch_names g.catch_codes g.catch g.catches g.try g.single g.comma_operand g.comma_operands g.expr g.param g.variable_declaration g.param_list g.some_params g.params g.function_body g.function_declaration g.declaration g.declarations g.module_part
types_read = record { instance_of = refl; empty_sequence = refl; each_type = refl }

-- steps bind tighter than `!`, and that tighter than a sign
pub record Steps : Type 0 where
  -- $a.b[1].c
  pub fields : Is (var (codes "a") ∷ a k.Dot ∷ name (codes "b") ∷ a k.OpenBracket ∷ int 1 ∷ a k.CloseBracket ∷ a k.Dot ∷ name (codes "c") ∷ [])
      (node 0 (p.postfix_form (read_var 0 (codes "a")) (steps (p.field_step 1 (p.name_lookup (codes "b")) ∷ p.filter_step 3 (num 4 1) ∷ p.field_step 6 (p.name_lookup (codes "c")) ∷ []))))
  -- $a[[1]][]
  pub arrays : Is (var (codes "a") ∷ a k.OpenBracket ∷ a k.OpenBracket ∷ int 1 ∷ a k.CloseBracket ∷ a k.CloseBracket ∷ a k.OpenBracket ∷ a k.CloseBracket ∷ [])
      (node 0 (p.postfix_form (read_var 0 (codes "a")) (steps (p.member_step 1 (num 3 1) ∷ p.members_step 6 ∷ []))))
  -- $a."b".$c.$$.(1)
  pub lookups : Is (var (codes "a") ∷ a k.Dot ∷ text (codes "b") ∷ a k.Dot ∷ var (codes "c") ∷ a k.Dot ∷ a k.Context ∷ a k.Dot ∷ a k.OpenParen ∷ int 1 ∷ a k.CloseParen ∷ [])
      (node 0 (p.postfix_form (read_var 0 (codes "a")) (steps (p.field_step 1 (p.text_lookup (codes "b")) ∷ p.field_step 3 (p.var_lookup (named 4 (codes "c"))) ∷ p.field_step 5 (p.context_lookup 6) ∷ p.field_step 7 (p.computed_lookup (num 9 1)) ∷ []))))
  -- + $a ! $$[1] ! 2
  pub bangs : Is (a k.Plus ∷ var (codes "a") ∷ a k.Bang ∷ a k.Context ∷ a k.OpenBracket ∷ int 1 ∷ a k.CloseBracket ∷ a k.Bang ∷ int 2 ∷ [])
      (node 0 (p.sign_form ((sums.Plus, 0) ∷ []) (node 1 (p.map_form (read_var 1 (codes "a")) (operands (p.operand_node 2 (node 3 (p.postfix_form (node 3 p.context_form) (steps (p.filter_step 4 (num 5 1) ∷ [])))) ∷ p.operand_node 7 (num 8 2) ∷ []))))))

steps_read : Steps
unfolding read_many read_times inside is g.variable g.parens g.times g.item_type g.empty_parens g.empty_rest g.empty_type g.seq_type g.single_type g.as_type g.literal g.in_parens g.in_braces g.content g.paren g.merge g.array g.name_key g.computed_key g.pair_key g.pair g.pair_list g.pairs g.object g.argument g.argument_list g.some_arguments g.arguments g.arity g.call g.inline_function g.primary g.members g.member g.filter g.bracket_step g.plain_key g.computed_lookup g.field_step g.call_step g.step g.steps g.postfix g.mapped_operand g.mapped_operands g.map_level g.sign_mark g.sign_marks g.sign g.cast_type g.cast g.castable_type g.castable g.treat_type g.treat g.instance_type g.instance g.factor g.factors g.product g.term g.terms g.sum g.range_end g.range g.concat_operand g.concat_operands g.concat g.compared g.comparison g.compare g.not_level g.and_operand g.and_operands g.and_level g.or_operand g.or_operands g.or_level g.allowing g.at_variable g.for_var g.window g.for_vars g.for_clause g.let_var g.let_vars g.let_clause g.first_clause g.where_clause g.group_value g.group_var g.group_vars g.group_clause g.empty_order g.direction g.order_key g.order_list g.order_keys g.order_clause g.count_clause g.one_clause g.clause g.returned g.clauses g.flwor g.bind g.binds g.quant g.case_test g.case_tests g.case g.cases g.switch g.seq_types g.case_variable g.type_case g.default_variable g.type_default g.type_cases g.typeswitch g.if g.catch_names g.catch_codes g.catch g.catches g.try g.single g.comma_operand g.comma_operands g.expr g.param g.variable_declaration g.param_list g.some_params g.params g.function_body g.function_declaration g.declaration g.declarations g.module_part
steps_read = record { fields = refl; arrays = refl; lookups = refl; bangs = refl }

-- literals, parentheses, constructors and calls
pub record Primaries : Type 0 where
  -- true, false, null, 1.5, "a", $$
  pub literals : Is (a k.True ∷ a k.Comma ∷ a k.False ∷ a k.Comma ∷ a k.Null ∷ a k.Comma ∷ record { kind = k.Dec; value = v.Dec (pos 15) } ∷ a k.Comma ∷ text (codes "a") ∷ a k.Comma ∷ a k.Context ∷ [])
      (node 0 (p.comma_form (node 0 p.true_form) (operands (p.operand_node 1 (node 2 p.false_form) ∷ p.operand_node 3 (node 4 p.null_form) ∷ p.operand_node 5 (node 6 (p.dec_form (pos 15))) ∷ p.operand_node 7 (node 8 (p.text_form (codes "a"))) ∷ p.operand_node 9 (node 10 p.context_form) ∷ []))))
  -- ((1))[()]
  pub parentheses : Is (a k.OpenParen ∷ a k.OpenParen ∷ int 1 ∷ a k.CloseParen ∷ a k.CloseParen ∷ a k.OpenBracket ∷ a k.OpenParen ∷ a k.CloseParen ∷ a k.CloseBracket ∷ [])
      (node 0 (p.postfix_form (node 0 (p.paren_form (p.one_tree (node 1 (p.paren_form (p.one_tree (num 2 1))))))) (steps (p.filter_step 5 (node 6 (p.paren_form p.no_tree)) ∷ []))))
  -- {a : 1, "b" : 2, For : 3}
  pub objects : Is (a k.OpenBrace ∷ name (codes "a") ∷ a k.Colon ∷ int 1 ∷ a k.Comma ∷ text (codes "b") ∷ a k.Colon ∷ int 2 ∷ a k.Comma ∷ named_token k.For (codes "For") ∷ a k.Colon ∷ int 3 ∷ a k.CloseBrace ∷ [])
      (node 0 (p.object_form (p.pairs_of Name Name TypeName (p.named_pair (codes "a") 2 (num 3 1) ∷ p.computed_pair (node 5 (p.text_form (codes "b"))) 6 (num 7 2) ∷ p.named_pair (codes "For") 10 (num 11 3) ∷ []))))
  -- [{| $a, {} |}, []]
  pub arrays_and_merges : Is (a k.OpenBracket ∷ a k.OpenMerge ∷ var (codes "a") ∷ a k.Comma ∷ a k.OpenBrace ∷ a k.CloseBrace ∷ a k.CloseMerge ∷ a k.Comma ∷ a k.OpenBracket ∷ a k.CloseBracket ∷ a k.CloseBracket ∷ [])
      (node 0 (p.array_form (p.one_tree (node 1 (p.comma_form (node 1 (p.merge_form (p.one_tree (node 2 (p.comma_form (read_var 2 (codes "a")) (operands (p.operand_node 3 (node 4 (p.object_form p.no_pairs)) ∷ []))))))) (operands (p.operand_node 7 (node 8 (p.array_form p.no_tree)) ∷ [])))))))
  -- f(1, g())
  pub calls : Is (name (codes "f") ∷ a k.OpenParen ∷ int 1 ∷ a k.Comma ∷ name (codes "g") ∷ a k.OpenParen ∷ a k.CloseParen ∷ a k.CloseParen ∷ [])
      (node 0 (p.call_form (codes "f") (p.more_trees (num 2 1) (p.more_trees (node 4 (p.call_form (codes "g") p.no_trees)) p.no_trees))))

primaries_read : Primaries
unfolding read_many read_times inside is g.variable g.parens g.times g.item_type g.empty_parens g.empty_rest g.empty_type g.seq_type g.single_type g.as_type g.literal g.in_parens g.in_braces g.content g.paren g.merge g.array g.name_key g.computed_key g.pair_key g.pair g.pair_list g.pairs g.object g.argument g.argument_list g.some_arguments g.arguments g.arity g.call g.inline_function g.primary g.members g.member g.filter g.bracket_step g.plain_key g.computed_lookup g.field_step g.call_step g.step g.steps g.postfix g.mapped_operand g.mapped_operands g.map_level g.sign_mark g.sign_marks g.sign g.cast_type g.cast g.castable_type g.castable g.treat_type g.treat g.instance_type g.instance g.factor g.factors g.product g.term g.terms g.sum g.range_end g.range g.concat_operand g.concat_operands g.concat g.compared g.comparison g.compare g.not_level g.and_operand g.and_operands g.and_level g.or_operand g.or_operands g.or_level g.allowing g.at_variable g.for_var g.window g.for_vars g.for_clause g.let_var g.let_vars g.let_clause g.first_clause g.where_clause g.group_value g.group_var g.group_vars g.group_clause g.empty_order g.direction g.order_key g.order_list g.order_keys g.order_clause g.count_clause g.one_clause g.clause g.returned g.clauses g.flwor g.bind g.binds g.quant g.case_test g.case_tests g.case g.cases g.switch g.seq_types g.case_variable g.type_case g.default_variable g.type_default g.type_cases g.typeswitch g.if g.catch_names g.catch_codes g.catch g.catches g.try g.single g.comma_operand g.comma_operands g.expr g.param g.variable_declaration g.param_list g.some_params g.params g.function_body g.function_declaration g.declaration g.declarations g.module_part
primaries_read = record { literals = refl; parentheses = refl; objects = refl; arrays_and_merges = refl; calls = refl }

-- the forms that begin with a keyword
pub record Statements : Type 0 where
  -- if (1) then 2 else 3
  pub ifs : Is (a k.If ∷ a k.OpenParen ∷ int 1 ∷ a k.CloseParen ∷ a k.Then ∷ int 2 ∷ a k.Else ∷ int 3 ∷ [])
      (node 0 (p.if_form (num 2 1) (num 5 2) (num 7 3)))
  -- try {1} catch a | b {2} catch * {3}
  pub tries : Is (a k.Try ∷ a k.OpenBrace ∷ int 1 ∷ a k.CloseBrace ∷ a k.Catch ∷ name (codes "a") ∷ a k.Bar ∷ name (codes "b") ∷ a k.OpenBrace ∷ int 2 ∷ a k.CloseBrace ∷ a k.Catch ∷ a k.Star ∷ a k.OpenBrace ∷ int 3 ∷ a k.CloseBrace ∷ [])
      (node 0 (p.try_form (num 2 1) (p.catches_of Name Name TypeName (p.catch_node (named 4 (codes "err:code")) (Some ((codes "a") ∷ (codes "b") ∷ [])) (num 9 2) ∷ p.catch_node (named 11 (codes "err:code")) None (num 14 3) ∷ []))))
  -- switch (1) case 2 case 3 return 4 default return 5
  pub switches : Is (a k.Switch ∷ a k.OpenParen ∷ int 1 ∷ a k.CloseParen ∷ a k.Case ∷ int 2 ∷ a k.Case ∷ int 3 ∷ a k.Return ∷ int 4 ∷ a k.Default ∷ a k.Return ∷ int 5 ∷ [])
      (node 0 (p.switch_form (num 2 1) (p.cases_of Name Name TypeName (p.case_node (p.more_trees (num 5 2) (p.more_trees (num 7 3) p.no_trees)) (num 9 4) ∷ [])) (num 12 5)))
  -- typeswitch (1) case $x as a | b return 2 default $y return 3
  pub typeswitches : Is (a k.Typeswitch ∷ a k.OpenParen ∷ int 1 ∷ a k.CloseParen ∷ a k.Case ∷ var (codes "x") ∷ a k.As ∷ name (codes "a") ∷ a k.Bar ∷ name (codes "b") ∷ a k.Return ∷ int 2 ∷ a k.Default ∷ var (codes "y") ∷ a k.Return ∷ int 3 ∷ [])
      (node 0 (p.typeswitch_form (num 2 1) (p.type_cases_of Name Name TypeName (p.type_case_node (Some (named 5 (codes "x"))) (one_type 7 (codes "a") ∷ one_type 9 (codes "b") ∷ []) (num 11 2) ∷ [])) (Some (named 13 (codes "y"))) (num 15 3)))
  -- some $x in 1, $y as a in 2 satisfies 3
  pub somes : Is (a k.Some ∷ var (codes "x") ∷ a k.In ∷ int 1 ∷ a k.Comma ∷ var (codes "y") ∷ a k.As ∷ name (codes "a") ∷ a k.In ∷ int 2 ∷ a k.Satisfies ∷ int 3 ∷ [])
      (node 0 (p.quant_form quantifiers.Any (binds (p.bind_node (named 1 (codes "x")) None (num 3 1) ∷ p.bind_node (named 5 (codes "y")) (Some (one_type 7 (codes "a"))) (num 9 2) ∷ [])) (num 11 3)))
  -- every $x in 1 satisfies 2
  pub everies : Is (a k.Every ∷ var (codes "x") ∷ a k.In ∷ int 1 ∷ a k.Satisfies ∷ int 2 ∷ [])
      (node 0 (p.quant_form quantifiers.Every (binds (p.bind_node (named 1 (codes "x")) None (num 3 1) ∷ [])) (num 5 2)))

statements_read : Statements
unfolding read_many read_times inside is g.variable g.parens g.times g.item_type g.empty_parens g.empty_rest g.empty_type g.seq_type g.single_type g.as_type g.literal g.in_parens g.in_braces g.content g.paren g.merge g.array g.name_key g.computed_key g.pair_key g.pair g.pair_list g.pairs g.object g.argument g.argument_list g.some_arguments g.arguments g.arity g.call g.inline_function g.primary g.members g.member g.filter g.bracket_step g.plain_key g.computed_lookup g.field_step g.call_step g.step g.steps g.postfix g.mapped_operand g.mapped_operands g.map_level g.sign_mark g.sign_marks g.sign g.cast_type g.cast g.castable_type g.castable g.treat_type g.treat g.instance_type g.instance g.factor g.factors g.product g.term g.terms g.sum g.range_end g.range g.concat_operand g.concat_operands g.concat g.compared g.comparison g.compare g.not_level g.and_operand g.and_operands g.and_level g.or_operand g.or_operands g.or_level g.allowing g.at_variable g.for_var g.window g.for_vars g.for_clause g.let_var g.let_vars g.let_clause g.first_clause g.where_clause g.group_value g.group_var g.group_vars g.group_clause g.empty_order g.direction g.order_key g.order_list g.order_keys g.order_clause g.count_clause g.one_clause g.clause g.returned g.clauses g.flwor g.bind g.binds g.quant g.case_test g.case_tests g.case g.cases g.switch g.seq_types g.case_variable g.type_case g.default_variable g.type_default g.type_cases g.typeswitch g.if g.catch_names g.catch_codes g.catch g.catches g.try g.single g.comma_operand g.comma_operands g.expr g.param g.variable_declaration g.param_list g.some_params g.params g.function_body g.function_declaration g.declaration g.declarations g.module_part
statements_read = record { ifs = refl; tries = refl; switches = refl; typeswitches = refl; somes = refl; everies = refl }

-- a FLWOR, with a clause for each variable
pub record Clauses : Type 0 where
  -- for $x as a allowing empty at $i in 1, $y in 2 let $z := 3 where 4 return 5
  pub for_and_let : Is (a k.For ∷ var (codes "x") ∷ a k.As ∷ name (codes "a") ∷ a k.Allowing ∷ a k.Empty ∷ a k.At ∷ var (codes "i") ∷ a k.In ∷ int 1 ∷ a k.Comma ∷ var (codes "y") ∷ a k.In ∷ int 2 ∷ a k.Let ∷ var (codes "z") ∷ a k.Assign ∷ int 3 ∷ a k.Where ∷ int 4 ∷ a k.Return ∷ int 5 ∷ [])
      (node 0 (p.flwor_form (clauses (p.for_clause (named 1 (codes "x")) (Some (one_type 3 (codes "a"))) true (Some (named 7 (codes "i"))) (num 9 1) ∷ p.for_clause (named 11 (codes "y")) None false None (num 13 2) ∷ p.let_clause (named 15 (codes "z")) None (num 17 3) ∷ p.where_clause 18 (num 19 4) ∷ [])) 20 (num 21 5)))
  -- let $x := 1 group by $g, $h := 2 stable order by 3 descending empty greatest, 4 ascending count $c order by 5 return 6
  pub group_and_order : Is (a k.Let ∷ var (codes "x") ∷ a k.Assign ∷ int 1 ∷ a k.Group ∷ a k.By ∷ var (codes "g") ∷ a k.Comma ∷ var (codes "h") ∷ a k.Assign ∷ int 2 ∷ a k.Stable ∷ a k.Order ∷ a k.By ∷ int 3 ∷ a k.Descending ∷ a k.Empty ∷ a k.Greatest ∷ a k.Comma ∷ int 4 ∷ a k.Ascending ∷ a k.Count ∷ var (codes "c") ∷ a k.Order ∷ a k.By ∷ int 5 ∷ a k.Return ∷ int 6 ∷ [])
      (node 0 (p.flwor_form (clauses (p.let_clause (named 1 (codes "x")) None (num 3 1) ∷ p.group_clause 4 (p.group_vars_of Name Name TypeName (p.stream_group_var (named 6 (codes "g")) ∷ p.computed_group_var (named 8 (codes "h")) (num 10 2) ∷ [])) ∷ p.order_clause 11 true (keys (p.order_key_node (num 14 3) true true ∷ p.order_key_node (num 19 4) false false ∷ [])) ∷ p.count_clause 21 (named 22 (codes "c")) ∷ p.order_clause 23 false (keys (p.order_key_node (num 25 5) false false ∷ [])) ∷ [])) 26 (num 27 6)))

clauses_read : Clauses
unfolding read_many read_times inside is g.variable g.parens g.times g.item_type g.empty_parens g.empty_rest g.empty_type g.seq_type g.single_type g.as_type g.literal g.in_parens g.in_braces g.content g.paren g.merge g.array g.name_key g.computed_key g.pair_key g.pair g.pair_list g.pairs g.object g.argument g.argument_list g.some_arguments g.arguments g.arity g.call g.inline_function g.primary g.members g.member g.filter g.bracket_step g.plain_key g.computed_lookup g.field_step g.call_step g.step g.steps g.postfix g.mapped_operand g.mapped_operands g.map_level g.sign_mark g.sign_marks g.sign g.cast_type g.cast g.castable_type g.castable g.treat_type g.treat g.instance_type g.instance g.factor g.factors g.product g.term g.terms g.sum g.range_end g.range g.concat_operand g.concat_operands g.concat g.compared g.comparison g.compare g.not_level g.and_operand g.and_operands g.and_level g.or_operand g.or_operands g.or_level g.allowing g.at_variable g.for_var g.window g.for_vars g.for_clause g.let_var g.let_vars g.let_clause g.first_clause g.where_clause g.group_value g.group_var g.group_vars g.group_clause g.empty_order g.direction g.order_key g.order_list g.order_keys g.order_clause g.count_clause g.one_clause g.clause g.returned g.clauses g.flwor g.bind g.binds g.quant g.case_test g.case_tests g.case g.cases g.switch g.seq_types g.case_variable g.type_case g.default_variable g.type_default g.type_cases g.typeswitch g.if g.catch_names g.catch_codes g.catch g.catches g.try g.single g.comma_operand g.comma_operands g.expr g.param g.variable_declaration g.param_list g.some_params g.params g.function_body g.function_declaration g.declaration g.declarations g.module_part
clauses_read = record { for_and_let = refl; group_and_order = refl }

abbrev declared : Module
declared = record {
  variables = record { variable = named 2 (codes "x"); type = None; value = num 4 1 } ∷ [];
  functions = record {
    function = named 8 (codes "f");
    params = record { variable = named 10 (codes "a"); of = Some (one_type 12 (codes "b")) } ∷ [];
    type = Some (one_type 15 (codes "c"));
    body = num 17 2;
  } ∷ [];
  body = num 20 3;
}

-- declare variable $x := 1; declare function f($a as b) as c { 2 }; 3
declarations_read : Reads (a k.Declare ∷ a k.Variable ∷ var (codes "x") ∷ a k.Assign ∷ int 1 ∷ a k.Semicolon ∷ a k.Declare ∷ a k.Function ∷ name (codes "f") ∷ a k.OpenParen ∷ var (codes "a") ∷ a k.As ∷ name (codes "b") ∷ a k.CloseParen ∷ a k.As ∷ name (codes "c") ∷ a k.OpenBrace ∷ int 2 ∷ a k.CloseBrace ∷ a k.Semicolon ∷ int 3 ∷ []) declared
unfolding read_many read_times inside is g.variable g.parens g.times g.item_type g.empty_parens g.empty_rest g.empty_type g.seq_type g.single_type g.as_type g.literal g.in_parens g.in_braces g.content g.paren g.merge g.array g.name_key g.computed_key g.pair_key g.pair g.pair_list g.pairs g.object g.argument g.argument_list g.some_arguments g.arguments g.arity g.call g.inline_function g.primary g.members g.member g.filter g.bracket_step g.plain_key g.computed_lookup g.field_step g.call_step g.step g.steps g.postfix g.mapped_operand g.mapped_operands g.map_level g.sign_mark g.sign_marks g.sign g.cast_type g.cast g.castable_type g.castable g.treat_type g.treat g.instance_type g.instance g.factor g.factors g.product g.term g.terms g.sum g.range_end g.range g.concat_operand g.concat_operands g.concat g.compared g.comparison g.compare g.not_level g.and_operand g.and_operands g.and_level g.or_operand g.or_operands g.or_level g.allowing g.at_variable g.for_var g.window g.for_vars g.for_clause g.let_var g.let_vars g.let_clause g.first_clause g.where_clause g.group_value g.group_var g.group_vars g.group_clause g.empty_order g.direction g.order_key g.order_list g.order_keys g.order_clause g.count_clause g.one_clause g.clause g.returned g.clauses g.flwor g.bind g.binds g.quant g.case_test g.case_tests g.case g.cases g.switch g.seq_types g.case_variable g.type_case g.default_variable g.type_default g.type_cases g.typeswitch g.if g.catch_names g.catch_codes g.catch g.catches g.try g.single g.comma_operand g.comma_operands g.expr g.param g.variable_declaration g.param_list g.some_params g.params g.function_body g.function_declaration g.declaration g.declarations g.module_part
declarations_read = refl
