-- No operand of a comma on the spine of a query's expressions is itself a comma.
use Rattle.std.proofs.Common.{◌≡◌, ℕ, zero, suc, Bool, true, false, not, ◌&&◌, List, [], ◌∷◌, Option, Some, None, refl, ap}
use Rattle.std.proofs.lemmas.Bool.{and_from}
use Rattle.query_tree.specs.declared.operator.CompareOp.{CompareOp}
use Rattle.query_tree.specs.declared.operator.SumOp.{SumOp}
use Rattle.query_tree.specs.Plain as p
use Rattle.query_tree.specs.Spines.{is_comma, is_comma_form, commas_apart, form_apart, operand_apart, operands_apart}
use Rattle.grammar_parts.specs.Levels.{Mode, Inner, mode_at, inside, level}
use Rattle.query_grammar.specs.declared.word.Word.{Word}
use Rattle.query_grammar.specs.declared.word.Kind.{Kind}
use Rattle.query_grammar.specs.declared.word.Kind.TheVariants as k
use Rattle.query_grammar.specs.declared.word.Value.{Value}
use Rattle.query_grammar.specs.declared.part.Part.{Part}
use Rattle.query_grammar.specs.declared.part.Part.TheVariants as i
use Rattle.query_grammar.specs.Nodes as n
use Rattle.query_grammar.specs.Nodes.{Tree, Form, Type', Operand, Operands, Term, Factor, Step, Declaration, Module}
use Rattle.query_grammar.specs.Classes.{is, given, is_literal, is_call_name, is_quantifier, single_first, flwor_first}
use Rattle.query_grammar.specs.Grammar as g
use Rattle.query_grammar.specs.Texts.{part_of, max_nesting}
use Rattle.query_grammar.specs.Laws.{Each, HasCommasApart, CommasStandApart}
use Rattle.query_grammar.proofs.Values.{Keeps, IfAny, any, none_keeps, only_keeps, alt_keeps, many_keeps, mapped_keeps, seq_keeps, first_keeps, second_keeps, long_keeps, opt_keeps, before_keeps, behind_keeps, from_keeps}

-- ---- what values have

abbrev Apart : Tree → Type 0
Apart t = commas_apart t ≡ true

-- of a tree that may be an operand of a comma
abbrev Alone : Tree → Type 0
Alone t = (is_comma t ≡ false) × (commas_apart t ≡ true)

-- of a form that ends the spine
abbrev Leaf : Form → Type 0
Leaf form = (is_comma_form form ≡ false) × (form_apart form ≡ true)

abbrev OperandAlone : Operand → Type 0
OperandAlone o = operand_apart o ≡ true

abbrev DeclarationApart : Declaration → Type 0
DeclarationApart (n.of_variable x) = commas_apart x.value ≡ true
DeclarationApart (n.of_function x) = commas_apart x.body ≡ true

-- ---- what nodes make of their parts

literal_form-leaf : (kind : Kind) (v : Value) → Leaf (n.literal_form kind v)
literal_form-leaf k.Int v = (refl, refl)
literal_form-leaf k.Dec v = (refl, refl)
literal_form-leaf k.Text v = (refl, refl)
literal_form-leaf k.True v = (refl, refl)
literal_form-leaf k.False v = (refl, refl)
literal_form-leaf k.Var v = (refl, refl)
literal_form-leaf k.Context v = (refl, refl)
literal_form-leaf _ v = (refl, refl)

literal-alone : (w : Word) → Alone (n.literal w)
literal-alone w = literal_form-leaf w.kind w.value

paren-alone : (z : ℕ × Option Tree) → IfAny Apart z.1 → Alone (n.paren z)
paren-alone (place, None) h = (refl, refl)
paren-alone (place, Some t) h = (refl, h)

postfix-alone : (z : Tree × List Step) → Alone z.0 → Alone (n.postfix z)
postfix-alone (t, []) h = h
postfix-alone (t, x ∷ xs) h = (refl, refl)

chain-alone : (form : Tree → Operands → Form) → ((t : Tree) (os : Operands) → Leaf (form t os)) → (z : Tree × List Operand) → Alone z.0 → Alone (n.chain form z)
chain-alone form leaf (t, []) h = h
chain-alone form leaf (t, x ∷ xs) h = leaf t _

sign-alone : (z : List (SumOp × ℕ) × Tree) → Alone z.1 → Alone (n.sign z)
sign-alone ([], t) h = h
sign-alone (x ∷ xs, t) h = (refl, refl)

typed-alone : (form : Tree → ℕ → Type' → Form) → ((t : Tree) (place : ℕ) (of : Type') → Leaf (form t place of)) → (z : Tree × Option (ℕ × Type')) → Alone z.0 → Alone (n.typed form z)
typed-alone form leaf (t, None) h = h
typed-alone form leaf (t, Some z) h = leaf t z.0 z.1

product-alone : (z : Tree × List Factor) → Alone z.0 → Alone (n.product z)
product-alone (t, []) h = h
product-alone (t, x ∷ xs) h = (refl, refl)

sum-alone : (z : Tree × List Term) → Alone z.0 → Alone (n.sum z)
sum-alone (t, []) h = h
sum-alone (t, x ∷ xs) h = (refl, refl)

range-alone : (z : Tree × Option (ℕ × Tree)) → Alone z.0 → Alone (n.range z)
range-alone (t, None) h = h
range-alone (t, Some z) h = (refl, refl)

compare-alone : (z : Tree × Option (CompareOp × ℕ × Tree)) → Alone z.0 → Alone (n.compare z)
compare-alone (t, None) h = h
compare-alone (t, Some z) h = (refl, refl)

tested-alone : (t : Tree) → Alone t → not (is_comma t) && commas_apart t ≡ true
tested-alone t h = and_from (not (is_comma t)) (commas_apart t) (ap not h.0) h.1

operands-alone : (os : List Operand) → Each OperandAlone os → operands_apart (p.operands_of _ _ _ os) ≡ true
operands-alone [] h = refl
operands-alone (o ∷ os) h = and_from (operand_apart o) (operands_apart (p.operands_of _ _ _ os)) h.0 (operands-alone os h.1)

comma-apart : (z : Tree × List Operand) → Alone z.0 × Each OperandAlone z.1 → Apart (n.chain p.comma_form z)
comma-apart (t, []) h = h.0.1
comma-apart (t, o ∷ os) h = and_from (not (is_comma t) && commas_apart t) (operands_apart (p.operands_of _ _ _ (o ∷ os))) (tested-alone t h.0) (operands-alone (o ∷ os) h.1)

variables-apart : (ds : List Declaration) → Each DeclarationApart ds → Each (λ x. commas_apart x.value ≡ true) (n.variables_in ds)
variables-apart [] h = tt
variables-apart (n.of_variable x ∷ ds) h = (h.0, variables-apart ds h.1)
variables-apart (n.of_function x ∷ ds) h = variables-apart ds h.1

functions-apart : (ds : List Declaration) → Each DeclarationApart ds → Each (λ f. commas_apart f.body ≡ true) (n.functions_in ds)
functions-apart [] h = tt
functions-apart (n.of_variable x ∷ ds) h = functions-apart ds h.1
functions-apart (n.of_function x ∷ ds) h = (h.0, functions-apart ds h.1)

-- ---- productions

module _ (m : Mode) (inner : Inner Word Part Tree) (kept : (part : Part) → Keeps Apart (inner part)) where
  literal-keeps : Keeps Alone (g.literal m inner)
  unfolding g.literal
  literal-keeps = mapped_keeps n.literal (λ w h. literal-alone w) any

  content-keeps : Keeps (IfAny Apart) (g.content m inner)
  unfolding g.content
  content-keeps = opt_keeps (single_first m.wide m.room_in) (kept i.Expr)

  paren-keeps : Keeps Alone (g.paren m inner)
  unfolding g.paren
  paren-keeps = only_keeps m.room (mapped_keeps n.paren paren-alone (from_keeps k.OpenParen (behind_keeps k.CloseParen content-keeps)))

  object-keeps : Keeps Alone (g.object m inner)
  unfolding g.object
  object-keeps = only_keeps m.room (mapped_keeps n.object (λ z h. (refl, refl)) any)

  merge-keeps : Keeps Alone (g.merge m inner)
  unfolding g.merge
  merge-keeps = only_keeps m.room (mapped_keeps n.merge (λ z h. (refl, refl)) any)

  array-keeps : Keeps Alone (g.array m inner)
  unfolding g.array
  array-keeps = only_keeps m.room (mapped_keeps n.array (λ z h. (refl, refl)) any)

  call-keeps : Keeps Alone (g.call m inner)
  unfolding g.call
  call-keeps = only_keeps m.room (mapped_keeps n.call (λ z h. (refl, refl)) any)

  inline_function-keeps : Keeps Alone (g.inline_function m inner)
  unfolding g.inline_function
  inline_function-keeps = only_keeps m.wide (mapped_keeps n.inline_function (λ z h. (refl, refl)) any)

  primary-keeps : Keeps Alone (g.primary m inner)
  unfolding g.primary
  primary-keeps = alt_keeps (is_literal m.wide) literal-keeps (alt_keeps (given m.room (is k.OpenParen)) paren-keeps (alt_keeps (given m.room (is k.OpenBrace)) object-keeps (alt_keeps (given m.room (is k.OpenMerge)) merge-keeps (alt_keeps (given m.room (is k.OpenBracket)) array-keeps (alt_keeps (given m.room is_call_name) call-keeps inline_function-keeps)))))

  postfix-keeps : Keeps Alone (g.postfix m inner)
  unfolding g.postfix
  postfix-keeps = mapped_keeps n.postfix postfix-alone (first_keeps _ primary-keeps)

  map_level-keeps : Keeps Alone (g.map_level m inner)
  unfolding g.map_level
  map_level-keeps = mapped_keeps (n.chain p.map_form) (chain-alone p.map_form (λ t os. (refl, refl))) (first_keeps _ postfix-keeps)

  sign-keeps : Keeps Alone (g.sign m inner)
  unfolding g.sign
  sign-keeps = mapped_keeps n.sign sign-alone (second_keeps _ map_level-keeps)

  cast-keeps : Keeps Alone (g.cast m inner)
  unfolding g.cast
  cast-keeps = mapped_keeps (n.typed p.cast_form) (typed-alone p.cast_form (λ t place of. (refl, refl))) (first_keeps _ sign-keeps)

  castable-keeps : Keeps Alone (g.castable m inner)
  unfolding g.castable
  castable-keeps = mapped_keeps (n.typed p.castable_form) (typed-alone p.castable_form (λ t place of. (refl, refl))) (first_keeps _ cast-keeps)

  treat-keeps : Keeps Alone (g.treat m inner)
  unfolding g.treat
  treat-keeps = mapped_keeps (n.typed p.treat_form) (typed-alone p.treat_form (λ t place of. (refl, refl))) (first_keeps _ castable-keeps)

  instance-keeps : Keeps Alone (g.instance m inner)
  unfolding g.instance
  instance-keeps = mapped_keeps (n.typed p.instance_form) (typed-alone p.instance_form (λ t place of. (refl, refl))) (first_keeps _ treat-keeps)

  product-keeps : Keeps Alone (g.product m inner)
  unfolding g.product
  product-keeps = mapped_keeps n.product product-alone (long_keeps _ instance-keeps)

  sum-keeps : Keeps Alone (g.sum m inner)
  unfolding g.sum
  sum-keeps = mapped_keeps n.sum sum-alone (long_keeps _ product-keeps)

  range-keeps : Keeps Alone (g.range m inner)
  unfolding g.range
  range-keeps = mapped_keeps n.range range-alone (first_keeps _ sum-keeps)

  concat-keeps : Keeps Alone (g.concat m inner)
  unfolding g.concat
  concat-keeps = mapped_keeps (n.chain p.concat_form) (chain-alone p.concat_form (λ t os. (refl, refl))) (first_keeps _ range-keeps)

  compare-keeps : Keeps Alone (g.compare m inner)
  unfolding g.compare
  compare-keeps = mapped_keeps n.compare compare-alone (first_keeps _ concat-keeps)

  not_level-keeps : Keeps Alone (g.not_level m inner)
  unfolding g.not_level
  not_level-keeps = alt_keeps (is k.Not) (mapped_keeps n.not (λ z h. (refl, refl)) any) compare-keeps

  and_level-keeps : Keeps Alone (g.and_level m inner)
  unfolding g.and_level
  and_level-keeps = mapped_keeps (n.chain p.and_form) (chain-alone p.and_form (λ t os. (refl, refl))) (first_keeps _ not_level-keeps)

  or_level-keeps : Keeps Alone (g.or_level m inner)
  unfolding g.or_level
  or_level-keeps = mapped_keeps (n.chain p.or_form) (chain-alone p.or_form (λ t os. (refl, refl))) (first_keeps _ and_level-keeps)

  flwor-keeps : Keeps Alone (g.flwor m inner)
  unfolding g.flwor
  flwor-keeps = only_keeps m.room (mapped_keeps n.flwor (λ z h. (refl, refl)) any)

  quant-keeps : Keeps Alone (g.quant m inner)
  unfolding g.quant
  quant-keeps = only_keeps m.room (mapped_keeps n.quant (λ z h. (refl, refl)) any)

  switch-keeps : Keeps Alone (g.switch m inner)
  unfolding g.switch
  switch-keeps = only_keeps m.room (mapped_keeps n.switch (λ z h. (refl, refl)) any)

  typeswitch-keeps : Keeps Alone (g.typeswitch m inner)
  unfolding g.typeswitch
  typeswitch-keeps = only_keeps m.room (mapped_keeps n.typeswitch (λ z h. (refl, refl)) any)

  if-keeps : Keeps Alone (g.if m inner)
  unfolding g.if
  if-keeps = only_keeps m.room (mapped_keeps n.if (λ z h. (refl, refl)) any)

  in_braces-keeps : Keeps Apart (g.in_braces m inner)
  unfolding g.in_braces
  in_braces-keeps = before_keeps k.OpenBrace (behind_keeps k.CloseBrace (kept i.Expr))

  try-keeps : Keeps Alone (g.try m inner)
  unfolding g.try
  try-keeps = only_keeps m.room (mapped_keeps n.try (λ z h. (refl, h)) (from_keeps k.Try (first_keeps _ in_braces-keeps)))

  single-keeps : Keeps Alone (g.single m inner)
  unfolding g.single
  single-keeps = alt_keeps (flwor_first m.room) flwor-keeps (alt_keeps (given m.room is_quantifier) quant-keeps (alt_keeps (given m.room (is k.Switch)) switch-keeps (alt_keeps (given m.room (is k.Typeswitch)) typeswitch-keeps (alt_keeps (given m.room (is k.If)) if-keeps (alt_keeps (given m.room (is k.Try)) try-keeps or_level-keeps)))))

  comma_operand-keeps : Keeps OperandAlone (g.comma_operand m inner)
  unfolding g.comma_operand
  comma_operand-keeps = mapped_keeps n.operand (λ z h. tested-alone z.1 h) (from_keeps k.Comma single-keeps)

  comma_operands-keeps : Keeps (Each OperandAlone) (g.comma_operands m inner)
  unfolding g.comma_operands
  comma_operands-keeps = many_keeps (is k.Comma) comma_operand-keeps

  expr-keeps : Keeps Apart (g.expr m inner)
  unfolding g.expr
  expr-keeps = mapped_keeps (n.chain p.comma_form) comma-apart (seq_keeps single-keeps comma_operands-keeps)

  forms-keep : (part : Part) → Keeps Apart (g.forms m inner part)
  forms-keep i.Expr = expr-keeps
  forms-keep i.Single = record { of = λ l t w. (single-keeps.of l t w).1 }

  -- ---- modules

  variable_declaration-keeps : Keeps DeclarationApart (g.variable_declaration m inner)
  unfolding g.variable_declaration
  variable_declaration-keeps = mapped_keeps n.variable_declaration (λ z h. h) (before_keeps k.Variable (second_keeps _ (second_keeps _ (before_keeps k.Assign (kept i.Single)))))

  function_body-keeps : Keeps Apart (g.function_body m inner)
  unfolding g.function_body
  function_body-keeps = before_keeps k.OpenBrace (behind_keeps k.CloseBrace (kept i.Expr))

  function_declaration-keeps : Keeps DeclarationApart (g.function_declaration m inner)
  unfolding g.function_declaration
  function_declaration-keeps = mapped_keeps n.function_declaration (λ z h. h) (before_keeps k.Function (second_keeps _ (second_keeps _ (second_keeps _ function_body-keeps))))

  declaration-keeps : Keeps DeclarationApart (g.declaration m inner)
  unfolding g.declaration
  declaration-keeps = before_keeps k.Declare (behind_keeps k.Semicolon (alt_keeps (is k.Variable) variable_declaration-keeps function_declaration-keeps))

  declarations-keeps : Keeps (Each DeclarationApart) (g.declarations m inner)
  unfolding g.declarations
  declarations-keeps = many_keeps (is k.Declare) declaration-keeps

  module_part-keeps : Keeps CommasStandApart (g.module_part m inner)
  unfolding g.module_part
  module_part-keeps = mapped_keeps n.module_with (λ z h. record { variables = variables-apart z.0 h.0; functions = functions-apart z.0 h.0; body = h.1 }) (seq_keeps declarations-keeps (kept i.Expr))

-- ---- levels

level-keeps : (wide : Bool) (n : ℕ) (part : Part) → Keeps Apart (level g.forms wide n part)
unfolding inside
level-keeps wide zero part = forms-keep (mode_at wide zero) (inside g.forms wide zero) (λ q. none_keeps) part
level-keeps wide (suc n) part = forms-keep (mode_at wide (suc n)) (inside g.forms wide (suc n)) (level-keeps wide n) part

part-keeps : (n : ℕ) → Keeps CommasStandApart (part_of false n)
part-keeps n = module_part-keeps (mode_at false (suc n)) (level g.forms false n) (level-keeps false n)

pub query_apart : (words : List Word) → HasCommasApart words
query_apart words tree w = (part-keeps max_nesting).of words tree w
