-- The nodes that productions make of their parts.
use Rattle.std.specs.Prelude.{ℕ, ℤ, pos, Bool, true, false, List, [], ◌∷◌, ◌++◌, map, Option, Some, None, codes}
use Rattle.seq_types.specs.declared.types.Times.{Times}
use Rattle.seq_types.specs.declared.types.Times.TheVariants as times
use Rattle.query_tree.specs.declared.names.Placed.{Placed}
use Rattle.query_tree.specs.declared.names.TypeName.{TypeName}
use Rattle.query_tree.specs.declared.module.Param.{Param}
use Rattle.query_tree.specs.declared.operator.Quantifier.{Quantifier}
use Rattle.query_tree.specs.declared.operator.Quantifier.TheVariants as quantifiers
use Rattle.query_tree.specs.declared.operator.CompareOp.{CompareOp}
use Rattle.query_tree.specs.declared.operator.CompareOp.TheVariants as op
use Rattle.query_tree.specs.declared.operator.SumOp.{SumOp}
use Rattle.query_tree.specs.declared.operator.SumOp.TheVariants as sums
use Rattle.query_tree.specs.declared.operator.ProductOp.{ProductOp}
use Rattle.query_tree.specs.declared.operator.ProductOp.TheVariants as products
use Rattle.query_tree.specs.Plain as p
use Rattle.query_tree.specs.Modules.{PlainVariable, PlainFunction, PlainModule}
use Rattle.query_grammar.specs.declared.word.Word.{Word}
use Rattle.query_grammar.specs.declared.word.Value.{Value}
use Rattle.query_grammar.specs.declared.word.Value.TheVariants as value
use Rattle.query_grammar.specs.declared.word.Kind.{Kind}
use Rattle.query_grammar.specs.declared.word.Kind.TheVariants as k

-- ---- the types of trees as they are read

abbrev pub Name : Type 0
Name = List ℕ

abbrev pub Tree : Type 0
Tree = p.Tree Name Name TypeName

abbrev pub Form : Type 0
Form = p.Form Name Name TypeName

abbrev pub Operand : Type 0
Operand = p.PlainOperand Name Name TypeName

abbrev pub Operands : Type 0
Operands = p.PlainOperands Name Name TypeName

abbrev pub Term : Type 0
Term = p.PlainTerm Name Name TypeName

abbrev pub Factor : Type 0
Factor = p.PlainFactor Name Name TypeName

abbrev pub Step : Type 0
Step = p.PlainStep Name Name TypeName

abbrev pub Lookup : Type 0
Lookup = p.PlainLookup Name Name TypeName

abbrev pub Pair : Type 0
Pair = p.PlainPair Name Name TypeName

-- the key of a pair: a name that stands for itself, or an expression
pub data PairKey : Type 0 where
  by_name : Name → PairKey
  by_value : Tree → PairKey

abbrev pub Clause : Type 0
Clause = p.PlainClause Name Name TypeName

abbrev pub GroupVar : Type 0
GroupVar = p.PlainGroupVar Name Name TypeName

abbrev pub OrderKey : Type 0
OrderKey = p.PlainOrderKey Name Name TypeName

abbrev pub Bind : Type 0
Bind = p.PlainBind Name Name TypeName

abbrev pub Case : Type 0
Case = p.PlainCase Name Name TypeName

abbrev pub TypeCase : Type 0
TypeCase = p.PlainTypeCase Name Name TypeName

abbrev pub Catch : Type 0
Catch = p.PlainCatch Name Name TypeName

abbrev pub Variable : Type 0
Variable = PlainVariable Name Name TypeName

abbrev pub Function : Type 0
Function = PlainFunction Name Name TypeName

abbrev pub Module : Type 0
Module = PlainModule Name Name TypeName

abbrev pub Type' : Type 0
Type' = Placed TypeName

-- ---- what a token says

abbrev pub text_in : Value → Name
text_in (value.Text text) = text
text_in _ = []

abbrev pub whole_in : Value → ℤ
whole_in (value.Int n) = n
whole_in _ = pos 0

abbrev pub units_in : Value → ℤ
units_in (value.Dec n) = n
units_in _ = pos 0

abbrev pub name_of : Word → Name
name_of w = text_in w.value

abbrev pub placed : Word → Placed Name
placed w = record { place = w.place; name = text_in w.value }

-- ---- operators and signs

abbrev pub compare_op : Kind → CompareOp
compare_op k.Eq = op.ValueEq
compare_op k.Ne = op.ValueNe
compare_op k.Lt = op.ValueLt
compare_op k.Le = op.ValueLe
compare_op k.Gt = op.ValueGt
compare_op k.Ge = op.ValueGe
compare_op k.Differs = op.PairsNe
compare_op k.Less = op.PairsLt
compare_op k.AtMost = op.PairsLe
compare_op k.Greater = op.PairsGt
compare_op k.AtLeast = op.PairsGe
compare_op _ = op.PairsEq

abbrev pub sum_op : Kind → SumOp
sum_op k.Minus = sums.Minus
sum_op _ = sums.Plus

abbrev pub product_op : Kind → ProductOp
product_op k.Div = products.Div
product_op k.Idiv = products.Idiv
product_op k.Mod = products.Mod
product_op _ = products.Times

abbrev pub quantifier_of : Kind → Quantifier
quantifier_of k.Every = quantifiers.Every
quantifier_of _ = quantifiers.Any

abbrev pub times_by : Kind → Times
times_by k.Question = times.Optional
times_by k.Star = times.Any
times_by k.Plus = times.Many
times_by _ = times.One

-- ---- parts of nodes

abbrev pub place_of : Tree → ℕ
place_of (p.tree_node place form) = place

-- a node that stands where its first part does
abbrev pub node_at : Tree → Form → Tree
node_at first form = p.tree_node (place_of first) form

abbrev pub maybe : Option Tree → p.MaybeTree Name Name TypeName
maybe None = p.no_tree
maybe (Some t) = p.one_tree t

abbrev pub trees : List Tree → p.Trees Name Name TypeName
trees = p.trees_of Name Name TypeName

abbrev pub is_there : {A : Type 0} → Option A → Bool
is_there None = false
is_there (Some x) = true

-- what may be absent, as a list
abbrev pub listed : {A : Type 0} → Option (List A) → List A
listed None = []
listed (Some xs) = xs

abbrev pub concat : {A : Type 0} → List (List A) → List A
concat [] = []
concat (x ∷ xs) = x ++ concat xs

-- what stands for a form of the wider grammar
abbrev pub unused : Word → Tree
unused w = p.tree_node w.place p.null_form

-- ---- types

abbrev pub times_of : Option Word → Times
times_of None = times.One
times_of (Some w) = times_by w.kind

abbrev pub type_of : Word → Bool → Times → Type'
type_of w parens times = record {
  place = w.place;
  name = record { name = text_in w.value; parens = parens; times = times };
}

abbrev pub item_type : Word × (Bool × Times) → Type'
item_type z = type_of z.0 z.1.0 z.1.1

abbrev pub empty_parens : Word × Word → Bool × Times
empty_parens z = (true, times.One)

abbrev pub no_parens : Times → Bool × Times
no_parens t = (false, t)

abbrev pub single_type : Word × Option Word → Type'
single_type z = type_of z.0 false (times_of z.1)

-- ---- primary expressions

abbrev pub literal_form : Kind → Value → Form
literal_form k.Int v = p.int_form (whole_in v)
literal_form k.Dec v = p.dec_form (units_in v)
literal_form k.Text v = p.text_form (text_in v)
literal_form k.True v = p.true_form
literal_form k.False v = p.false_form
literal_form k.Var v = p.var_form (text_in v)
literal_form k.Context v = p.context_form
literal_form _ v = p.null_form

abbrev pub literal : Word → Tree
literal w = p.tree_node w.place (literal_form w.kind w.value)

abbrev pub paren : ℕ × Option Tree → Tree
paren z = p.tree_node z.0 (p.paren_form (maybe z.1))

abbrev pub merge : ℕ × Option Tree → Tree
merge z = p.tree_node z.0 (p.merge_form (maybe z.1))

abbrev pub array : ℕ × Option Tree → Tree
array z = p.tree_node z.0 (p.array_form (maybe z.1))

abbrev pub name_key : Word × Word → PairKey × ℕ
name_key z = (by_name (name_of z.0), z.1.place)

abbrev pub computed_key : Tree × Word → PairKey × ℕ
computed_key z = (by_value z.0, z.1.place)

abbrev pub pair : (PairKey × ℕ) × Tree → Pair
pair ((by_name name, place), value) = p.named_pair name place value
pair ((by_value key, place), value) = p.computed_pair key place value

abbrev pub object : ℕ × List Pair → Tree
object z = p.tree_node z.0 (p.object_form (p.pairs_of Name Name TypeName z.1))

abbrev pub no_trees : Word × Word → List Tree
no_trees z = []

abbrev pub call : Word × List Tree → Tree
call z = p.tree_node z.0.place (p.call_form (name_of z.0) (trees z.1))

abbrev pub inline_function : Word × Word → Tree
inline_function z = unused z.0

-- ---- steps; those in brackets wait for the place of the bracket

abbrev pub members : Word → ℕ → Step
members w place = p.members_step place

abbrev pub member : Tree → ℕ → Step
member e place = p.member_step place e

abbrev pub filter : Tree → ℕ → Step
filter e place = p.filter_step place e

abbrev pub step_at : ℕ × (ℕ → Step) → Step
step_at z = z.1 z.0

abbrev pub key_by : Kind → Word → Lookup
key_by k.Text w = p.text_lookup (name_of w)
key_by k.Var w = p.var_lookup (placed w)
key_by k.Context w = p.context_lookup w.place
key_by _ w = p.name_lookup (name_of w)

abbrev pub plain_key : Word → Lookup
plain_key w = key_by w.kind w

abbrev pub computed_lookup : Tree → Lookup
computed_lookup e = p.computed_lookup e

abbrev pub field_step : ℕ × Lookup → Step
field_step z = p.field_step z.0 z.1

abbrev pub unused_step : Word → Step
unused_step w = p.members_step w.place

abbrev pub postfix : Tree × List Step → Tree
postfix (primary, []) = primary
postfix (primary, x ∷ xs) =
    node_at primary (p.postfix_form primary (p.steps_of Name Name TypeName (x ∷ xs)))

-- ---- operators; a level without an operator makes no node

abbrev pub operand : ℕ × Tree → Operand
operand z = p.operand_node z.0 z.1

abbrev pub chain : (Tree → Operands → Form) → Tree × List Operand → Tree
chain form (first, []) = first
chain form (first, x ∷ xs) = node_at first (form first (p.operands_of Name Name TypeName (x ∷ xs)))

abbrev pub sign_mark : Word → SumOp × ℕ
sign_mark w = (sum_op w.kind, w.place)

abbrev pub sign : List (SumOp × ℕ) × Tree → Tree
sign ([], operand) = operand
sign (x ∷ xs, operand) = p.tree_node x.1 (p.sign_form (x ∷ xs) operand)

-- an operand and the type behind it, with the place of the operator
abbrev pub typed : (Tree → ℕ → Type' → Form) → Tree × Option (ℕ × Type') → Tree
typed form (operand, None) = operand
typed form (operand, Some z) = node_at operand (form operand z.0 z.1)

abbrev pub factor : Word × Tree → Factor
factor z = p.factor_node (product_op z.0.kind) z.0.place z.1

abbrev pub product : Tree × List Factor → Tree
product (first, []) = first
product (first, x ∷ xs) =
    node_at first (p.product_form first (p.factors_of Name Name TypeName (x ∷ xs)))

abbrev pub term : Word × Tree → Term
term z = p.term_node (sum_op z.0.kind) z.0.place z.1

abbrev pub sum : Tree × List Term → Tree
sum (first, []) = first
sum (first, x ∷ xs) = node_at first (p.sum_form first (p.terms_of Name Name TypeName (x ∷ xs)))

abbrev pub range : Tree × Option (ℕ × Tree) → Tree
range (left, None) = left
range (left, Some z) = node_at left (p.range_form left z.0 z.1)

abbrev pub compared : Word × Tree → CompareOp × ℕ × Tree
compared z = (compare_op z.0.kind, z.0.place, z.1)

abbrev pub compare : Tree × Option (CompareOp × ℕ × Tree) → Tree
compare (left, None) = left
compare (left, Some z) = node_at left (p.compare_form left z.0 z.1 z.2)

abbrev pub not : ℕ × Tree → Tree
not z = p.tree_node z.0 (p.not_form z.1)

-- ---- clauses

abbrev pub for_var : Placed Name × (Option Type' × (Bool × (Option (Placed Name) × Tree))) → Clause
for_var z = p.for_clause z.0 z.1.0 z.1.1.0 z.1.1.1.0 z.1.1.1.1

abbrev pub no_clauses : Word → List Clause
no_clauses w = []

abbrev pub let_var : Placed Name × (Option Type' × Tree) → Clause
let_var z = p.let_clause z.0 z.1.0 z.1.1

abbrev pub where_clause : ℕ × Tree → Clause
where_clause z = p.where_clause z.0 z.1

abbrev pub group_var : Placed Name × Option Tree → GroupVar
group_var (variable, None) = p.stream_group_var variable
group_var (variable, Some e) = p.computed_group_var variable e

abbrev pub group_clause : ℕ × List GroupVar → Clause
group_clause z = p.group_clause z.0 (p.group_vars_of Name Name TypeName z.1)

abbrev pub is_greatest_kind : Kind → Bool
is_greatest_kind k.Greatest = true
is_greatest_kind _ = false

-- whether the empty value is put above all
abbrev pub is_greatest : Option Word → Bool
is_greatest None = false
is_greatest (Some w) = is_greatest_kind w.kind

abbrev pub is_descending_kind : Kind → Bool
is_descending_kind k.Descending = true
is_descending_kind _ = false

abbrev pub is_descending : Option Word → Bool
is_descending None = false
is_descending (Some w) = is_descending_kind w.kind

abbrev pub order_key : Tree × (Option Word × Bool) → OrderKey
order_key z = p.order_key_node z.0 (is_descending z.1.0) z.1.1

abbrev pub order_clause : Bool → ℕ × List OrderKey → Clause
order_clause stable z = p.order_clause z.0 stable (p.order_keys_of Name Name TypeName z.1)

abbrev pub count_clause : ℕ × Placed Name → Clause
count_clause z = p.count_clause z.0 z.1

abbrev pub clauses_of : ℕ × List Clause → List Clause
clauses_of z = z.1

abbrev pub just_clause : Clause → List Clause
just_clause c = c ∷ []

-- ---- statements

abbrev pub flwor : (ℕ × List Clause) × (List (List Clause) × (ℕ × Tree)) → Tree
flwor z =
    p.tree_node z.0.0
    (p.flwor_form (p.clauses_of Name Name TypeName (z.0.1 ++ concat z.1.0)) z.1.1.0 z.1.1.1)

abbrev pub bind : Placed Name × (Option Type' × Tree) → Bind
bind z = p.bind_node z.0 z.1.0 z.1.1

abbrev pub quant : Word × (List Bind × Tree) → Tree
quant z =
    p.tree_node z.0.place
    (p.quant_form (quantifier_of z.0.kind) (p.binds_of Name Name TypeName z.1.0) z.1.1)

abbrev pub case : List Tree × Tree → Case
case z = p.case_node (trees z.0) z.1

abbrev pub switch : ℕ × (Tree × (List Case × Tree)) → Tree
switch z = p.tree_node z.0 (p.switch_form z.1.0 (p.cases_of Name Name TypeName z.1.1.0) z.1.1.1)

abbrev pub type_case : Option (Placed Name) × (List Type' × Tree) → TypeCase
type_case z = p.type_case_node z.0 z.1.0 z.1.1

abbrev pub typeswitch : ℕ × (Tree × (List TypeCase × (Option (Placed Name) × Tree))) → Tree
typeswitch z =
    p.tree_node z.0
    (p.typeswitch_form z.1.0 (p.type_cases_of Name Name TypeName z.1.1.0) z.1.1.1.0 z.1.1.1.1)

abbrev pub if : ℕ × (Tree × (Tree × Tree)) → Tree
if z = p.tree_node z.0 (p.if_form z.1.0 z.1.1.0 z.1.1.1)

abbrev pub any_code : Word → Option (List Name)
any_code w = None

abbrev pub these_codes : List Word → Option (List Name)
these_codes ws = Some (map name_of ws)

-- a handler binds `$err:code` at its `catch`
abbrev pub catch : ℕ × (Option (List Name) × Tree) → Catch
catch z = p.catch_node (record { place = z.0; name = codes "err:code" }) z.1.0 z.1.1

abbrev pub try : ℕ × (Tree × List Catch) → Tree
try z = p.tree_node z.0 (p.try_form z.1.0 (p.catches_of Name Name TypeName z.1.1))

-- ---- modules

abbrev pub param : Placed Name × Option Type' → Param Name TypeName
param z = record { variable = z.0; of = z.1 }

pub data Declaration : Type 0 where
  of_variable : Variable → Declaration
  of_function : Function → Declaration

abbrev pub variable_declaration : Placed Name × (Option Type' × Tree) → Declaration
variable_declaration z = of_variable (record { variable = z.0; type = z.1.0; value = z.1.1 })

abbrev pub function_declaration : Word × (List (Param Name TypeName) × (Option Type' × Tree))
    → Declaration
function_declaration z =
    of_function (record { function = placed z.0; params = z.1.0; type = z.1.1.0; body = z.1.1.1 })

abbrev pub variables_in : List Declaration → List Variable
variables_in [] = []
variables_in (of_variable x ∷ ds) = x ∷ variables_in ds
variables_in (of_function x ∷ ds) = variables_in ds

abbrev pub functions_in : List Declaration → List Function
functions_in [] = []
functions_in (of_variable x ∷ ds) = functions_in ds
functions_in (of_function x ∷ ds) = x ∷ functions_in ds

abbrev pub module_with : List Declaration × Tree → Module
module_with z = record { variables = variables_in z.0; functions = functions_in z.0; body = z.1 }
