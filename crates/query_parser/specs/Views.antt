-- What the values that productions give stand for, and what a function for a production reads.
use Rattle.std.specs.Prelude.{ℕ, suc, Bool, List, [], ◌∷◌, map, Option, Some, option_map, Vec}
use Rattle.std.specs.declared.alloc.Global.{Global}
use Rattle.query_tree.specs.declared.names.Placed.{Placed}
use Rattle.query_tree.specs.declared.names.TypeName.{TypeName}
use Rattle.query_tree.specs.declared.clause.Clause.{Clause}
use Rattle.query_tree.specs.declared.clause.GroupVar.{GroupVar}
use Rattle.query_tree.specs.declared.clause.OrderKey.{OrderKey}
use Rattle.query_tree.specs.declared.part.Bind.{Bind}
use Rattle.query_tree.specs.declared.part.Case.{Case}
use Rattle.query_tree.specs.declared.part.TypeCase.{TypeCase}
use Rattle.query_tree.specs.declared.part.Catch.{Catch}
use Rattle.query_parser.specs.declared.modules.Declared.{Declared}
use Rattle.query_parser.specs.declared.modules.Declared.TheVariants as declared
use Rattle.query_tree.specs.declared.module.Variable.{Variable}
use Rattle.query_tree.specs.declared.module.Function.{Function}
use Rattle.query_tree.specs.NamedViews.{named_tree, named_clause, named_group_var, named_order_key, named_bind, named_case, named_type_case, named_catch, named_variable, named_function}
use Rattle.grammar_parts.specs.Parts.{Part}
use Rattle.grammar_parts.specs.Levels.{Mode, Inner, mode_at, level}
use Rattle.grammar_parts.specs.Readers.{Reader}
use Rattle.query_grammar.specs.declared.word.Word.{Word}
use Rattle.query_grammar.specs.declared.word.Kind.TheVariants as k
use Rattle.query_grammar.specs.declared.part.Part as inside
use Rattle.query_grammar.specs.declared.part.Part.TheVariants as i
use Rattle.query_grammar.specs.Nodes as n
use Rattle.query_grammar.specs.Languages.{Lang, mapped, seq, before, from}
use Rattle.query_grammar.specs.Grammar as g
use Rattle.query_grammar.specs.Grammar.{forms}
use Rattle.expression_parser.specs.Views.{Named}

-- ---- clauses

abbrev pub NamedClause : Type 0
NamedClause = Clause n.Name n.Name TypeName

abbrev pub clauses : Vec NamedClause Global → List n.Clause
clauses v = map named_clause v.items

-- clauses and the place of the keyword before them
abbrev pub placed_clauses : ℕ × Vec NamedClause Global → ℕ × List n.Clause
placed_clauses z = (z.0, clauses z.1)

abbrev pub clause_lists : Vec (Vec NamedClause Global) Global → List (List n.Clause)
clause_lists v = map clauses v.items

abbrev pub group_vars : Vec (GroupVar n.Name Named) Global → List n.GroupVar
group_vars v = map named_group_var v.items

abbrev pub order_keys : Vec (OrderKey Named) Global → List n.OrderKey
order_keys v = map named_order_key v.items

-- ---- statements

abbrev pub binds : Vec (Bind n.Name TypeName Named) Global → List n.Bind
binds v = map named_bind v.items

abbrev pub cases : Vec (Case Named) Global → List n.Case
cases v = map named_case v.items

abbrev pub type_cases : Vec (TypeCase n.Name TypeName Named) Global → List n.TypeCase
type_cases v = map named_type_case v.items

-- the variable of a default and its result
abbrev pub type_default : Option (Placed n.Name) × Named → Option (Placed n.Name) × n.Tree
type_default z = (z.0, named_tree z.1)

abbrev pub catches : Vec (Catch n.Name Named) Global → List n.Catch
catches v = map named_catch v.items

-- the names of codes; none stand for all codes
abbrev pub codes : Option (Vec n.Name Global) → Option (List n.Name)
codes z = option_map (λ v. v.items) z

abbrev pub some_codes : Vec n.Name Global → Option (List n.Name)
some_codes v = Some v.items

-- Name { "|" Name }, as codes
abbrev pub named_codes : Mode → Inner Word inside.Part n.Tree → Lang (Option (List n.Name))
named_codes m inner = mapped n.these_codes (g.catch_names m inner)

-- If = "if" "(" Expr ")" "then" Single "else" Single
abbrev pub if_content : Mode → Inner Word inside.Part n.Tree → Lang n.Tree
if_content m inner =
    mapped n.if
    (from k.If
    (seq (g.in_parens m inner)
    (seq (before k.Then (inner i.Single)) (before k.Else (inner i.Single)))))

-- Try = "try" "{" Expr "}" Catch { Catch }
abbrev pub try_content : Mode → Inner Word inside.Part n.Tree → Lang n.Tree
try_content m inner = mapped n.try (from k.Try (seq (g.in_braces m inner) (g.catches m inner)))

-- ---- modules

-- the reader of a production that stands in no form, where so many forms may nest
abbrev pub top_reader : {A : Type 0} → (Mode → Inner Word inside.Part n.Tree → Part Word A) → Bool
    → ℕ → Reader Word A
top_reader production wide depth =
    (production (mode_at wide (suc depth)) (level forms wide depth)).read

-- those of a list that are variables, and those that are functions
abbrev pub variables_of : {V F : Type 0} → List (Declared V F) → List V
variables_of [] = []
variables_of (declared.Variable x ∷ ds) = x ∷ variables_of ds
variables_of (declared.Function x ∷ ds) = variables_of ds

abbrev pub functions_of : {V F : Type 0} → List (Declared V F) → List F
functions_of [] = []
functions_of (declared.Variable x ∷ ds) = functions_of ds
functions_of (declared.Function x ∷ ds) = x ∷ functions_of ds

abbrev pub Declaration : Type 0
Declaration = Declared (Variable n.Name n.Name TypeName) (Function n.Name n.Name TypeName)

abbrev pub declaration : Declaration → n.Declaration
declaration (declared.Variable x) = n.of_variable (named_variable x)
declaration (declared.Function x) = n.of_function (named_function x)

abbrev pub declarations : Vec Declaration Global → List n.Declaration
declarations v = map declaration v.items
