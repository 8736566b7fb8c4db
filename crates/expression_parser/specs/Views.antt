-- What the values that productions give stand for, and what a function for a production reads.
use Rattle.std.specs.Prelude.{ℕ, Bool, List, [], ◌∷◌, map, Option, Some, None}
use Rattle.std.specs.declared.alloc.Global.{Global}
use Rattle.std.specs.declared.boxed.Box.{Box}
use Rattle.std.specs.Prelude.{Vec}
use Rattle.query_tree.specs.declared.names.TypeName.{TypeName}
use Rattle.query_tree.specs.declared.operator.CompareOp.{CompareOp}
use Rattle.query_tree.specs.declared.operator.SumOp.{SumOp}
use Rattle.query_tree.specs.declared.expr.Expr.{Expr}
use Rattle.query_tree.specs.declared.part.Operand.{Operand}
use Rattle.query_tree.specs.declared.part.Term.{Term}
use Rattle.query_tree.specs.declared.part.Factor.{Factor}
use Rattle.query_tree.specs.declared.part.Pair.{Pair}
use Rattle.query_tree.specs.declared.step.Step.{Step}
use Rattle.expression_parser.specs.declared.nodes.Chain.{Chain}
use Rattle.expression_parser.specs.declared.nodes.Chain.TheVariants as chain
use Rattle.expression_parser.specs.declared.nodes.TypeTest.{TypeTest}
use Rattle.expression_parser.specs.declared.nodes.TypeTest.TheVariants as test
use Rattle.query_tree.specs.Plain as p
use Rattle.query_tree.specs.NamedViews.{named_tree, named_step, named_operand, named_term, named_factor, source_pair}
use Rattle.grammar_parts.specs.Parts.{Part}
use Rattle.grammar_parts.specs.Levels.{Mode, Inner, at}
use Rattle.grammar_parts.specs.Readers.{Reader}
use Rattle.query_grammar.specs.declared.word.Word.{Word}
use Rattle.query_grammar.specs.declared.part.Part as inside
use Rattle.query_grammar.specs.Nodes as n
use Rattle.query_grammar.specs.Classes.{is, is_lookup_key}
use Rattle.query_grammar.specs.declared.word.Kind.{Kind}
use Rattle.query_grammar.specs.declared.word.Kind.TheVariants as k
use Rattle.query_grammar.specs.Languages.{Lang, alt, opt, before, from}
use Rattle.query_grammar.specs.Grammar as g
use Rattle.query_grammar.specs.Grammar.{forms}

-- the reader of a production where so many forms may nest
abbrev pub reader : {A : Type 0} → (Mode → Inner Word inside.Part n.Tree → Part Word A) → Bool → ℕ
    → Reader Word A
reader production wide depth = (at forms production wide depth).read

-- an expression as it was read
abbrev pub Named : Type 0
Named = Expr n.Name n.Name TypeName

abbrev pub boxed : Option (Box Named Global) → Option n.Tree
boxed None = None
boxed (Some e) = Some (named_tree e.value)

abbrev pub trees : Vec Named Global → List n.Tree
trees v = map named_tree v.items

abbrev pub pairs : Vec (Pair Named) Global → List n.Pair
pairs v = map source_pair v.items

abbrev pub steps : Vec (Step n.Name Named) Global → List n.Step
steps v = map named_step v.items

abbrev pub operands : Vec (Operand Named) Global → List n.Operand
operands v = map named_operand v.items

abbrev pub terms : Vec (Term Named) Global → List n.Term
terms v = map named_term v.items

abbrev pub factors : Vec (Factor Named) Global → List n.Factor
factors v = map named_factor v.items

-- Name | Text | Var | Context | "(" Expr ")"
abbrev pub key_part : Mode → Inner Word inside.Part n.Tree → Lang n.Lookup
key_part m inner = alt is_lookup_key (g.plain_key m inner) (g.computed_lookup m inner)

-- a type behind this word and `as`
abbrev pub single_behind : Kind → Lang (Option (ℕ × n.Type'))
single_behind word = opt (is word) (from word (before k.As g.single_type))

-- a type of sequences behind these words
abbrev pub type_behind : Kind → Kind → Lang (Option (ℕ × n.Type'))
type_behind word second = opt (is word) (from word (before second g.seq_type))

-- a place and an expression
abbrev pub placed_tree : ℕ × Named → ℕ × n.Tree
placed_tree z = (z.0, named_tree z.1)

abbrev pub range_end : Option (ℕ × Named) → Option (ℕ × n.Tree)
range_end None = None
range_end (Some z) = Some (placed_tree z)

-- an operator, its place and an expression
abbrev pub compared : CompareOp × ℕ × Named → CompareOp × ℕ × n.Tree
compared z = (z.0, z.1, named_tree z.2)

abbrev pub comparison : Option (CompareOp × ℕ × Named) → Option (CompareOp × ℕ × n.Tree)
comparison None = None
comparison (Some z) = Some (compared z)

-- the operators between operands
abbrev pub form_of_chain : Chain → n.Tree → n.Operands → n.Form
form_of_chain chain.Comma = p.comma_form
form_of_chain chain.Or = p.or_form
form_of_chain chain.And = p.and_form
form_of_chain chain.Concat = p.concat_form
form_of_chain chain.Map = p.map_form

-- the operators behind which a type stands
abbrev pub form_of_test : TypeTest → n.Tree → ℕ → n.Type' → n.Form
form_of_test test.Instance = p.instance_form
form_of_test test.Treat = p.treat_form
form_of_test test.Castable = p.castable_form
form_of_test test.Cast = p.cast_form

-- the place of the first sign
abbrev pub first_place : List (SumOp × ℕ) → Option ℕ
first_place [] = None
first_place (x ∷ xs) = Some x.1
