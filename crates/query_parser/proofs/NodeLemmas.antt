-- The plain values of the nodes that statements make.
use Rattle.std.proofs.Common.{◌≡◌, ℕ, zero, suc, Bool, List, [], ◌∷◌, ◌++◌, map, Result, Err, refl, ap, ◌∙◌, arith}
use Rattle.std.proofs.lemmas.List.{map-append}
use Rattle.std.specs.declared.alloc.Global.{Global}
use Rattle.std.specs.declared.boxed.Box.{Box}
use Rattle.std.specs.Prelude.{Vec, Option}
use Rattle.query_tree.specs.declared.names.Placed.{Placed}
use Rattle.query_tree.specs.declared.names.TypeName.{TypeName}
use Rattle.query_tree.specs.declared.operator.Quantifier.{Quantifier}
use Rattle.query_tree.specs.declared.part.Bind.{Bind}
use Rattle.query_tree.specs.declared.part.Case.{Case}
use Rattle.query_tree.specs.declared.part.TypeCase.{TypeCase}
use Rattle.query_tree.specs.declared.part.Catch.{Catch}
use Rattle.query_tree.specs.declared.expr.Kind.{Kind}
use Rattle.query_tree.specs.declared.expr.Kind.TheVariants as kind
use Rattle.query_tree.specs.declared.expr.Expr.{roll-Expr}
use Rattle.query_tree.specs.Plain as p
use Rattle.query_tree.proofs.Layers.{tree_of-made, form_of-Flwor, form_of-Quant, form_of-Switch, form_of-Typeswitch, form_of-If, form_of-Try}
use Rattle.query_grammar.specs.declared.word.Word.{Word}
use Rattle.query_grammar.specs.Nodes as n
use Rattle.query_grammar.specs.Grammar as g
use Rattle.query_tree.specs.declared.module.Variable.{Variable}
use Rattle.query_tree.specs.declared.module.Function.{Function}
use Rattle.query_tree.specs.NamedViews.{named_tree, named_clause, named_query, named_form}
use Rattle.query_parser.proofs.ListLemmas.{variables_seen, functions_seen}
use Rattle.grammar_parts.specs.Reads.{ReadsAs}
use Rattle.grammar_parts.specs.declared.cursor.Stop.{Stop}
use Rattle.grammar_parts.specs.declared.cursor.Stop.TheVariants as stop
use Rattle.expression_parser.specs.Views.{Named, reader}
use Rattle.query_parser.specs.Views as view

abbrev pub made : ℕ → Kind n.Name n.Name TypeName → Named
made place kind = roll-Expr n.Name n.Name TypeName (record { place = place; kind = kind })

-- a node of this kind
made_is : (place : ℕ) (kind : Kind n.Name n.Name TypeName) (f : n.Form) → named_form kind ≡ f → named_tree (made place kind) ≡ p.tree_node place f
made_is place kind f e = tree_of-made n.Name n.Name TypeName place kind ∙ ap (p.tree_node place) e

concat_mapped : (xs : List (Vec view.NamedClause Global)) → map named_clause (n.concat (map (λ v. v.items) xs)) ≡ n.concat (map view.clauses xs)
concat_mapped [] = refl
concat_mapped (v ∷ xs) = map-append named_clause v.items (n.concat (map (λ v. v.items) xs)) ∙ ap (λ l. map named_clause v.items ++ l) (concat_mapped xs)

all_clauses : (first all : List view.NamedClause) (others : List (Vec view.NamedClause Global)) → all ≡ first ++ n.concat (map (λ v. v.items) others) → map named_clause all ≡ map named_clause first ++ n.concat (map view.clauses others)
all_clauses first all others e = ap (map named_clause) e ∙ map-append named_clause first (n.concat (map (λ v. v.items) others)) ∙ ap (λ l. map named_clause first ++ l) (concat_mapped others)

pub flwor_is : (start : ℕ) (first all kept : Vec view.NamedClause Global) (others : Vec (Vec view.NamedClause Global) Global) (place : ℕ) (held : Box Named Global) (value : Named)
    → kept ≡ all → all.items ≡ first.items ++ n.concat (map (λ v. v.items) others.items) → held.value ≡ value
    → named_tree (made start (kind.Flwor kept place held)) ≡ n.flwor ((start, view.clauses first), (view.clause_lists others, (place, named_tree value)))
flwor_is start first all kept others place held value same e h =
    let c = all_clauses first.items all.items others.items e in
    made_is start (kind.Flwor kept place held) _ (form_of-Flwor n.Name n.Name TypeName kept place held) ∙ rw (same, c, h) refl

pub quant_is : (word : Word) (q : Quantifier) (binds kept : Vec (Bind n.Name TypeName Named) Global) (held : Box Named Global) (test : Named) → q ≡ n.quantifier_of word.kind → kept ≡ binds → held.value ≡ test
    → named_tree (made word.place (kind.Quant q kept held)) ≡ n.quant (word, (view.binds binds, named_tree test))
quant_is word q binds kept held test e same h = made_is word.place (kind.Quant q kept held) _ (form_of-Quant n.Name n.Name TypeName q kept held) ∙ rw (e, same, h) refl

pub switch_is : (place : ℕ) (held : Box Named Global) (operand : Named) (cases kept : Vec (Case Named) Global) (other : Box Named Global) (default : Named) → held.value ≡ operand → kept ≡ cases → other.value ≡ default
    → named_tree (made place (kind.Switch held kept other)) ≡ n.switch (place, (named_tree operand, (view.cases cases, named_tree default)))
switch_is place held operand cases kept other default h same o = made_is place (kind.Switch held kept other) _ (form_of-Switch n.Name n.Name TypeName held kept other) ∙ rw (h, same, o) refl

pub typeswitch_is : (place : ℕ) (held : Box Named Global) (operand : Named) (cases kept : Vec (TypeCase n.Name TypeName Named) Global) (variable : Option (Placed n.Name)) (other : Box Named Global) (default : Named) → held.value ≡ operand → kept ≡ cases → other.value ≡ default
    → named_tree (made place (kind.Typeswitch held kept variable other)) ≡ n.typeswitch (place, (named_tree operand, (view.type_cases cases, (variable, named_tree default))))
typeswitch_is place held operand cases kept variable other default h same o = made_is place (kind.Typeswitch held kept variable other) _ (form_of-Typeswitch n.Name n.Name TypeName held kept variable other) ∙ rw (h, same, o) refl

pub if_is : (place : ℕ) (held : Box Named Global) (condition : Named) (one : Box Named Global) (when_true : Named) (other : Box Named Global) (when_false : Named) → held.value ≡ condition → one.value ≡ when_true → other.value ≡ when_false
    → named_tree (made place (kind.If held one other)) ≡ n.if (place, (named_tree condition, (named_tree when_true, named_tree when_false)))
if_is place held condition one when_true other when_false h t f = made_is place (kind.If held one other) _ (form_of-If n.Name n.Name TypeName held one other) ∙ rw (h, t, f) refl

pub try_is : (place : ℕ) (held : Box Named Global) (body : Named) (catches kept : Vec (Catch n.Name Named) Global) → held.value ≡ body → kept ≡ catches
    → named_tree (made place (kind.Try held kept)) ≡ n.try (place, (named_tree body, view.catches catches))
try_is place held body catches kept h same = made_is place (kind.Try held kept) _ (form_of-Try n.Name n.Name TypeName held kept) ∙ rw (h, same) refl

pub module_is : (variables : Vec (Variable n.Name n.Name TypeName) Global) (functions : Vec (Function n.Name n.Name TypeName) Global) (body kept : Named) (declarations : Vec view.Declaration Global)
    → variables.items ≡ view.variables_of declarations.items → functions.items ≡ view.functions_of declarations.items → kept ≡ body
    → named_query (record { variables = variables; functions = functions; body = kept }) ≡ n.module_with (view.declarations declarations, named_tree body)
module_is variables functions body kept declarations e h same =
    let vs = variables_seen declarations.items in
    let fs = functions_seen declarations.items in
    rw (e, h, same, vs, fs) refl

-- ---- forms that nest, where they may stand

pub if_stops : (wide : Bool) (depth : ℕ) (s : List Word) → depth ≡ 0 → ReadsAs named_tree (reader g.if wide depth s) (Err stop.Refused) s
unfolding g.if
if_stops wide zero s e = refl
if_stops wide (suc k) s e = absurd (omega arith)

pub if_goes : (wide : Bool) (depth : ℕ) (s : List Word) (answer : Result Named Stop) (r : List Word) → (depth ≡ 0 → ⊥) → ReadsAs named_tree (reader view.if_content wide depth s) answer r → ReadsAs named_tree (reader g.if wide depth s) answer r
unfolding g.if
if_goes wide zero s answer r e h = absurd (e refl)
if_goes wide (suc k) s answer r e h = h

pub try_stops : (wide : Bool) (depth : ℕ) (s : List Word) → depth ≡ 0 → ReadsAs named_tree (reader g.try wide depth s) (Err stop.Refused) s
unfolding g.try
try_stops wide zero s e = refl
try_stops wide (suc k) s e = absurd (omega arith)

pub try_goes : (wide : Bool) (depth : ℕ) (s : List Word) (answer : Result Named Stop) (r : List Word) → (depth ≡ 0 → ⊥) → ReadsAs named_tree (reader view.try_content wide depth s) answer r → ReadsAs named_tree (reader g.try wide depth s) answer r
unfolding g.try
try_goes wide zero s answer r e h = absurd (e refl)
try_goes wide (suc k) s answer r e h = h
