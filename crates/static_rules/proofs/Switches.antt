-- Kinds of expressions whose parts are lent one by one.
use Rattle.std.proofs.Common.{◌≡◌, ℕ, List, sym, ap, ◌∙◌}
use Rattle.std.specs.Prelude.{Vec, Option}
use Rattle.std.specs.declared.alloc.Global.{Global}
use Rattle.std.specs.declared.boxed.Box.{Box}
use Rattle.query_tree.specs.declared.expr.Expr.{Expr}
use Rattle.query_tree.specs.declared.expr.Kind.{Kind}
use Rattle.query_tree.specs.declared.expr.Kind.TheVariants as kind
use Rattle.query_tree.specs.declared.operator.Quantifier.{Quantifier}
use Rattle.query_tree.specs.declared.names.Placed.{Placed}
use Rattle.query_tree.specs.declared.part.Bind.{Bind}
use Rattle.query_tree.specs.declared.part.Case.{Case}
use Rattle.query_tree.specs.declared.part.TypeCase.{TypeCase}
use Rattle.query_tree.specs.declared.names.TypeName.{TypeName}
use Rattle.query_tree.specs.Plain.{switch_form, typeswitch_form, quant_form}
use Rattle.query_tree.proofs.Layers.{form_of-Switch, form_of-Typeswitch, form_of-Quant}
use Rattle.query_tree.specs.NamedViews.{named_tree, named_form, named_cases, named_type_cases, named_binds}

pub switch-lent : (k : Kind (List ℕ) (List ℕ) TypeName) (operand default : Box (Expr (List ℕ) (List ℕ) TypeName) Global) (cases : Vec (Case (Expr (List ℕ) (List ℕ) TypeName)) Global) (a b : Expr (List ℕ) (List ℕ) TypeName) (cs : List (Case (Expr (List ℕ) (List ℕ) TypeName)))
    → k ≡ kind.Switch operand cases default → a ≡ operand.value → cs ≡ cases.items → b ≡ default.value → switch_form (named_tree a) (named_cases cs) (named_tree b) ≡ named_form k
switch-lent k operand default cases a b cs h e f g =
    ap (λ t. switch_form (named_tree t) (named_cases cs) (named_tree b)) e
    ∙ ap (λ xs. switch_form (named_tree operand.value) (named_cases xs) (named_tree b)) f
    ∙ ap (λ t. switch_form (named_tree operand.value) (named_cases cases.items) (named_tree t)) g
    ∙ sym (form_of-Switch (List ℕ) (List ℕ) TypeName operand cases default)
    ∙ sym (ap named_form h)

pub typeswitch-lent : (k : Kind (List ℕ) (List ℕ) TypeName) (operand default : Box (Expr (List ℕ) (List ℕ) TypeName) Global) (cases : Vec (TypeCase (List ℕ) TypeName (Expr (List ℕ) (List ℕ) TypeName)) Global) (variable : Option (Placed (List ℕ))) (a b : Expr (List ℕ) (List ℕ) TypeName) (cs : List (TypeCase (List ℕ) TypeName (Expr (List ℕ) (List ℕ) TypeName)))
    → k ≡ kind.Typeswitch operand cases variable default → a ≡ operand.value → cs ≡ cases.items → b ≡ default.value → typeswitch_form (named_tree a) (named_type_cases cs) variable (named_tree b) ≡ named_form k
typeswitch-lent k operand default cases variable a b cs h e f g =
    ap (λ t. typeswitch_form (named_tree t) (named_type_cases cs) variable (named_tree b)) e
    ∙ ap (λ xs. typeswitch_form (named_tree operand.value) (named_type_cases xs) variable (named_tree b)) f
    ∙ ap (λ t. typeswitch_form (named_tree operand.value) (named_type_cases cases.items) variable (named_tree t)) g
    ∙ sym (form_of-Typeswitch (List ℕ) (List ℕ) TypeName operand cases variable default)
    ∙ sym (ap named_form h)

pub quant-lent : (k : Kind (List ℕ) (List ℕ) TypeName) (quantifier : Quantifier) (binds : Vec (Bind (List ℕ) TypeName (Expr (List ℕ) (List ℕ) TypeName)) Global) (test : Box (Expr (List ℕ) (List ℕ) TypeName) Global) (b : Expr (List ℕ) (List ℕ) TypeName) (xs : List (Bind (List ℕ) TypeName (Expr (List ℕ) (List ℕ) TypeName)))
    → k ≡ kind.Quant quantifier binds test → xs ≡ binds.items → b ≡ test.value → quant_form quantifier (named_binds xs) (named_tree b) ≡ named_form k
quant-lent k quantifier binds test b xs h e f =
    ap (λ ys. quant_form quantifier (named_binds ys) (named_tree b)) e
    ∙ ap (λ t. quant_form quantifier (named_binds binds.items) (named_tree t)) f
    ∙ sym (form_of-Quant (List ℕ) (List ℕ) TypeName quantifier binds test)
    ∙ sym (ap named_form h)
