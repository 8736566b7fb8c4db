-- The plain values of the nodes that levels of operators make.
use Rattle.std.proofs.Common.{◌≡◌, ℕ, Bool, true, false, ◌==◌, List, [], ◌∷◌, length, map, refl, subst, ap, ◌∙◌, sym}
use Rattle.std.specs.declared.alloc.Global.{Global}
use Rattle.std.specs.declared.boxed.Box.{Box}
use Rattle.std.specs.Prelude.{Vec, Option, Some}
use Rattle.query_tree.specs.declared.names.TypeName.{TypeName}
use Rattle.query_tree.specs.declared.operator.CompareOp.{CompareOp}
use Rattle.query_tree.specs.declared.operator.SumOp.{SumOp}
use Rattle.query_tree.specs.declared.part.Operand.{Operand}
use Rattle.query_tree.specs.declared.part.Term.{Term}
use Rattle.query_tree.specs.declared.part.Factor.{Factor}
use Rattle.query_tree.specs.declared.step.Step.{Step}
use Rattle.query_tree.specs.declared.expr.Kind.{Kind}
use Rattle.query_tree.specs.declared.expr.Kind.TheVariants as kind
use Rattle.query_tree.specs.declared.expr.Expr.{roll-Expr}
use Rattle.query_tree.specs.Plain as p
use Rattle.query_tree.specs.NamedViews.{named_tree, named_form}
use Rattle.query_tree.proofs.Layers.{tree_of-out, tree_of-made, form_of-Postfix, form_of-Sign, form_of-Sum, form_of-Product, form_of-Range, form_of-Compare}
use Rattle.query_grammar.specs.Nodes as n
use Rattle.expression_parser.specs.Views as view
use Rattle.expression_parser.specs.Views.{Named}

abbrev pub made : ℕ → Kind n.Name n.Name TypeName → Named
made place kind = roll-Expr n.Name n.Name TypeName (record { place = place; kind = kind })

pub place_is : (x : Named) → n.place_of (named_tree x) ≡ x.place
place_is x = rw (tree_of-out n.Name n.Name TypeName x) refl

-- a node of this kind
pub made_is : (place : ℕ) (kind : Kind n.Name n.Name TypeName) (f : n.Form) → named_form kind ≡ f → named_tree (made place kind) ≡ p.tree_node place f
made_is place kind f e = tree_of-made n.Name n.Name TypeName place kind ∙ ap (p.tree_node place) e

-- a node that stands where this one does
pub node_is : (first : Named) (kind : Kind n.Name n.Name TypeName) (f : n.Form) → named_form kind ≡ f → named_tree (made first.place kind) ≡ n.node_at (named_tree first) f
node_is first kind f e = made_is first.place kind f e ∙ ap (λ at. p.tree_node at f) (sym (place_is first))

-- a list that is not empty
many_in : {A : Type 0} (xs : List A) → (length xs == 0) ≡ false → (x : A) × (rest : List A) × (xs ≡ x ∷ rest)
many_in [] e = absurd cc
many_in (x ∷ xs) e = (x, xs, refl)

pub many_of : {A : Type 0} (v : Vec A Global) → (v.len == 0) ≡ false → (x : A) × (rest : List A) × (v.items ≡ x ∷ rest)
many_of v e = many_in v.items (subst (λ (m : ℕ). (m == 0) ≡ false) v.ok.0 e)

pub chain_is : (f : n.Tree → n.Operands → n.Form) (first : Named) (held : Box Named Global) (rest kept : Vec (Operand Named) Global) (k : Kind n.Name n.Name TypeName)
    → held.value ≡ first → kept ≡ rest → (rest.len == 0) ≡ false → named_form k ≡ f (named_tree held.value) (p.operands_of n.Name n.Name TypeName (view.operands kept))
    → named_tree (made first.place k) ≡ n.chain f (named_tree first, view.operands rest)
chain_is f first held rest kept k h same e is = let (x, xs, some) = many_of rest e in node_is first k _ is ∙ rw (h, same, some) refl

pub postfix_is : (first : Named) (held : Box Named Global) (rest kept : Vec (Step n.Name Named) Global) → held.value ≡ first → kept ≡ rest → (rest.len == 0) ≡ false
    → named_tree (made first.place (kind.Postfix held kept)) ≡ n.postfix (named_tree first, view.steps rest)
postfix_is first held rest kept h same e = let (x, xs, some) = many_of rest e in node_is first (kind.Postfix held kept) _ (form_of-Postfix n.Name n.Name TypeName held kept) ∙ rw (h, same, some) refl

pub sum_is : (first : Named) (held : Box Named Global) (rest kept : Vec (Term Named) Global) → held.value ≡ first → kept ≡ rest → (rest.len == 0) ≡ false
    → named_tree (made first.place (kind.Sum held kept)) ≡ n.sum (named_tree first, view.terms rest)
sum_is first held rest kept h same e = let (x, xs, some) = many_of rest e in node_is first (kind.Sum held kept) _ (form_of-Sum n.Name n.Name TypeName held kept) ∙ rw (h, same, some) refl

pub product_is : (first : Named) (held : Box Named Global) (rest kept : Vec (Factor Named) Global) → held.value ≡ first → kept ≡ rest → (rest.len == 0) ≡ false
    → named_tree (made first.place (kind.Product held kept)) ≡ n.product (named_tree first, view.factors rest)
product_is first held rest kept h same e = let (x, xs, some) = many_of rest e in node_is first (kind.Product held kept) _ (form_of-Product n.Name n.Name TypeName held kept) ∙ rw (h, same, some) refl

first_in : (signs : List (SumOp × ℕ)) (place : ℕ) → view.first_place signs ≡ Some place → (op : SumOp) × (more : List (SumOp × ℕ)) × (signs ≡ (op, place) ∷ more)
first_in [] place e = absurd cc
first_in (x ∷ xs) place e = (x.0, xs, (let same : x.1 ≡ place = cc in rw (← same) refl))

pub sign_is : (signs kept : Vec (SumOp × ℕ) Global) (place : ℕ) (operand : Named) (held : Box Named Global) → view.first_place signs.items ≡ Some place → held.value ≡ operand → kept ≡ signs
    → named_tree (made place (kind.Sign kept held)) ≡ n.sign (signs.items, named_tree operand)
sign_is signs kept place operand held e h same = let (op, more, is) = first_in signs.items place e in made_is place (kind.Sign kept held) _ (form_of-Sign n.Name n.Name TypeName kept held) ∙ rw (h, same, is) refl

pub range_is : (left : Named) (held : Box Named Global) (place : ℕ) (right : Named) (other : Box Named Global) → held.value ≡ left → other.value ≡ right
    → named_tree (made left.place (kind.Range held place other)) ≡ n.node_at (named_tree left) (p.range_form (named_tree left) place (named_tree right))
range_is left held place right other h o = node_is left (kind.Range held place other) _ (form_of-Range n.Name n.Name TypeName held place other) ∙ rw (h, o) refl

pub compare_is : (left : Named) (held : Box Named Global) (op : CompareOp) (place : ℕ) (right : Named) (other : Box Named Global) → held.value ≡ left → other.value ≡ right
    → named_tree (made left.place (kind.Compare held op place other)) ≡ n.node_at (named_tree left) (p.compare_form (named_tree left) op place (named_tree right))
compare_is left held op place right other h o = node_is left (kind.Compare held op place other) _ (form_of-Compare n.Name n.Name TypeName held op place other) ∙ rw (h, o) refl

pub typed_is : (f : n.Tree → ℕ → n.Type' → n.Form) (operand : Named) (held : Box Named Global) (place : ℕ) (to kept : n.Type') (k : Kind n.Name n.Name TypeName) → held.value ≡ operand → kept ≡ to → named_form k ≡ f (named_tree held.value) place kept
    → named_tree (made operand.place k) ≡ n.node_at (named_tree operand) (f (named_tree operand) place to)
typed_is f operand held place to kept k h same is = node_is operand k _ is ∙ rw (h, same) refl
