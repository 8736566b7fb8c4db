-- How deep the spine of a comma is, operand by operand.
use Rattle.std.proofs.Common.{◌≡◌, ◌≢◌, ◌+◌, ◌-◌, ◌≤◌, ◌<◌, ℕ, zero, suc, max, List, [], ◌∷◌, ◌++◌, take, length, get_or, refl, sym, ap, ◌∙◌, subst, arith}
use Rattle.std.specs.Prelude.{Vec, false}
use Rattle.std.proofs.lemmas.Bool.{false≢true}
use Rattle.std.specs.declared.alloc.Global.{Global}
use Rattle.std.specs.declared.boxed.Box.{Box}
use Rattle.std.proofs.Math.Seq.{take-suc}
use Rattle.std.proofs.lemmas.List.{take_all}
use Rattle.seq_types.specs.declared.types.SeqType.{SeqType}
use Rattle.query_tree.specs.declared.bound.Slot.{Slot}
use Rattle.query_tree.specs.declared.bound.Target.{Target}
use Rattle.query_tree.specs.declared.expr.Expr.{Expr}
use Rattle.query_tree.specs.declared.expr.Kind.TheVariants as kind
use Rattle.query_tree.specs.declared.part.Operand.{Operand}
use Rattle.query_tree.specs.BoundViews.{bound_tree, bound_form, bound_operands}
use Rattle.query_tree.specs.Plain as p
use Rattle.query_tree.specs.Spines.{spine, operands_spine}
use Rattle.query_tree.specs.Bound.{BoundTree}
use Rattle.mode_planner.specs.Spine.{is_passed}
use Rattle.query_tree.proofs.Layers.{tree_of-out, form_of-Comma}

abbrev BoundExpr : Type 0
BoundExpr = Expr Slot Target SeqType

abbrev BoundOperand : Type 0
BoundOperand = Operand BoundExpr

comma_spine : (e : BoundExpr) (first : Box BoundExpr Global) (rest : Vec BoundOperand Global) → e.kind ≡ kind.Comma first rest → spine (bound_tree e) ≡ max (spine (bound_tree first.value)) (operands_spine (bound_operands rest.items)) + 1
comma_spine e first rest h =
    ap spine (tree_of-out Slot Target SeqType e ∙ ap (λ k. p.tree_node e.place (bound_form k)) h ∙ ap (p.tree_node e.place) (form_of-Comma Slot Target SeqType first rest))

-- one operand more
one_more : (xs : List BoundOperand) (x : BoundOperand) → operands_spine (bound_operands (xs ++ x ∷ [])) ≡ max (operands_spine (bound_operands xs)) (spine (bound_tree x.value))
one_more [] x = omega arith
one_more (y ∷ ys) x = let h = one_more ys x in omega (arith, h)

within : (xs : List BoundOperand) (i : ℕ) (x : BoundOperand) → i < length xs → x ≡ get_or xs i x → spine (bound_tree x.value) ≤ operands_spine (bound_operands xs)
within [] i x l e = absurd (omega arith)
within (y ∷ ys) zero x l e = let same : spine (bound_tree x.value) ≡ spine (bound_tree y.value) = ap (λ (o : BoundOperand). spine (bound_tree o.value)) e in omega (arith, same)
within (y ∷ ys) (suc i) x l e = let h = within ys i x (omega arith) e in omega (arith, h)

-- The first part of a comma and so many operands are no deeper than there is room inside it.
pub record FitsSoFar (e : BoundExpr) (operands : List BoundOperand) (i room : ℕ) : Type 0 where
  pub first : Box BoundExpr Global
  pub rest : Vec BoundOperand Global
  pub kind_is : e.kind ≡ kind.Comma first rest
  pub operands_are : operands ≡ rest.items
  pub some : 1 ≤ room
  pub front : spine (bound_tree first.value) ≤ room - 1
  pub behind : operands_spine (bound_operands (take i rest.items)) ≤ room - 1

pub fits_first : (e u : BoundExpr) (first : Box BoundExpr Global) (rest : Vec BoundOperand Global) (operands : List BoundOperand) (room : ℕ) → e.kind ≡ kind.Comma first rest → u ≡ first.value → operands ≡ rest.items → room ≢ 0 → spine (bound_tree u) ≤ room - 1 → FitsSoFar e operands 0 room
fits_first e u first rest operands room is same os some h = record {
  first = first;
  rest = rest;
  kind_is = is;
  operands_are = os;
  some = omega (arith, some);
  front = subst (λ x. spine (bound_tree x) ≤ room - 1) same h;
  behind = omega arith;
}

pub fits_more : (e : BoundExpr) (operands : List BoundOperand) (i room : ℕ) (x : BoundOperand) → FitsSoFar e operands i room → i < length operands → x ≡ get_or operands i x → spine (bound_tree x.value) ≤ room - 1 → FitsSoFar e operands (i + 1) room
fits_more e operands i room x h l is fits =
    let l' = subst (λ xs. i < length xs) h.operands_are l in
    let is' = subst (λ xs. x ≡ get_or xs i x) h.operands_are is in
    let up : i + 1 ≡ suc i = omega arith in
    let longer : take (i + 1) h.rest.items ≡ take i h.rest.items ++ x ∷ [] = ap (λ n. take n h.rest.items) up ∙ take-suc h.rest.items i x l' ∙ ap (λ y. take i h.rest.items ++ y ∷ []) (sym is') in
    let deep = one_more (take i h.rest.items) x in
    record {
      first = h.first;
      rest = h.rest;
      kind_is = h.kind_is;
      operands_are = h.operands_are;
      some = h.some;
      front = h.front;
      behind = subst (λ xs. operands_spine (bound_operands xs) ≤ room - 1) (sym longer) (omega (arith, deep, h.behind, fits));
    }

pub fits_all : (e : BoundExpr) (operands : List BoundOperand) (i room : ℕ) → FitsSoFar e operands i room → length operands ≤ i → spine (bound_tree e) ≤ room
fits_all e operands i room h l =
    let all = take_all i h.rest.items (subst (λ xs. length xs ≤ i) h.operands_are l) in
    let behind = subst (λ xs. operands_spine (bound_operands xs) ≤ room - 1) all h.behind in
    let same = comma_spine e h.first h.rest h.kind_is in
    omega (arith, same, h.some, h.front, behind)

pub operand_deeper : (e : BoundExpr) (operands : List BoundOperand) (i room : ℕ) (x : BoundOperand) → FitsSoFar e operands i room → i < length operands → x ≡ get_or operands i x → room - 1 < spine (bound_tree x.value) → room < spine (bound_tree e)
operand_deeper e operands i room x h l is deep =
    let w = within h.rest.items i x (subst (λ xs. i < length xs) h.operands_are l) (subst (λ xs. x ≡ get_or xs i x) h.operands_are is) in
    let same = comma_spine e h.first h.rest h.kind_is in
    omega (arith, same, h.some, w, deep)

-- what is not passed through has no spine
pub flat : (t : BoundTree) → is_passed t ≡ false → spine t ≡ 0
flat (p.tree_node place (p.comma_form first rest)) h = absurd (false≢true (sym h))
flat (p.tree_node place (p.paren_form content)) h = absurd (false≢true (sym h))
flat (p.tree_node place (p.try_form body cs)) h = absurd (false≢true (sym h))
flat (p.tree_node place _) h = refl
