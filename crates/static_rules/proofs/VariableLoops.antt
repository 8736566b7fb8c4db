-- How the loop over the declared variables goes on.
use Rattle.std.proofs.Common.{◌≡◌, ℕ, ◌+◌, ◌<◌, ◌≤◌, false, List, [], ◌∷◌, ◌++◌, Result, Ok, Err, OnOk, IfOk, length, drop, map, get_or, refl, sym, ap, subst, ◌∙◌, arith, append_assoc, append-nil}
use Rattle.std.specs.Prelude.{max}
use Rattle.std.proofs.lemmas.List.{drop_more, drop_all, map-append}
use Rattle.query_tree.specs.declared.bound.Slot.{Slot}
use Rattle.query_tree.specs.declared.bound.Slot.TheVariants.{Global}
use Rattle.query_tree.specs.declared.bound.Target.{Target}
use Rattle.query_tree.specs.declared.module.Variable.{Variable}
use Rattle.query_tree.specs.declared.names.TypeName.{TypeName}
use Rattle.query_tree.specs.Modules.{PlainVariable}
use Rattle.seq_types.specs.declared.types.SeqType.{SeqType}
use Rattle.static_rules.specs.Views.{View}
use Rattle.static_rules.specs.Mentions.{variables_mentions}
use Rattle.static_rules.specs.Compiling.{Names, with_slot, globals_after, compiled_variables, variable_width, greatest}
use Rattle.static_rules.specs.Gathering.{Pushed}
use Rattle.static_rules.specs.Walks.{State, view_of, bound_names}
use Rattle.query_tree.specs.NamedViews.{named_variable}
use Rattle.query_tree.specs.BoundViews.{bound_variable}
use Rattle.static_rules.specs.Declarations.{variable_mentions, compiled_variable, begun, declared, behind_variable, behind_variables}
use Rattle.static_rules.proofs.Declaring.{declared-names, declared-number, declared-declared, declared-none, greatest-more, greatest-none}

abbrev named : List (Variable (List ℕ) (List ℕ) TypeName) → List (PlainVariable (List ℕ) (List ℕ) TypeName)
named xs = map named_variable xs

-- what a variable sees has no functions
seen-alone : (s : Names) → s.functions ≡ [] → view_of false s ≡ (let v : View = record { variables = bound_names s.variables; functions = []; item = false } in v)
seen-alone s h = ap (λ f. let v : View = record { variables = bound_names s.variables; functions = f; item = false } in v) h

names-alone : (s : Names) → s.functions ≡ [] → s ≡ (let t : Names = record { variables = s.variables; functions = [] } in t)
names-alone s h = ap (λ f. let t : Names = record { variables = s.variables; functions = f } in t) h

pub record VariablesLeft (old : State) (all : List (Variable (List ℕ) (List ℕ) TypeName)) (now : State) (out : List (Variable Slot Target SeqType)) (width number : ℕ) (rest : List (Variable (List ℕ) (List ℕ) TypeName)) : Type 0 where
  functions : now.names.functions ≡ []
  walk : behind_variables now number (map named_variable rest) ≡ behind_variables old 0 (map named_variable all)
  tree : map bound_variable out ++ compiled_variables now.names.variables number (map named_variable rest) ≡ compiled_variables old.names.variables 0 (map named_variable all)
  widest : max width (greatest (map variable_width (map named_variable rest))) ≡ greatest (map variable_width (map named_variable all))

variables-step : (old : State) (all : List (Variable (List ℕ) (List ℕ) TypeName)) (now next : State) (out : List (Variable Slot Target SeqType)) (width number : ℕ) (x : Variable (List ℕ) (List ℕ) TypeName) (rest : List (Variable (List ℕ) (List ℕ) TypeName)) (y : Variable Slot Target SeqType)
    → VariablesLeft old all now out width number (x ∷ rest) → bound_variable y ≡ compiled_variable now.names number (named_variable x) → next ≡ behind_variable now number (named_variable x)
    → VariablesLeft old all next (out ++ y ∷ []) (max width next.number) (number + 1) rest
variables-step old all now next out width number x rest y h made walked =
    let b = named_variable x in
    let xs = map named_variable rest in
    let names = with_slot now.names b.variable.name (Global number) in
    let ms = variable_mentions (view_of false now.names) b in
    let s : State = declared now ms (variable_width b) names in
    let same : s.names ≡ names = declared-names now ms (variable_width b) names in
    let inner : Names = record { variables = globals_after names.variables (number + 1) xs; functions = now.names.functions } in
    let alone : ms ≡ variable_mentions (record { variables = bound_names now.names.variables; functions = []; item = false }) b = ap (λ v. variable_mentions v b) (seen-alone now.names h.functions) in
    record {
      functions = ap (λ t. t.names.functions) walked ∙ ap (λ n. n.functions) same ∙ h.functions;
      walk =
          ap (λ t. behind_variables t (number + 1) xs) walked
          ∙ ap (λ n. declared s (variables_mentions (bound_names n.variables) xs) 0 (record n { variables = globals_after n.variables (number + 1) xs })) same
          ∙ declared-declared now ms (variables_mentions (bound_names names.variables) xs) (variable_width b) 0 names inner
          ∙ ap (λ z. declared now (z ++ variables_mentions (bound_names names.variables) xs) 0 inner) alone
          ∙ h.walk;
      tree =
          ap (λ z. z ++ compiled_variables next.names.variables (number + 1) xs) (map-append bound_variable out (y ∷ []))
          ∙ append_assoc (map bound_variable out) (bound_variable y ∷ []) (compiled_variables next.names.variables (number + 1) xs)
          ∙ ap (λ t. map bound_variable out ++ bound_variable y ∷ compiled_variables t.names.variables (number + 1) xs) walked
          ∙ ap (λ n. map bound_variable out ++ bound_variable y ∷ compiled_variables n.variables (number + 1) xs) same
          ∙ ap (λ z. map bound_variable out ++ z ∷ compiled_variables names.variables (number + 1) xs) (made ∙ ap (λ n. compiled_variable n number b) (names-alone now.names h.functions))
          ∙ h.tree;
      widest =
          ap (λ t. max (max width t.number) (greatest (map variable_width xs))) walked
          ∙ ap (λ k. max (max width k) (greatest (map variable_width xs))) (declared-number now ms (variable_width b) names)
          ∙ greatest-more width (variable_width b) (greatest (map variable_width xs))
          ∙ h.widest;
    }

pub variables-begun : (old : State) (all : List (Variable (List ℕ) (List ℕ) TypeName)) → old.names.functions ≡ [] → VariablesLeft old all old [] 0 0 all
variables-begun old all h = record { functions = h; walk = refl; tree = refl; widest = omega arith }

pub variables-more : {E : Type 0} (old : State) (all : List (Variable (List ℕ) (List ℕ) TypeName)) (now next : State) (out longer : List (Variable Slot Target SeqType)) (width wider i : ℕ) (x : Variable (List ℕ) (List ℕ) TypeName) (part : Result (Variable Slot Target SeqType) E)
    → VariablesLeft old all now out width i (drop i all) → i < length all → x ≡ get_or all i x
    → IfOk part (λ y. bound_variable y ≡ compiled_variable now.names i (named_variable x)) → OnOk part (next ≡ behind_variable now i (named_variable x)) → Pushed out part longer → wider ≡ max width next.number
    → VariablesLeft old all next longer wider (i + 1) (drop (i + 1) all)
variables-more old all now next out longer width wider i x (Ok y) h l here made walked pushed widened =
    let at : drop i all ≡ x ∷ drop (i + 1) all = drop_more all i x l ∙ ap (λ z. z ∷ drop (i + 1) all) (sym here) in
    subst (λ w. VariablesLeft old all next longer w (i + 1) (drop (i + 1) all)) (sym widened)
    (subst (λ ys. VariablesLeft old all next ys (max width next.number) (i + 1) (drop (i + 1) all)) (sym pushed)
    (variables-step old all now next out width i x (drop (i + 1) all) y (subst (λ rest. VariablesLeft old all now out width i rest) at h) made walked))
variables-more old all now next out longer width wider i x (Err e) h l here made walked pushed widened = absurd pushed

module _ (old : State) (all : List (Variable (List ℕ) (List ℕ) TypeName)) (now : State) (out : List (Variable Slot Target SeqType)) (width i : ℕ) (h : VariablesLeft old all now out width i (drop i all)) (l : length all ≤ i) where
  at-end : VariablesLeft old all now out width i []
  at-end = subst (λ rest. VariablesLeft old all now out width i rest) (drop_all i all l) h

  pub variables-tree : map bound_variable out ≡ compiled_variables old.names.variables 0 (map named_variable all)
  variables-tree = sym (append-nil (map bound_variable out)) ∙ at-end.tree

  pub variables-width : width ≡ greatest (map variable_width (map named_variable all))
  variables-width = sym (greatest-none width) ∙ at-end.widest

  pub variables-walk : begun now ≡ behind_variables old 0 (map named_variable all)
  variables-walk = sym (declared-none now) ∙ at-end.walk
