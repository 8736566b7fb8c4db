-- The state behind a typeswitch.
use Rattle.std.proofs.Common.{◌≡◌, ℕ, Bool, Option, List, ◌++◌, append_assoc, sym, ap, ◌∙◌}
use Rattle.query_tree.specs.declared.names.Placed.{Placed}
use Rattle.query_tree.specs.declared.names.TypeName.{TypeName}
use Rattle.query_tree.specs.Plain.{PlainTypeCases}
use Rattle.query_tree.specs.NamedViews.{NamedTree}
use Rattle.static_rules.specs.Views.{seeing, and_any}
use Rattle.static_rules.specs.Mentions.{mentions, type_cases_mentions}
use Rattle.query_tree.specs.Binders.{binders, type_cases_binders, any_name}
use Rattle.static_rules.specs.Compiling.{Names}
use Rattle.static_rules.specs.Walks.{State, view_of, bound_names, passed}
use Rattle.static_rules.specs.Sources.{behind_tree, behind_type_cases}
use Rattle.static_rules.proofs.Passing.{passed-names, passed-passed}

pub typeswitch-walk : (s a b d : State) (item : Bool) (operand : NamedTree) (cases : PlainTypeCases (List ℕ) (List ℕ) TypeName) (variable : Option (Placed (List ℕ))) (default : NamedTree)
    → a ≡ behind_tree s item operand → b ≡ behind_type_cases a item cases
    → d ≡ passed b (mentions (seeing (view_of item b.names) (and_any (bound_names b.names.variables) variable)) default) (any_name variable ++ binders default)
    → d ≡ passed s (mentions (view_of item s.names) operand ++ type_cases_mentions (view_of item s.names) cases ++ mentions (seeing (view_of item s.names) (and_any (bound_names s.names.variables) variable)) default) (binders operand ++ type_cases_binders cases ++ any_name variable ++ binders default)
typeswitch-walk s a b d item operand cases variable default first second third =
    let v = view_of item s.names in
    let last : Names → State → State = λ n t. passed t (mentions (seeing (view_of item n) (and_any (bound_names n.variables) variable)) default) (any_name variable ++ binders default) in
    let here : a.names ≡ s.names = ap (λ t. t.names) first ∙ passed-names s (mentions v operand) (binders operand) in
    let there : b ≡ passed a (type_cases_mentions v cases) (type_cases_binders cases) = second ∙ ap (λ n. passed a (type_cases_mentions (view_of item n) cases) (type_cases_binders cases)) here in
    let same : b.names ≡ s.names = ap (λ t. t.names) there ∙ passed-names a (type_cases_mentions v cases) (type_cases_binders cases) ∙ here in
    let ms = mentions (seeing v (and_any (bound_names s.names.variables) variable)) default in
    let bs = any_name variable ++ binders default in
    let front = binders operand ++ type_cases_binders cases in
    third
    ∙ ap (λ n. last n b) same
    ∙ ap (last s.names) (there ∙ ap (λ t. passed t (type_cases_mentions v cases) (type_cases_binders cases)) first ∙ passed-passed s (mentions v operand) (type_cases_mentions v cases) (binders operand) (type_cases_binders cases))
    ∙ passed-passed s (mentions v operand ++ type_cases_mentions v cases) ms front bs
    ∙ ap (passed s (mentions v operand ++ type_cases_mentions v cases ++ ms)) (sym (append_assoc front (any_name variable) (binders default)))
