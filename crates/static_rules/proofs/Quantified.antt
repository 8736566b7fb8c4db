-- The scope of a quantified expression.
use Rattle.std.proofs.Common.{◌≡◌, ℕ, Bool, List, ◌++◌, length, ap, ◌∙◌}
use Rattle.query_tree.specs.declared.names.TypeName.{TypeName}
use Rattle.query_tree.specs.Plain.{PlainBinds}
use Rattle.static_rules.specs.Views as views
use Rattle.query_tree.specs.NamedViews.{NamedTree}
use Rattle.static_rules.specs.Views.{View, seeing}
use Rattle.static_rules.specs.Mentions.{MentionAt, mentions, binds_mentions}
use Rattle.query_tree.specs.Binders.{binders, binds_binders}
use Rattle.static_rules.specs.Compiling.{Names, after_binds}
use Rattle.static_rules.specs.Walks.{State, view_of, bound_names, passed}
use Rattle.static_rules.specs.Openings.{closed}
use Rattle.static_rules.specs.Behind.{behind_binds}
use Rattle.static_rules.specs.Sources.{behind_tree}
use Rattle.static_rules.proofs.Passing.{passed-passed}
use Rattle.static_rules.proofs.Scoping.{extends-binds, seen-binds, closed-entered, entered-names, entered-number}

pub view-binds : (item : Bool) (s : Names) (n : ℕ) (bs : PlainBinds (List ℕ) (List ℕ) TypeName) → view_of item (after_binds s n bs) ≡ seeing (view_of item s) (views.after_binds (bound_names s.variables) bs)
view-binds item s n bs =
    ap (λ f. let v : View = record { variables = bound_names (after_binds s n bs).variables; functions = f; item = item } in v) (extends-binds s n bs).functions
    ∙ ap (λ names. let v : View = record { variables = names; functions = s.functions; item = item } in v) (seen-binds s n bs)

pub closed-binds : (s : State) (item : Bool) (bs : PlainBinds (List ℕ) (List ℕ) TypeName) (ms : List MentionAt) (cs : List (List ℕ))
    → closed (passed (behind_binds s item bs) ms cs) (length s.names.variables) ≡ passed s (binds_mentions (view_of item s.names) bs ++ ms) (binds_binders bs ++ cs)
closed-binds s item bs ms cs =
    closed-entered s (binds_mentions (view_of item s.names) bs) ms (binds_binders bs) cs (after_binds s.names s.number bs) (extends-binds s.names s.number bs)
    ∙ passed-passed s (binds_mentions (view_of item s.names) bs) ms (binds_binders bs) cs

-- the state behind a quantified expression
pub quantified-walk : (s b e : State) (depth : ℕ) (item : Bool) (bs : PlainBinds (List ℕ) (List ℕ) TypeName) (test : NamedTree) → depth ≡ length s.names.variables → b ≡ behind_binds s item bs → e ≡ behind_tree b item test
    → closed e depth ≡ passed s (binds_mentions (view_of item s.names) bs ++ mentions (seeing (view_of item s.names) (views.after_binds (bound_names s.names.variables) bs)) test) (binds_binders bs ++ binders test)
quantified-walk s b e depth item bs test d walked tested =
    ap (closed e) d
    ∙ ap (λ t. closed t (length s.names.variables)) (tested ∙ ap (λ t. behind_tree t item test) walked)
    ∙ closed-binds s item bs (mentions (view_of item (behind_binds s item bs).names) test) (binders test)
    ∙ ap (λ v. passed s (binds_mentions (view_of item s.names) bs ++ mentions v test) (binds_binders bs ++ binders test))
    (ap (view_of item) (entered-names s (binds_mentions (view_of item s.names) bs) (binds_binders bs) (after_binds s.names s.number bs)) ∙ view-binds item s.names s.number bs)

pub ruleset quantifying = (closed-binds, view-binds, entered-names, entered-number)
