-- Predicates that come to the same for every item, as they read none.
use Rattle.std.specs.Prelude.{ℕ, if◌then◌else◌, List, [], ◌∷◌, Ok}
use Rattle.item_tree.specs.Datum.{Datum}
use Rattle.seq_types.specs.declared.types.SeqType.{SeqType}
use Rattle.query_tree.specs.declared.bound.Slot.{Slot}
use Rattle.query_tree.specs.declared.bound.Target.{Target}
use Rattle.query_tree.specs.Bound.{BoundTree}
use Rattle.query_tree.specs.Plain as p
use Rattle.query_tree.specs.Plain.{PlainFactors, PlainTerms}
use Rattle.query_meaning.specs.Outcome.{Outcome, ◌>>=◌, at_place}
use Rattle.query_meaning.specs.Paths.{keeps}

-- an integer or a variable
abbrev pub IsPlain : BoundTree → Type 0
IsPlain (p.tree_node place (p.int_form value)) = Unit {0}
IsPlain (p.tree_node place (p.var_form variable)) = Unit {0}
IsPlain (p.tree_node place _) = ⊥

abbrev pub ArePlain : PlainFactors Slot Target SeqType → Type 0
ArePlain p.no_factors = Unit {0}
ArePlain (p.more_factors (p.factor_node op place e) fs) = IsPlain e × ArePlain fs

-- one of these, or a product of them
abbrev pub IsFixedTerm : BoundTree → Type 0
IsFixedTerm (p.tree_node place (p.product_form first rest)) = IsPlain first × ArePlain rest
IsFixedTerm (p.tree_node place form) = IsPlain (p.tree_node place form)

abbrev pub AreFixedTerms : PlainTerms Slot Target SeqType → Type 0
AreFixedTerms p.no_terms = Unit {0}
AreFixedTerms (p.more_terms (p.term_node op place e) ts) = IsFixedTerm e × AreFixedTerms ts

-- one of these, or a sum of them
abbrev pub ReadsNoItem : BoundTree → Type 0
ReadsNoItem (p.tree_node place (p.sum_form first rest)) = IsFixedTerm first × AreFixedTerms rest
ReadsNoItem (p.tree_node place form) = IsFixedTerm (p.tree_node place form)

-- what a predicate of this value keeps of the item at a position
unfoldable pub kept_by : ℕ → List Datum → ℕ → Datum → Outcome
kept_by place value position x =
    at_place place (keeps position value) >>= λ keep. Ok (if keep then x ∷ [] else [])
