-- How a loop over the parameters of a function goes on. Those before a parameter are what was bound since the first.
use Rattle.std.proofs.Common.{◌≡◌, ℕ, ◌+◌, ◌-◌, ◌<◌, ◌≤◌, Bool, Option, List, [], ◌∷◌, ◌++◌, length, take, drop, get_or, suc, refl, sym, ap, subst, ◌∙◌, arith, append_assoc, append-nil, add-zero}
use Rattle.std.specs.Prelude.{option_map}
use Rattle.std.proofs.lemmas.List.{drop_more, drop_all}
use Rattle.query_tree.specs.declared.bound.Slot.{Slot}
use Rattle.query_tree.specs.declared.bound.Slot.TheVariants.{Local}
use Rattle.query_tree.specs.declared.module.Param.{Param}
use Rattle.query_tree.specs.declared.names.Placed.{Placed}
use Rattle.query_tree.specs.declared.names.TypeName.{TypeName}
use Rattle.seq_types.specs.declared.types.SeqType.{SeqType}
use Rattle.static_rules.specs.declared.rules.Rule.TheVariants.{ParameterTwice}
use Rattle.static_rules.specs.Views.{has_name}
use Rattle.static_rules.specs.Mentions.{MentionAt, mention_at, type_mentions, declares_parameter, params_mentions}
use Rattle.static_rules.specs.Compiling.{Names, with_slot, with_params, placed_type, compiled_params}
use Rattle.static_rules.specs.Walks.{State, bound_names, passed, tested, sooner, first_of}
use Rattle.static_rules.specs.Openings.{entered, opened}
use Rattle.static_rules.specs.Behind.{stream_of}
use Rattle.query_tree.specs.Binders.{params_binders}
use Rattle.static_rules.specs.Declarations.{param_mentions, compiled_param, behind_param, behind_params}
use Rattle.static_rules.proofs.Passing.{passed-number, passed-passed, passed-test}
use Rattle.static_rules.proofs.Scoping.{entered-names, entered-number, entered-entered, entered-none}

param-tested : (s : State) (name : List ℕ) (earlier : List (List ℕ)) (place : ℕ) → tested s (has_name earlier name) ParameterTwice place ≡ passed s (mention_at place (declares_parameter name earlier) ∷ []) []
param-tested s name earlier place = sym (passed-test s (mention_at place (declares_parameter name earlier)) (has_name earlier name) ParameterTwice refl)

opened-passed : (s : State) (ms : List MentionAt) (name : List ℕ) → opened (passed s ms []) name ≡ entered s ms (name ∷ []) (with_slot s.names name (Local s.number))
unfolding opened passed entered
opened-passed s ms name = ap (λ k. let t : State = record { names = with_slot s.names name (Local k); number = k + 1; first = sooner s.first (first_of ms) } in t) (add-zero s.number)

-- one parameter: the walk tests its name, passes its type, and binds it
module _ (s tests typed : State) (twice : Bool) (base : ℕ) (q : Param (List ℕ) TypeName)
    (e1 : twice ≡ has_name (stream_of base s.names) q.variable.name) (e2 : tests ≡ tested s twice ParameterTwice q.variable.place) (e3 : typed ≡ passed tests (type_mentions q.of) []) where
  at-type : typed ≡ passed s (param_mentions (stream_of base s.names) q) []
  at-type =
      e3
      ∙ ap (λ t. passed t (type_mentions q.of) []) (e2 ∙ ap (λ b. tested s b ParameterTwice q.variable.place) e1 ∙ param-tested s q.variable.name (stream_of base s.names) q.variable.place)
      ∙ passed-passed s (mention_at q.variable.place (declares_parameter q.variable.name (stream_of base s.names)) ∷ []) (type_mentions q.of) [] []

  pub param-walk : (ends : State) → ends ≡ opened typed q.variable.name → ends ≡ behind_param s base q
  param-walk ends e4 = e4 ∙ ap (λ t. opened t q.variable.name) at-type ∙ opened-passed s (param_mentions (stream_of base s.names) q) q.variable.name

  pub param-tree : (number : ℕ) (variable : Placed Slot) (type : Option (Placed SeqType)) → number ≡ typed.number → variable ≡ record { place = q.variable.place; name = Local number } → type ≡ option_map placed_type q.of
      → (let t : Param Slot SeqType = record { variable = variable; of = type } in t) ≡ compiled_param s.number q
  param-tree number variable type h g f =
      ap (λ y. let t : Param Slot SeqType = record { variable = y; of = type } in t) g
      ∙ ap (λ y. let t : Param Slot SeqType = record { variable = record { place = q.variable.place; name = Local number }; of = y } in t) f
      ∙ ap (λ k. let t : Param Slot SeqType = record { variable = record { place = q.variable.place; name = Local k }; of = option_map placed_type q.of } in t)
      (h ∙ ap (λ t. t.number) at-type ∙ passed-number s (param_mentions (stream_of base s.names) q) [] ∙ add-zero s.number)

stream-param : (base : ℕ) (s : Names) (name : List ℕ) (slot : Slot) → base ≤ length s.variables → stream_of base (with_slot s name slot) ≡ name ∷ stream_of base s
stream-param base s name slot h =
    let e : length ((name, slot) ∷ s.variables) - base ≡ suc (length s.variables - base) = omega arith in
    ap (λ k. bound_names (take k ((name, slot) ∷ s.variables))) e

longer-param : (base : ℕ) (s : Names) (name : List ℕ) (slot : Slot) → base ≤ length s.variables → base ≤ length (with_slot s name slot).variables
longer-param base s name slot h = omega arith

pub record ParamsLeft (base : ℕ) (old : State) (all : List (Param (List ℕ) TypeName)) (now : State) (out : List (Param Slot SeqType)) (rest : List (Param (List ℕ) TypeName)) : Type 0 where
  pub longer : base ≤ length now.names.variables
  walk : behind_params now base rest ≡ behind_params old base all
  tree : out ++ compiled_params now.number rest ≡ compiled_params old.number all

params-step : (base : ℕ) (old : State) (all : List (Param (List ℕ) TypeName)) (now next : State) (out : List (Param Slot SeqType)) (q : Param (List ℕ) TypeName) (rest : List (Param (List ℕ) TypeName)) (y : Param Slot SeqType)
    → ParamsLeft base old all now out (q ∷ rest) → y ≡ compiled_param now.number q → next ≡ behind_param now base q
    → ParamsLeft base old all next (out ++ y ∷ []) rest
params-step base old all now next out q rest y h made walked =
    let name = q.variable.name in
    let names = with_slot now.names name (Local now.number) in
    let stream = stream_of base now.names in
    let s : State = entered now (param_mentions stream q) (name ∷ []) names in
    let same : s.names ≡ names = entered-names now (param_mentions stream q) (name ∷ []) names in
    let count : s.number ≡ now.number + 1 = entered-number now (param_mentions stream q) (name ∷ []) names in
    record {
      longer = subst (λ t. base ≤ length t.names.variables) (sym walked) (subst (λ n. base ≤ length n.variables) (sym same) (longer-param base now.names name (Local now.number) h.longer));
      walk =
          ap (λ t. behind_params t base rest) walked
          ∙ ap (λ n. entered s (params_mentions (stream_of base n) rest) (params_binders rest) (with_params n s.number rest)) same
          ∙ ap (λ k. entered s (params_mentions (stream_of base names) rest) (params_binders rest) (with_params names k rest)) count
          ∙ ap (λ b. entered s (params_mentions b rest) (params_binders rest) (with_params names (now.number + 1) rest)) (stream-param base now.names name (Local now.number) h.longer)
          ∙ entered-entered now (param_mentions stream q) (params_mentions (name ∷ stream) rest) (name ∷ []) (params_binders rest) names (with_params names (now.number + 1) rest)
          ∙ h.walk;
      tree =
          append_assoc out (y ∷ []) (compiled_params next.number rest)
          ∙ ap (λ t. out ++ y ∷ compiled_params t.number rest) walked
          ∙ ap (λ k. out ++ y ∷ compiled_params k rest) count
          ∙ ap (λ z. out ++ z ∷ compiled_params (now.number + 1) rest) made
          ∙ h.tree;
    }

pub params-begun : (base : ℕ) (old : State) (all : List (Param (List ℕ) TypeName)) → base ≤ length old.names.variables → ParamsLeft base old all old [] all
params-begun base old all longer = record { longer = longer; walk = refl; tree = refl }

pub params-more : (base : ℕ) (old : State) (all : List (Param (List ℕ) TypeName)) (now next : State) (out longer : List (Param Slot SeqType)) (i : ℕ) (x : Param (List ℕ) TypeName) (y : Param Slot SeqType)
    → ParamsLeft base old all now out (drop i all) → i < length all → x ≡ get_or all i x
    → y ≡ compiled_param now.number x → next ≡ behind_param now base x → longer ≡ out ++ y ∷ []
    → ParamsLeft base old all next longer (drop (i + 1) all)
params-more base old all now next out longer i x y h l here made walked pushed =
    let at : drop i all ≡ x ∷ drop (i + 1) all = drop_more all i x l ∙ ap (λ z. z ∷ drop (i + 1) all) (sym here) in
    subst (λ ys. ParamsLeft base old all next ys (drop (i + 1) all)) (sym pushed)
    (params-step base old all now next out x (drop (i + 1) all) y (subst (λ rest. ParamsLeft base old all now out rest) at h) made walked)

pub params-tree : (base : ℕ) (old : State) (all : List (Param (List ℕ) TypeName)) (now : State) (out : List (Param Slot SeqType)) (i : ℕ)
    → ParamsLeft base old all now out (drop i all) → length all ≤ i → out ≡ compiled_params old.number all
params-tree base old all now out i h l =
    let g = subst (λ rest. ParamsLeft base old all now out rest) (drop_all i all l) h in
    sym (append-nil out) ∙ g.tree

pub params-walk : (base : ℕ) (old : State) (all : List (Param (List ℕ) TypeName)) (now : State) (out : List (Param Slot SeqType)) (i : ℕ)
    → ParamsLeft base old all now out (drop i all) → length all ≤ i → now ≡ behind_params old base all
params-walk base old all now out i h l =
    let g = subst (λ rest. ParamsLeft base old all now out rest) (drop_all i all l) h in
    sym (entered-none now) ∙ g.walk
