-- What one declared function comes to.
use Rattle.std.proofs.Common.{◌≡◌, ℕ, ◌+◌, ◌-◌, ◌≤◌, Bool, false, ◌||◌, Option, List, [], ◌∷◌, ◌++◌, length, take, refl, sym, ap, subst, ◌∙◌, arith, append_assoc, length-append}
use Rattle.std.specs.Prelude.{option_map}
use Rattle.std.proofs.lemmas.List.{length-map}
use Rattle.query_tree.specs.declared.bound.Slot.{Slot}
use Rattle.query_tree.specs.declared.bound.Slot.TheVariants.{Local}
use Rattle.query_tree.specs.declared.bound.Target.{Target}
use Rattle.query_tree.specs.declared.bound.Target.TheVariants.{Own}
use Rattle.query_tree.specs.declared.module.Param.{Param}
use Rattle.query_tree.specs.declared.names.Placed.{Placed}
use Rattle.query_tree.specs.declared.names.TypeName.{TypeName}
use Rattle.query_tree.specs.Modules.{PlainFunction}
use Rattle.query_tree.specs.Bound.{BoundTree}
use Rattle.seq_types.specs.declared.types.SeqType.{SeqType}
use Rattle.static_rules.specs.declared.rules.Rule.{Rule}
use Rattle.static_rules.specs.declared.rules.Rule.TheVariants.{FunctionTwice}
use Rattle.static_rules.specs.Views.{View, Callee, seeing, has_callee}
use Rattle.static_rules.specs.Mentions.{MentionAt, mention_at, mentions, type_mentions, params_mentions, declares_function, callee_of, after_params}
use Rattle.static_rules.specs.Rules.{is_lines, is_built_in}
use Rattle.query_tree.specs.Binders.{binders}
use Rattle.static_rules.specs.Compiling.{Names, past, compiled, compiled_params, placed_type, with_slot, with_params, function_width}
use Rattle.static_rules.specs.Walks.{State, passed, tested, view_of, bound_names}
use Rattle.static_rules.specs.Openings.{Extends, entered, closed}
use Rattle.static_rules.specs.Behind.{stream_of}
use Rattle.query_tree.specs.Binders.{params_binders}
use Rattle.static_rules.specs.Declarations.{function_mentions, compiled_function, begun, declared, behind_params, earlier_functions, behind_function}
use Rattle.static_rules.proofs.Passing.{passed-names, passed-number, passed-passed, passed-test}
use Rattle.static_rules.proofs.Scoping.{extends-none, extends-one, extends-trans, entered-names, entered-number, closed-entered}
use Rattle.static_rules.proofs.Declaring.{begun-names, begun-number, passed-begun}

extends-params : (s : Names) (n : ℕ) (qs : List (Param (List ℕ) TypeName)) → Extends s (with_params s n qs)
extends-params s n [] = extends-none s
extends-params s n (q ∷ qs) = extends-trans s (with_slot s q.variable.name (Local n)) (with_params (with_slot s q.variable.name (Local n)) (n + 1) qs) (extends-one s q.variable.name (Local n)) (extends-params (with_slot s q.variable.name (Local n)) (n + 1) qs)

seen-params : (s : Names) (n : ℕ) (qs : List (Param (List ℕ) TypeName)) → bound_names (with_params s n qs).variables ≡ after_params (bound_names s.variables) qs
seen-params s n [] = refl
seen-params s n (q ∷ qs) = seen-params (with_slot s q.variable.name (Local n)) (n + 1) qs

view-params : (item : Bool) (s : Names) (n : ℕ) (qs : List (Param (List ℕ) TypeName)) → view_of item (with_params s n qs) ≡ seeing (view_of item s) (after_params (bound_names s.variables) qs)
view-params item s n qs =
    ap (λ f. let v : View = record { variables = bound_names (with_params s n qs).variables; functions = f; item = item } in v) (extends-params s n qs).functions
    ∙ ap (λ names. let v : View = record { variables = names; functions = s.functions; item = item } in v) (seen-params s n qs)

stream-none : (s : Names) → stream_of (length s.variables) s ≡ []
stream-none s = let e : length s.variables - length s.variables ≡ 0 = omega arith in ap (λ k. bound_names (take k s.variables)) e

is_taken : Callee → List Callee → Bool
is_taken c earlier = is_lines c.name || is_built_in c.name c.arity || has_callee earlier c.name c.arity

function-tested : (s : State) (c : Callee) (earlier : List Callee) (place : ℕ) → tested s (is_taken c earlier) FunctionTwice place ≡ passed s (mention_at place (declares_function c earlier) ∷ []) []
unfolding is_taken
function-tested s c earlier place = sym (passed-test s (mention_at place (declares_function c earlier)) (is_taken c earlier) FunctionTwice refl)

pub functions-kept : (s begins : State) (number : ℕ) → begins ≡ begun s → number ≤ length s.names.functions → number ≤ length begins.names.functions
functions-kept s begins number e h = subst (λ n. number ≤ length n.functions) (sym (ap (λ t. t.names) e ∙ begun-names s)) h

pub deep-enough : (s begins tests : State) (twice : Bool) (rule : Rule) (place depth : ℕ) → depth ≡ length s.names.variables → begins ≡ begun s → tests ≡ tested begins twice rule place → depth ≤ length tests.names.variables
deep-enough s begins tests twice rule place depth deep e g =
    let same : length tests.names.variables ≡ length s.names.variables = ap (λ t. length t.names.variables) g ∙ ap (λ t. length t.names.variables) e ∙ ap (λ n. length n.variables) (begun-names s) in
    omega arith

-- the walk begins a declaration, tests its name, and passes its parameters and its type
module _ (s begins tests entry typed : State) (twice : Bool) (number depth : ℕ) (f : PlainFunction (List ℕ) (List ℕ) TypeName)
    (deep : depth ≡ length s.names.variables) (e1 : begins ≡ begun s)
    (e2 : twice ≡ (is_lines f.function.name || is_built_in f.function.name (length f.params) || has_callee (earlier_functions begins.names number) f.function.name (length f.params)))
    (e3 : tests ≡ tested begins twice FunctionTwice f.function.place) (e4 : entry ≡ behind_params tests depth f.params)
    (e5 : typed ≡ passed entry (type_mentions f.type) []) where
  named : List MentionAt
  named = mention_at f.function.place (declares_function (callee_of f) (earlier_functions s.names number)) ∷ []

  at-test : tests ≡ passed (begun s) named []
  unfolding is_taken named
  at-test =
      e3
      ∙ ap (λ b. tested begins b FunctionTwice f.function.place) e2
      ∙ ap (λ t. tested t (is_taken (callee_of f) (earlier_functions t.names number)) FunctionTwice f.function.place) e1
      ∙ function-tested (begun s) (callee_of f) (earlier_functions (begun s).names number) f.function.place
      ∙ ap (λ n. passed (begun s) (mention_at f.function.place (declares_function (callee_of f) (earlier_functions n number)) ∷ []) []) (begun-names s)

  test-names : tests.names ≡ s.names
  test-names = ap (λ t. t.names) at-test ∙ passed-names (begun s) named [] ∙ begun-names s

  test-number : tests.number ≡ 0
  test-number = ap (λ t. t.number) at-test ∙ passed-number (begun s) named [] ∙ ap (λ n. past {V = List ℕ} n []) (begun-number s)

  at-entry : entry ≡ entered tests (params_mentions [] f.params) (params_binders f.params) (with_params s.names 0 f.params)
  at-entry =
      e4
      ∙ ap (λ d. behind_params tests d f.params) deep
      ∙ ap (λ n. entered tests (params_mentions (stream_of (length s.names.variables) n) f.params) (params_binders f.params) (with_params n tests.number f.params)) test-names
      ∙ ap (λ names. entered tests (params_mentions names f.params) (params_binders f.params) (with_params s.names tests.number f.params)) (stream-none s.names)
      ∙ ap (λ k. entered tests (params_mentions [] f.params) (params_binders f.params) (with_params s.names k f.params)) test-number

  typed-names : typed.names ≡ with_params s.names 0 f.params
  typed-names =
      ap (λ t. t.names) e5 ∙ passed-names entry (type_mentions f.type) [] ∙ ap (λ t. t.names) at-entry
      ∙ entered-names tests (params_mentions [] f.params) (params_binders f.params) (with_params s.names 0 f.params)

  typed-number : typed.number ≡ length f.params
  typed-number =
      let k : entry.number ≡ past 0 (params_binders f.params) =
      ap (λ t. t.number) at-entry
      ∙ entered-number tests (params_mentions [] f.params) (params_binders f.params) (with_params s.names 0 f.params)
      ∙ ap (λ n. past n (params_binders f.params)) test-number in
      let n : length (params_binders f.params) ≡ length f.params = length-map f.params (λ q. q.variable.name) in
      ap (λ t. t.number) e5 ∙ passed-number entry (type_mentions f.type) [] ∙ omega arith

  pub function-walk : (walked ends : State) → walked ≡ passed typed (mentions (view_of false typed.names) f.body) (binders f.body) → ends ≡ closed walked depth → ends ≡ behind_function s number f
  unfolding named
  function-walk walked ends e6 e7 =
      let ps = params_mentions [] f.params in
      let ts = type_mentions f.type in
      let inner = with_params s.names 0 f.params in
      let seen = seeing (view_of false s.names) (after_params (bound_names s.names.variables) f.params) in
      let ms = mentions seen f.body in
      let names = params_binders f.params in
      let bs = binders f.body in
      let wide : length (names ++ bs) ≡ function_width f = length-append names bs ∙ ap (λ n. n + length bs) (length-map f.params (λ q. q.variable.name)) in
      let inside : walked ≡ passed (entered tests ps names inner) (ts ++ ms) bs =
      e6
      ∙ ap (λ n. passed typed (mentions (view_of false n) f.body) bs) typed-names
      ∙ ap (λ v. passed typed (mentions v f.body) bs) (view-params false s.names 0 f.params)
      ∙ ap (λ t. passed t ms bs) (e5 ∙ ap (λ t. passed t ts []) at-entry)
      ∙ passed-passed (entered tests ps names inner) ts ms [] bs in
      e7
      ∙ ap (λ d. closed walked d) (deep ∙ ap (λ n. length n.variables) (sym test-names))
      ∙ ap (λ t. closed t (length tests.names.variables)) inside
      ∙ closed-entered tests ps (ts ++ ms) names bs inner (subst (λ n. Extends n inner) (sym test-names) (extends-params s.names 0 f.params))
      ∙ passed-passed tests ps (ts ++ ms) names bs
      ∙ ap (λ t. passed t (ps ++ (ts ++ ms)) (names ++ bs)) at-test
      ∙ passed-passed (begun s) named (ps ++ (ts ++ ms)) [] (names ++ bs)
      ∙ ap (λ z. passed (begun s) z (names ++ bs)) (ap (λ z. named ++ z) (sym (append_assoc ps ts ms)))
      ∙ passed-begun s (function_mentions (view_of false s.names) (earlier_functions s.names number) f) (names ++ bs)
      ∙ ap (λ k. declared s (function_mentions (view_of false s.names) (earlier_functions s.names number) f) k s.names) wide

  pub function-tree : (own : ℕ) (params : List (Param Slot SeqType)) (type : Option (Placed SeqType)) (body : BoundTree) → own ≡ number → params ≡ compiled_params tests.number f.params → type ≡ option_map placed_type f.type → body ≡ compiled typed.names typed.number f.body
      → (let t : PlainFunction Slot Target SeqType = record { function = record { place = f.function.place; name = Own own }; params = params; type = type; body = body } in t) ≡ compiled_function s.names number f
  function-tree own params type body o h g k =
      ap (λ y. let t : PlainFunction Slot Target SeqType = record { function = record { place = f.function.place; name = Own y }; params = params; type = type; body = body } in t) o
      ∙ ap (λ y. let t : PlainFunction Slot Target SeqType = record { function = record { place = f.function.place; name = Own number }; params = y; type = type; body = body } in t) (h ∙ ap (λ n. compiled_params n f.params) test-number)
      ∙ ap (λ y. let t : PlainFunction Slot Target SeqType = record { function = record { place = f.function.place; name = Own number }; params = compiled_params 0 f.params; type = y; body = body } in t) g
      ∙ ap (λ y. let t : PlainFunction Slot Target SeqType = record { function = record { place = f.function.place; name = Own number }; params = compiled_params 0 f.params; type = option_map placed_type f.type; body = y } in t)
      (k ∙ ap (λ n. compiled n typed.number f.body) typed-names ∙ ap (λ n. compiled (with_params s.names 0 f.params) n f.body) typed-number)
