-- What a whole query comes to.
use Rattle.std.proofs.Common.{◌≡◌, ℕ, ◌+◌, false, List, [], ◌∷◌, ◌++◌, length, map, refl, ap, ◌∙◌, zero-add}
use Rattle.std.specs.Prelude.{max}
use Rattle.query_tree.specs.declared.bound.Slot.{Slot}
use Rattle.query_tree.specs.declared.bound.Slot.TheVariants.{Global}
use Rattle.query_tree.specs.declared.bound.Target.{Target}
use Rattle.query_tree.specs.declared.names.TypeName.{TypeName}
use Rattle.query_tree.specs.Modules.{PlainVariable, PlainFunction}
use Rattle.query_tree.specs.Bound.{BoundTree}
use Rattle.query_tree.specs.Compiled.{BoundTrees}
use Rattle.seq_types.specs.declared.types.SeqType.{SeqType}
use Rattle.query_tree.specs.NamedViews.{NamedQuery}
use Rattle.static_rules.specs.Views.{View}
use Rattle.static_rules.specs.Mentions.{MentionAt, mentions, variables_mentions, functions_mentions, after_variables, callee_of, body_view}
use Rattle.static_rules.specs.Refusals.{refusal}
use Rattle.query_tree.specs.Binders.{binders}
use Rattle.static_rules.specs.Compiling.{Names, compiled, compiled_variables, compiled_functions, compiled_query, globals_after, body_names, variable_width, function_width, greatest, query_width}
use Rattle.static_rules.specs.Walks.{State, passed, view_of, bound_names, first_of}
use Rattle.static_rules.specs.Declarations.{started, declared, with_functions, behind_variables, behind_functions}
use Rattle.static_rules.proofs.Passing.{passed-number, passed-passed}
use Rattle.static_rules.proofs.Declaring.{declared-names, declared-number, declared-declared}

seen-globals : (names : List (List ℕ × Slot)) (number : ℕ) (xs : List (PlainVariable (List ℕ) (List ℕ) TypeName)) → bound_names (globals_after names number xs) ≡ after_variables (bound_names names) xs
seen-globals names number [] = refl
seen-globals names number (x ∷ xs) = seen-globals ((x.variable.name, Global number) ∷ names) (number + 1) xs

view-body : (q : NamedQuery) → view_of false (body_names q) ≡ body_view q
view-body q = ap (λ names. let v : View = record { variables = names; functions = map callee_of q.functions; item = false } in v) (seen-globals [] 0 q.variables)

started-names : started.names ≡ (let n : Names = record { variables = []; functions = [] } in n)
unfolding started
started-names = refl

pub starts-alone : (s : State) → s ≡ started → s.names.functions ≡ []
starts-alone s e = ap (λ t. t.names.functions) e ∙ ap (λ n. n.functions) started-names

first-declared : (ms : List MentionAt) (n : ℕ) (names : Names) → (declared started ms n names).first ≡ first_of ms
unfolding declared started
first-declared ms n names = refl

placed : State → ℕ → Names → State
placed s n names = record s { number = n; names = names }

first-passed : (s : State) (ms ns : List MentionAt) (n : ℕ) (names : Names) (bs : List (List ℕ)) → (passed (declared s ms n names) ns bs).first ≡ (declared s (ms ++ ns) n names).first
unfolding declared passed placed
first-passed s ms ns n names bs = ap (λ t. t.first) (passed-passed s ms ns [] bs)

-- the walk stands behind the variables, the functions and the body
module _ (q : NamedQuery) (start declares calls ends : State) (e1 : start ≡ started) (e2 : declares ≡ behind_variables start 0 q.variables) (e3 : calls ≡ behind_functions declares q.functions)
    (e4 : ends ≡ passed calls (mentions (view_of false calls.names) q.body) (binders q.body)) where
  begins-none : start.names ≡ (let n : Names = record { variables = []; functions = [] } in n)
  begins-none = ap (λ t. t.names) e1 ∙ started-names

  at-variables : declares ≡ declared started (variables_mentions [] q.variables) 0 (record { variables = globals_after [] 0 q.variables; functions = [] })
  at-variables =
      e2
      ∙ ap (λ n. declared start (variables_mentions (bound_names n.variables) q.variables) 0 (record n { variables = globals_after n.variables 0 q.variables })) begins-none
      ∙ ap (λ t. declared t (variables_mentions [] q.variables) 0 (record { variables = globals_after [] 0 q.variables; functions = [] })) e1

  all-names : with_functions declares.names (map callee_of q.functions) ≡ body_names q
  all-names = ap (λ t. with_functions t.names (map callee_of q.functions)) at-variables ∙ ap (λ n. with_functions n (map callee_of q.functions)) (declared-names started (variables_mentions [] q.variables) 0 (record { variables = globals_after [] 0 q.variables; functions = [] }))

  at-functions : calls ≡ declared started (variables_mentions [] q.variables ++ functions_mentions (body_view q) [] q.functions) 0 (body_names q)
  at-functions =
      e3
      ∙ ap (λ n. declared declares (functions_mentions (view_of false n) [] q.functions) 0 n) all-names
      ∙ ap (λ v. declared declares (functions_mentions v [] q.functions) 0 (body_names q)) (view-body q)
      ∙ ap (λ t. declared t (functions_mentions (body_view q) [] q.functions) 0 (body_names q)) at-variables
      ∙ declared-declared started (variables_mentions [] q.variables) (functions_mentions (body_view q) [] q.functions) 0 0 (record { variables = globals_after [] 0 q.variables; functions = [] }) (body_names q)

  body-names : calls.names ≡ body_names q
  body-names = ap (λ t. t.names) at-functions ∙ declared-names started (variables_mentions [] q.variables ++ functions_mentions (body_view q) [] q.functions) 0 (body_names q)

  body-number : calls.number ≡ 0
  body-number = ap (λ t. t.number) at-functions ∙ declared-number started (variables_mentions [] q.variables ++ functions_mentions (body_view q) [] q.functions) 0 (body_names q)

  pub query-first : ends.first ≡ refusal q
  query-first =
      let ms = variables_mentions [] q.variables ++ functions_mentions (body_view q) [] q.functions in
      let ns = mentions (body_view q) q.body in
      ap (λ t. t.first)
      (e4
      ∙ ap (λ n. passed calls (mentions (view_of false n) q.body) (binders q.body)) body-names
      ∙ ap (λ v. passed calls (mentions v q.body) (binders q.body)) (view-body q)
      ∙ ap (λ t. passed t ns (binders q.body)) at-functions)
      ∙ first-passed started ms ns 0 (body_names q) (binders q.body)
      ∙ first-declared (ms ++ ns) 0 (body_names q)

  pub query-width : (a b : ℕ) → a ≡ greatest (map variable_width q.variables) → b ≡ greatest (map function_width q.functions) → max a (max b ends.number) ≡ query_width q
  query-width a b h g =
      ap (λ n. max n (max b ends.number)) h
      ∙ ap (λ n. max (greatest (map variable_width q.variables)) (max n ends.number)) g
      ∙ ap (λ n. max (greatest (map variable_width q.variables)) (max (greatest (map function_width q.functions)) n))
      (ap (λ t. t.number) e4 ∙ passed-number calls (mentions (view_of false calls.names) q.body) (binders q.body) ∙ ap (λ n. n + length (binders q.body)) body-number ∙ zero-add (length (binders q.body)))

  pub query-tree : (variables : List (PlainVariable Slot Target SeqType)) (functions : List (PlainFunction Slot Target SeqType)) (body : BoundTree)
      → variables ≡ compiled_variables start.names.variables 0 q.variables → functions ≡ compiled_functions (with_functions declares.names (map callee_of q.functions)) 0 q.functions → body ≡ compiled calls.names calls.number q.body
      → (let t : BoundTrees = record { variables = variables; functions = functions; body = body } in t) ≡ compiled_query q
  query-tree variables functions body h g f =
      ap (λ y. let t : BoundTrees = record { variables = y; functions = functions; body = body } in t) (h ∙ ap (λ n. compiled_variables n.variables 0 q.variables) begins-none)
      ∙ ap (λ y. let t : BoundTrees = record { variables = compiled_variables [] 0 q.variables; functions = y; body = body } in t) (g ∙ ap (λ n. compiled_functions n 0 q.functions) all-names)
      ∙ ap (λ y. let t : BoundTrees = record { variables = compiled_variables [] 0 q.variables; functions = compiled_functions (body_names q) 0 q.functions; body = y } in t)
      (f ∙ ap (λ n. compiled n calls.number q.body) body-names ∙ ap (λ k. compiled (body_names q) k q.body) body-number)
