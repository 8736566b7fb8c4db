-- A query that breaks no rule compiles to a tree that may stand in a compiled query.
use Rattle.std.proofs.Common.{◌≡◌, ℕ, suc, ◌+◌, ◌≤◌, ◌==◌, Bool, true, false, cond, ◌&&◌, ◌||◌, not, Some, None, List, [], ◌∷◌, ◌++◌, length, map, refl, sym, ap, subst, ◌∙◌, arith}
use Rattle.std.specs.Prelude.{nat_lt, slice_get, unwrap_or}
use Rattle.std.specs.List.{list_all, list_any, position_or_len}
use Rattle.std.specs.Str.{bytes_eq}
use Rattle.std.specs.Cmp.Derive.{both_true}
use Rattle.std.proofs.lemmas.Bool.{false≢true, and_parts, or_parts}
use Rattle.std.proofs.lemmas.Bool.Decides.{nat_tests}
use Rattle.query_tree.specs.declared.bound.Slot.{Slot}
use Rattle.query_tree.specs.declared.bound.Slot.TheVariants.{Local, Global}
use Rattle.query_tree.specs.declared.module.Param.{Param}
use Rattle.query_tree.specs.declared.names.TypeName.{TypeName}
use Rattle.query_tree.specs.Modules.{PlainVariable, PlainFunction}
use Rattle.query_tree.specs.Scopes.{these, Scope, may_read, is_count}
use Rattle.query_tree.specs.Bindings.{bindings}
use Rattle.query_tree.specs.Compiled.{variable_scope, body_scope, params_bound, variables_bound, functions_bound, params_bindings, are_apart}
use Rattle.query_tree.specs.NamedViews.{NamedQuery}
use Rattle.static_rules.specs.Views.{Callee, View, has_name, has_callee, seeing}
use Rattle.static_rules.specs.Mentions.{MentionAt, mention_at, declares_variable, declares_function, type_mentions, mentions, callee_of, after_params, params_mentions, variables_mentions, functions_mentions, after_variables, body_view, query_mentions}
use Rattle.static_rules.specs.Rules.{breaks}
use Rattle.static_rules.specs.declared.rules.Rule.{Rule}
use Rattle.query_tree.specs.Binders
use Rattle.static_rules.specs.Compiling.{Names, slot_in, own_number, globals_after, compiled_variables, compiled_params, compiled_functions, body_names, compiled_query, variable_width, function_width, greatest, query_width, AcceptedQueriesPass}
use Rattle.static_rules.proofs.EarliestRefusals.{refusals_exact}
use Rattle.static_rules.proofs.Numbers.{tree-counted, counted-apart}
use Rattle.static_rules.proofs.TextOrder.{variable-numbers, function-numbers}
use Rattle.static_rules.proofs.Agreement.{itself, Kept, Clean, clean_parts, Agrees, with_slot-agrees, after_params-agrees, slot_bound}
use Rattle.static_rules.proofs.Scoped.{tree-passes}

-- where no rule is broken at any place, no mention breaks one
here_kept : (m : MentionAt) (rule : Rule) → (m.place == m.place && breaks m.mention rule) ≡ false → breaks m.mention rule ≡ false
here_kept m rule h = let e : (m.place == m.place) ≡ true = grind (arith, nat_tests) in sym (ap (λ b. b && breaks m.mention rule) e) ∙ h

clean_of : (ms : List MentionAt) → ((rule : Rule) (place : ℕ) → list_any (λ m. m.place == place && breaks m.mention rule) ms ≡ false) → Clean ms
clean_of [] h = record { all = tt }
clean_of (m ∷ ms) h =
    let rest = clean_of ms (λ rule place. (or_parts (m.place == place && breaks m.mention rule) (list_any (λ k. k.place == place && breaks k.mention rule) ms) (h rule place)).1) in
    let here : Kept m.mention = record { all = λ rule. here_kept m rule (or_parts (m.place == m.place && breaks m.mention rule) (list_any (λ k. k.place == m.place && breaks k.mention rule) ms) (h rule m.place)).0 } in
    record { all = (here, rest.all) }

-- the declared variables that are seen may be read where so many are declared
record Declared (names : List (List ℕ × Slot)) (seen : List (List ℕ)) (number : ℕ) : Type 0 where
  reads : (name : List ℕ) → has_name seen name ≡ true → may_read (variable_scope (these []) number) (slot_in names name) ≡ true

none_declared : Declared [] [] 0
none_declared = record { reads = λ name h. absurd (false≢true h) }

read_later : (x : Slot) (m n : ℕ) → m ≤ n → may_read (variable_scope (these []) m) x ≡ true → may_read (variable_scope (these []) n) x ≡ true
read_later (Local k) m n le h = absurd (false≢true h)
read_later (Global k) m n le h = grind (arith, nat_tests)

declared-more : (names : List (List ℕ × Slot)) (seen : List (List ℕ)) (number : ℕ) (name : List ℕ) → Declared names seen number → Declared ((name, Global number) ∷ names) (name ∷ seen) (number + 1)
declared-more names seen number name d = record { reads = λ other h. by other (bytes_eq name other) h }
  where
    by : (other : List ℕ) (same : Bool) → (same || has_name seen other) ≡ true → may_read (variable_scope (these []) (number + 1)) (cond same (Global number) (slot_in names other)) ≡ true
    by other true h = grind (arith, nat_tests)
    by other false h = read_later (slot_in names other) number (number + 1) (omega arith) (d.reads other h)

declared-after : (names : List (List ℕ × Slot)) (seen : List (List ℕ)) (number : ℕ) → Declared names seen number → (xs : List (PlainVariable (List ℕ) (List ℕ) TypeName)) → Declared (globals_after names number xs) (after_variables seen xs) (number + length (compiled_variables names number xs))
declared-after names seen number d [] = subst (Declared names seen) (omega arith) d
declared-after names seen number d (x ∷ xs) =
    let more_names = (x.variable.name, Global number) ∷ names in
    let more_seen = x.variable.name ∷ seen in
    let later = declared-after more_names more_seen (number + 1) (declared-more names seen number x.variable.name d) xs in
    subst (Declared (globals_after more_names (number + 1) xs) (after_variables more_seen xs)) (omega arith) later

-- a declared variable sees those before it
variable-agrees : (names : List (List ℕ × Slot)) (seen : List (List ℕ)) (number : ℕ) → Declared names seen number → Agrees (record { variables = names; functions = [] }) (record { variables = seen; functions = []; item = false }) (variable_scope (these []) number)
variable-agrees names seen number d = record {
  room = λ n. refl;
  reads = d.reads;
  calls = λ name arity h. absurd (false≢true h);
  item = λ h. absurd (false≢true h);
}

variables-pass : (names : List (List ℕ × Slot)) (seen : List (List ℕ)) (number : ℕ) → Declared names seen number → (xs : List (PlainVariable (List ℕ) (List ℕ) TypeName)) → Clean (variables_mentions seen xs) → variables_bound (these []) number (compiled_variables names number xs) ≡ true
variables-pass names seen number d [] h = refl
variables-pass names seen number d (x ∷ xs) h =
    let v : View = record { variables = seen; functions = []; item = false } in
    let first = mention_at x.variable.place (declares_variable x.variable.name seen) ∷ type_mentions x.type in
    let parts = clean_parts (first ++ mentions v x.value) (variables_mentions (x.variable.name ∷ seen) xs) h in
    let own = clean_parts first (mentions v x.value) parts.0 in
    let here = both_true (itself number) (tree-passes 0 (variable-agrees names seen number d) x.value own.1) in
    let later = variables-pass ((x.variable.name, Global number) ∷ names) (x.variable.name ∷ seen) (number + 1) (declared-more names seen number x.variable.name d) xs parts.1 in
    both_true here later

-- a declared function is called by its number, with its number of arguments
abbrev is_it : List ℕ → ℕ → Callee → Bool
is_it name arity c = bytes_eq c.name name && c.arity == arity

record IsAt (place : ℕ) (callees : List Callee) (arity : ℕ) : Type 0 where
  below : nat_lt place (length callees) ≡ true
  takes : is_count (slice_get (map (λ c. c.arity) callees) place) arity ≡ true

callee_at : (callees : List Callee) (name : List ℕ) (arity : ℕ) → has_callee callees name arity ≡ true → IsAt (position_or_len (is_it name arity) callees) callees arity
callee_at [] name arity h = absurd (false≢true h)
callee_at (c ∷ callees) name arity h = by (is_it name arity c) refl (callee_at callees name arity) h
  where
    by : (b : Bool) → is_it name arity c ≡ b → (has_callee callees name arity ≡ true → IsAt (position_or_len (is_it name arity) callees) callees arity) → (b || has_callee callees name arity) ≡ true → IsAt (cond (not b) (1 + position_or_len (is_it name arity) callees) 0) (c ∷ callees) arity
    by true e later h = record { below = grind (arith, nat_tests); takes = (and_parts (bytes_eq c.name name) (c.arity == arity) e).1 }
    by false e later h =
        let at = later h in
        let k = position_or_len (is_it name arity) callees in
        let less = at.below in
        let next : suc k ≡ 1 + k = omega arith in
        subst (λ i. IsAt i (c ∷ callees) arity) next (record { below = grind (arith, nat_tests); takes = at.takes })

own_takes : (callees : List Callee) (name : List ℕ) (arity : ℕ) → has_callee callees name arity ≡ true → is_count (slice_get (map (λ c. c.arity) callees) (own_number callees name arity)) arity ≡ true
own_takes callees name arity h =
    let at = callee_at callees name arity h in
    let k = position_or_len (is_it name arity) callees in
    ap (λ b. is_count (slice_get (map (λ c. c.arity) callees) (unwrap_or (cond b (Some k) None) 0)) arity) at.below ∙ at.takes

params-length : (n : ℕ) (qs : List (Param (List ℕ) TypeName)) → length (compiled_params n qs) ≡ length qs
params-length n [] = refl
params-length n (q ∷ qs) = let e = params-length (n + 1) qs in omega (arith, e)

arities_same : (s : Names) (number : ℕ) (fs : List (PlainFunction (List ℕ) (List ℕ) TypeName)) → map (λ c. c.arity) (map callee_of fs) ≡ map (λ f. length f.params) (compiled_functions s number fs)
arities_same s number [] = refl
arities_same s number (f ∷ fs) = let e = arities_same s (number + 1) fs in let l = params-length 0 f.params in cc

-- the body sees all of them
same_reads : (c : Scope) (x : Slot) (number : ℕ) → number ≤ c.globals → may_read (variable_scope (these []) number) x ≡ true → may_read c x ≡ true
same_reads c (Local n) number le h = absurd (false≢true h)
same_reads c (Global n) number le h = grind (arith, nat_tests)

body-agrees : (q : NamedQuery) → Agrees (body_names q) (body_view q) (body_scope (these []) (compiled_query q))
body-agrees q =
    let number = 0 + length (compiled_variables [] 0 q.variables) in
    let declared = declared-after [] [] 0 none_declared q.variables in
    record {
      room = λ n. refl;
      reads = λ name h. same_reads (body_scope (these []) (compiled_query q)) (slot_in (globals_after [] 0 q.variables) name) number (omega arith) (declared.reads name h);
      calls = λ name arity h. ap (λ ns. is_count (slice_get ns (own_number (map callee_of q.functions) name arity)) arity) (sym (arities_same (body_names q) 0 q.functions)) ∙ own_takes (map callee_of q.functions) name arity h;
      item = λ h. absurd (false≢true h);
    }

params-pass : (n : ℕ) {s : Names} {v : View} {c : Scope} → Agrees s v c → (qs : List (Param (List ℕ) TypeName)) → params_bound c (compiled_params n qs) ≡ true
params-pass n a [] = refl
params-pass n a (q ∷ qs) = both_true (slot_bound n a) (params-pass (n + 1) (with_slot-agrees n q.variable.name a) qs)

functions-pass : (number : ℕ) (earlier : List Callee) {s : Names} {v : View} {c : Scope} → Agrees s v c → (fs : List (PlainFunction (List ℕ) (List ℕ) TypeName)) → Clean (functions_mentions v earlier fs) → functions_bound c number (compiled_functions s number fs) ≡ true
functions-pass number earlier a [] h = refl
functions-pass number earlier {v = v} a (f ∷ fs) h =
    let seen = seeing v (after_params v.variables f.params) in
    let first = (mention_at f.function.place (declares_function (callee_of f) earlier) ∷ params_mentions [] f.params) ++ type_mentions f.type in
    let parts = clean_parts (first ++ mentions seen f.body) (functions_mentions v (callee_of f ∷ earlier) fs) h in
    let own = clean_parts first (mentions seen f.body) parts.0 in
    let here = both_true (both_true (itself number) (params-pass 0 a f.params)) (tree-passes (length f.params) (after_params-agrees 0 a f.params) f.body own.1) in
    both_true here (functions-pass (number + 1) (callee_of f ∷ earlier) a fs parts.1)

-- the bindings of each declaration have numbers of their own
variables-apart : (width : ℕ) (names : List (List ℕ × Slot)) (number : ℕ) (xs : List (PlainVariable (List ℕ) (List ℕ) TypeName)) → greatest (map variable_width xs) ≤ width → list_all (λ x. are_apart width (bindings x.value)) (compiled_variables names number xs) ≡ true
variables-apart width names number [] h = refl
variables-apart width names number (x ∷ xs) h =
    let here = counted-apart width (variable_width x) (variable-numbers names x) (omega arith) in
    both_true here (variables-apart width ((x.variable.name, Global number) ∷ names) (number + 1) xs (omega arith))

functions-apart : (width : ℕ) (s : Names) (number : ℕ) (fs : List (PlainFunction (List ℕ) (List ℕ) TypeName)) → greatest (map function_width fs) ≤ width → list_all (λ f. are_apart width (params_bindings f.params ++ bindings f.body)) (compiled_functions s number fs) ≡ true
functions-apart width s number [] h = refl
functions-apart width s number (f ∷ fs) h =
    let here = counted-apart width (function_width f) (function-numbers s f) (omega arith) in
    both_true here (functions-apart width s (number + 1) fs (omega arith))

pub accepted_queries : AcceptedQueriesPass
accepted_queries q e =
    let s = body_names q in
    let clean = clean_of (query_mentions q) (refusals_exact.none q e) in
    let parts = clean_parts (variables_mentions [] q.variables ++ functions_mentions (body_view q) [] q.functions) (mentions (body_view q) q.body) clean in
    let own = clean_parts (variables_mentions [] q.variables) (functions_mentions (body_view q) [] q.functions) parts.0 in
    let a = body-agrees q in
    let variables = variables-pass [] [] 0 none_declared q.variables own.0 in
    let functions = functions-pass 0 [] a q.functions own.1 in
    let bound = both_true (both_true variables functions) (tree-passes 0 a q.body parts.1) in
    let width = query_width q in
    let declared = both_true (variables-apart width [] 0 q.variables (omega arith)) (functions-apart width s 0 q.functions (omega arith)) in
    let body = counted-apart width (length (Binders.binders q.body)) (tree-counted s 0 q.body).all (omega arith) in
    both_true bound (both_true declared body)
