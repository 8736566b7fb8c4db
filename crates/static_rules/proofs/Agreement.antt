-- What the rules see, what a name is compiled to and what a compiled tree may use agree, where an
-- expression of a query stands.
use Rattle.std.proofs.Common.{◌≡◌, ℕ, suc, ◌+◌, ◌==◌, length, Bool, true, false, cond, ◌&&◌, ◌||◌, not, Option, Some, None, List, [], ◌∷◌, ◌++◌, refl, sym, ap, ◌∙◌, arith}
use Rattle.std.specs.Prelude.{is_some, unwrap_or, slice_get}
use Rattle.std.specs.Str.{bytes_eq}
use Rattle.std.proofs.lemmas.Bool.{false≢true, and_parts, or_right}
use Rattle.std.proofs.lemmas.Bool.Decides.{nat_tests}
use Rattle.std.proofs.lemmas.Slice.Eq.{bytes_eq-Decides}
use Rattle.item_tree.specs.Functions.{takes_arity, function_named}
use Rattle.item_tree.specs.declared.functions.FnId.{FnId}
use Rattle.item_tree.proofs.FunctionNames.{named}
use Rattle.seq_types.specs.Names.{type_named}
use Rattle.seq_types.specs.declared.types.ItemType.{ItemType}
use Rattle.seq_types.specs.declared.types.ItemType.TheVariants.{Item}
use Rattle.seq_types.specs.declared.types.SeqType.TheVariants.{Empty, Of}
use Rattle.query_tree.specs.declared.bound.Slot.{Slot}
use Rattle.query_tree.specs.declared.bound.Slot.TheVariants.{Local, Global}
use Rattle.query_tree.specs.declared.bound.Target.TheVariants.{Lines}
use Rattle.query_tree.specs.declared.module.Param.{Param}
use Rattle.query_tree.specs.declared.names.Placed.{Placed}
use Rattle.query_tree.specs.declared.names.TypeName.{TypeName}
use Rattle.query_tree.specs.Plain as p
use Rattle.query_tree.specs.Plain.{PlainBind, PlainBinds, PlainClause, PlainClauses, PlainGroupVar, PlainGroupVars}
use Rattle.query_tree.specs.Scopes
use Rattle.query_tree.specs.Scopes.{Locals, these, below, Scope, has_local, has_room, and_local, may_read, may_bind, may_bind_any, is_count, may_call, is_at_most_one, is_cast_type}
use Rattle.query_tree.specs.Bound
use Rattle.query_tree.specs.Bound.{how_many}
use Rattle.query_tree.specs.Compiled
use Rattle.static_rules.specs.Views
use Rattle.static_rules.specs.Views.{NamedTrees, View, argument_count, has_name, has_callee, seeing, and_any}
use Rattle.static_rules.specs.Mentions
use Rattle.static_rules.specs.Mentions.{Mention, MentionAt, reads, reads_item, calls, casts_to, groups_by}
use Rattle.static_rules.specs.declared.rules.Rule.{Rule}
use Rattle.static_rules.specs.declared.rules.Rule.TheVariants.{UnboundVariable, UnknownFunction, UnknownCastType, NoStreamVariable, NoContextItem, UnnamedInput}
use Rattle.static_rules.specs.Calls.{text_of, and_text, texts_of}
use Rattle.static_rules.specs.Rules.{is_lines, is_built_in, is_empty_sequence, is_atomic_type, are_texts, name_inputs, breaks}
use Rattle.query_tree.specs.Binders
use Rattle.static_rules.specs.Compiling
use Rattle.static_rules.specs.Compiling.{Names, slot_of, own_number, function_or_own, target_of, type_of, any_binding, past, compiled_trees, compiled_bind, compiled_binds, compiled_clause, compiled_clauses, compiled_group_var, compiled_group_vars, compiled_params, with_params}

-- a mention breaks no rule
pub record Kept (m : Mention) : Type 0 where
  pub all : (rule : Rule) → breaks m rule ≡ false

abbrev pub AllKept : List MentionAt → Type 0
AllKept [] = Unit {0}
AllKept (m ∷ ms) = Kept m.mention × AllKept ms

-- none of the mentions does
pub record Clean (ms : List MentionAt) : Type 0 where
  pub all : AllKept ms

pub clean_parts : (ms ns : List MentionAt) → Clean (ms ++ ns) → Clean ms × Clean ns
clean_parts [] ns h = (record { all = tt }, h)
clean_parts (m ∷ ms) ns h =
    let rest = clean_parts ms ns (record { all = h.all.1 }) in
    (record { all = (h.all.0, rest.0.all) }, rest.1)

pub clean_first : {m : MentionAt} {ms : List MentionAt} → Clean (m ∷ ms) → Kept m.mention
clean_first h = h.all.0

not_false : (b : Bool) → not b ≡ false → b ≡ true
not_false true e = refl
not_false false e = absurd (cc)

pub read_bound : {name : List ℕ} {bound : List (List ℕ)} → Kept (reads name bound) → has_name bound name ≡ true
read_bound {name} {bound} h = not_false (has_name bound name) (h.all UnboundVariable)

pub item_bound : {item : Bool} → Kept (reads_item item) → item ≡ true
item_bound {item} h = not_false item (h.all NoContextItem)

pub group_bound : {name : List ℕ} {stream : List (List ℕ)} → Kept (groups_by name stream) → has_name stream name ≡ true
group_bound {name} {stream} h = not_false (has_name stream name) (h.all NoStreamVariable)

-- no type of items has the name of the empty sequence
empty_is_no_item : (t : TypeName) → is_empty_sequence t ≡ true → is_atomic_type (type_named t.name t.parens) ≡ false
empty_is_no_item t e =
    let name = (bytes_eq-Decides t.name _).0 (and_parts _ _ (and_parts _ _ e).0).0 in
    ap (λ n. is_atomic_type (type_named n t.parens)) name

pub cast_type : (t : TypeName) → Kept (casts_to t) → is_cast_type (type_of t) ≡ true
cast_type t h = by (is_empty_sequence t) (type_named t.name t.parens) (empty_is_no_item t) (not_false _ (h.all UnknownCastType))
  where
    by : (empty : Bool) (o : Option ItemType) → (empty ≡ true → is_atomic_type o ≡ false) → (is_atomic_type o && is_at_most_one t.times) ≡ true → is_cast_type (cond empty Empty (Of (unwrap_or o Item) t.times)) ≡ true
    by true o none e = absurd (false≢true (sym (none refl) ∙ (and_parts (is_atomic_type o) (is_at_most_one t.times) e).0))
    by false None none e = absurd (cc)
    by false (Some kind) none e = e

-- the names that are seen are those of the slots that may be read; and so with the functions
pub record Agrees (s : Names) (v : View) (c : Scope) : Type 0 where
  pub room : (n : ℕ) → has_room c.locals n ≡ true
  pub reads : (name : List ℕ) → has_name v.variables name ≡ true → may_read c (slot_of s name) ≡ true
  pub calls : (name : List ℕ) (arity : ℕ) → has_callee v.functions name arity ≡ true → is_count (slice_get c.functions (own_number s.functions name arity)) arity ≡ true
  pub item : v.item ≡ true → c.item ≡ true

arguments_same : (s : Names) (n : ℕ) (ts : NamedTrees) → how_many (compiled_trees s n ts) ≡ argument_count ts
arguments_same s n p.no_trees = refl
arguments_same s n (p.more_trees t ts) = let e = arguments_same s (past n (Binders.binders t)) ts in omega (arith, e)

and_text-length : (t : Option (List ℕ)) (ts : List (List ℕ)) → is_some t ≡ true → length (and_text t ts) ≡ suc (length ts)
and_text-length None ts e = absurd (cc)
and_text-length (Some text) ts e = refl

texts-length : (ts : NamedTrees) → are_texts ts ≡ true → argument_count ts ≡ length (texts_of ts)
texts-length p.no_trees e = refl
texts-length (p.more_trees t ts) e =
    let parts = and_parts (is_some (text_of t)) (are_texts ts) e in
    omega (arith, texts-length ts parts.1, and_text-length (text_of t) (texts_of ts) parts.0)

pub itself : (n : ℕ) → (n == n) ≡ true
itself n = grind (arith, nat_tests)

-- the arguments that name inputs are as many as the names
inputs-counted : (ts : NamedTrees) → name_inputs ts ≡ true → (argument_count ts == length (texts_of ts)) ≡ true
inputs-counted ts e =
    ap (λ k. argument_count ts == k) (sym (texts-length ts (and_parts _ (are_texts ts) e).1)) ∙ itself (argument_count ts)

target_bound : (c : Scope) (lines : Bool) (built : Option FnId) (texts : List (List ℕ)) (own count : ℕ)
    → (lines ≡ true → (count == length texts) ≡ true)
    → ((id : FnId) → built ≡ Some id → takes_arity id count ≡ true)
    → (lines ≡ false → built ≡ None → is_count (slice_get c.functions own) count ≡ true)
    → may_call c (cond lines (Lines texts) (function_or_own built own)) count ≡ true
target_bound c true built texts own count input language declared = input refl
target_bound c false (Some id) texts own count input language declared = language id refl
target_bound c false None texts own count input language declared = declared refl refl

third_of : (x y z : Bool) → not (x || y || z) ≡ false → x ≡ false → y ≡ false → z ≡ true
third_of true y z h e f = absurd (cc)
third_of false true z h e f = absurd (cc)
third_of false false z h e f = not_false z h

second_of : (x y : Bool) → (x && not y) ≡ false → x ≡ true → y ≡ true
second_of true y h e = not_false y h
second_of false y h e = absurd (cc)

pub call-passes : {s : Names} {v : View} {c : Scope} (n : ℕ) → Agrees s v c → (name : List ℕ) (arguments : NamedTrees) → Kept (calls name arguments v.functions) → may_call c (target_of s name arguments) (how_many (compiled_trees s n arguments)) ≡ true
call-passes {s} {v} {c} n a name arguments h =
    let count = argument_count arguments in
    ap (may_call c (target_of s name arguments)) (arguments_same s n arguments)
    ∙ target_bound c (is_lines name) (function_named name count) (texts_of arguments) (own_number s.functions name count) count
    (λ e. inputs-counted arguments (second_of (is_lines name) (name_inputs arguments) (h.all UnnamedInput) e))
    (λ id e. (named name count id e).1)
    (λ e f. a.calls name count (third_of (is_lines name) (is_built_in name count) (has_callee v.functions name count) (h.all UnknownFunction) e (ap is_some f)))

-- what is seen with one more binding
room-more : (seen : Locals) (n : ℕ) → ((k : ℕ) → has_room seen k ≡ true) → (k : ℕ) → has_room (and_local seen (Local n)) k ≡ true
room-more (these ns) n h k = refl
room-more (below width) n h k = h k

own_seen : (seen : Locals) (n : ℕ) → ((k : ℕ) → has_room seen k ≡ true) → has_local (and_local seen (Local n)) n ≡ true
own_seen (these ns) n h = ap (λ b. b || has_local (these ns) n) (itself n)
own_seen (below width) n h = h n

still_seen : (seen : Locals) (n m : ℕ) → has_local seen m ≡ true → has_local (and_local seen (Local n)) m ≡ true
still_seen (these ns) n m h = or_right (n == m) (has_local (these ns) m) h
still_seen (below width) n m h = h

still_read : (c : Scope) (x : Slot) (n : ℕ) → may_read c x ≡ true → may_read (Scopes.with_slot c (Local n)) x ≡ true
still_read c (Local m) n h = still_seen c.locals n m h
still_read c (Global m) n h = h

pub with_slot-agrees : {s : Names} {v : View} {c : Scope} (n : ℕ) (name : List ℕ) → Agrees s v c → Agrees (Compiling.with_slot s name (Local n)) (seeing v (name ∷ v.variables)) (Scopes.with_slot c (Local n))
with_slot-agrees {s} {v} {c} n name a = record {
  room = room-more c.locals n a.room;
  reads = λ other h. by other (bytes_eq name other) h;
  calls = a.calls;
  item = a.item;
}
  where
    by : (other : List ℕ) (same : Bool) → (same || has_name v.variables other) ≡ true → may_read (Scopes.with_slot c (Local n)) (cond same (Local n) (slot_of s other)) ≡ true
    by other true h = own_seen c.locals n a.room
    by other false h = still_read c (slot_of s other) n (a.reads other h)

pub with_any-agrees : {s : Names} {v : View} {c : Scope} (n : ℕ) → Agrees s v c → (x : Option (Placed (List ℕ))) → Agrees (Compiling.with_any s x n) (seeing v (and_any v.variables x)) (Scopes.with_any c (any_binding x n))
with_any-agrees n a None = a
with_any-agrees n a (Some x) = with_slot-agrees n x.name a

pub with_item-agrees : {s : Names} {v : View} {c : Scope} → Agrees s v c → Agrees s (Views.with_item v) (Scopes.with_item c)
with_item-agrees a = record { room = a.room; reads = a.reads; calls = a.calls; item = λ _. refl }

pub slot_bound : {s : Names} {v : View} {c : Scope} (n : ℕ) → Agrees s v c → may_bind c (Local n) ≡ true
slot_bound n a = a.room n

pub any_bound : {s : Names} {v : View} {c : Scope} (n : ℕ) → Agrees s v c → (x : Option (Placed (List ℕ))) → may_bind_any c (any_binding x n) ≡ true
any_bound n a None = refl
any_bound n a (Some x) = a.room n

-- what is seen behind a key, a clause, a binding and a parameter
pub after_key-agrees : {s : Names} {v : View} {c : Scope} (stream : Names) (n : ℕ) → Agrees s v c → (k : PlainGroupVar (List ℕ) (List ℕ) TypeName) → Agrees (Compiling.after_key s n k) (seeing v (Views.after_key v.variables k)) (Bound.after_key c (compiled_group_var stream s n k))
after_key-agrees stream n a (p.stream_group_var variable) = with_slot-agrees n variable.name a
after_key-agrees stream n a (p.computed_group_var variable value) = with_slot-agrees n variable.name a

after_keys-agrees : (stream : Names) (n : ℕ) {s : Names} {v : View} {c : Scope} → Agrees s v c → (ks : PlainGroupVars (List ℕ) (List ℕ) TypeName) → Agrees (Compiling.after_keys s n ks) (seeing v (Views.after_keys v.variables ks)) (Bound.after_keys c (compiled_group_vars stream s n ks))
after_keys-agrees stream n a p.no_group_vars = a
after_keys-agrees stream n a (p.more_group_vars k ks) = after_keys-agrees stream (past n (Binders.group_var_binders k)) (after_key-agrees stream n a k) ks

pub after_clause-agrees : {s : Names} {v : View} {c : Scope} (n : ℕ) → Agrees s v c → (x : PlainClause (List ℕ) (List ℕ) TypeName) → Agrees (Compiling.after_clause s n x) (seeing v (Views.after_clause v.variables x)) (Bound.after_clause c (compiled_clause s n x))
after_clause-agrees n a (p.for_clause variable t allowing_empty position source) = with_any-agrees (n + 1) (with_slot-agrees n variable.name a) position
after_clause-agrees n a (p.let_clause variable t value) = with_slot-agrees n variable.name a
after_clause-agrees n a (p.where_clause place test) = a
after_clause-agrees {s} n a (p.group_clause place keys) = after_keys-agrees s n a keys
after_clause-agrees n a (p.order_clause place stable keys) = a
after_clause-agrees n a (p.count_clause place variable) = with_slot-agrees n variable.name a

pub after_clauses-agrees : (n : ℕ) {s : Names} {v : View} {c : Scope} → Agrees s v c → (xs : PlainClauses (List ℕ) (List ℕ) TypeName) → Agrees (Compiling.after_clauses s n xs) (seeing v (Views.after_clauses v.variables xs)) (Bound.after_clauses c (compiled_clauses s n xs))
after_clauses-agrees n a p.no_clauses = a
after_clauses-agrees n a (p.more_clauses x xs) = after_clauses-agrees (past n (Binders.clause_binders x)) (after_clause-agrees n a x) xs

pub after_bind-agrees : {s : Names} {v : View} {c : Scope} (n : ℕ) → Agrees s v c → (x : PlainBind (List ℕ) (List ℕ) TypeName) → Agrees (Compiling.after_bind s n x) (seeing v (Views.after_bind v.variables x)) (Bound.after_bind c (compiled_bind s n x))
after_bind-agrees n a (p.bind_node variable t source) = with_slot-agrees n variable.name a

pub after_binds-agrees : (n : ℕ) {s : Names} {v : View} {c : Scope} → Agrees s v c → (xs : PlainBinds (List ℕ) (List ℕ) TypeName) → Agrees (Compiling.after_binds s n xs) (seeing v (Views.after_binds v.variables xs)) (Bound.after_binds c (compiled_binds s n xs))
after_binds-agrees n a p.no_binds = a
after_binds-agrees n a (p.more_binds x xs) = after_binds-agrees (past n (Binders.bind_binders x)) (after_bind-agrees n a x) xs

pub after_params-agrees : (n : ℕ) {s : Names} {v : View} {c : Scope} → Agrees s v c → (qs : List (Param (List ℕ) TypeName)) → Agrees (with_params s n qs) (seeing v (Mentions.after_params v.variables qs)) (Compiled.after_params c (compiled_params n qs))
after_params-agrees n a [] = a
after_params-agrees n a (q ∷ qs) = after_params-agrees (n + 1) (with_slot-agrees n q.variable.name a) qs

-- the variables of a stream are among those that are seen
pub record Within (names seen : List (List ℕ)) : Type 0 where
  pub all : (name : List ℕ) → has_name names name ≡ true → has_name seen name ≡ true

pub within_none : {seen : List (List ℕ)} → Within [] seen
within_none = record { all = λ name h. absurd (false≢true h) }

within-more : {names seen : List (List ℕ)} (name : List ℕ) → Within names seen → Within (name ∷ names) (name ∷ seen)
within-more {names} {seen} name w = record { all = λ other h. by other (bytes_eq name other) h }
  where
    by : (other : List ℕ) (same : Bool) → (same || has_name names other) ≡ true → (same || has_name seen other) ≡ true
    by other true h = refl
    by other false h = w.all other h

within-keys : {names seen : List (List ℕ)} → Within names seen → (ks : PlainGroupVars (List ℕ) (List ℕ) TypeName) → Within (Views.after_keys names ks) (Views.after_keys seen ks)
within-keys w p.no_group_vars = w
within-keys w (p.more_group_vars (p.stream_group_var variable) ks) = within-keys (within-more variable.name w) ks
within-keys w (p.more_group_vars (p.computed_group_var variable value) ks) = within-keys (within-more variable.name w) ks

pub within-clause : {names seen : List (List ℕ)} → Within names seen → (x : PlainClause (List ℕ) (List ℕ) TypeName) → Within (Views.after_clause names x) (Views.after_clause seen x)
within-clause w (p.for_clause variable t allowing_empty None source) = within-more variable.name w
within-clause w (p.for_clause variable t allowing_empty (Some position) source) = within-more position.name (within-more variable.name w)
within-clause w (p.let_clause variable t value) = within-more variable.name w
within-clause w (p.where_clause place test) = w
within-clause w (p.group_clause place keys) = within-keys w keys
within-clause w (p.order_clause place stable keys) = w
within-clause w (p.count_clause place variable) = within-more variable.name w

-- behind each key the variables of the stream may be read still, as they were before the clause
pub record StreamReads (stream : Names) (names : List (List ℕ)) (c : Scope) : Type 0 where
  pub reads : (name : List ℕ) → has_name names name ≡ true → may_read c (slot_of stream name) ≡ true

pub stream_reads : {s : Names} {names : List (List ℕ)} {v : View} {c : Scope} → Agrees s v c → Within names v.variables → StreamReads s names c
stream_reads a w = record { reads = λ name h. a.reads name (w.all name h) }

pub after_key-reads : {stream : Names} {names : List (List ℕ)} {c : Scope} (s : Names) (n : ℕ) → StreamReads stream names c → (k : PlainGroupVar (List ℕ) (List ℕ) TypeName) → StreamReads stream names (Bound.after_key c (compiled_group_var stream s n k))
after_key-reads {stream} {names} {c} s n r (p.stream_group_var variable) = record { reads = λ name h. still_read c (slot_of stream name) n (r.reads name h) }
after_key-reads {stream} {names} {c} s n r (p.computed_group_var variable value) = record { reads = λ name h. still_read c (slot_of stream name) n (r.reads name h) }
