-- Environments in which all that may be used in a scope is the same.
use Rattle.std.proofs.Common.{◌≡◌, ℕ, ◌==◌, ◌||◌, Bool, true, false, List, [], length, get_or, set, slice_set, Option, Some, None, refl, sym, ◌∙◌, subst, ⊎_elim, get_or-set_other, length-set}
use Rattle.std.specs.Prelude.{nat_lt}
use Rattle.std.specs.List.{list_any}
use Rattle.std.proofs.lemmas.Bool.{cases_eq, eqb-true}
use Rattle.item_tree.specs.Datum.{Datum}
use Rattle.seq_types.specs.declared.types.SeqType.{SeqType}
use Rattle.query_tree.specs.declared.bound.Slot.{Slot}
use Rattle.query_tree.specs.declared.bound.Slot.TheVariants.{Local, Global}
use Rattle.query_tree.specs.declared.bound.Target.{Target}
use Rattle.query_tree.specs.declared.names.Placed.{Placed}
use Rattle.query_tree.specs.Bound.{BoundTree, after_key, after_keys, after_clause, is_bound}
use Rattle.query_tree.specs.Plain as p
use Rattle.query_tree.specs.Plain.{PlainClause, PlainGroupVars}
use Rattle.query_tree.specs.Scoped.{key_slot}
use Rattle.query_tree.specs.Scopes as scope
use Rattle.query_tree.specs.Scopes.{Locals, these, below, Scope, has_local, may_read, and_local, with_slot, with_any}
use Rattle.query_meaning.specs.Choices.{binding_any}
use Rattle.query_meaning.specs.Environment.{Tuple, Environment, Inner, value_in, value_of, with_value, binding, with_item, in_tuple}
use Rattle.query_meaning.specs.Sources.{Source, of_variable}
use Rattle.meaning_laws.specs.Agreement.{IsOfBoth}
use Rattle.meaning_laws.proofs.Alike.{AlikeTuples, value_read, set_same}

-- ---- tuples

-- frames of one width, in which the slots that are bound have the same values
pub record AlikeIn (s : Scope) (t u : Tuple) : Type 0 where
  pub width : length t ≡ length u
  pub values : (n : ℕ) → has_local s.locals n ≡ true → value_in t n ≡ value_in u n

-- the slots that are bound, as sources
abbrev pub Seen : Scope → Source → Type 0
Seen s (of_variable (Local n)) = has_local s.locals n ≡ true
Seen s _ = Unit {0}

pub of_one_width : (a b n : ℕ) → a ≡ b → IsOfBoth a b n
of_one_width a b n e = subst (λ w. IsOfBoth a w n) e (λ l. l, λ l. l)

pub as_tuples : (s : Scope) (t u : Tuple) → AlikeIn s t u → AlikeTuples (Seen s) t u
as_tuples s t u a = record { there = λ n r. of_one_width (length t) (length u) n a.width; values = a.values }

-- a slot that is bound beside another was bound before
bound_before : (l : Locals) (n m : ℕ) → has_local (and_local l (Local n)) m ≡ true → (m ≡ n → ⊥) → has_local l m ≡ true
bound_before (these ns) n m h apart = other (n == m) refl h
  where
    other : (b : Bool) → (n == m) ≡ b → (b || list_any (λ k. k == m) ns) ≡ true → list_any (λ k. k == m) ns ≡ true
    other true e g = absurd (apart (sym (eqb-true n m e)))
    other false e g = g
bound_before (below width) n m h apart = h

no_local : (l : Locals) (n m : ℕ) → has_local (and_local l (Global n)) m ≡ true → has_local l m ≡ true
no_local (these ns) n m h = h
no_local (below width) n m h = h

set-in : (s : Scope) (t u : Tuple) (n : ℕ) (value : List Datum) → AlikeIn s t u → AlikeIn (with_slot s (Local n)) (slice_set t n value) (slice_set u n value)
set-in s t u n value a = record {
  width = length-set t n value ∙ a.width ∙ sym (length-set u n value);
  values = λ m h. value_read (set t n value) m ∙ ⊎_elim
      (λ (q : m ≡ n). subst (λ k. get_or (set t n value) k [] ≡ get_or (set u n value) k []) (sym q) (set_same t u n value (of_one_width (length t) (length u) n a.width)))
      (λ (q : m ≡ n → ⊥). get_or-set_other t n m value [] q ∙ sym (value_read t m) ∙ a.values m (bound_before s.locals n m h q) ∙ value_read u m ∙ sym (get_or-set_other u n m value [] q))
      (cases_eq m n) ∙ sym (value_read (set u n value) m);
}

pub with_value-in : (s : Scope) (t u : Tuple) (v : Slot) (value : List Datum) → AlikeIn s t u → AlikeIn (with_slot s v) (with_value t v value) (with_value u v value)
with_value-in s t u (Local n) value a = set-in s t u n value a
with_value-in s t u (Global n) value a = record { width = a.width; values = λ m h. a.values m (no_local s.locals n m h) }

-- ---- environments

module _ (globals : ℕ) (functions : List ℕ) where
  -- all that may be used beside the slots: the declared variables that may be read, and `$$`
  pub record Outside (s : Scope) (env other : Environment) : Type 0 where
    pub read : s.globals ≡ globals
    pub called : s.functions ≡ functions
    pub outer : (n : ℕ) → nat_lt n globals ≡ true → value_in env.globals n ≡ value_in other.globals n
    pub context : s.item ≡ true → env.item ≡ other.item

  pub record Sees (s : Scope) (env other : Environment) : Type 0 where
    pub tuples : AlikeIn s env.frame other.frame
    pub outside : Outside s env other

  -- what is bound in a scope comes to the same in environments that are the same in it
  abbrev pub Looks : Inner → Inner → Type 0
  Looks inner inner' = (s : Scope) (t : BoundTree) → is_bound s t ≡ true → (env other : Environment) → Sees s env other → inner t env ≡ inner' t other

  pub slot-outside : (s : Scope) (v : Slot) (env other : Environment) → Outside s env other → Outside (with_slot s v) env other
  slot-outside s v env other a = record { read = a.read; called = a.called; outer = a.outer; context = a.context }

  any-outside : (s : Scope) (v : Option (Placed Slot)) (env other : Environment) → Outside s env other → Outside (with_any s v) env other
  any-outside s None env other a = a
  any-outside s (Some v) env other a = slot-outside s v.name env other a

  keys-outside : (s : Scope) (ks : PlainGroupVars Slot Target SeqType) (env other : Environment) → Outside s env other → Outside (after_keys s ks) env other
  keys-outside s p.no_group_vars env other a = a
  keys-outside s (p.more_group_vars k ks) env other a = keys-outside (after_key s k) ks env other (slot-outside s (key_slot k) env other a)

  pub clause-outside : (s : Scope) (c : PlainClause Slot Target SeqType) (env other : Environment) → Outside s env other → Outside (after_clause s c) env other
  clause-outside s (p.for_clause variable t allowing_empty position source) env other a = any-outside (with_slot s variable.name) position env other (slot-outside s variable.name env other a)
  clause-outside s (p.let_clause variable t value) env other a = slot-outside s variable.name env other a
  clause-outside s (p.where_clause place test) env other a = a
  clause-outside s (p.group_clause place keys) env other a = keys-outside s keys env other a
  clause-outside s (p.order_clause place stable keys) env other a = a
  clause-outside s (p.count_clause place variable) env other a = slot-outside s variable.name env other a

  pub in_tuple-sees : (s : Scope) (env other : Environment) (t u : Tuple) → Outside s env other → AlikeIn s t u → Sees s (in_tuple env t) (in_tuple other u)
  in_tuple-sees s env other t u a b = record { tuples = b; outside = record { read = a.read; called = a.called; outer = a.outer; context = a.context } }

  pub binding-sees : (s : Scope) (env other : Environment) (v : Slot) (value : List Datum) → Sees s env other → Sees (with_slot s v) (binding env v value) (binding other v value)
  binding-sees s env other v value a =
      in_tuple-sees (with_slot s v) env other (with_value env.frame v value) (with_value other.frame v value) (slot-outside s v env other a.outside) (with_value-in s env.frame other.frame v value a.tuples)

  pub binding_any-sees : (s : Scope) (env other : Environment) (v : Option (Placed Slot)) (value : List Datum) → Sees s env other → Sees (with_any s v) (binding_any env v value) (binding_any other v value)
  binding_any-sees s env other None value a = a
  binding_any-sees s env other (Some v) value a = binding-sees s env other v.name value a

  pub with_item-sees : (s : Scope) (env other : Environment) (x : Datum) → Sees s env other → Sees (scope.with_item s) (with_item env x) (with_item other x)
  with_item-sees s env other x a = record {
    tuples = record { width = a.tuples.width; values = a.tuples.values };
    outside = record { read = a.outside.read; called = a.outside.called; outer = a.outside.outer; context = λ r. refl };
  }

  pub value-seen : (s : Scope) (env other : Environment) (v : Slot) → Sees s env other → may_read s v ≡ true → value_of env v ≡ value_of other v
  value-seen s env other (Local n) a h = a.tuples.values n h
  value-seen s env other (Global n) a h = a.outside.outer n (subst (λ g. nat_lt n g ≡ true) a.outside.read h)
