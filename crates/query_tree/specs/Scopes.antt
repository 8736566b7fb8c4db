-- What an expression of a compiled tree may use where it stands.
use Rattle.std.specs.Prelude.{ℕ, ◌==◌, nat_lt, Bool, true, false, ◌&&◌, Option, Some, None, List, ◌∷◌, length, slice_get}
use Rattle.std.specs.List.{list_any}
use Rattle.item_tree.specs.Functions.{takes_arity}
use Rattle.seq_types.specs.declared.types.SeqType.{SeqType}
use Rattle.seq_types.specs.declared.types.SeqType.TheVariants.{Empty, Of}
use Rattle.seq_types.specs.declared.types.ItemType.{ItemType}
use Rattle.seq_types.specs.declared.types.ItemType.TheVariants.{Text, Integer, Decimal, Boolean, Null, Date, DateTime}
use Rattle.seq_types.specs.declared.types.Times.{Times}
use Rattle.seq_types.specs.declared.types.Times.TheVariants.{One, Optional}
use Rattle.query_tree.specs.declared.bound.Slot.{Slot}
use Rattle.query_tree.specs.declared.bound.Slot.TheVariants.{Local, Global}
use Rattle.query_tree.specs.declared.bound.Target.{Target}
use Rattle.query_tree.specs.declared.bound.Target.TheVariants.{Built, Own, Lines}
use Rattle.query_tree.specs.declared.names.Placed.{Placed}
use Rattle.query_tree.specs.Scoped.{Unnumbered, any_scope}

-- the local bindings that may be read, by their numbers: these, or each below a number, as in a
-- frame of so many slots
pub data Locals : Type 0 where
  these : List ℕ → Locals
  below : ℕ → Locals

pub record Scope : Type 0 where
  pub locals : Locals
  -- the declared variables with a number below this may be read
  pub globals : ℕ
  -- the declared functions that may be called, by how many arguments each takes
  pub functions : List ℕ
  -- whether `$$` stands for an item
  pub item : Bool

abbrev pub has_local : Locals → ℕ → Bool
has_local (these ns) n = list_any (λ m. m == n) ns
has_local (below width) n = nat_lt n width

abbrev pub may_read : Scope → Slot → Bool
may_read s (Local n) = has_local s.locals n
may_read s (Global n) = nat_lt n s.globals

-- whether there is room for a local binding with this number
abbrev pub has_room : Locals → ℕ → Bool
has_room (these ns) n = true
has_room (below width) n = nat_lt n width

-- whether an expression may bind this slot: no expression binds a declared variable
abbrev pub may_bind : Scope → Slot → Bool
may_bind s (Local n) = has_room s.locals n
may_bind s (Global n) = false

abbrev pub may_bind_any : Scope → Option (Placed Slot) → Bool
may_bind_any s None = true
may_bind_any s (Some v) = may_bind s v.name

abbrev pub and_local : Locals → Slot → Locals
and_local (below width) v = below width
and_local (these ns) (Local n) = these (n ∷ ns)
and_local (these ns) (Global n) = these ns

-- the scope in which this slot is bound too
abbrev pub with_slot : Scope → Slot → Scope
with_slot s v = record s { locals = and_local s.locals v }

abbrev pub enter_slot : Scope → Unnumbered → Slot → Scope
enter_slot s n v = with_slot s v

abbrev pub with_any : Scope → Option (Placed Slot) → Scope
with_any s v = any_scope enter_slot s tt v

-- the scope of a predicate, and of what stands to the right of `!`
abbrev pub with_item : Scope → Scope
with_item s = record s { item = true }

abbrev pub is_count : Option ℕ → ℕ → Bool
is_count None count = false
is_count (Some n) count = n == count

-- whether there is this function, and it takes so many arguments
abbrev pub may_call : Scope → Target → ℕ → Bool
may_call s (Built id) count = takes_arity id count
may_call s (Own n) count = is_count (slice_get s.functions n) count
may_call s (Lines names) count = count == length names

abbrev pub is_atomic_name : ItemType → Bool
is_atomic_name Text = true
is_atomic_name Integer = true
is_atomic_name Decimal = true
is_atomic_name Boolean = true
is_atomic_name Null = true
is_atomic_name Date = true
is_atomic_name DateTime = true
is_atomic_name _ = false

abbrev pub is_at_most_one : Times → Bool
is_at_most_one One = true
is_at_most_one Optional = true
is_at_most_one _ = false

-- whether a cast may have this type: at most one string, integer, decimal, boolean, null, date or
-- date-time
abbrev pub is_cast_type : SeqType → Bool
is_cast_type Empty = false
is_cast_type (Of item times) = is_atomic_name item && is_at_most_one times
