-- Drivers: the calls of `json-lines` whose inputs are cut into pieces.
use Rattle.std.specs.Prelude.{ℕ, ◌+◌, Bool, true, false, if◌then◌else◌, Option, None, Some, option_map, is_some, List}
use Rattle.item_tree.specs.declared.functions.FnId.{FnId}
use Rattle.item_tree.specs.declared.functions.FnId.TheVariants as built
use Rattle.seq_types.specs.declared.types.SeqType.{SeqType}
use Rattle.query_tree.specs.declared.bound.Slot.{Slot}
use Rattle.query_tree.specs.declared.bound.Target.{Target}
use Rattle.query_tree.specs.declared.bound.Target.TheVariants.{Built, Own, Lines}
use Rattle.query_tree.specs.declared.names.Placed.{Placed}
use Rattle.query_tree.specs.Plain as p
use Rattle.query_tree.specs.Plain.{Form, PlainClause, PlainClauses}
use Rattle.query_tree.specs.Bound.{BoundTree}

-- the place of the call, the names of its inputs, how many `let`s stand before the `for` over it,
-- and whether that `for` has an `at`
pub record DriverPlan : Type 0 where
  pub place : ℕ
  pub names : List (List ℕ)
  pub lets : ℕ
  pub position : Bool

-- ---- a call of `json-lines` drives itself

abbrev pub target_driver : ℕ → Target → Option DriverPlan
target_driver place (Lines names) =
    Some (record { place = place; names = names; lets = 0; position = false })
target_driver place (Built id) = None
target_driver place (Own number) = None

abbrev pub form_driver : ℕ → Form Slot Target SeqType → Option DriverPlan
form_driver place (p.call_form function arguments) = target_driver place function
form_driver place _ = None

abbrev pub call_driver : BoundTree → Option DriverPlan
call_driver (p.tree_node place kind) = form_driver place kind

-- ---- a FLWOR is driven by the call that its first `for` goes over

abbrev pub is_let : PlainClause Slot Target SeqType → Bool
is_let (p.let_clause variable t value) = true
is_let _ = false

abbrev pub after_lets : ℕ → Option (Placed Slot) → DriverPlan → DriverPlan
after_lets lets at d = record d { lets = lets; position = is_some at }

-- A clause before which that many `let`s stand and nothing else. With `allowing empty` a `for` needs
-- to know whether there is an item in the whole input, so it drives nothing.
abbrev pub clause_driver : ℕ → PlainClause Slot Target SeqType → Option DriverPlan
clause_driver lets (p.for_clause variable t false at source) =
    option_map (after_lets lets at) (call_driver source)
clause_driver lets _ = None

-- clauses before which that many `let`s stand and nothing else
abbrev pub clauses_driver : ℕ → PlainClauses Slot Target SeqType → Option DriverPlan
clauses_driver lets p.no_clauses = None
clauses_driver lets (p.more_clauses c cs) =
    if is_let c then clauses_driver (lets + 1) cs else clause_driver lets c

-- ---- the functions whose value is put together from what each piece gives

abbrev pub folds : FnId → Bool
folds built.Count = true
folds built.Empty = true
folds built.Exists = true
folds built.Sum = true
folds built.Avg = true
folds built.Min = true
folds built.Max = true
folds _ = false
