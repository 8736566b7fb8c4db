-- Laws of orders and of clashes.
use Rattle.std.specs.Prelude.{◌≡◌, ℕ, ◌≤◌, List, ◌++◌, length, Option, Some, None}
use Rattle.tuple_rows.specs.Keys.{KeyList, Keyed}
use Rattle.order_runs.specs.declared.column.Column.{Column}
use Rattle.order_runs.specs.Clashes.{clash_after, later}
use Rattle.order_runs.specs.Orders.{IsOrdered, below, sorted}

-- the sorted list is sorted and keeps ties in place, and it is the only such list; and lists that
-- were sorted one by one sort to what the lists themselves do
pub record OrdersAreOne : Type 0 where
  pub exists : (columns : List Column) (X : List Keyed)
      → IsOrdered (below columns) X (sorted columns X)
  pub only : (columns : List Column) (X Y : List Keyed) → IsOrdered (below columns) X Y
      → Y ≡ sorted columns X

abbrev pub or_else : {A : Type 0} → Option A → Option A → Option A
or_else None b = b
or_else (Some a) b = Some a

-- a clash in lists one behind the other is the earliest there: one in the first list, or else one
-- in the second behind the first
pub record ClashesAreEarliest : Type 0 where
  pub behind : (earlier K L : List KeyList) → clash_after earlier (K ++ L)
      ≡ or_else (clash_after earlier K) (later (length K) (clash_after (earlier ++ K) L))
  pub inside : (earlier K : List KeyList) (tuple column : ℕ)
      → clash_after earlier K ≡ Some (tuple, column)
      → (1 ≤ tuple) × (tuple ≤ length K)
