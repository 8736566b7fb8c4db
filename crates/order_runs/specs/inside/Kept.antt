-- What always holds of the classes that were seen.
use Rattle.std.specs.Prelude.{ℕ, ◌<◌, ◌^◌, List, length}
use Rattle.order_runs.specs.declared.column_seen.ColumnSeen.{ColumnSeen}
use Rattle.order_runs.specs.inside.Follow.{AllWithin}

pub record IsKept (tuples : ℕ) (columns : List ColumnSeen) : Type 0 where
  pub most_tuples : tuples < 2 ^ 60
  pub most_columns : length columns < 2 ^ 32
  pub within : AllWithin tuples columns
