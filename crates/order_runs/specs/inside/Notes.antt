-- What is kept of the keys of one tuple.
use Rattle.std.specs.Prelude.{List, [], ◌∷◌, map}
use Rattle.tuple_rows.specs.Keys.{KeyList}
use Rattle.order_runs.specs.declared.column_seen.ColumnSeen.{ColumnSeen}
use Rattle.order_runs.specs.Clashes.{key_class}
use Rattle.order_runs.specs.Seen.{column_seen}

abbrev pub key_columns : KeyList → List ColumnSeen
key_columns ks = map (λ k. column_seen (key_class k ∷ [])) ks
