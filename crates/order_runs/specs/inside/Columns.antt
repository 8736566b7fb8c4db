-- The earliest of the clashes of columns.
use Rattle.std.specs.Prelude.{ℕ, zero, suc, ◌+◌, nat_lt, List, [], ◌∷◌, ◌++◌, Option, Some, None, if◌then◌else◌}
use Rattle.item_tree.specs.declared.class.Class.{Class}
use Rattle.tuple_rows.specs.Keys.{KeyList}
use Rattle.order_runs.specs.Clashes.{clashes, first_classes, other_columns}
use Rattle.order_runs.specs.Seen.{further}

-- the earlier tuple, and of one tuple the former column
abbrev pub better : Option (ℕ × ℕ) → Option (ℕ × ℕ) → Option (ℕ × ℕ)
better None b = b
better (Some a) None = Some a
better (Some a) (Some b) = if nat_lt b.0 a.0 then Some b else Some a

-- a clash in this column behind so many tuples
abbrev pub in_column : ℕ → Option ℕ → Option (ℕ × ℕ)
in_column j None = None
in_column j (Some before) = Some (before + 1, j)

abbrev pub earliest : Option (ℕ × ℕ) → ℕ → List (Option ℕ) → Option (ℕ × ℕ)
earliest best j [] = best
earliest best j (o ∷ os) = earliest (better best (in_column j o)) (j + 1) os

-- how many keys of one column stand before the first that clashes
abbrev pub column_clash : List (Option Class) → List (Option Class) → Option ℕ
column_clash earlier [] = None
column_clash earlier (r ∷ rs) =
    if clashes earlier r then Some 0 else further (column_clash (earlier ++ r ∷ []) rs)

abbrev pub column_clashes : ℕ → List KeyList → List KeyList → List (Option ℕ)
column_clashes zero earlier K = []
column_clashes (suc w) earlier K =
    column_clash (first_classes earlier) (first_classes K)
    ∷ column_clashes w (other_columns earlier) (other_columns K)
