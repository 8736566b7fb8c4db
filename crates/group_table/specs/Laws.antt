-- Laws of groups.
use Rattle.std.specs.Prelude.{◌≡◌, ℕ, List, ◌++◌}
use Rattle.tuple_rows.specs.Keys.{Keyed}
use Rattle.group_table.specs.Grouping.{AllKeyed, grouped}
use Rattle.group_table.specs.inside.Joins.{put_all}

-- the groups of one list behind another are those of the first, into which those of the second are
-- put one after the other
abbrev pub GroupsMerge : Type 0
GroupsMerge = (width : ℕ) (joined : List ℕ) (X Y : List Keyed) → AllKeyed X → AllKeyed Y
    → put_all joined (grouped width joined X) (grouped width joined Y)
    ≡ grouped width joined (X ++ Y)
