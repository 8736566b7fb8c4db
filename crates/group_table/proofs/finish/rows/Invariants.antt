use Rattle.std.proofs.Common.{◌≡◌, ◌++◌, length, map}
use Rattle.std.specs.Vec.Iter.{into_iter_items}
use Rattle.tuple_rows.specs.Tuples.{row_list}
use Rattle.group_table.specs.inside.Joins.{AllGroups}
use Rattle.group_table.specs.inside.Views.{keyed_list, finished_row}
use Rattle.group_table.proofs.finish.rows.Given as goal

abbrev pub invariant-loop-group : goal.invariant-loop-group
invariant-loop-group l = record {
  rest : row_list l.rows.items ++ map (finished_row l.keys) (keyed_list (into_iter_items l.group-iterator))
      ≡ map (finished_row l.keys) (keyed_list l.fn.groups.items);
  fit : AllGroups l.width (length l.keys) (keyed_list (into_iter_items l.group-iterator));
}
