use Rattle.std.proofs.Common.{◌≡◌, length}
use Rattle.std.specs.Vec.Iter.{into_iter_items}
use Rattle.group_table.specs.Grouping.{IsLike}
use Rattle.group_table.specs.inside.Joins.{AllGroups, put_all}
use Rattle.group_table.specs.inside.Views.{keyed_list}
use Rattle.group_table.proofs.table.GroupTable.merge.Given as goal

abbrev pub invariant-loop-group : goal.invariant-loop-group
invariant-loop-group l = record {
  like : IsLike l.fn.self l.self;
  rest : put_all l.fn.self.joined l.self.groups (keyed_list (into_iter_items l.group-iterator))
      ≡ put_all l.fn.self.joined l.fn.self.groups l.fn.later.groups;
  fit : AllGroups l.fn.self.width (length l.fn.self.keys) (keyed_list (into_iter_items l.group-iterator));
}
