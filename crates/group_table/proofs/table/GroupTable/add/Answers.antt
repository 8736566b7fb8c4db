use Rattle.std.proofs.Common.{List, ◌∙◌, ap}
use Rattle.tuple_rows.specs.Tuples.{sequences}
use Rattle.tuple_rows.specs.Keys.{Keyed, key_list}
use Rattle.group_table.proofs.CodeGroups.{on_ok}
use Rattle.group_table.proofs.GroupTables.{stands_more}
use Rattle.group_table.proofs.table.GroupTable.add.Goals as goal

pub returns-clause-stands : goal.returns-clause-stands
returns-clause-stands c =
    on_ok c.put.result
    (λ e X s. stands_more c.args.self.now c.put.new.self (key_list c.args.keys) (sequences c.args.tuple) X c.requires.atomics c.requires.width
    (c.put.ensures.like ∙ ap (λ (gs : List Keyed). record c.args.self.now { groups = gs }) e) s)
    c.put.ensures.groups
