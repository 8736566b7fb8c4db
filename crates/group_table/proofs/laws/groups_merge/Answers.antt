use Rattle.group_table.proofs.GroupTables.{groups_merge}
use Rattle.group_table.proofs.laws.groups_merge.Goals as goal

pub returns : goal.returns
returns c = groups_merge
