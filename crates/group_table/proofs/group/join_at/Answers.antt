use Rattle.std.proofs.Common.{refl, sym, subst, ℕ}
use Rattle.tuple_rows.specs.Tuples.{sequences}
use Rattle.group_table.specs.Grouping.{AllBelow}
use Rattle.group_table.proofs.CodeRows.{read_at}
use Rattle.group_table.proofs.CodeGroups.{on_ok, group_width, group_joined, group_shaped}
use Rattle.group_table.proofs.group.join_at.Goals as goal

pub join-requires-clause-row : goal.join-requires-clause-row
join-requires-clause-row c =
    subst (λ (n : ℕ). AllBelow n c.args.joined.now)
    (sym (group_width _ c.args.groups.now.items c.args.at _ c.requires.row (read_at _ _ _ c.requires.at c.index_mut-group.ensures.value)))
    c.requires.joined

pub returns-clause-ok : goal.returns-clause-ok
returns-clause-ok c =
    on_ok c.join.result (λ e. group_joined c.args.joined.now (sequences c.args.tuple) c.args.groups.now.items c.args.at _ _ (read_at _ _ _ c.requires.at c.index_mut-group.ensures.value) refl e) c.join.ensures.ok

pub returns-clause-shapes : goal.returns-clause-shapes
returns-clause-shapes c =
    group_shaped c.args.groups.now.items c.args.at _ _ (read_at _ _ _ c.requires.at c.index_mut-group.ensures.value) refl c.join.ensures.width
