use Rattle.std.proofs.Common.{List, ℕ, map, ◌∙◌, sym, ap, subst, ◌≡◌}
use Rattle.tuple_rows.specs.Tuples.{Row, AllOfWidth}
use Rattle.group_table.specs.Grouping.{finished}
use Rattle.group_table.specs.inside.Views.{keyed_list, finished_row}
use Rattle.group_table.proofs.CodeRows.{finished_wide}
use Rattle.group_table.proofs.GroupTables.{rows_stand}
use Rattle.group_table.proofs.table.GroupTable.into_rows.Goals as goal

pub of-requires : goal.of-requires
of-requires c =
    subst (λ (ts : List Row). AllOfWidth c.self.inside.width ts) (sym c.in_ok-rows.ensures)
    (finished_wide c.self.inside.width _ _ (keyed_list c.self.inside.groups.items) c.self.invariant.0.groups_fit)

pub returns-clause-stands : goal.returns-clause-stands
returns-clause-stands c =
    let whole : c.of.result ≡ finished c.args.self =
    c.of.ensures
    ∙ ap (λ (ts : List Row). record { width = c.self.inside.width; tuples = ts })
    (c.in_ok-rows.ensures ∙ ap (λ (js : List ℕ). map (finished_row js) (keyed_list c.self.inside.groups.items)) c.as_slice.ensures.value)
    ∙ ap finished c.self.view_is in
    λ X s. whole ∙ rows_stand c.args.self X s
