use Rattle.std.proofs.Common.{List, ◌∙◌, sym, ap, ◌≡◌}
use Rattle.std.specs.Vec.Iter.{into_iter_items}
use Rattle.std.proofs.lemmas.List.{nil_from_length}
use Rattle.tuple_rows.specs.Keys.{Keyed}
use Rattle.group_table.specs.declared.group.Group.{Group}
use Rattle.group_table.specs.Grouping.{Grouping}
use Rattle.group_table.specs.inside.Joins.{put_all}
use Rattle.group_table.specs.inside.Views.{keyed_list}
use Rattle.group_table.proofs.GroupTables.{stands_both}
use Rattle.group_table.proofs.table.GroupTable.merge.Goals as goal

pub returns-clause-stands : goal.returns-clause-stands
returns-clause-stands c =
    let old : Grouping = c.args.self.now in
    let empty = nil_from_length (into_iter_items c.loop-group.group-iterator) (sym (c.loop-group.group-iterator.rest.ok.0) ∙ c.in-None.ensures.steps.0) in
    let all : c.loop-group.self.groups ≡ put_all old.joined old.groups c.args.later.groups =
    ap (λ (gs : List Group). put_all old.joined c.loop-group.self.groups (keyed_list gs)) (sym empty) ∙ c.loop-group.invariant.rest in
    λ X Y a b. stands_both old c.args.later c.loop-group.self X Y (ap (λ (t : Grouping). t.width) c.requires) (ap (λ (t : Grouping). t.joined) c.requires)
    (c.loop-group.invariant.like ∙ ap (λ (gs : List Keyed). record old { groups = gs }) all) a b
