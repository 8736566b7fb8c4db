use Rattle.std.proofs.Common.{ap, map, [], ◌∙◌}
use Rattle.std.specs.Option.{option_map_or}
use Rattle.mode_planner.specs.Beside.{drives}
use Rattle.mode_planner.specs.inside.Views.{driver_of}
use Rattle.mode_planner.proofs.Tables.{drives-at_place}
use Rattle.mode_planner.proofs.driver_table.DriverTable.drives.Goals as goal

pub returns-in-Some : goal.returns-in-Some
returns-in-Some c =
    let table = c.args.self.now in
    let call = driver_of c.args.call.now in
    c.is_among.ensures
    ∙ ap (λ ds. drives (map driver_of ds) call) c.deref.ensures.value
    ∙ ap (λ o. drives (option_map_or (λ v. map driver_of v.items) o []) call) c.in-Some.ensures.value
    ∙ ap (λ ds. drives ds call) (table.found call.place)
    ∙ drives-at_place call (map driver_of table.all.items)

pub returns-in-None : goal.returns-in-None
returns-in-None c =
    let table = c.args.self.now in
    let call = driver_of c.args.call.now in
    ap (λ o. drives (option_map_or (λ v. map driver_of v.items) o []) call) c.in-None.ensures.value
    ∙ ap (λ ds. drives ds call) (table.found call.place)
    ∙ drives-at_place call (map driver_of table.all.items)
