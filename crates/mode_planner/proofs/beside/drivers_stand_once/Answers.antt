use Rattle.std.proofs.Common.{sym, ap, map, nat_eq, ◌∙◌}
use Rattle.std.proofs.lemmas.List.{length-map}
use Rattle.query_tree.specs.Compiled.{bound_trees}
use Rattle.query_tree.specs.inside.Waiting.{lent}
use Rattle.mode_planner.specs.Beside.{expressions, drivers, driven_calls, stand_once}
use Rattle.mode_planner.specs.inside.Views.{driver_of, leaf_of}
use Rattle.mode_planner.proofs.beside.drivers_stand_once.Goals as goal

pub returns : goal.returns
returns c =
    let found = c.in_ok-drivers.drivers.all.items in
    let ds = map driver_of found in
    let m = bound_trees c.args.query.now in
    ap (λ n. nat_eq n c.len.result) c.driven_calls.ensures
    ∙ ap (λ ts. nat_eq (driven_calls ds (lent ts)) c.len.result) c.deref-2.ensures.value
    ∙ ap (λ ts. nat_eq (driven_calls ds ts) c.len.result) c.in_ok-trees.ensures
    ∙ ap (λ n. nat_eq (driven_calls ds (expressions m)) n) (c.len.ensures ∙ c.in_ok-drivers.drivers.all.ok.0 ∙ sym (length-map found driver_of))
    ∙ ap (λ d. stand_once d m) (c.in_ok-drivers.ensures ∙ ap (λ ls. drivers (map leaf_of ls)) c.deref.ensures.value)
