use Rattle.std.proofs.Common.{◌∷◌, ◌++◌, [], ap, sym, take, ◌∙◌}
use Rattle.std.proofs.lemmas.List.{take_more}
use Rattle.query_tree.specs.inside.Told.{with_name, with_names}
use Rattle.query_tree.proofs.Telling.{with_names-none, with_names-last}
use Rattle.query_tree.proofs.distinct_names.DistinctNames.with_all.Goals as goal

pub loop-name-init : goal.loop-name-init
loop-name-init c = sym (with_names-none c.args.self.found.items)

pub loop-name-preserved : goal.loop-name-preserved
loop-name-preserved c =
    let found = c.args.self.found.items in
    let before = take c.loop-name.name-index c.args.names.now in
    c.in_ok-all.ensures
    ∙ ap (λ f. with_name f c.name-item.result) c.loop-name.invariant
    ∙ sym (with_names-last found before c.name-item.result)
    ∙ ap (with_names found) (ap (λ n. before ++ n ∷ []) c.name-item.is ∙ sym (take_more c.args.names.now c.loop-name.name-index c.name-item.result c.loop-name-test.true))
