use Rattle.std.proofs.Common.{◌∷◌, [], sym, ap, ◌∙◌}
use Rattle.item_tree.specs.Item.{datum, datums}
use Rattle.expr_eval.proofs.FixedSteps.{told, position_kept}
use Rattle.expr_eval.proofs.fixed.kept_by.Goals as goal

pub returns-in_ok-copy-in-Some : goal.returns-in_ok-copy-in-Some
returns-in_ok-copy-in-Some c =
    position_kept c.args.place (datums c.args.value.now) c.in-Ok.number 1 (datums c.args.items.now) (sym c.in-Ok.ensures.value)
    ∙ ap told (sym c.in-Some.ensures ∙ ap (λ x. datum x ∷ []) (sym c.in_ok-copy-in-Some.ensures))

pub returns-in-None : goal.returns-in-None
returns-in-None c =
    position_kept c.args.place (datums c.args.value.now) c.in-Ok.number 1 (datums c.args.items.now) (sym c.in-Ok.ensures.value)
    ∙ ap told (sym c.in-None.ensures ∙ sym c.nothing.ensures)
