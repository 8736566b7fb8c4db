use Rattle.std.proofs.Common.{◌∙◌}
use Rattle.fn_numbers.proofs.ItemLemmas.{best_next}
use Rattle.fn_numbers.proofs.extremes.best.Goals as goal

pub loop-x-preserved : goal.loop-x-preserved
loop-x-preserved c = λ h.
    c.better.ensures ∙ best_next c.args.extreme c.args.s.now c.loop-x.x-index c.x-item.result _ c.loop-x-test.true c.x-item.is h (c.loop-x.invariant h)
