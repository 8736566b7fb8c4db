use Rattle.std.proofs.Common.{[], ◌∷◌, ◌++◌, false, sym, ◌∙◌}
use Rattle.clause_eval.proofs.Flags.{no_flags}
use Rattle.clause_eval.proofs.groups.no_flags.Goals as goal

pub loop-slot-preserved : goal.loop-slot-preserved
loop-slot-preserved c =
    c.in_ok-push.ensures.items ∙ (λ j. c.loop-slot.invariant j ++ false ∷ []) ∙ sym (no_flags c.loop-slot.slot)
