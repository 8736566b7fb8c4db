use Rattle.std.proofs.Common.{sym, ◌∙◌}
use Rattle.item_reader.proofs.TokenSteps.{space_skipped}
use Rattle.item_reader.proofs.token.behind_spaces.Goals as goal

pub loop-b-preserved : goal.loop-b-preserved
loop-b-preserved c =
    sym (space_skipped c.loop-b.left.now c.in-Some.b c.in-Some.rest.now (sym c.in-Some.ensures) (sym c.is_space.ensures ∙ c.if-not-is_space.false)) ∙ c.loop-b.invariant
