use Rattle.std.proofs.Common.{sym, ◌∙◌, arith}
use Rattle.byte_lanes.proofs.FrontLemmas.{ended}
use Rattle.byte_lanes.proofs.strings.front_bytes.Goals as goal

pub returns-else-is_raw : goal.returns-else-is_raw
returns-else-is_raw c =
    ended c.args.b.now c.loop-end.end _ c.loop-end.invariant (λ _. sym c.is_raw.ensures ∙ c.if-is_raw.false)

pub returns-after-loop-end : goal.returns-after-loop-end
returns-after-loop-end c =
    ended c.args.b.now c.loop-end.end _ c.loop-end.invariant (λ inside. absurd (omega (arith, c.loop-end-test.false)))
