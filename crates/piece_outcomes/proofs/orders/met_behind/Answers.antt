use Rattle.std.proofs.Common.{sym, ◌∙◌, ◌+◌, ℕ, ap}
use Rattle.stage_laws.specs.Ends.{keys_of}
use Rattle.piece_outcomes.specs.Counting.{clash_met}
use Rattle.piece_outcomes.proofs.Clashing.{met_clashes, met_stays}
use Rattle.piece_outcomes.proofs.orders.met_behind.Goals as goal

pub returns-in_ok-met-in-Some-clause-known : goal.returns-in_ok-met-in-Some-clause-known
returns-in_ok-met-in-Some-clause-known g c = λ ks e hk he hs.
    met_clashes g.W.Kept.stands c.args.step c.args.places.now c.args.seen.now ks hk e c.in_ok-met-in-Some.met c.in-Some.tuple c.in-Some.column
    (he.step ∙ c.if-met-step.false)
    (sym (c.clash_after.ensures (keys_of ks) e.seen hk hs) ∙ c.in-Some.is)
    (c.in_ok-met-in-Some.ensures ∙ ap (λ (n : ℕ). clash_met c.args.step c.args.places.now (n + c.in-Some.tuple) c.in-Some.column) c.tuples.ensures.value)

pub returns-in-None-clause-known : goal.returns-in-None-clause-known
returns-in-None-clause-known g c = λ ks e hk he hs.
    met_stays g.W.Kept.stands c.args.step c.args.places.now c.args.seen.now ks hk e c.args.met (he.step ∙ c.if-met-step.false)
    (sym (c.clash_after.ensures (keys_of ks) e.seen hk hs) ∙ c.in-None.is) he
