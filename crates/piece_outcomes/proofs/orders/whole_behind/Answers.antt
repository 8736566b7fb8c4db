use Rattle.std.proofs.Common.{sym, ◌∙◌, ◌+◌, ℕ, ap}
use Rattle.stage_laws.specs.Ends.{keys_of}
use Rattle.piece_outcomes.specs.Came.{keyed_came}
use Rattle.piece_outcomes.specs.Counting.{clash_met}
use Rattle.piece_outcomes.proofs.Clashing.{whole_clashes, whole_goes_on}
use Rattle.piece_outcomes.proofs.orders.whole_behind.Goals as goal

pub returns-in_ok-met-in-Some-clause-known : goal.returns-in_ok-met-in-Some-clause-known
returns-in_ok-met-in-Some-clause-known g c = λ ks os hk ho.
    whole_clashes g.W.Kept.stands c.args.step c.args.places.now c.args.seen ks hk.keys os c.in_ok-met-in-Some.met c.in-Some.tuple c.in-Some.column
    (sym (c.clash_after.ensures (keys_of ks) (keys_of os) hk.keys ho.keys) ∙ c.in-Some.is)
    (c.in_ok-met-in-Some.ensures ∙ ap (λ (n : ℕ). clash_met c.args.step c.args.places.now (n + c.in-Some.tuple) c.in-Some.column) c.tuples.ensures.value)

pub returns-in_ok-all-in-None-clause-known : goal.returns-in_ok-all-in-None-clause-known
returns-in_ok-all-in-None-clause-known g c = λ ks os hk ho.
    whole_goes_on g.W.Kept.stands c.args.step c.args.places.now c.args.seen ks hk.keys os c.in_ok-all-in-None.all c.seen_behind.new.seen
    (sym (c.clash_after.ensures (keys_of ks) (keys_of os) hk.keys ho.keys) ∙ c.in-None.is)
    (c.in_ok-all-in-None.ensures (keyed_came ks) (keyed_came os) hk.kept ho.kept)
    (c.in_ok-seen_behind-in-None.ensures.stands (keys_of ks) (keys_of os) hk.keys ho.keys)
