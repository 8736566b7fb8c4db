use Rattle.std.proofs.Common.{◌∙◌}
use Rattle.piece_run.specs.Outcomes.{CameIs}
use Rattle.piece_run.proofs.EndCarries.{numbers_whole, count_is}
use Rattle.piece_run.proofs.ends.numbers_told.Goals as goal

pub returns-in-Whole-clause-ends : goal.returns-in-Whole-clause-ends
returns-in-Whole-clause-ends g c =
    numbers_whole (CameIs g.I.ItemsKept.stands) c.args.at c.args.limit c.args.progress (record { outcome = c.tuples_at-outcome.result; into = c.with_count-into.result }) c.in-Whole.tuples c.in-Whole._value c.in-Whole.is
    c.with_count-into.ensures.same (c.with_count-into.ensures.here ∙ count_is c.in-Whole.tuples c.len.result (c.len.ensures ∙ c.in-Whole.tuples.ok.0)) c.tuples_at-outcome.ensures
