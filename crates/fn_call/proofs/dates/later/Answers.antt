use Rattle.std.specs.Int.{w128}
use Rattle.std.proofs.lemmas.Int.{to_z-of_z}
use Rattle.fn_table.proofs.DayLemmas.{later_is}
use Rattle.fn_call.proofs.dates.later.Goals as goal

pub returns : goal.returns
returns c =
    later_is c.add_days.result c.args.day c.args.days c.year-year.ensures.exists
    (rw (to_z-of_z w128 c.args.days c.ranges.days) at c.add_days.ensures)
