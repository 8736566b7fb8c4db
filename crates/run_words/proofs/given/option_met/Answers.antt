use Rattle.std.proofs.Common.{ap₂, ◌∙◌}
use Rattle.std.specs.Option.{option_or}
use Rattle.run_words.proofs.given.option_met.Goals as goal

pub returns : goal.returns
returns c =
    c.or-4.ensures ∙ ap₂ option_or c.exactly-end.ensures (c.or-3.ensures ∙ ap₂ option_or c.stats_met-stats.ensures
    (c.or-2.ensures ∙ ap₂ option_or c.workers_met-workers.ensures (c.or.ensures ∙ ap₂ option_or c.partition_met-partition.ensures c.mode_met-mode.ensures)))
