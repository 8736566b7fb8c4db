use Rattle.std.proofs.Common.{ap, sym, ◌∙◌}
use Rattle.query_tree.specs.inside.Told.{with_names}
use Rattle.query_tree.proofs.Naming.{no_call}
use Rattle.query_tree.proofs.Telling.{with_names-none}
use Rattle.query_tree.proofs.distinct_names.DistinctNames.with_kind.Goals as goal

pub returns-in_default : goal.returns-in_default
returns-in_default c = sym (ap (with_names c.args.self.found.items) (no_call c.args.kind.now c.in_default.not-Call) ∙ with_names-none c.args.self.found.items)
