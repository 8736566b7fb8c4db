use Rattle.std.proofs.Common.{ap, sym, ◌∙◌}
use Rattle.query_tree.specs.Inputs.{names_read}
use Rattle.query_tree.specs.inside.Told.{with_names}
use Rattle.query_tree.proofs.Telling.{with_names-none}
use Rattle.query_tree.proofs.distinct_names.DistinctNames.with_target.Goals as goal

pub returns-in-Built : goal.returns-in-Built
returns-in-Built c = sym (ap (λ t. with_names c.args.self.found.items (names_read t)) c.in-Built.is ∙ with_names-none c.args.self.found.items)

pub returns-in-Own : goal.returns-in-Own
returns-in-Own c = sym (ap (λ t. with_names c.args.self.found.items (names_read t)) c.in-Own.is ∙ with_names-none c.args.self.found.items)
