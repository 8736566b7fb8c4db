use Rattle.std.proofs.Common.{length, ap, ◌∙◌}
use Rattle.static_rules.specs.Views.{has_name}
use Rattle.static_rules.specs.Compiling.{Names}
use Rattle.static_rules.specs.Behind.{stream_of, below}
use Rattle.static_rules.proofs.Stacking.{all-below}
use Rattle.static_rules.proofs.walk.Walk.is_bound_since.Goals as goal

pub returns : goal.returns
returns c =
    c.is_between.ensures
    ∙ ap (λ s. has_name (stream_of c.args.base s) c.args.name.now) (all-below c.args.self.now.names c.len.result (c.len.ensures ∙ ap (λ s. length s.names.variables) c.self.view_is))
