use Rattle.std.proofs.Common.{◌<◌, length, ap, ◌∙◌, rules}
use Rattle.name_scopes.specs.Scopes.{first_bound}
use Rattle.name_scopes.proofs.Bound.{first-popped}
use Rattle.name_scopes.proofs.scope.Scope.truncate.Goals as goal

pub loop-self-preserved : goal.loop-self-preserved
loop-self-preserved g c =
    let deep : c.args.depth < length c.loop-self.self = search rules in
    ap (first_bound c.args.depth) c.pop.ensures ∙ first-popped c.args.depth c.loop-self.self deep ∙ c.loop-self.invariant
