use Rattle.std.proofs.Common.{◌∙◌, sym, ap, option_map}
use Rattle.query_tree.specs.Compiled.{bound_trees}
use Rattle.rumble_run.specs.inside.Along.{names_along}
use Rattle.rumble_run.specs.inside.Seen.{decided_status}
use Rattle.rumble_run.proofs.AlongPlan.{chosen_along, chosen_whole}
use Rattle.rumble_run.proofs.decide.of_run.Goals as goal

pub returns-in-Some-clause-searched : goal.returns-in-Some-clause-searched
returns-in-Some-clause-searched g c =
    let along = sym (ap (λ t. names_along (bound_trees t)) c.«module».ensures.tree) ∙ sym c.in_ok-names.ensures ∙ ap (option_map (λ v. v.items)) c.in-Some.is in
    chosen_along c.args.running (bound_trees c.args.query.now.tree) _ (decided_status c.of_planned.result) (g.I.Inputs.world c.args.inputs.now) (g.I.Inputs.counts c.args.inputs.now) (g.I.Inputs.counts c.of_planned.new.inputs)
    c.if-running.false along c.of_planned.ensures.searched

pub returns-in-None-clause-searched : goal.returns-in-None-clause-searched
returns-in-None-clause-searched g c =
    let along = sym (ap (λ t. names_along (bound_trees t)) c.«module».ensures.tree) ∙ sym c.in_ok-names.ensures ∙ ap (option_map (λ v. v.items)) c.in-None.is in
    chosen_whole c.args.running (bound_trees c.args.query.now.tree) (decided_status c.of_local-in-None.result) (g.I.Inputs.world c.args.inputs.now) (g.I.Inputs.counts c.args.inputs.now) (g.I.Inputs.counts c.of_local-in-None.new.inputs)
    c.if-running.false along c.of_local-in-None.ensures.searched
