use Rattle.query_meaning.specs.inside.Views.{library_of}
use Rattle.query_tree.specs.Compiled.{bound_trees}
use Rattle.rumble_run.specs.inside.Seen.{executable_of}
use Rattle.rumble_run.proofs.AlongPlan.{value_told, searched_told}
use Rattle.rumble_run.proofs.along.of_planned.Goals as goal

pub returns-clause-value : goal.returns-clause-value
returns-clause-value g c =
    value_told c.args.running.stats c.args.text.now c.args.running (executable_of c.args.query.now) c.args.names.now (library_of c.in_ok-library.library) c.printed_along-printed.result c.of_printed.result
    (g.I.Inputs.world c.args.inputs.now) (g.I.Inputs.world c.read_inputs.new.inputs) (g.I.Inputs.counts c.read_inputs.new.inputs) (g.I.Inputs.counts c.printed_along-printed.new.inputs)
    c.libraries_agree.ensures c.plans_read_beside.ensures c.queries_read_names.ensures c.requires.names c.in_ok-library.ensures.held c.in_ok-library.ensures.world c.printed_along-printed.ensures.prints
    c.of_printed.ensures.value

pub returns-clause-searched : goal.returns-clause-searched
returns-clause-searched g c =
    searched_told c.args.running c.args.query.now.width (bound_trees c.args.query.now.tree) c.args.names.now (library_of c.in_ok-library.library) c.printed_along-printed.result c.of_printed.result
    (g.I.Inputs.world c.args.inputs.now) (g.I.Inputs.world c.read_inputs.new.inputs) (g.I.Inputs.counts c.args.inputs.now) (g.I.Inputs.counts c.read_inputs.new.inputs) (g.I.Inputs.counts c.printed_along-printed.new.inputs)
    c.requires.names c.in_ok-library.ensures.searched c.in_ok-library.ensures.world c.printed_along-printed.ensures.prints c.printed_along-printed.ensures.counts.rises c.of_printed.ensures.ended
