use Rattle.std.proofs.Common.{◌≡◌, ◌∙◌, List, ℕ, Ok, ap, subst}
use Rattle.std.specs.Prelude.{IfSome}
use Rattle.query_tree.specs.Compiled.{bound_trees}
use Rattle.query_tree.specs.Inputs.{input_names}
use Rattle.query_meaning.specs.inside.Computed.{inputs_of}
use Rattle.query_meaning.specs.inside.Views.{library_of}
use Rattle.rumble_run.specs.inside.Seen.{executable_of}
use Rattle.rumble_run.proofs.Endings.{of_outcome_is, run_ended}
use Rattle.rumble_run.proofs.LoneInputs.{lone_ended, lone_searched}
use Rattle.rumble_run.proofs.Searching.{all_told}
use Rattle.rumble_run.proofs.local.of_local.Goals as goal

pub returns-clause-shape : goal.returns-clause-shape
returns-clause-shape g c = of_outcome_is c.args.stats _ _ _ c.in_ok-ending-2.ensures.value

pub returns-clause-value : goal.returns-clause-value
returns-clause-value g c =
    let names = c.deref-2.ensures.value ∙ c.in_ok-names.ensures ∙ ap (λ t. input_names (bound_trees t)) c.module.ensures.tree in
    let read = subst (λ (ns : List (List ℕ)). IfSome (g.I.Inputs.world c.args.inputs.now) (λ w. library_of c.in_ok-library.library ≡ inputs_of w ns)) names c.in_ok-library.ensures.held in
    run_ended c.args.stats _ c.args.text.now (executable_of c.args.query.now) (library_of c.in_ok-library.library) (g.I.Inputs.world c.args.inputs.now) read c.in_ok-ending-2.ensures.value

pub returns-in-Some-clause-value : goal.returns-in-Some-clause-value
returns-in-Some-clause-value g c =
    let names = c.deref.ensures.value ∙ c.in_ok-names.ensures ∙ ap (λ t. input_names (bound_trees t)) c.module.ensures.tree in
    let lone = rw c.module-2.ensures.tree at c.in-Some.ensures in
    lone_ended c.args.stats _ c.args.text.now (executable_of c.args.query.now) _ _ _ (g.I.Inputs.world c.args.inputs.now) names lone.0 lone.1 c.in_ok-ending.ensures.value

pub returns-in-Some-clause-searched : goal.returns-in-Some-clause-searched
returns-in-Some-clause-searched g c =
    let all = input_names (bound_trees c.args.query.now.tree) in
    let names = c.deref.ensures.value ∙ c.in_ok-names.ensures ∙ ap (λ t. input_names (bound_trees t)) c.module.ensures.tree in
    all_told _ all (g.I.Inputs.world c.args.inputs.now) (g.I.Inputs.counts c.args.inputs.now) (g.I.Inputs.counts c.of_lone_input.new.inputs)
    (lone_searched (Ok c.in_ok-ending.ending) _ all _ (g.I.Inputs.world c.args.inputs.now) (g.I.Inputs.counts c.args.inputs.now) (g.I.Inputs.counts c.of_lone_input.new.inputs) names (c.in-Some.ensures).0 c.in_ok-ending.ensures.searched)
