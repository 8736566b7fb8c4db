use Rattle.std.proofs.Common.{Bool, Ok, Err, length, refl, ap, ◌∙◌, arith}
use Rattle.std.specs.Fn.{FnReturnsAt}
use Rattle.std.proofs.lemmas.Result.{err_from_is_err_and}
use Rattle.module_names.specs.Remaining.{state_of, files_in}
use Rattle.module_names.proofs.Finishing.{other_ok, other_err, no_steps, none_opened, done_told, held_front, done_opened, err_told, err_held, err_opened, out_of_steps}
use Rattle.module_names.proofs.Stepping.{told_all, told_from_two, then_told, then_counts, then_opened}
use Rattle.module_names.proofs.library_loading.finish.Goals as goal

pub steps-init : goal.steps-init
steps-init g c = record {
  world = refl;
  told = told_all (g.I.Inputs.world c.args.inputs.now) (λ w sources are end_ m. m);
  held = told_all (g.I.Inputs.world c.args.inputs.now) (λ w h. h);
  counts = no_steps (FnReturnsAt g.F.Fn c.args.read) _ (g.I.Inputs.counts c.args.inputs.now);
  opened = none_opened (length (files_in (state_of c.args.loading))) c.args.loading (g.I.Inputs.counts c.args.inputs.now) c.requires.few;
}

pub steps-preserved : goal.steps-preserved
steps-preserved g c =
    let before = c.steps.invariant in
    let after = c.in_ok-advance.ensures in
    let world = g.I.Inputs.world c.args.inputs.now in
    record {
      world = after.world ∙ before.world;
      told = told_from_two world
          (λ w f h sources are.
          then_told c.steps.loading sources (state_of c.args.loading) (state_of c.steps.loading) (state_of c.advance.new.loading) (Ok c.advance.new.loading)
          (f sources are) (h sources are))
          before.told (rw before.world at after.told);
      held = told_from_two world (λ w f h held. h (f held)) before.held (rw before.world at after.held);
      counts = other_ok (FnReturnsAt g.F.Fn c.args.read) c.in_ok-advance.field-0 c.advance.new.loading _ _
          (then_counts c.steps.loading (FnReturnsAt g.F.Fn c.args.read) (Ok c.in_ok-advance.field-0) _ _ _ before.counts after.counts);
      opened = then_opened c.steps.loading (length (files_in (state_of c.args.loading))) (length (files_in (state_of c.steps.loading)))
          (length (files_in (state_of c.advance.new.loading))) (Ok c.in_ok-advance.field-0) (g.I.Inputs.counts c.args.inputs.now)
          (g.I.Inputs.counts c.steps.inputs) (g.I.Inputs.counts c.advance.new.inputs) after.counts.falls before.opened after.opened;
    }

pub returns-in_err-advance : goal.returns-in_err-advance
returns-in_err-advance g c =
    let e = err_from_is_err_and c.from_residual.result c.from_residual.ensures.1 in
    let fault = c.in_err-advance.field-0.0 in
    let before = c.steps.invariant in
    let after = c.in_err-advance.ensures in
    let world = g.I.Inputs.world c.args.inputs.now in
    rw (e.1, e.2)
    (record {
      world = after.world ∙ before.world;
      told = told_from_two world
          (λ w f h sources are.
          err_told Bool sources (state_of c.args.loading) (state_of c.advance.new.loading) fault
          (then_told {B = Bool} c.steps.loading sources (state_of c.args.loading) (state_of c.steps.loading) (state_of c.advance.new.loading) (Err fault)
          (f sources are) (h sources are)))
          before.told (rw before.world at after.told);
      held = told_from_two world (λ w f h held. err_held Bool w (files_in (state_of c.advance.new.loading)) fault (h (f held))) before.held
          (rw before.world at after.held);
      counts = other_err Bool _ (FnReturnsAt g.F.Fn c.args.read) fault _ _
          (then_counts {B = Bool} c.steps.loading (FnReturnsAt g.F.Fn c.args.read) (Err fault) _ _ _ before.counts after.counts);
      opened = err_opened g.row.T.Denot Bool (length (files_in (state_of c.args.loading))) (length (files_in (state_of c.advance.new.loading))) fault
          (g.I.Inputs.counts c.args.inputs.now) (g.I.Inputs.counts c.advance.new.inputs)
          (then_opened {B = Bool} c.steps.loading (length (files_in (state_of c.args.loading))) (length (files_in (state_of c.steps.loading)))
          (length (files_in (state_of c.advance.new.loading))) (Err fault) (g.I.Inputs.counts c.args.inputs.now)
          (g.I.Inputs.counts c.steps.inputs) (g.I.Inputs.counts c.advance.new.inputs) after.counts.falls before.opened after.opened);
    })

pub returns-then-branch : goal.returns-then-branch
returns-then-branch g c =
    let before = c.steps.invariant in
    let after = c.in_ok-advance.ensures in
    let world = g.I.Inputs.world c.args.inputs.now in
    let none = after.done (ap Ok c.if-branch.true) in
    record {
      world = after.world ∙ before.world;
      told = told_from_two world
          (λ w f h sources are.
          done_told (state_of c.args.loading) (state_of c.advance.new.loading) c.advance.new.loading c.advance.new.loading.done sources refl none
          (then_told c.steps.loading sources (state_of c.args.loading) (state_of c.steps.loading) (state_of c.advance.new.loading) (Ok c.advance.new.loading)
          (f sources are) (h sources are)))
          before.told (rw before.world at after.told);
      held = told_from_two world (λ w f h held. held_front w (state_of c.advance.new.loading).done _ (h (f held))) before.held (rw before.world at after.held);
      counts = other_ok (FnReturnsAt g.F.Fn c.args.read) c.in_ok-advance.field-0 c.advance.new.loading.done _ _
          (then_counts c.steps.loading (FnReturnsAt g.F.Fn c.args.read) (Ok c.in_ok-advance.field-0) _ _ _ before.counts after.counts);
      opened = done_opened (length (files_in (state_of c.args.loading))) (state_of c.advance.new.loading) c.advance.new.loading c.advance.new.loading.done
          (g.I.Inputs.counts c.args.inputs.now) (g.I.Inputs.counts c.advance.new.inputs) refl none
          (then_opened c.steps.loading (length (files_in (state_of c.args.loading))) (length (files_in (state_of c.steps.loading)))
          (length (files_in (state_of c.advance.new.loading))) (Ok c.advance.new.loading) (g.I.Inputs.counts c.args.inputs.now)
          (g.I.Inputs.counts c.steps.inputs) (g.I.Inputs.counts c.advance.new.inputs) after.counts.falls before.opened after.opened);
    }

pub returns : goal.returns
returns g c =
    let before = c.steps.invariant in
    let world = g.I.Inputs.world c.args.inputs.now in
    record {
      world = before.world;
      told = told_all world (λ w sources are. tt);
      held = told_all world (λ w held. tt);
      counts = record { faults = tt; misses = omega (arith, before.counts.misses); falls = before.counts.falls; balanced = before.counts.balanced };
      opened = out_of_steps g.row.T.Denot (length (files_in (state_of c.args.loading))) (length (files_in (state_of c.steps.loading))) c.steps.loading
          (g.I.Inputs.counts c.args.inputs.now) (g.I.Inputs.counts c.steps.inputs) before.opened;
    }
