use Rattle.std.proofs.Common.{◌≡◌, length, Ok}
use Rattle.std.specs.Prelude.{IfSome}
use Rattle.std.specs.Fn.{FnReturnsAt}
use Rattle.module_names.specs.Alone.{AreSources}
use Rattle.module_names.specs.Answers.{AreHeld}
use Rattle.module_names.specs.Counts.{LeavesLoad}
use Rattle.module_names.specs.Loading.{Sources}
use Rattle.module_names.specs.Remaining.{state_of, files_in}
use Rattle.module_names.specs.declared.file_bytes.Kept.{Kept}
use Rattle.module_names.specs.inside.Advance.{StepsTo, OpensStep}
use Rattle.module_names.proofs.library_loading.finish.Given as goal

abbrev pub invariant-steps : goal.invariant-steps
invariant-steps g l = record {
  world : g.I.Inputs.world l.inputs ≡ g.I.Inputs.world l.fn.inputs;
  told : IfSome (g.I.Inputs.world l.fn.inputs) (λ w. (sources : Sources (Kept _)) → AreSources (FnReturnsAt g.F.Fn l.read) w sources
      → StepsTo sources (state_of l.fn.loading) (state_of l.loading) (Ok l.loading));
  held : IfSome (g.I.Inputs.world l.fn.inputs) (λ w. AreHeld w (files_in (state_of l.fn.loading)) → AreHeld w (files_in (state_of l.loading)));
  counts : LeavesLoad (FnReturnsAt g.F.Fn l.read) (Ok l.loading) (g.I.Inputs.counts l.fn.inputs) (g.I.Inputs.counts l.inputs);
  opened : OpensStep (length (files_in (state_of l.fn.loading))) (length (files_in (state_of l.loading))) (Ok l.loading) (g.I.Inputs.counts l.fn.inputs) (g.I.Inputs.counts l.inputs);
}
