use Rattle.std.proofs.Common.{ℕ, List, sym, subst}
use Rattle.order_runs.specs.declared.run.Run.{Run}
use Rattle.order_runs.specs.Runs.{AllFit, RunFits}
use Rattle.order_runs.proofs.RunLists.{fit_pushed}
use Rattle.table_tests.proofs.order_lists.merged.Goals as goal

pub merge_runs-requires : goal.merge_runs-requires
merge_runs-requires c = subst (λ (n : ℕ). AllFit 1 n c.loop-part.runs.items) (sym c.requires) c.loop-part.invariant

pub loop-part-preserved : goal.loop-part-preserved
loop-part-preserved c =
    subst (λ (rs : List Run). AllFit 1 2 rs) (sym c.in_ok-push-in-Ok.ensures.items)
    (fit_pushed 1 2 c.loop-part.runs.items c.in-Ok.run' c.loop-part.invariant
    (subst (λ (n : ℕ). RunFits 1 n c.in-Ok.run') c.requires (c.in-Ok.ensures.fits 1 c.in_ok-entries.ensures.widths)))
