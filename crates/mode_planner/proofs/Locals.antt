-- Plans in which all is local.
use Rattle.std.proofs.Common.{◌≡◌, true, None, List, [], map, refl, ap, ◌∙◌}
use Rattle.std.proofs.lemmas.List.Elements.{All-map}
use Rattle.query_tree.specs.Bound.{BoundTree}
use Rattle.query_tree.specs.BoundViews.{bound_tree}
use Rattle.mode_planner.specs.declared.plan.Leaf.{Leaf}
use Rattle.mode_planner.specs.declared.plan.Line.{Line}
use Rattle.mode_planner.specs.declared.plan.Mode.TheVariants.{Local}
use Rattle.mode_planner.specs.declared.plan.Stage.{Stage}
use Rattle.mode_planner.specs.Plans.{LeafPlan, driven_plan, local_line, all_local, leaf_plan}
use Rattle.mode_planner.specs.Laws.{LocalPlansStayLocal}
use Rattle.mode_planner.specs.inside.Views.{leaf_of}

pub stay_local : LocalPlansStayLocal
stay_local t = record {
  lines = All-map (λ l. l.mode ≡ Local) local_line (driven_plan t).lines (λ k d l. refl);
  stages = refl;
  driver = refl;
}

-- ---- a leaf with other lines, without a driver

abbrev undriven : Leaf → List Line → List Stage → LeafPlan
undriven l lines stages = record { tree = bound_tree l.tree.now; label = l.label; lines = lines; driver = None; stages = stages }

pub made_local : (t : BoundTree) (l : Leaf) (lines : List Line) (stages : List Stage) → leaf_of l ≡ driven_plan t → lines ≡ map local_line l.lines.items → stages ≡ [] → undriven l lines stages ≡ leaf_plan true t
made_local t l lines stages leaf told none = ap (undriven l lines) none ∙ ap (λ ls. undriven l ls []) told ∙ ap all_local leaf
