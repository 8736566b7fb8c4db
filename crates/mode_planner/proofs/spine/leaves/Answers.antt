use Rattle.std.proofs.Common.{◌++◌, sym, ap, ◌∙◌}
use Rattle.std.specs.List.{flat_map}
use Rattle.query_tree.specs.inside.Waiting.{lent, waiting}
use Rattle.mode_planner.specs.Spine.{leaves}
use Rattle.mode_planner.proofs.Walking.{walk-begun, walk-more, walk-fewer, walk-done}
use Rattle.mode_planner.proofs.spine.leaves.Goals as goal

pub loop-next-init : goal.loop-next-init
loop-next-init c = ap (λ es. lent es ++ flat_map leaves (waiting c.in_ok-stack.stack.items)) c.new-found.ensures.items ∙ walk-begun c.args.tree c.in_ok-stack.stack.items c.in_ok-stack.ensures.items

pub loop-next-smaller : goal.loop-next-smaller
loop-next-smaller c = walk-fewer c.in-Some.next _ _ _ c.in-Some.ensures.items c.in_ok-visit.ensures.stack

pub loop-next-preserved : goal.loop-next-preserved
loop-next-preserved c = walk-more c.in-Some.next _ _ _ _ _ c.in-Some.ensures.items c.in_ok-visit.ensures.stack c.in_ok-visit.ensures.found ∙ c.loop-next.invariant

pub returns : goal.returns
returns c = sym (walk-done c.loop-next.stack.items _ (sym c.loop-next.stack.ok.0 ∙ c.in_default.ensures.cases.0)) ∙ c.loop-next.invariant
