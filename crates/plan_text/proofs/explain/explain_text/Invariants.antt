use Rattle.std.proofs.Common.{◌≡◌, map, take}
use Rattle.mode_planner.specs.inside.Views.{leaf_of}
use Rattle.text_places.specs.Places.{IsPlaceOf}
use Rattle.plan_text.specs.Explained.{explain_text}
use Rattle.plan_text.proofs.explain.explain_text.Given as goal

abbrev pub invariant-loop-leaf : goal.invariant-loop-leaf
invariant-loop-leaf l = record {
  place : IsPlaceOf l.query l.known;
  out : l.out.items ≡ explain_text l.query (map leaf_of (take l.leaf-index l.leaf-items));
}
