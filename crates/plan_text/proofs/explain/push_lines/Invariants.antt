use Rattle.std.proofs.Common.{◌≡◌, ◌++◌, take}
use Rattle.std.specs.List.{flat_map}
use Rattle.text_places.specs.Places.{IsPlaceOf}
use Rattle.plan_text.specs.Explained.{line_text}
use Rattle.plan_text.proofs.explain.push_lines.Given as goal

abbrev pub invariant-loop-line : goal.invariant-loop-line
invariant-loop-line l = record {
  place : IsPlaceOf l.query l.known;
  out : l.out.items ≡ l.initial.out.items ++ flat_map (line_text l.query) (take l.line-index l.lines);
}
