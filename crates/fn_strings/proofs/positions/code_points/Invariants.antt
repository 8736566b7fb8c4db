use Rattle.std.proofs.Common.{◌≡◌, pos, map}
use Rattle.item_tree.specs.Datum.{integer}
use Rattle.item_tree.specs.Item.{datums}
use Rattle.fn_strings.proofs.positions.code_points.Given as goal

abbrev pub invariant-loop-c : goal.invariant-loop-c
invariant-loop-c l = datums l.items.items ≡ map (λ c. integer (pos c)) l.yielded
