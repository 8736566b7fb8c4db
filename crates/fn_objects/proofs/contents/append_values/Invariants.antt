use Rattle.std.proofs.Common.{◌≡◌, ◌++◌, map, take}
use Rattle.item_tree.specs.Item.{datums, pair_datums}
use Rattle.fn_objects.proofs.contents.append_values.Given as goal

abbrev pub invariant-loop-p : goal.invariant-loop-p
invariant-loop-p l = datums l.out.items ≡ datums l.initial.out.items ++ map (λ p. p.1) (pair_datums (take l.p-index l.pairs))
