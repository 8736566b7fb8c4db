use Rattle.std.proofs.Common.{ℕ, List, ◌++◌, map, take}
use Rattle.item_tree.specs.Item.{pair_datums}
use Rattle.fn_objects.specs.inside.KeySets.{HasKeys}
use Rattle.fn_objects.proofs.key_sets.add_keys.Given as goal

abbrev pub invariant-loop-p : goal.invariant-loop-p
invariant-loop-p l =
    (ks : List (List ℕ)) → HasKeys l.initial.seen l.initial.found.items ks → HasKeys l.seen l.found.items (ks ++ map (λ p. p.0) (pair_datums (take l.p-index l.pairs)))
