use Rattle.std.proofs.Common.{ℕ, List, ◌++◌, take}
use Rattle.item_tree.specs.Datum.{Datum}
use Rattle.item_tree.specs.Item.{pair_datums}
use Rattle.fn_objects.specs.inside.Groups.{IsGrouped}
use Rattle.fn_objects.proofs.gathering.Groups.add_all.Given as goal

abbrev pub invariant-loop-p : goal.invariant-loop-p
invariant-loop-p l =
    (ps : List (List ℕ × Datum)) → IsGrouped l.initial.self ps → IsGrouped l.self (ps ++ pair_datums (take l.p-index l.pairs))
