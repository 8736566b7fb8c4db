use Rattle.std.proofs.Common.{◌≡◌, ◌≤◌, length, take}
use Rattle.item_tree.specs.ItemText.{without_last_zeros}
use Rattle.item_tree.proofs.decimal.kept_len.Given as goal

abbrev pub invariant-loop-end : goal.invariant-loop-end
invariant-loop-end l =
    (l.end ≤ length l.digits) × (without_last_zeros (take l.end l.digits) ≡ without_last_zeros l.digits)

abbrev pub decreases-loop-end : goal.decreases-loop-end
decreases-loop-end l = l.end
