use Rattle.std.proofs.Common.{◌≡◌, take}
use Rattle.item_tree.specs.Item.{datum, datums}
use Rattle.fn_sequences.specs.inside.Places.{position_values}
use Rattle.fn_sequences.proofs.sameness.positions.Given as goal

abbrev pub invariant-loop-i : goal.invariant-loop-i
invariant-loop-i l = datums l.found.items ≡ position_values (datum l.atom) (datums (take l.i l.s))
