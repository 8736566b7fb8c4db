use Rattle.std.proofs.Common.{◌≡◌, take}
use Rattle.item_tree.specs.Item.{datums}
use Rattle.fn_numbers.specs.inside.Tallies.{tally_kept, tally}
use Rattle.fn_numbers.proofs.totals.tallied.Given as goal

abbrev pub invariant-loop-x : goal.invariant-loop-x
invariant-loop-x l = tally_kept l.all ≡ tally (datums (take l.x-index l.s))
