use Rattle.std.proofs.Common.{◌≡◌, drop}
use Rattle.item_tree.specs.Item.{datums}
use Rattle.fn_numbers.specs.inside.Tallies.{tally}
use Rattle.fn_numbers.proofs.TallyLemmas.{tally_from}
use Rattle.fn_numbers.proofs.wide_totals.wide_total.Given as goal

abbrev pub invariant-loop-x : goal.invariant-loop-x
invariant-loop-x l = record {
  total : tally_from l.all (datums (drop l.x-index l.s)) ≡ tally (datums l.s);
  counted : l.all.count ≡ l.x-index;
}
