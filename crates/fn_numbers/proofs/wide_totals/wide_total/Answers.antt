use Rattle.std.proofs.Common.{◌∙◌, ap}
use Rattle.item_tree.specs.Item.{datums}
use Rattle.fn_numbers.proofs.TallyLemmas.{tally_from, from_nothing}
use Rattle.fn_numbers.proofs.wide_totals.wide_total.Goals as goal

pub loop-x-init : goal.loop-x-init
loop-x-init c = record {
  total = ap (λ t. tally_from t (datums c.args.s.now)) c.new-all.ensures ∙ from_nothing (datums c.args.s.now);
  counted = ap (λ t. t.count) c.new-all.ensures;
}
