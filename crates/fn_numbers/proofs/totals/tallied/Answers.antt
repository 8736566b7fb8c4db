use Rattle.std.proofs.Common.{◌∙◌, ap, sym, arith, take}
use Rattle.item_tree.specs.Item.{datum, datums}
use Rattle.fn_numbers.specs.inside.Tallies.{tally}
use Rattle.fn_numbers.proofs.TallyLemmas.{kept_more}
use Rattle.fn_numbers.proofs.ItemLemmas.{datums_more, kept_before}
use Rattle.fn_numbers.proofs.totals.tallied.Goals as goal

pub one_more-all-requires : goal.one_more-all-requires
one_more-all-requires c = omega (arith, kept_before c.loop-x.all c.args.s.now c.loop-x.x-index c.loop-x.invariant)

pub loop-x-preserved : goal.loop-x-preserved
loop-x-preserved c =
    kept_more c.loop-x.all c.one_more-all.result (datums (take c.loop-x.x-index c.args.s.now)) (datum c.x-item.result) c.one_more-all.ensures c.loop-x.invariant
    ∙ ap tally (sym (datums_more c.args.s.now c.loop-x.x-index c.x-item.result c.loop-x-test.true c.x-item.is))
