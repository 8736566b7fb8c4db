use Rattle.std.proofs.Common.{take, sym, subst, arith}
use Rattle.std.proofs.lemmas.List.{length-map, length-take}
use Rattle.item_tree.specs.Item.{datum, datums}
use Rattle.fn_numbers.proofs.ItemLemmas.{datums_more}
use Rattle.value_tests.proofs.parts.part_of.Goals as goal

pub add-requires : goal.add-requires
add-requires g c =
    let seen = take c.loop-x.x-index c.args.s.now in
    omega (arith, g.met.P.Partial.counted c.loop-x.part (datums seen) c.loop-x.invariant, length-map seen datum, length-take c.loop-x.x-index c.args.s.now)

pub loop-x-preserved : goal.loop-x-preserved
loop-x-preserved g c =
    let seen = take c.loop-x.x-index c.args.s.now in
    subst (λ l. g.P.Partial.stands c.add.new.self l) (sym (datums_more c.args.s.now c.loop-x.x-index c.x-item.result c.loop-x-test.true c.x-item.is))
    (c.in_ok-add.ensures.added (datums seen) c.loop-x.invariant)
