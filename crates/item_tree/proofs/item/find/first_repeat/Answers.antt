use Rattle.std.proofs.Common.{sym, ◌∙◌, ap}
use Rattle.std.specs.Option.{is_some}
use Rattle.item_tree.proofs.PairLists.{repeat_at, differ_more}
use Rattle.item_tree.proofs.Places.{none_from, has_from}
use Rattle.item_tree.proofs.item.find.first_repeat.Goals as goal

pub returns-then-is_some : goal.returns-then-is_some
returns-then-is_some c =
    let t = sym (ap (λ o. is_some o) c.place_among.ensures) ∙ sym c.is_some.ensures ∙ c.if-is_some.true in
    repeat_at _ _ _ c.loop-i-test.true c.index-pairs-i.is c.loop-i.invariant (has_from _ _ t)

pub loop-i-preserved : goal.loop-i-preserved
loop-i-preserved c =
    let f = sym (ap (λ o. is_some o) c.place_among.ensures) ∙ sym c.is_some.ensures ∙ c.if-is_some.false in
    differ_more _ _ _ c.loop-i-test.true c.index-pairs-i.is c.loop-i.invariant (none_from _ _ f)
