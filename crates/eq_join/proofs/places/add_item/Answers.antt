use Rattle.std.proofs.Common.{sym}
use Rattle.item_tree.specs.Item.{datum}
use Rattle.eq_join.proofs.KeyPlaces.{places_item, places_other}
use Rattle.eq_join.proofs.Positions.{on_ok, no_class}
use Rattle.eq_join.proofs.places.add_item.Goals as goal

pub returns-then-is_none : goal.returns-then-is_none
returns-then-is_none c = λ ls h a.
    places_other c.args.places.now ls (datum c.args.item.now)
    (no_class (datum c.args.item.now) c.class.result c.is_none.result c.if-is_none.true (sym c.is_none.ensures) c.class.ensures) a

pub returns : goal.returns
returns c =
    on_ok c.put.result
    (λ put ls h a. places_item _ _ c.keys_agree.ensures (datum c.args.item.now) c.in_ok-key.key c.in_ok-key.ensures c.args.at
    c.in_ok-place.place c.args.places.now _ ls h c.in_ok-place.ensures.place c.in_ok-place.ensures.keys put a)
    c.put.ensures
