use Rattle.std.proofs.Common.{Bool, ap, sym, ◌∙◌}
use Rattle.std.specs.List.{position}
use Rattle.item_tree.specs.declared.key.Key.{Key}
use Rattle.item_tree.specs.Item.{datum}
use Rattle.eq_join.proofs.KeyPlaces.{same_test}
use Rattle.eq_join.proofs.Positions.{no_class, none_is_of}
use Rattle.eq_join.proofs.places.place_of.Goals as goal

pub returns-then-is_none : goal.returns-then-is_none
returns-then-is_none c =
    none_is_of (datum c.args.item.now) c.args.keys.now.keys
    (no_class (datum c.args.item.now) c.class.result c.is_none.result c.if-is_none.true (sym c.is_none.ensures) c.class.ensures)

pub returns-in-Ok : goal.returns-in-Ok
returns-in-Ok c =
    c.get_index_of.ensures.index
    ∙ ap (λ (t : Key → Bool). position t c.args.keys.now.keys) (same_test _ _ c.keys_agree.ensures (datum c.args.item.now) c.in-Ok.key c.in-Ok.ensures)
