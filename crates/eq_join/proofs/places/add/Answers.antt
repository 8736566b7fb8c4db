use Rattle.std.proofs.Common.{Option, ◌++◌, ◌∷◌, [], sym, subst}
use Rattle.item_tree.specs.declared.item.Item.{Item}
use Rattle.tuple_rows.specs.Keys.{key_datum}
use Rattle.eq_join.specs.inside.Places.{ArePlaces}
use Rattle.eq_join.proofs.KeyPlaces.{places_empty}
use Rattle.eq_join.proofs.Positions.{on_ok}
use Rattle.eq_join.proofs.places.add.Goals as goal

pub returns-in-None : goal.returns-in-None
returns-in-None c = λ ls h a.
    subst (λ (k : Option Item). ArePlaces c.args.places.now (ls ++ key_datum k ∷ [])) (sym c.in-None.is) (places_empty c.args.places.now ls a)

pub returns-in-Some : goal.returns-in-Some
returns-in-Some c =
    on_ok c.add_item.result
    (λ f ls h a. subst (λ (k : Option Item). ArePlaces c.add_item.new.places (ls ++ key_datum k ∷ [])) (sym c.in-Some.is) (f ls h a))
    c.add_item.ensures
