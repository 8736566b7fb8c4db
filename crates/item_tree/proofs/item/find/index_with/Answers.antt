use Rattle.std.proofs.Common.{◌≡◌, ◌∷◌, [], ◌++◌, length, subst}
use Rattle.item_tree.specs.Item.{pair_datums}
use Rattle.item_tree.specs.Lookup.{ArePlaces}
use Rattle.item_tree.proofs.PairLists.{length_is}
use Rattle.item_tree.proofs.Places.{index_added}
use Rattle.item_tree.proofs.item.find.index_with.Goals as goal

pub returns-in_ok-insert-in-Some : goal.returns-in_ok-insert-in-Some
returns-in_ok-insert-in-Some c = λ v x is.
    let xs = c.args.pairs.now in let k = c.args.key.now in
    let e : c.insert.new.self ≡ x = cc in
    subst (λ m. ArePlaces m (pair_datums xs ++ (k, v) ∷ [])) e
    (index_added c.in-Some.places c.insert.new.self k v (pair_datums xs) (length xs) (c.in_ok-ready_index.ensures c.in-Some.places c.in-Some.is) c.requires.new (length_is xs) (λ q. rw c.in_ok-key-in-Some.ensures at (c.in_ok-insert-in-Some.ensures.updates.0 q)))
