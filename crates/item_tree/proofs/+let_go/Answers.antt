use Rattle.std.specs.Prelude.{◌<◌}
use Rattle.std.proofs.Common.{subst, rules}
use denote.Param.Weighed.{most}
use Rattle.item_tree.specs.declared.item.Item.{Item}
use Rattle.item_tree.specs.declared.item.Items.TheDeep.{size-Item}
use Rattle.item_tree.specs.declared.item.Items.TheShapes.{weighed-Shared-pairs-at-2}
use Rattle.item_tree.specs.inside.Held.{items_in}
use Rattle.item_tree.specs.inside.HeldPairs.{pairs_in}
use Rattle.item_tree.proofs.Letting.{held_smaller, pairs_smaller}
use Rattle.item_tree.proofs.+let_go.Goals as goal

pub item::Held::drop-let_go-requires : goal.item::Held::drop-let_go-requires
item::Held::drop-let_go-requires t c κs =
    let smaller = held_smaller c.args.self t c.decreases in
    (((subst (λ h. most size-Item (items_in h) < t) c.in-One.is smaller, tt), tt), search rules)

pub item::Held::drop-let_go-requires-in-Two : goal.item::Held::drop-let_go-requires-in-Two
item::Held::drop-let_go-requires-in-Two t c κs =
    let smaller = held_smaller c.args.self t c.decreases in
    (((subst (λ h. most size-Item (items_in h) < t) c.in-Two.is smaller, tt), tt), search rules)

pub item::Held::drop-let_go-requires-in-Three : goal.item::Held::drop-let_go-requires-in-Three
item::Held::drop-let_go-requires-in-Three t c κs =
    let smaller = held_smaller c.args.self t c.decreases in
    (((subst (λ h. most size-Item (items_in h) < t) c.in-Three.is smaller, tt), tt), search rules)

pub item::Held::drop-let_go-requires-in-Four : goal.item::Held::drop-let_go-requires-in-Four
item::Held::drop-let_go-requires-in-Four t c κs =
    let smaller = held_smaller c.args.self t c.decreases in
    (((subst (λ h. most size-Item (items_in h) < t) c.in-Four.is smaller, tt), tt), search rules)

pub item::Held::drop-let_go-requires-in-Many : goal.item::Held::drop-let_go-requires-in-Many
item::Held::drop-let_go-requires-in-Many t c κs =
    let smaller = held_smaller c.args.self t c.decreases in
    (((subst (λ h. most size-Item (items_in h) < t) c.in-Many.is smaller, tt), tt), search rules)

pub item::HeldPairs::drop-let_go-requires : goal.item::HeldPairs::drop-let_go-requires
item::HeldPairs::drop-let_go-requires t c κs =
    let smaller = pairs_smaller c.args.self t c.decreases in
    (((subst (λ h. most (weighed-Shared-pairs-at-2.weight Item size-Item) (pairs_in h) < t) c.in-One.is smaller, tt), tt), search rules)

pub item::HeldPairs::drop-let_go-requires-in-Two : goal.item::HeldPairs::drop-let_go-requires-in-Two
item::HeldPairs::drop-let_go-requires-in-Two t c κs =
    let smaller = pairs_smaller c.args.self t c.decreases in
    (((subst (λ h. most (weighed-Shared-pairs-at-2.weight Item size-Item) (pairs_in h) < t) c.in-Two.is smaller, tt), tt), search rules)

pub item::HeldPairs::drop-let_go-requires-in-Three : goal.item::HeldPairs::drop-let_go-requires-in-Three
item::HeldPairs::drop-let_go-requires-in-Three t c κs =
    let smaller = pairs_smaller c.args.self t c.decreases in
    (((subst (λ h. most (weighed-Shared-pairs-at-2.weight Item size-Item) (pairs_in h) < t) c.in-Three.is smaller, tt), tt), search rules)

pub item::HeldPairs::drop-let_go-requires-in-Four : goal.item::HeldPairs::drop-let_go-requires-in-Four
item::HeldPairs::drop-let_go-requires-in-Four t c κs =
    let smaller = pairs_smaller c.args.self t c.decreases in
    (((subst (λ h. most (weighed-Shared-pairs-at-2.weight Item size-Item) (pairs_in h) < t) c.in-Four.is smaller, tt), tt), search rules)
