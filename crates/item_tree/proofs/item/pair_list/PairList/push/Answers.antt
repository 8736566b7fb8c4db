use Rattle.std.proofs.Common.{◌≡◌, [], ◌∷◌, ◌++◌, sym, ◌∙◌, ap, subst}
use Rattle.item_tree.specs.Item.{datum, pair_datums}
use Rattle.item_tree.specs.Lookup.{place_of, IsIndexed}
use Rattle.item_tree.proofs.PairLists.{pushed_datums}
use Rattle.item_tree.proofs.Puts.{indexed_more, no_index}
use Rattle.item_tree.proofs.item.pair_list.PairList.push.Goals as goal

pub invariant_of-self-then-len-lt-FEW : goal.invariant_of-self-then-len-lt-FEW
invariant_of-self-then-len-lt-FEW c =
    let xs = c.self.inside.pairs.items in
    let d : pair_datums c.push_last.new.list.items ≡ pair_datums xs ++ (c.args.key, datum c.args.value) ∷ [] = ap pair_datums c.in_ok-push_last.ensures.ok ∙ pushed_datums xs (c.args.key, c.args.value) in
    let more = no_index c.self.inside.places c.if-is_none.ensures c.args.key (pair_datums xs) in
    subst (IsIndexed c.self.inside.places) (sym d) (indexed_more c.self.inside.places c.args.key (datum c.args.value) (pair_datums xs) (ap (place_of c.args.key) c.self.view_is ∙ c.requires) c.self.invariant.0 more)
