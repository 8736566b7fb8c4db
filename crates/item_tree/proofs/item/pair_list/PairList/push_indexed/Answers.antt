use Rattle.std.proofs.Common.{◌≡◌, [], ◌∷◌, ◌++◌, sym, ◌∙◌, ap, subst}
use Rattle.item_tree.specs.Item.{datum, pair_datums}
use Rattle.item_tree.specs.Lookup.{place_of, IsIndexed}
use Rattle.item_tree.proofs.PairLists.{pushed_datums}
use Rattle.item_tree.proofs.Puts.{indexed_more}
use Rattle.item_tree.proofs.item.pair_list.PairList.push_indexed.Goals as goal

pub invariant_of-self-2 : goal.invariant_of-self-2
invariant_of-self-2 c =
    let xs = c.self.inside.pairs.items in
    let d : pair_datums c.push.new.self.items ≡ pair_datums xs ++ (c.args.key, datum c.args.value) ∷ [] = ap pair_datums c.in_ok-push.ensures.items ∙ pushed_datums xs (c.args.key, c.args.value) in
    let more = rw c.as_slice.ensures.value at c.in_ok-places.ensures in
    subst (IsIndexed c.in_ok-places.places) (sym d) (indexed_more c.in_ok-places.places c.args.key (datum c.args.value) (pair_datums xs) (ap (place_of c.args.key) c.self.view_is ∙ c.requires) c.self.invariant.0 more)
