use Rattle.std.proofs.Common.{◌≡◌, Some, sym, ◌∙◌, subst}
use Rattle.item_tree.specs.Item.{datum, pair_datums}
use Rattle.item_tree.specs.Lookup.{place_of, lookup}
use Rattle.item_tree.proofs.Places.{lookup_none, lookup_at, place_inside_pairs}
use Rattle.item_tree.proofs.item.pair_list.PairList.get.Goals as goal

pub returns-in-None : goal.returns-in-None
returns-in-None c = sym (lookup_none c.args.key.now c.args.self.now (sym c.place.ensures ∙ c.in-None.is))

pub value_at-requires : goal.value_at-requires
value_at-requires c =
    let e : place_of c.args.key.now (pair_datums c.as_slice.result.now) ≡ Some c.in-Some.at = rw c.as_slice.ensures.value (sym c.place.ensures ∙ c.in-Some.is) in
    place_inside_pairs _ _ _ e

pub returns-in-Some : goal.returns-in-Some
returns-in-Some c =
    let e : place_of c.args.key.now (pair_datums c.as_slice.result.now) ≡ Some c.in-Some.at = rw c.as_slice.ensures.value (sym c.place.ensures ∙ c.in-Some.is) in
    subst (λ ps. Some (datum c.value_at.result.now) ≡ lookup c.args.key.now ps) c.as_slice.ensures.value (sym (lookup_at _ _ _ _ e c.value_at.ensures))
