use Rattle.std.proofs.Common.{◌≡◌, Some, sym, ◌∙◌, ap, subst}
use Rattle.std.specs.Prelude.{OnOk}
use Rattle.item_tree.specs.Item.{datum, pair_datums}
use Rattle.item_tree.specs.Lookup.{place_of, put, IsIndexed}
use Rattle.item_tree.proofs.Places.{place_inside_pairs}
use Rattle.item_tree.proofs.Puts.{put_last, indexed_put}
use Rattle.item_tree.proofs.item.pair_list.PairList.put.Goals as goal

pub put_at-requires : goal.put_at-requires
put_at-requires c =
    let e : Some c.in-Some.at ≡ place_of c.args.key (pair_datums c.self.inside.pairs.items) = c.in-Some.ensures ∙ ap (place_of c.args.key) (sym c.self.view_is) in
    place_inside_pairs c.args.key c.self.inside.pairs.items c.in-Some.at (sym e)

pub invariant_of-self : goal.invariant_of-self
invariant_of-self c =
    let e : Some c.in-Some.at ≡ place_of c.args.key (pair_datums c.self.inside.pairs.items) = c.in-Some.ensures ∙ ap (place_of c.args.key) (sym c.self.view_is) in
    subst (IsIndexed c.self.inside.places) (sym (c.put_at.ensures c.args.key e)) (indexed_put c.self.inside.places c.args.key (datum c.args.value) _ c.in-Some.at e c.self.invariant)

pub returns-in-Some-clause-ok : goal.returns-in-Some-clause-ok
returns-in-Some-clause-ok c =
    let e : Some c.in-Some.at ≡ place_of c.args.key (pair_datums c.self.inside.pairs.items) = c.in-Some.ensures ∙ ap (place_of c.args.key) (sym c.self.view_is) in
    c.put_at.ensures c.args.key e ∙ ap (put c.args.key (datum c.args.value)) c.self.view_is

pub returns-in-None-clause-ok : goal.returns-in-None-clause-ok
returns-in-None-clause-ok c =
    subst (λ l. OnOk c.push.result (c.push.new.self ≡ l)) (put_last c.args.key (datum c.args.value) c.args.self.now (sym c.in-None.ensures)) c.push.ensures.ok
