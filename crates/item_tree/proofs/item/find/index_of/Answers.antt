use Rattle.std.proofs.Common.{◌≡◌, true, false, take, sym, ◌∙◌, ap, subst}
use Rattle.std.specs.Option.{is_some}
use Rattle.item_tree.specs.Item.{datum, pair_datums}
use Rattle.item_tree.specs.Lookup.{place_of, ArePlaces}
use Rattle.item_tree.proofs.PairLists.{repeat_at, differ_more, step_datums}
use Rattle.item_tree.proofs.Places.{none_from, has_from, no_place, index_added, taken}
use Rattle.item_tree.proofs.item.find.index_of.Goals as goal

pub returns-then-is_some : goal.returns-then-is_some
returns-then-is_some c =
    let k = c.index-pairs-i.result.0 in
    let old = rw c.in_ok-key.ensures at c.in_ok-insert.ensures.old in
    let t : is_some (place_of k (pair_datums (take c.loop-i.i c.args.pairs.now))) ≡ true = ap (λ o. is_some o) (sym (c.loop-i.invariant.1 k) ∙ sym old) ∙ sym c.is_some.ensures ∙ c.if-is_some.true in
    repeat_at _ _ _ c.loop-i-test.true c.index-pairs-i.is c.loop-i.invariant.0 (has_from _ _ t)

pub loop-i-preserved : goal.loop-i-preserved
loop-i-preserved c =
    let xs = c.args.pairs.now in let i = c.loop-i.i in let p = c.index-pairs-i.result in
    let old = rw c.in_ok-key.ensures at c.in_ok-insert.ensures.old in
    let f : is_some (place_of p.0 (pair_datums (take i xs))) ≡ false = ap (λ o. is_some o) (sym (c.loop-i.invariant.1 p.0) ∙ sym old) ∙ sym c.is_some.ensures ∙ c.if-is_some.false in (
      differ_more _ _ _ c.loop-i-test.true c.index-pairs-i.is c.loop-i.invariant.0 (none_from _ _ f),
      subst (ArePlaces c.insert.new.self) (sym (step_datums xs i p c.loop-i-test.true c.index-pairs-i.is))
          (index_added c.loop-i.places c.insert.new.self p.0 (datum p.1) (pair_datums (take i xs)) i c.loop-i.invariant.1 (no_place _ f) (taken xs i c.loop-i-test.true) (λ q. rw c.in_ok-key.ensures at (c.in_ok-insert.ensures.updates.0 q))),
    )
