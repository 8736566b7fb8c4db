use Rattle.std.proofs.Common.{◌≡◌, arith, sym, ap, subst, ◌∙◌}
use Rattle.item_tree.specs.Lookup.{Indexes, IsObjectKept}
use Rattle.item_tree.specs.Item.{pair_datums}
use Rattle.item_tree.specs.inside.HeldPairs.{pairs_in, pairs_depth_in, places_in}
use Rattle.item_tree.proofs.PairLists.{deep_from, object_sound}
use Rattle.item_tree.proofs.item.make.object_from.Goals as goal

pub returns-then-depth-gt128-clause-made : goal.returns-then-depth-gt128-clause-made
returns-then-depth-gt128-clause-made c =
    let v = rw c.as_slice.ensures.value at c.object_depth-depth.ensures.value in
    let s = rw c.as_slice.ensures.value at c.object_depth-depth.ensures.sound in
    deep_from _ s (omega arith)

pub invariant_of-result : goal.invariant_of-result
invariant_of-result c =
    let v = rw c.as_slice.ensures.value at c.object_depth-depth.ensures.value in
    let s = rw c.as_slice.ensures.value at c.object_depth-depth.ensures.sound in
    let h = c.in_ok-held.held in
    let taken : pair_datums (pairs_in h) ≡ c.args.list.now = ap pair_datums c.in_ok-held.ensures.pairs ∙ c.list.view_is in
    let indexed = subst (Indexes (places_in h)) c.list.view_is c.in_ok-held.ensures.places in
    subst (IsObjectKept (pairs_depth_in h) (places_in h)) (sym taken) (c.in_ok-held.ensures.depth ∙ v, object_sound _ c.as_slice.ensures.differ s (omega arith), indexed)
