use Rattle.std.proofs.Common.{◌≡◌, false, true, sym, ◌∙◌, ap, arith}
use Rattle.item_tree.specs.Compare.{equal, passes}
use Rattle.item_tree.specs.Item.{datum}
use Rattle.item_tree.specs.Lookup.{lookup}
use Rattle.item_tree.proofs.EqualLists.{unequal_lengths, unequal_objects, differs_there, equal_there, all_there, depth_at, pair_depth_at, length_lent}
use Rattle.item_tree.proofs.compare.+equal.Goals as goal

pub deep_equal-returns-then-a-b : goal.deep_equal-returns-then-a-b
deep_equal-returns-then-a-b t c = sym (unequal_lengths _ _ c.if-a-b.true)

pub deep_equal-equal_items-requires : goal.deep_equal-equal_items-requires
deep_equal-equal_items-requires t c =
    let d = depth_at c.args.a.now c.loop-i.i c.index-a-i.result c.loop-i-test.true c.index-a-i.is in
    (omega arith, tt)

pub equal_pairs-returns-then-a-as_slice : goal.equal_pairs-returns-then-a-as_slice
equal_pairs-returns-then-a-as_slice t c =
    let l = length_lent _ _ c.as_slice.ensures.value in
    sym (unequal_objects _ _ (λ e. c.if-a-as_slice.true (e ∙ sym l)))

pub equal_pairs-returns-in-None : goal.equal_pairs-returns-in-None
equal_pairs-returns-in-None t c =
    let n = c.if-a-as_slice.false ∙ length_lent _ _ c.as_slice.ensures.value in
    let f : passes (λ w. equal (datum c.p-item.result.1) w) (lookup c.p-item.result.0 c.args.b.now) ≡ false = ap (λ o. passes (λ w. equal (datum c.p-item.result.1) w) o) (sym c.in-None.ensures) in
    sym (differs_there _ _ _ _ n c.loop-p-test.true c.p-item.is c.loop-p.invariant f)

pub equal_pairs-equal_items-requires : goal.equal_pairs-equal_items-requires
equal_pairs-equal_items-requires t c =
    let d = pair_depth_at c.args.a.now c.loop-p.p-index c.p-item.result c.loop-p-test.true c.p-item.is in
    (omega arith, tt)

pub equal_pairs-returns-then-not-equal_items : goal.equal_pairs-returns-then-not-equal_items
equal_pairs-returns-then-not-equal_items t c =
    let n = c.if-a-as_slice.false ∙ length_lent _ _ c.as_slice.ensures.value in
    let e : equal (datum c.p-item.result.1) (datum c.in-Some.y.now) ≡ false = cc in
    let f : passes (λ w. equal (datum c.p-item.result.1) w) (lookup c.p-item.result.0 c.args.b.now) ≡ false = ap (λ o. passes (λ w. equal (datum c.p-item.result.1) w) o) (sym c.in-Some.ensures) ∙ e in
    sym (differs_there _ _ _ _ n c.loop-p-test.true c.p-item.is c.loop-p.invariant f)

pub equal_pairs-loop-p-preserved : goal.equal_pairs-loop-p-preserved
equal_pairs-loop-p-preserved t c =
    let e : equal (datum c.p-item.result.1) (datum c.in-Some.y.now) ≡ true = cc in
    let f : passes (λ w. equal (datum c.p-item.result.1) w) (lookup c.p-item.result.0 c.args.b.now) ≡ true = ap (λ o. passes (λ w. equal (datum c.p-item.result.1) w) o) (sym c.in-Some.ensures) ∙ e in
    equal_there _ _ _ _ c.loop-p-test.true c.p-item.is c.loop-p.invariant f

pub equal_pairs-returns : goal.equal_pairs-returns
equal_pairs-returns t c =
    let n = c.if-a-as_slice.false ∙ length_lent _ _ c.as_slice.ensures.value in
    sym (all_there _ _ _ n (omega arith) c.loop-p.invariant)
