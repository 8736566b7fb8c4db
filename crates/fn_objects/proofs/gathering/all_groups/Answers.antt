use Rattle.std.proofs.Common.{◌∙◌, ◌++◌, sym, ap, subst, take}
use Rattle.item_tree.specs.Item.{datums}
use Rattle.value_rules.specs.Objects.{all_pairs, pairs_of}
use Rattle.fn_objects.specs.inside.Groups.{IsGrouped}
use Rattle.fn_objects.proofs.ListLemmas.{flat_more}
use Rattle.fn_objects.proofs.gathering.all_groups.Goals as goal

pub loop-x-preserved : goal.loop-x-preserved
loop-x-preserved c =
    let i = c.loop-x.x-index in let s = c.args.s.now in
    subst (IsGrouped c.add_all.new.self) (ap (λ qs. all_pairs (datums (take i s)) ++ qs) c.pairs_of.ensures ∙ sym (flat_more pairs_of s i c.x-item.result c.loop-x-test.true c.x-item.is))
    (c.in_ok-add_all.ensures (all_pairs (datums (take i s))) c.loop-x.invariant)
