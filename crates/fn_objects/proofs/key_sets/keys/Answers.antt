use Rattle.std.proofs.Common.{subst, ap, map, take}
use Rattle.item_tree.specs.Item.{datums}
use Rattle.value_rules.specs.Objects.{all_pairs}
use Rattle.fn_objects.specs.inside.KeySets.{HasKeys}
use Rattle.fn_objects.proofs.KeyLemmas.{no_names}
use Rattle.fn_objects.proofs.ListLemmas.{key, pairs_further}
use Rattle.fn_objects.proofs.key_sets.keys.Goals as goal

pub loop-x-init : goal.loop-x-init
loop-x-init c = record { known = no_names c.new-seen.result c.new-seen.ensures.empty; listed = ap datums c.new-found.ensures.items }

pub loop-x-preserved : goal.loop-x-preserved
loop-x-preserved c =
    let i = c.loop-x.x-index in let s = c.args.s.now in
    subst (HasKeys c.add_keys.new.seen c.add_keys.new.found.items) (pairs_further key s i c.x-item.result c.pairs_of.result.now c.loop-x-test.true c.x-item.is c.pairs_of.ensures)
    (c.in_ok-add_keys.ensures (map key (all_pairs (datums (take i s)))) c.loop-x.invariant)
