use Rattle.std.proofs.Common.{◌∙◌, ◌++◌, ◌∷◌, [], sym, ap, subst, map, take, arith}
use Rattle.std.proofs.lemmas.List.{append-nil, append_assoc, take_all}
use Rattle.item_tree.specs.Item.{pair_datums}
use Rattle.fn_objects.specs.inside.KeySets.{HasKeys}
use Rattle.fn_objects.proofs.ListLemmas.{key, keys_step}
use Rattle.fn_objects.proofs.key_sets.add_keys.Goals as goal

pub loop-p-init : goal.loop-p-init
loop-p-init c = λ ks h. subst (HasKeys _ _) (sym (append-nil ks)) h

pub loop-p-preserved : goal.loop-p-preserved
loop-p-preserved c = λ ks h.
    let i = c.loop-p.p-index in let ps = c.args.pairs.now in
    subst (HasKeys c.add_key.new.seen c.add_key.new.found.items) (append_assoc ks (map key (pair_datums (take i ps))) (c.p-item.result.0 ∷ []) ∙ ap (λ js. ks ++ js) (sym (keys_step ps i c.p-item.result c.loop-p-test.true c.p-item.is)))
    (c.in_ok-add_key.ensures (ks ++ map key (pair_datums (take i ps))) (c.loop-p.invariant ks h))

pub returns : goal.returns
returns c = λ ks h.
    subst (λ ps. HasKeys c.loop-p.seen c.loop-p.found.items (ks ++ map key (pair_datums ps))) (take_all c.loop-p.p-index c.args.pairs.now (omega arith)) (c.loop-p.invariant ks h)
