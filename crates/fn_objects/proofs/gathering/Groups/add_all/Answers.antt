use Rattle.std.proofs.Common.{◌∙◌, ◌++◌, ◌∷◌, [], sym, ap, subst, take, arith}
use Rattle.std.proofs.lemmas.List.{append-nil, append_assoc, take_all}
use Rattle.item_tree.specs.Item.{datum, pair_datums}
use Rattle.item_tree.proofs.PairLists.{step_datums}
use Rattle.fn_objects.specs.inside.Groups.{IsGrouped}
use Rattle.fn_objects.proofs.gathering.Groups.add_all.Goals as goal

pub loop-p-init : goal.loop-p-init
loop-p-init c = λ ps h. subst (IsGrouped _) (sym (append-nil ps)) h

pub loop-p-preserved : goal.loop-p-preserved
loop-p-preserved c = λ ps h.
    let i = c.loop-p.p-index in let xs = c.args.pairs.now in let p = c.p-item.result in
    subst (IsGrouped c.add.new.self) (append_assoc ps (pair_datums (take i xs)) ((p.0, datum p.1) ∷ []) ∙ ap (λ qs. ps ++ qs) (sym (step_datums xs i p c.loop-p-test.true c.p-item.is)))
    (c.in_ok-add.ensures (ps ++ pair_datums (take i xs)) (c.loop-p.invariant ps h))

pub returns : goal.returns
returns c = λ ps h.
    subst (λ qs. IsGrouped c.loop-p.self (ps ++ pair_datums qs)) (take_all c.loop-p.p-index c.args.pairs.now (omega arith)) (c.loop-p.invariant ps h)
