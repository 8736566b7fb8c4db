use Rattle.std.proofs.Common.{sym, subst, ap, ◌∙◌}
use Rattle.item_tree.specs.Item.{datum}
use Rattle.value_rules.proofs.EachLemmas.{datums_more}
use Rattle.fn_sequences.proofs.KeyLemmas.{Known, known_more}
use Rattle.fn_sequences.proofs.SameLemmas.{kept_more, one_pushed, none_pushed}
use Rattle.fn_sequences.proofs.sameness.first_of_each.Goals as goal
use Rattle.fn_sequences.proofs.sameness.first_of_each.Goals.{then-branch+in_ok-copy+in_ok-push, else-branch}

pub loop-x-preserved : goal.loop-x-preserved
loop-x-preserved c =
    let known = c.loop-x.invariant.known in
    let more = kept_more c.args.s.now c.loop-x.firsts.items c.if-branch.firsts.items c.loop-x.x-index c.x-item.result _ c.in_ok-insert.field-0 c.loop-x-test.true c.x-item.is (known.known _ _ c.in_ok-key.ensures) c.in_ok-insert.ensures.added c.loop-x.invariant.firsts in record {
      firsts = more (elim c.if-branch.branch [ then-branch+in_ok-copy+in_ok-push w ↦ one_pushed _ _ w.in_ok-copy.field-0 _ _ w.if-branch.true (ap (λ v. v.items) w.firsts-is ∙ w.in_ok-push.ensures.items) (ap datum w.in_ok-copy.ensures) | else-branch w ↦ none_pushed _ _ _ _ w.if-branch.false (ap (λ v. v.items) w.firsts-is) ]);
      known = subst (Known c.insert.new.self) (sym (datums_more c.args.s.now c.loop-x.x-index c.x-item.result c.loop-x-test.true c.x-item.is)) (known_more c.keys_agree.ensures c.loop-x.keys c.insert.new.self _ _ _ c.in_ok-key.ensures known (λ q. c.in_ok-insert.ensures.updates.0 q));
    }
