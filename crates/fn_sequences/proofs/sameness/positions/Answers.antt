use Rattle.std.proofs.Common.{ap, ◌∙◌, arith}
use Rattle.std.proofs.lemmas.Int.{ints}
use Rattle.item_tree.specs.declared.item.Item.TheVariants.{Int}
use Rattle.item_tree.specs.Datum.{integer}
use Rattle.fn_sequences.proofs.SameLemmas.{found_more, one_pushed, none_pushed}
use Rattle.fn_sequences.proofs.sameness.positions.Goals as goal
use Rattle.fn_sequences.proofs.sameness.positions.Goals.{then-same_key+in_ok-push, else-same_key}

pub loop-i-preserved : goal.loop-i-preserved
loop-i-preserved c =
    let more = found_more _ c.args.s.now c.loop-i.found.items c.if-same_key.found.items c.loop-i.i c.index-s-i.result c.same_key.result c.loop-i-test.true c.index-s-i.is c.same_key.ensures c.loop-i.invariant in
    more (elim c.if-same_key.branch [ then-same_key+in_ok-push w ↦ one_pushed _ _ (Int w.new.result) _ _ w.if-same_key.true (ap (λ v. v.items) w.found-is ∙ w.in_ok-push.ensures.items) (ap integer (w.new.ensures ∙ omega (arith, ints))) | else-same_key w ↦ none_pushed _ _ _ _ w.if-same_key.false (ap (λ v. v.items) w.found-is) ])
