use Rattle.std.proofs.Common.{◌∙◌, sym}
use Rattle.item_tree.specs.Item.{datums}
use Rattle.fn_sequences.proofs.PlaceLemmas.{subsequence_3_is, held, held_sum}
use Rattle.fn_sequences.proofs.parts.subsequence_3.Goals as goal

pub returns-clause-value : goal.returns-clause-value
returns-clause-value c =
    subsequence_3_is (datums c.args.start.now) (datums c.args.size.now) c.in_ok-start.start c.in_ok-size.size c.args.s.now c.items_before-front.result.now c.in_ok-copied.field-0.items (sym c.in_ok-start.ensures.value) (sym c.in_ok-size.ensures.value) (rw (held_sum c.in_ok-start.start c.in_ok-size.size c.in_ok-start.ensures.within c.in_ok-size.ensures.within) at c.items_before-front.ensures) (c.in_ok-copied.ensures ∙ (rw (held c.in_ok-start.start c.in_ok-start.ensures.within) at c.items_from.ensures))
