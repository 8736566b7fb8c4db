use Rattle.std.proofs.Common.{◌∙◌, sym}
use Rattle.item_tree.specs.Item.{datums}
use Rattle.fn_sequences.proofs.PlaceLemmas.{subsequence_is, held}
use Rattle.fn_sequences.proofs.parts.subsequence.Goals as goal

pub returns-clause-value : goal.returns-clause-value
returns-clause-value c =
    subsequence_is (datums c.args.start.now) c.in_ok-start.start c.args.s.now c.in_ok-copied.field-0.items (sym c.in_ok-start.ensures.value) (c.in_ok-copied.ensures ∙ (rw (held c.in_ok-start.start c.in_ok-start.ensures.within) at c.items_from.ensures))
