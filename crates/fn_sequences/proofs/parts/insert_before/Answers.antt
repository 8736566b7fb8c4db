use Rattle.std.proofs.Common.{◌∙◌, sym, ap, ◌++◌}
use Rattle.item_tree.specs.Item.{datums}
use Rattle.fn_sequences.proofs.PlaceLemmas.{inserted_is, held}
use Rattle.fn_sequences.proofs.parts.insert_before.Goals as goal

pub returns-clause-value : goal.returns-clause-value
returns-clause-value c =
    inserted_is (datums c.args.position.now) c.in_ok-position.position c.args.s.now c.items_before.result.now c.args.others.now c.items_from.result.now c.append-2.new.out.items (sym c.in_ok-position.ensures.value) (rw (held c.in_ok-position.position c.in_ok-position.ensures.within) at c.items_before.ensures) (rw (held c.in_ok-position.position c.in_ok-position.ensures.within) at c.items_from.ensures) (c.in_ok-append-2.ensures ∙ ap (λ xs. xs ++ c.items_from.result.now) (c.in_ok-append.ensures ∙ ap (λ xs. xs ++ c.args.others.now) c.in_ok-items.ensures))
