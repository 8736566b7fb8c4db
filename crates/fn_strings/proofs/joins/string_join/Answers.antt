use Rattle.std.proofs.Common.{Ok, map, ap, sym, ◌∙◌}
use Rattle.std.proofs.lemmas.Str.{chars-nil}
use Rattle.item_tree.specs.Item.{datums}
use Rattle.item_tree.specs.ItemText.{atom_text}
use Rattle.value_rules.specs.Strings.{one_text, joined_by}
use Rattle.fn_strings.proofs.joins.string_join.Goals as goal

pub returns-clause-value : goal.returns-clause-value
returns-clause-value c =
    rw (c.in_ok-room.ensures.1)
    (ap Ok (sym (c.in_ok-joined_items.ensures ∙ ap (λ t. one_text (joined_by t (map atom_text (datums c.args.s.now)))) chars-nil)))
