use Rattle.std.proofs.Common.{◌≡◌, ◌++◌, map, ap, ◌∙◌}
use Rattle.std.specs.Str.{chars}
use Rattle.std.specs.String.{string_bytes}
use Rattle.std.proofs.lemmas.Str.{chars-nil}
use Rattle.item_tree.specs.Item.{datums}
use Rattle.item_tree.specs.ItemText.{atom_text}
use Rattle.value_rules.specs.Strings.{joined_by}
use Rattle.fn_strings.proofs.joins.joined_items.Goals as goal

pub returns : goal.returns
returns c =
    let joined = joined_by (chars c.args.separator.now) (map atom_text (datums c.args.items.now)) in
    let e : chars (string_bytes c.push_joined.new.text) ≡ joined =
    c.in_ok-push_joined.ensures ∙ ap (λ t. t ++ joined) (ap chars c.in_ok-text.ensures.bytes ∙ chars-nil) in
    rw e at c.one_string.ensures
