use Rattle.std.proofs.Common.{◌≡◌, ◌∙◌}
use Rattle.std.specs.Str.{chars}
use Rattle.std.proofs.lemmas.Str.{chars-IsAscii}
use Rattle.item_tree.specs.ItemText.{decimal_text}
use Rattle.item_tree.proofs.atom_text.decimal_str.Goals as goal

pub returns : goal.returns
returns c =
    let e : chars c.format.result.now ≡ decimal_text c.args.m = chars-IsAscii c.format.result.now c.format.ensures.ascii ∙ c.format.ensures.text in
    rw e at c.of.ensures
