use Rattle.std.proofs.Common.{◌≡◌, ◌∙◌, ap, rules}
use Rattle.std.specs.Fmt.{signed_decimal}
use Rattle.std.specs.Int.{w128}
use Rattle.std.specs.Str.{chars}
use Rattle.std.proofs.lemmas.Int.{to_z-of_z}
use Rattle.std.proofs.lemmas.Str.{chars-IsAscii}
use Rattle.item_tree.proofs.atom_text.whole_str.Goals as goal

pub returns : goal.returns
returns c =
    let e : chars c.format.result.now ≡ signed_decimal c.args.n =
    chars-IsAscii c.format.result.now c.format.ensures.ascii ∙ c.format.ensures.text ∙ ap (λ z. signed_decimal z) (to_z-of_z w128 c.get.result (search (rules, c.get.type_inv)) ∙ c.get.ensures.value) in
    rw e at c.of.ensures
