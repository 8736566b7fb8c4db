use Rattle.std.proofs.Common.{◌≡◌, sym, ap, subst, ◌∙◌, rules}
use Rattle.std.specs.Int.{w128}
use Rattle.std.specs.Str.{IsAscii}
use Rattle.std.proofs.lemmas.Int.{to_z-of_z}
use Rattle.std.proofs.lemmas.Str.{IsUtf8-from_ascii}
use Rattle.item_tree.specs.ItemText.{decimal_text}
use Rattle.item_tree.proofs.AtomTexts.{decimal_ascii}
use Rattle.item_tree.proofs.DecimalDigits.{decimal_spelled}
use Rattle.item_tree.proofs.decimal.DecimalBuffer.format.Goals as goal

pub from_utf8_unchecked-requires : goal.from_utf8_unchecked-requires
from_utf8_unchecked-requires c =
    let back = to_z-of_z w128 c.get.result (search (rules, c.get.type_inv)) ∙ c.get.ensures.value in
    let e = decimal_spelled _ _ _ _ _ _ _ c.write_sign-start.new.bytes _ _ _ _ c.magnitude-negative.ensures.text c.split-whole.ensures.whole c.split-whole.ensures.units
    c.write_fraction-point.ensures.text c.write_whole-first.ensures.start c.write_whole-first.ensures.written c.write_sign-start.ensures.start c.write_sign-start.ensures.written in
    IsUtf8-from_ascii _ (subst IsAscii (sym (e ∙ ap (λ z. decimal_text z) back)) (decimal_ascii c.args.m c.get.ensures.within))

pub returns : goal.returns
returns c =
    let back = to_z-of_z w128 c.get.result (search (rules, c.get.type_inv)) ∙ c.get.ensures.value in
    let e = decimal_spelled _ _ _ _ _ _ _ c.write_sign-start.new.bytes _ _ _ _ c.magnitude-negative.ensures.text c.split-whole.ensures.whole c.split-whole.ensures.units
    c.write_fraction-point.ensures.text c.write_whole-first.ensures.start c.write_whole-first.ensures.written c.write_sign-start.ensures.start c.write_sign-start.ensures.written in
    let text : c.from_utf8_unchecked.result.now ≡ decimal_text c.args.m = c.from_utf8_unchecked.ensures ∙ e ∙ ap (λ z. decimal_text z) back in
    (text, subst IsAscii (sym text) (decimal_ascii c.args.m c.get.ensures.within))
