use Rattle.std.proofs.Common.{◌≡◌, ◌∙◌, ap, rules}
use Rattle.std.specs.Fmt.{signed_decimal}
use Rattle.std.specs.Int.{w128}
use Rattle.std.specs.Str.{chars}
use Rattle.std.proofs.lemmas.Int.{to_z-of_z}
use Rattle.std.proofs.lemmas.Str.{chars-IsAscii}
use Rattle.item_tree.specs.ItemText.{decimal_text}
use Rattle.item_tree.proofs.AtomTexts.{chars_null, chars_boolean}
use Rattle.fn_strings.proofs.atom_texts.push_text.Goals as goal

pub returns-in-Null : goal.returns-in-Null
returns-in-Null c = rw c.in-Null.is (rw chars_null at c.push.ensures)

pub returns-in-Bool : goal.returns-in-Bool
returns-in-Bool c = rw c.in-Bool.is (rw (c.bool_name.ensures, chars_boolean c.in-Bool.b) at c.push-in-Bool.ensures)

pub returns-in-Int : goal.returns-in-Int
returns-in-Int c =
    let e : chars c.format.result.now ≡ signed_decimal c.in-Int.n =
    chars-IsAscii c.format.result.now c.format.ensures.ascii ∙ c.format.ensures.text ∙ ap (λ z. signed_decimal z) (to_z-of_z w128 c.get.result (search (rules, c.get.type_inv)) ∙ c.get.ensures.value) in
    rw c.in-Int.is (rw e at c.push-in-Int.ensures)

pub returns-in-Dec : goal.returns-in-Dec
returns-in-Dec c =
    let r = c.format-in-Dec in
    let e : chars r.result.now ≡ decimal_text c.in-Dec.m = chars-IsAscii r.result.now r.ensures.ascii ∙ r.ensures.text in
    rw c.in-Dec.is (rw e at c.push-in-Dec.ensures)
