use Rattle.std.proofs.Common.{◌≡◌, ◌∙◌, ap, sym, length, rules}
use Rattle.std.specs.Fmt.{signed_decimal}
use Rattle.std.specs.Int.{w128}
use Rattle.std.specs.Str.{encode_utf8_all}
use Rattle.std.proofs.lemmas.Int.{to_z-of_z}
use Rattle.std.proofs.lemmas.Str.{encodes-IsAscii, encodes-chars}
use Rattle.fn_strings.proofs.atom_texts.text_len.Goals as goal

pub returns-in-Int : goal.returns-in-Int
returns-in-Int c =
    let e : c.format.result.now ≡ signed_decimal c.in-Int.n =
    c.format.ensures.text ∙ ap (λ z. signed_decimal z) (to_z-of_z w128 c.get.result (search (rules, c.get.type_inv)) ∙ c.get.ensures.value) in
    rw c.in-Int.is (ap length (sym (encodes-IsAscii c.format.result.now c.format.ensures.ascii) ∙ ap encode_utf8_all e))

pub returns-in-Dec : goal.returns-in-Dec
returns-in-Dec c =
    let r = c.format-in-Dec in
    rw c.in-Dec.is (ap length (sym (encodes-IsAscii r.result.now r.ensures.ascii) ∙ ap encode_utf8_all r.ensures.text))

pub returns-in-DateTime : goal.returns-in-DateTime
returns-in-DateTime c =
    let r = c.as_str-in-DateTime in
    rw c.in-DateTime.is (ap length (sym (encodes-chars r.result.now r.utf8) ∙ ap encode_utf8_all (r.ensures.chars ∙ c.text-in-DateTime.ensures)))
