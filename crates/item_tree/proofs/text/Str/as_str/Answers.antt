use Rattle.std.proofs.Common.{◌≡◌, sym, ◌∙◌, ap}
use Rattle.std.specs.Str.{chars, encode_utf8_all, all_scalars}
use Rattle.std.proofs.lemmas.Str.{encodes-chars, scalars-chars}
use Rattle.item_tree.proofs.text.Str.as_str.Goals as goal

pub returns-clause-bytes : goal.returns-clause-bytes
returns-clause-bytes c =
    let e : chars c.as_str.result.now ≡ c.args.self.now = cc in
    sym (encodes-chars _ c.as_str.utf8) ∙ ap encode_utf8_all e

pub returns-clause-sound : goal.returns-clause-sound
returns-clause-sound c =
    let e : chars c.as_str.result.now ≡ c.args.self.now = cc in
    ap all_scalars (sym e) ∙ scalars-chars _ c.as_str.utf8
