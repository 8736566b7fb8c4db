use Rattle.std.proofs.Common.{◌≡◌, pos, length, ap, ◌∙◌, arith}
use Rattle.std.specs.Int.{w128}
use Rattle.std.specs.Str.{chars}
use Rattle.std.proofs.lemmas.Int.{to_z_pos}
use Rattle.std.proofs.lemmas.Iterator.{YieldsList-from_chars}
use Rattle.std.proofs.lemmas.Iterator.Consumers.{count_from_yields_List}
use Rattle.fn_strings.proofs.positions.char_count.Goals as goal

pub returns : goal.returns
returns c =
    let n : c.count.result ≡ length (chars c.args.text.now) = count_from_yields_List c.chars.result c.count.result c.count.ensures.ran (YieldsList-from_chars c.args.text.now c.utf8.text cc) in
    c.new.ensures ∙ to_z_pos w128 c.count.result (omega arith) ∙ ap pos n
