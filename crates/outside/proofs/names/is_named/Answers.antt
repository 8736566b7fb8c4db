use Rattle.std.proofs.Common.{◌≡◌, ◌∙◌, ap}
use Rattle.std.specs.Str.{chars, bytes_eq}
use Rattle.outside.proofs.NameLemmas.{bytes_eq-chars}
use Rattle.outside.proofs.names.is_named.Goals as goal

pub returns : goal.returns
returns c =
    let e : c.eq.result ≡ bytes_eq c.as_str.result.now c.args.name.now = cc in
    e ∙ bytes_eq-chars _ _ c.as_str.utf8 c.utf8.name
    ∙ ap (λ n. bytes_eq n (chars c.args.name.now)) c.as_str.ensures.value
